use Rattle.std.proofs.Common.{◌≤◌, None, [], ◌∷◌, ◌++◌, refl, ap, subst, ◌∙◌}
use Rattle.fk_model.specs.declared.moves.Move.{Move}
use Rattle.fk_model.specs.Searches.{depth}
use Rattle.fk_model.specs.Valid.{IsValid}
use Rattle.fk_model.specs.declared.moves.Said.TheVariants as says
use Rattle.fk_host.specs.Kernels.{Kept}
use Rattle.fk_host.specs.Kernels.{world_of as world}
use Rattle.fk_paging.specs.Pagers.{state_of}
use Rattle.fk_pager.specs.Driven.{desk}
use Rattle.fk_pager.proofs.Driving.{others-ready, others-turn, others-drive, still-goes}
use Rattle.fk_pager.proofs.driver.PagedRun.proceed_on.Goals as goal

pub returns-then-proceed_on-clause-drives : goal.returns-then-proceed_on-clause-drives
returns-then-proceed_on-clause-drives g c =
    let self = c.args.self.now in
    let new = c.proceed_on.new.self in
    let move : Move = record { who = c.args.who; pick = None } in
    let s = state_of self.pager in
    let valid = subst (λ (k : Kept). IsValid (world k)) c.kernel.ensures c.names.ensures.valid in
    let few = subst (λ (k : Kept). (world k).next ≤ depth) c.kernel.ensures c.names.ensures.few in
    let ready = others-ready self.host.services.list (world self.host.kernel) s self.opened move c.requires.opened valid few
    (rw c.if-proceed_on.true at c.proceed_on.ensures.ready) in
    let stepped = others-turn self.host.kernel new.kernel self.host.services.list new.services.list move ready.0 says.Nothing ready.1.asks
    (rw c.if-proceed_on.true at c.proceed_on.ensures.turn) in
    record {
      same = refl;
      run = others-drive (desk self) self.host.kernel new.kernel self.host.services.list new.services.list s s self.opened move ready.0 ready.1 says.Nothing
          stepped self.history.items c.push_reserved.new.self.items (c.push_reserved.ensures.items ∙ ap (λ xs. xs ++ move ∷ []) c.in_ok-reserve.ensures.items);
    }

pub returns-clause-drives : goal.returns-clause-drives
returns-clause-drives g c =
    let self = c.args.self.now in
    let new = c.proceed_on.new.self in
    let same = rw c.if-proceed_on.false at c.proceed_on.ensures.same in
    record {
      same = refl;
      run = still-goes (desk self) (world self.host.kernel) (world new.kernel) self.host.services.list new.services.list (state_of self.pager) self.opened
          self.history.items c.reserve.new.self.items (ap (λ (k : Kept). world k) same) c.proceed_on.ensures.services c.in_ok-reserve.ensures.items;
    }
