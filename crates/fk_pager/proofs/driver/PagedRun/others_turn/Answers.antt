use Rattle.std.proofs.Common.{[], ◌∷◌, ◌++◌, refl, ap, ◌∙◌}
use Rattle.fk_host.specs.Kernels.{world_of as world}
use Rattle.fk_paging.specs.Pagers.{state_of}
use Rattle.fk_pager.specs.Driven.{desk}
use Rattle.fk_pager.proofs.Driving.{fit-others, others-turn, others-drive}
use Rattle.fk_pager.proofs.driver.PagedRun.others_turn.Goals as goal

pub turn-requires-clause-fit : goal.turn-requires-clause-fit
turn-requires-clause-fit g c = let host = c.args.self.now.host in fit-others host.services.list (world host.kernel) c.args.m

pub returns-clause-drives : goal.returns-clause-drives
returns-clause-drives g c =
    let self = c.args.self.now in
    let new = c.turn.new.self in
    let ready = c.requires.ready in
    let said = c.in_ok-turn.field-0 in
    let s = state_of self.pager in
    let stepped = others-turn self.host.kernel new.kernel self.host.services.list new.services.list c.args.m
    ready.0 said ready.1.asks c.in_ok-turn.ensures.turn in
    record {
      same = refl;
      run = others-drive (desk self) self.host.kernel new.kernel self.host.services.list new.services.list s s self.opened c.args.m ready.0 ready.1 said stepped
          self.history.items c.push_reserved.new.self.items (c.push_reserved.ensures.items ∙ ap (λ xs. xs ++ c.args.m ∷ []) c.in_ok-reserve.ensures.items);
    }
