use Rattle.std.proofs.Common.{◌≡◌, ◌≤◌, ◌+◌, Bool, true, false, if◌then◌else◌, [], ◌∷◌, ◌++◌, option_map, refl, ap, subst, ◌∙◌}
use Rattle.fk_model.specs.declared.moves.Ask.TheVariants as asks
use Rattle.fk_model.specs.declared.moves.Move.{Move}
use Rattle.fk_model.specs.Searches.{depth}
use Rattle.fk_model.specs.Valid.{IsValid}
use Rattle.fk_model.specs.Who.{named, space_born}
use Rattle.fk_host.specs.Kernels.{Kept, path_of}
use Rattle.fk_host.specs.Kernels.{world_of as world}
use Rattle.fk_paging.specs.Pagers.{state_of}
use Rattle.laws_moves.specs.Whole.Runnable.{IsRunnable}
use Rattle.fk_pager.specs.Desks.{root}
use Rattle.fk_pager.specs.Driven.{desk, moment}
use Rattle.fk_pager.specs.Runs.{IsPagersMove}
use Rattle.fk_pager.proofs.Driving.{asks-call, call-ready, call-unready, placed, fit-own, own-stepped, own-said, own-world, own-drives, counts-most}
use Rattle.fk_pager.proofs.Driving.{few-more, hears-well, porter-stands, still-goes}
use Rattle.fk_pager.proofs.driver.PagedRun.try_own.Goals as goal

pub call-requires-clause-fit : goal.call-requires-clause-fit
call-requires-clause-fit g c =
    let self = c.args.self.now in
    let d = desk self in
    let s = state_of self.pager in
    fit-own d s self.host.services.list (world self.host.kernel) (record { who = c.in_root.result; pick = c.args.pick }) (asks.Call c.stage-stage.result c.words_or-words.result.now)
    (asks-call d s c.stage-stage.result c.words_or-words.result.now (c.stage-stage.ensures root self.port) (c.words_or-words.ensures ∙ c.gives.ensures))

pub hear-self-requires-clause-well : goal.hear-self-requires-clause-well
hear-self-requires-clause-well g c =
    let self = c.args.self.now in
    let d = desk self in
    let s = state_of self.pager in
    let kernel = self.host.kernel in
    let services = self.host.services.list in
    let who = c.in_root.result in
    let pick = c.args.pick in
    let ask = asks.Call c.stage-stage.result c.words_or-words.result.now in
    let asks_it = asks-call d s c.stage-stage.result c.words_or-words.result.now (c.stage-stage.ensures root self.port) (c.words_or-words.ensures ∙ c.gives.ensures) in
    let valid = subst (λ (k : Kept). IsValid (world k)) c.kernel-kernel.ensures c.names.ensures.valid in
    let few = subst (λ (k : Kept). (world k).next ≤ depth) c.kernel-kernel.ensures c.names.ensures.few in
    let born = subst (λ (k : Kept). path_of k ≡ space_born (world k)) c.kernel-kernel.ensures c.names.ensures.born in
    let new = c.call.new.self in
    let said = c.call.new.told.said in
    let yes : c.in_ok-call.field-0 ≡ true = cc in
    let move : Move = record { who = who; pick = pick } in
    let ready : IsPagersMove d (moment self) move = record {
      porter = placed d kernel services s who pick ask refl valid few born c.in_root.ensures asks_it;
      own = call-ready d kernel services s who pick ask refl valid few born c.in_root.ensures asks_it c.requires.picks (rw yes at c.in_ok-call.ensures.ready);
    } in
    let stepped = own-stepped d kernel new.kernel services new.services.list s move ask said asks_it (rw yes at c.in_ok-call.ensures.turn) in
    let runnable = subst (λ (k : Kept). IsRunnable (world k)) c.kernel-kernel.ensures c.is_runnable.ensures.runnable in
    hears-well d kernel new.kernel self.pager (option_map (named (world kernel)) pick) refl c.requires.driven.sane.low runnable
    c.requires.driven.sane.whole ready.own said
    (own-said d kernel new.kernel services new.services.list s s self.opened move ready said stepped)

pub returns-clause-drives : goal.returns-clause-drives
returns-clause-drives g c =
    let self = c.args.self.now in
    let d = desk self in
    let s = state_of self.pager in
    let kernel = self.host.kernel in
    let services = self.host.services.list in
    let who = c.in_root.result in
    let pick = c.args.pick in
    let ask = asks.Call c.stage-stage.result c.words_or-words.result.now in
    let asks_it = asks-call d s c.stage-stage.result c.words_or-words.result.now (c.stage-stage.ensures root self.port) (c.words_or-words.ensures ∙ c.gives.ensures) in
    let valid = subst (λ (k : Kept). IsValid (world k)) c.kernel-kernel.ensures c.names.ensures.valid in
    let few = subst (λ (k : Kept). (world k).next ≤ depth) c.kernel-kernel.ensures c.names.ensures.few in
    let born = subst (λ (k : Kept). path_of k ≡ space_born (world k)) c.kernel-kernel.ensures c.names.ensures.born in
    let new = c.call.new.self in
    let said = c.call.new.told.said in
    let yes : c.in_ok-call.field-0 ≡ true = cc in
    let move : Move = record { who = who; pick = pick } in
    let ready : IsPagersMove d (moment self) move = record {
      porter = placed d kernel services s who pick ask refl valid few born c.in_root.ensures asks_it;
      own = call-ready d kernel services s who pick ask refl valid few born c.in_root.ensures asks_it c.requires.picks (rw yes at c.in_ok-call.ensures.ready);
    } in
    let stepped = own-stepped d kernel new.kernel services new.services.list s move ask said asks_it (rw yes at c.in_ok-call.ensures.turn) in
    let t = state_of c.hear-self.new.pager in
    let still = c.hear-self.ensures.still in
    record {
      same = λ i. record { nester = root; slot = still.slot i; port = self.port; set = still.set i; room = still.room i };
      run = own-drives d kernel new.kernel services new.services.list s t self.opened move ready said stepped
          self.history.items c.push_reserved.new.self.items (c.push_reserved.ensures.items ∙ ap (λ xs. xs ++ move ∷ []) c.in_ok-reserve.ensures.items)
          (c.hear-self.ensures.heard root self.port (path_of new.kernel)) c.one_more_if-self.result
          (c.one_more_if-self.ensures ∙ ap (λ (b : Bool). self.opened + (if b then 1 else 0)) c.is_opening-opening.ensures);
    }

pub returns-clause-driven : goal.returns-clause-driven
returns-clause-driven g c =
    let self = c.args.self.now in
    let d = desk self in
    let s = state_of self.pager in
    let kernel = self.host.kernel in
    let services = self.host.services.list in
    let who = c.in_root.result in
    let pick = c.args.pick in
    let ask = asks.Call c.stage-stage.result c.words_or-words.result.now in
    let asks_it = asks-call d s c.stage-stage.result c.words_or-words.result.now (c.stage-stage.ensures root self.port) (c.words_or-words.ensures ∙ c.gives.ensures) in
    let valid = subst (λ (k : Kept). IsValid (world k)) c.kernel-kernel.ensures c.names.ensures.valid in
    let few = subst (λ (k : Kept). (world k).next ≤ depth) c.kernel-kernel.ensures c.names.ensures.few in
    let born = subst (λ (k : Kept). path_of k ≡ space_born (world k)) c.kernel-kernel.ensures c.names.ensures.born in
    let new = c.call.new.self in
    let said = c.call.new.told.said in
    let yes : c.in_ok-call.field-0 ≡ true = cc in
    let move : Move = record { who = who; pick = pick } in
    let ready : IsPagersMove d (moment self) move = record {
      porter = placed d kernel services s who pick ask refl valid few born c.in_root.ensures asks_it;
      own = call-ready d kernel services s who pick ask refl valid few born c.in_root.ensures asks_it c.requires.picks (rw yes at c.in_ok-call.ensures.ready);
    } in
    let stepped = own-stepped d kernel new.kernel services new.services.list s move ask said asks_it (rw yes at c.in_ok-call.ensures.turn) in
    let t = state_of c.hear-self.new.pager in
    record {
      sane = c.hear-self.ensures.sane;
      few = few-more self.opened c.one_more_if-self.result self.history.items c.push_reserved.new.self.items move
          (c.push_reserved.ensures.items ∙ ap (λ xs. xs ++ move ∷ []) c.in_ok-reserve.ensures.items) c.requires.driven.few
          (counts-most self.opened c.one_more_if-self.result c.is_opening-opening.result c.one_more_if-self.ensures);
      porter = porter-stands d kernel new.kernel s t (option_map (named (world kernel)) pick) said refl c.requires.driven.porter ready.own
          (own-world d kernel new.kernel services new.services.list s t self.opened move ready said stepped)
          (c.hear-self.ensures.heard root self.port (path_of new.kernel));
    }

pub returns-then-not-branch-clause-drives : goal.returns-then-not-branch-clause-drives
returns-then-not-branch-clause-drives g c =
    let self = c.args.self.now in
    let new = c.call.new.self in
    let no : c.in_ok-call.field-0 ≡ false = cc in
    record {
      same = refl;
      run = still-goes (desk self) (world self.host.kernel) (world new.kernel) self.host.services.list new.services.list (state_of self.pager) self.opened
          self.history.items c.reserve.new.self.items (ap (λ (k : Kept). world k) (rw no at c.in_ok-call.ensures.same_kernel)) (rw no at c.in_ok-call.ensures.same_services)
          c.in_ok-reserve.ensures.items;
    }

pub returns-then-not-branch-clause-unready : goal.returns-then-not-branch-clause-unready
returns-then-not-branch-clause-unready g c =
    let self = c.args.self.now in
    let d = desk self in
    let s = state_of self.pager in
    let kernel = self.host.kernel in
    let services = self.host.services.list in
    let who = c.in_root.result in
    let pick = c.args.pick in
    let ask = asks.Call c.stage-stage.result c.words_or-words.result.now in
    let asks_it = asks-call d s c.stage-stage.result c.words_or-words.result.now (c.stage-stage.ensures root self.port) (c.words_or-words.ensures ∙ c.gives.ensures) in
    let valid = subst (λ (k : Kept). IsValid (world k)) c.kernel-kernel.ensures c.names.ensures.valid in
    let few = subst (λ (k : Kept). (world k).next ≤ depth) c.kernel-kernel.ensures c.names.ensures.few in
    let born = subst (λ (k : Kept). path_of k ≡ space_born (world k)) c.kernel-kernel.ensures c.names.ensures.born in
    let no : c.in_ok-call.field-0 ≡ false = cc in
    call-unready d kernel services s who pick ask refl valid few born c.in_root.ensures asks_it (rw no at c.in_ok-call.ensures.unready)
