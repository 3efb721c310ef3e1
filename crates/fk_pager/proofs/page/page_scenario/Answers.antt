use Rattle.std.proofs.Common.{refl, ap, subst, ◌∙◌}
use Rattle.fk_host.specs.Kernels.{world_of as world}
use Rattle.fk_host.specs.Served.{shown}
use Rattle.fk_natives.specs.Both.{meaning}
use Rattle.fk_store.specs.Store.Contents.{Contents}
use Rattle.fk_store.specs.Store.World as worlds
use Rattle.fk_pager.specs.Desks.{HasDesk}
use Rattle.fk_pager.specs.Left.{IsQuiet}
use Rattle.fk_pager.specs.Paged.{first_of}
use Rattle.fk_pager.specs.Unseen.{IsBeginning}
use Rattle.fk_pager.proofs.Booted.{all-fit, placed-first, with-jobs, not-pageable, set-low}
use Rattle.fk_pager.proofs.HiddenAlong.{hides}
use Rattle.fk_pager.proofs.page.page_scenario.Goals as goal

pub returns-then-len-ne0 : goal.returns-then-len-ne0
returns-then-len-ne0 g c = with-jobs c.args.slot c.args.scenario.now (λ none. c.if-len-ne0.true (c.len.ensures ∙ none))

pub returns-in-None : goal.returns-in-None
returns-in-None g c =
    not-pageable c.args.slot c.args.scenario.now (worlds.world c.store.result.now)
    (ap (λ (m : Contents). worlds.world m) c.store.ensures ∙ c.in_ok-first.ensures.world) c.in-None.ensures.none

pub page_at-requires-clause-desk : goal.page_at-requires-clause-desk
page_at-requires-clause-desk g c =
    subst (λ (m : Contents). HasDesk (worlds.world m) c.args.slot c.in-Some.desk.port c.in-Some.desk.set) c.store.ensures c.in-Some.ensures.some

pub page_at-requires-clause-fits : goal.page_at-requires-clause-fits
page_at-requires-clause-fits g c =
    all-fit _ (world c.in_ok-first.first.kernel) c.in_ok-first.first.services.items c.args.scenario.now.servers c.in_ok-first.ensures.services c.requires.rules

pub returns-in_ok-made-in-Some : goal.returns-in_ok-made-in-Some
returns-in_ok-made-in-Some g c =
    let first = c.in_ok-first.first in
    let desk = c.in-Some.desk in
    let moment = first_of first.kernel (shown meaning first.services.items) in
    let there : HasDesk (world first.kernel) c.args.slot desk.port desk.set =
    subst (λ (m : Contents). HasDesk (worlds.world m) c.args.slot desk.port desk.set) c.store.ensures c.in-Some.ensures.some in
    let begins : IsBeginning c.args.slot desk.port desk.set moment = record {
      desk = there;
      valid = c.in_ok-first.ensures.valid;
      clear = c.in_ok-first.ensures.sound.idle.unfaulted;
      state = refl;
      opened = refl;
    } in
    let quiet : IsQuiet desk.set moment.world = record {
      low = set-low (world first.kernel) desk.port desk.set c.in_ok-first.ensures.valid c.in_ok-first.ensures.savable.slots_kept there.member;
      untalked = c.in_ok-first.ensures.sound.idle.untalked;
    } in
    record {
      port = desk.port;
      set = desk.set;
      first = moment;
      boots = c.in_ok-first.ensures.world;
      serves = placed-first (world first.kernel) first.services.items ∙ c.in_ok-first.ensures.services;
      begins = begins;
      quiet = quiet;
      hides = hides c.args.slot desk.port desk.set c.args.room moment c.requires.low c.requires.some begins quiet;
      written = rw c.in_ok-first.ensures.budget at c.in_ok-made-in-Some.ensures;
    }
