use Rattle.std.proofs.Common.{◌≡◌, ◌∙◌, ◌+◌, sym, ap, length, map, Some, true}
use Rattle.std.specs.Prelude.{slice_get}
use Rattle.fk_core.specs.Rounds.Kernels.{world_of as world}
use Rattle.fk_model.specs.declared.moves.Ask.TheVariants as asks
use Rattle.fk_model.specs.Who.{event_of}
use Rattle.fk_jobs.specs.Jobs.{Queue, asked_by, call_with, first_of, state_from, state_of}
use Rattle.fk_core.specs.Rounds.Served.{told}
use Rattle.fk_core.proofs.InRounds.Hearing.{fits-told}
use Rattle.fk_core.proofs.InCores.Going.{call_fits}
use Rattle.fk_core.proofs.InCores.Lacking.{called-iff, called-lacks, still-told, tried-unmade}
use Rattle.fk_core.proofs.InCores.Turning.{hears-jobs, hears-same}
use Rattle.fk_core.proofs.cores.turns.Core.go_call.Goals as goal

pub lacks_for_call-requires : goal.lacks_for_call-requires
lacks_for_call-requires g c =
    let self = c.args.self.now in
    let ask = asks.Call c.in-Some.stage c.next-next.new.self in
    let asked : asked_by (state_of self.jobs) ≡ Some ask =
    sym c.next-next.ensures ∙ ap (λ o. call_with o c.next-next.new.self) c.in-Some.is in
    record {
      fit = call_fits self.jobs (world self.kernel) self.services.list self.events self.budget c.args.m.now.who ask c.requires.come c.requires.few
          c.requires.job asked;
    }

pub call-requires : goal.call-requires
call-requires g c =
    let self = c.args.self.now in
    let ask = asks.Call c.in-Some.stage c.next-next.new.self in
    let asked : asked_by (state_of self.jobs) ≡ Some ask =
    sym c.next-next.ensures ∙ ap (λ o. call_with o c.next-next.new.self) c.in-Some.is in
    record {
      fit = rw (c.lacks_for_call.ensures.kernel, c.lacks_for_call.ensures.given)
          (call_fits self.jobs (world self.kernel) self.services.list self.events self.budget c.args.m.now.who ask c.requires.come c.requires.few
          c.requires.job asked);
    }

pub hear-requires-clause-room : goal.hear-requires-clause-room
hear-requires-clause-room g c unready =
    let self = c.args.self.now in
    let ask = asks.Call c.in-Some.stage c.next-next.new.self in
    let what = c.call.new.self in
    let yes : c.in-Ok.made ≡ true = cc in
    let same = c.lacks_for_call.ensures.kernel in
    let given = c.lacks_for_call.ensures.given in
    let made = rw (same, given) at (rw yes at c.in-Ok.ensures.made) in
    let ended = rw same at (rw yes at c.in-Ok.ensures.ended) in
    let tells = rw (same, given) at (rw yes at c.in-Ok.ensures.told) in
    let still = c.lacks_for_call.ensures.still c.if-lacks_for_call.false unready in
    rw (c.told-told.ensures, c.lacks_for_call.ensures.services)
    (still-told self.kernel c.call.new.kernel (event_of (world self.kernel) ask c.args.m.now) what.said what.ended self.services.list
    made.0 made.1 ended tells c.names.ensures.valid c.names.ensures.few still)

pub returns-then-lacks_for_call-clause-tried : goal.returns-then-lacks_for_call-clause-tried
returns-then-lacks_for_call-clause-tried g c =
    let self = c.args.self.now in
    let ask = asks.Call c.in-Some.stage c.next-next.new.self in
    let kept = c.lacks_for_call.ensures in
    let asked : asked_by (state_of self.jobs) ≡ Some ask =
    sym c.next-next.ensures ∙ ap (λ o. call_with o c.next-next.new.self) c.in-Some.is in
    tried-unmade c.unmade.result c.is_call_ready.result _ _ _ _ _ _ c.unmade.ensures.lacking c.unmade.ensures.unready
    (called-iff self.jobs (world self.kernel) self.services.list self.events c.args.m.now ask asked c.is_call_ready.result
    (rw (kept.kernel, kept.given) at c.is_call_ready.ensures))
    (called-lacks self.jobs (world self.kernel) self.services.list self.events c.args.m.now ask asked (kept.lacks c.if-lacks_for_call.true))
    (λ i. record { world = world (kept.kernel i); servers = kept.services i; ends = kept.ends i; work = kept.work i; events = kept.events i })

pub returns-clause-tried : goal.returns-clause-tried
returns-clause-tried g c =
    let self = c.args.self.now in
    let m = self.kernel in
    let n = c.call.new.kernel in
    let list = self.services.list in
    let ask = asks.Call c.in-Some.stage c.next-next.new.self in
    let what = c.call.new.self in
    let yes : c.in-Ok.made ≡ true = cc in
    let kept = c.lacks_for_call.ensures in
    let made = rw (kept.kernel, kept.given) at (rw yes at c.in-Ok.ensures.made) in
    let asked : asked_by (state_of self.jobs) ≡ Some ask =
    sym c.next-next.ensures ∙ ap (λ o. call_with o c.next-next.new.self) c.in-Some.is in
    let next : asked_by (state_of c.lacks_for_call.new.self.jobs) ≡ Some ask =
    (λ i. asked_by (state_from (kept.work i) (first_of (kept.ends i) (slice_get (kept.jobs i) (length (kept.ends i)))))) ∙ asked in
    let both = hears-same m n list c.hear.new.self.list self.jobs c.lacks_for_call.new.self.jobs c.tell_jobs.new.jobs self.events c.args.m.now ask
    what.said what.ended _
    kept.jobs kept.ends kept.work c.requires.job next made.0 made.1
    (rw kept.kernel at (rw yes at c.in-Ok.ensures.ended))
    (rw (kept.kernel, kept.given) at (rw yes at c.in-Ok.ensures.told))
    ((rw c.told-told.ensures at c.hear.ensures) ∙ ap (map (told what.said what.ended)) kept.services)
    (rw kept.events at (rw c.told-told.ensures at c.tell_jobs.ensures))
    (rw kept.events at c.settle.ensures.settles) in
    (both.0, both.1, c.settle.ensures.events ∙ ap (λ n. n + 1) kept.events)

pub returns-clause-fits : goal.returns-clause-fits
returns-clause-fits g c = rw (c.settle.ensures.services, c.hear.ensures, c.lacks_for_call.ensures.services)
    (fits-told _ _ _ c.args.self.now.services.list c.requires.fits)

pub returns-clause-jobs : goal.returns-clause-jobs
returns-clause-jobs g c =
    c.settle.ensures.jobs ∙ ap (λ (q : Queue). q.jobs) c.tell_jobs.ensures
    ∙ hears-jobs c.lacks_for_call.new.self.jobs c.lacks_for_call.new.self.events _ _ ∙ c.lacks_for_call.ensures.jobs
