use Rattle.std.proofs.Common.{◌≡◌, ℕ, [], true, false, refl, sym, ap, subst, ◌∙◌}
use Rattle.fk_model.specs.Objects.{holds}
use Rattle.fk_model.specs.Places.{Path}
use Rattle.fk_model.specs.Searches.{thread_at}
use Rattle.fk_store.specs.Store.Paths.{path, place}
use Rattle.fk_calls.specs.Calls.Runs.{is_under_way}
use Rattle.fk_calls.proofs.InCalls.Running.{under_way_after}
use Rattle.fk_model.specs.Moves.{stepped}
use Rattle.fk_model.specs.declared.moves.Ask.TheVariants as asks
use Rattle.fk_model.specs.declared.moves.Said.TheVariants as says
use Rattle.fk_store.specs.Store.World.{world}
use Rattle.fk_plans.specs.declared.plans.plan.Verdict.TheVariants as verdicts
use Rattle.fk_calls.specs.declared.calls.judging.Judgement.{Judgement}
use Rattle.fk_calls.proofs.InCalls.Judged.{user, quiet_judged, ready_judged, run_judged}
use Rattle.fk_calls.proofs.calls.moves.make_instruction.Goals as goal

pub is_effect_ready-requires-clause-free : goal.is_effect_ready-requires-clause-free
is_effect_ready-requires-clause-free c = c.requires.judged.free

pub returns-clause-made : goal.returns-clause-made
returns-clause-made c =
    let judged = c.requires.judged in
    let j : Judgement = record { caller = user c.args.m.now.who; chooses = false; verdict = verdicts.Runs c.args.effect } in
    let ready = (ready_judged c.args.store.now c.args.m.now asks.Run j _ judged (c.is_effect_ready.ensures [])).0 (cc) in (
      ready,
      run_judged c.args.store.now c.args.m.now asks.Run c.args.effect judged ready
          ∙ ap (stepped (world c.args.store.now)) c.requires.at ∙ c.make_effect.ensures.step,
    )

pub returns-then-not-is_effect_ready-clause-unready : goal.returns-then-not-is_effect_ready-clause-unready
returns-then-not-is_effect_ready-clause-unready c =
    let judged = c.requires.judged in
    let j : Judgement = record { caller = user c.args.m.now.who; chooses = false; verdict = verdicts.Runs c.args.effect } in
    let ready = (ready_judged c.args.store.now c.args.m.now asks.Run j _ judged (c.is_effect_ready.ensures [])).1 in
    ((λ r. let yes = ready r in absurd (cc)), refl)

pub returns-clause-ended : goal.returns-clause-ended
returns-clause-ended c =
    let j : Judgement = record { caller = user c.args.m.now.who; chooses = false; verdict = verdicts.Runs c.args.effect } in
    quiet_judged c.args.store.now c.make_effect.new.store c.args.m.now asks.Run j says.Nothing c.requires.valid c.names.ensures.few refl
    c.requires.judged (returns-clause-made c)

pub returns-clause-on : goal.returns-clause-on
returns-clause-on c on =
    let m = c.args.store.now in
    let n = c.make_effect.new.store in
    let who = c.args.m.now.who in
    let there = under_way_after (world m) (path m) (place (path m) who) c.args.effect c.args.registers c.args.counter (world n) _ c.make_effect.ensures.step
    (c.requires.judged.free refl) on in
    subst (λ (p : ℕ → Path). holds is_under_way (thread_at (world n) (place p who)) ≡ true) (sym c.make_effect.ensures.paths) there
