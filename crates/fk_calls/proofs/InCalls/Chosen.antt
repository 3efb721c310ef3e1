-- Chosen: what the judge of a stage answers, with whether it picks as it was asked.
use Rattle.std.proofs.Common.{◌≡◌, Bool, true, false, [], sym, subst}
use Rattle.fk_model.specs.declared.moves.Ask.TheVariants as asks
use Rattle.fk_model.specs.declared.moves.Move.{Move}
use Rattle.fk_model.specs.declared.stage.Stage.{Stage}
use Rattle.fk_model.specs.Moves.{allowed_row, chooses}
use Rattle.fk_plans.specs.declared.plans.plan.Verdict.{Verdict}
use Rattle.fk_plans.specs.Plans.Plans.{caller_by}
use Rattle.fk_plans.specs.Plans.Verdicts.{outcome_by, IsVerdict, IsSureVerdict}
use Rattle.fk_store.specs.Store.Contents.{Contents}
use Rattle.fk_store.specs.Store.Moves.{picked_by}
use Rattle.fk_store.specs.Store.Paths.{path, place}
use Rattle.fk_store.specs.Store.Threads.{is_free_at}
use Rattle.fk_store.specs.Store.World.{world}
use Rattle.fk_calls.specs.Calls.Doings.{IsAtStage}
use Rattle.fk_calls.specs.Calls.Judgements.{IsJudged}
use Rattle.fk_calls.specs.Calls.Rows.{takes_memory}
use Rattle.fk_calls.proofs.InCalls.Judged.{stage_judged, user}

pub chosen_judged : (m : Contents) (move : Move) (stage : Stage) (v : Verdict) (picks : Bool) → picks ≡ chooses stage →
    is_free_at (world m) (place (path m) move.who) ≡ true → IsAtStage (world m) (place (path m) move.who) stage →
    outcome_by (world m) (path m) (caller_by (path m) (user move.who) []) v ≡ allowed_row
    (world m) (caller_by (path m) (user move.who) []) (picked_by (path m) move.pick) stage → IsVerdict m (user move.who) v →
    (takes_memory false stage ≡ false → IsSureVerdict v) →
    IsJudged m move asks.Run (record { caller = user move.who; chooses = picks; verdict = v })
chosen_judged m move stage v picks same free at row fits sure =
    subst (λ picks. IsJudged m move asks.Run (record { caller = user move.who; chooses = picks; verdict = v })) (sym same)
    (stage_judged m move stage v free at row fits sure)
