use Rattle.std.proofs.Common.{◌≡◌, ◌||◌, true, sym, subst}
use Rattle.fk_model.specs.Outcomes.{listed}
use Rattle.fk_model.specs.Places.{same_path}
use Rattle.fk_plans.specs.Plans.Plans.{caller_by}
use Rattle.fk_plans.specs.Plans.Verdicts.{move_by, outcome_by}
use Rattle.fk_store.specs.Store.Moves.{picked_by}
use Rattle.fk_store.specs.Store.Paths.{path, place}
use Rattle.fk_store.specs.Store.World.{world}
use Rattle.fk_plans.specs.declared.wakes.touching.Touched.{Touched}
use Rattle.fk_plans.specs.Wakes.Touches.{is_touched, judged, leave, MovesFirst}
use Rattle.fk_plans.proofs.InWakes.Leaving.{closed_leaves, verdict_leaves}
use Rattle.fk_plans.proofs.InWakes.Moving.{verdict_first}
use Rattle.fk_plans.proofs.InWakes.Naming.{closed_names, verdict_names}
use Rattle.fk_plans.proofs.wakes.touching.touched_by_move.Goals as goal

pub returns-clause-names : goal.returns-clause-names
returns-clause-names c m caller words chooses pick x names =
    let mover = caller_by (path m) caller words in
    let v = c.args.verdict.now in
    subst (λ (t : Touched). (same_path x (place (path m) caller.who) || is_touched (path m) t x) ≡ true) (sym c.judged.ensures)
    (closed_names (world m) mover x (is_touched (path m) (judged v) x) chooses (picked_by (path m) pick) (outcome_by (world m) (path m) mover v)
    (λ n. verdict_names (world m) (path m) mover v x n) names)

pub returns-clause-leaves : goal.returns-clause-leaves
returns-clause-leaves c m caller words chooses pick =
    let mover = caller_by (path m) caller words in
    let v = c.args.verdict.now in
    subst (λ (t : Touched). leave (path m) t (listed (move_by m caller words chooses pick v)) ≡ true) (sym c.judged.ensures)
    (closed_leaves (path m) (judged v) mover chooses (picked_by (path m) pick) (outcome_by (world m) (path m) mover v)
    (verdict_leaves (world m) (path m) mover v))

pub returns-clause-moves : goal.returns-clause-moves
returns-clause-moves c m caller words chooses pick =
    let v = c.args.verdict.now in
    subst (λ (t : Touched). MovesFirst (path m) t (move_by m caller words chooses pick v)) (sym c.judged.ensures)
    (verdict_first (world m) (path m) (caller_by (path m) caller words) chooses (picked_by (path m) pick) v)
