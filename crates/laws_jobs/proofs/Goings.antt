-- A porter's own move is its row.
use Rattle.std.proofs.Common.{◌≡◌, ℕ, Bool, true, false, not, ◌&&◌, is_some, List, [], ◌∷◌, Option, Some, None, refl, sym, ap, ◌∙◌}
use Rattle.fk_model.specs.declared.limits.TheConstants.{LAST_PORTER_SLOT}
use Rattle.fk_model.specs.declared.moves.Ask.TheVariants as asks
use Rattle.fk_model.specs.declared.stage.Stage.{Stage}
use Rattle.fk_model.specs.Places.{Path, Ptr}
use Rattle.fk_model.specs.Objects.{Body, thread_of, and_then, holds}
use Rattle.fk_model.specs.Objects.Body.{Mutex, Cond, Mapping, Region, Port, Portset, Space, Thread_of, Reference}
use Rattle.fk_model.specs.World.{World, Change, apply, apply_all}
use Rattle.fk_model.specs.Holds.{decider, is_unheld, is_porter}
use Rattle.fk_model.specs.StateRows.{is_native}
use Rattle.fk_model.specs.Outcomes.{Outcome, when}
use Rattle.fk_model.specs.Outcomes.Outcome.{Goes}
use Rattle.fk_model.specs.Outcomes.Said.{Answered}
use Rattle.fk_model.specs.Moves.{call_row, porter_move, outcome, GoesAllowed, Step, step, stepped}
use Rattle.fk_model.specs.Runs.{after}
use Rattle.laws_jobs.specs.Machines.{Reply, reply_of, IsAnswered, porter, call_of, said_of, IsReadyAt}
use Rattle.laws_jobs.specs.Calls.{CallIsItsRow}

module _ (nester : Path) (w : World) (stage : Stage) (words : List ℕ) where
  abbrev me : Path
  me = LAST_PORTER_SLOT ∷ nester

  -- a porter that is ready is a porter, and nobody decides over its nester
  pub record Called : Type 0 where
    pub native : holds is_native (w.body me) ≡ true
    pub free : decider w nester ≡ None
    pub steps : step w me None (asks.Call stage words) ≡ stepped w (call_row w (porter nester words) None stage)
    pub allowed : GoesAllowed w me (call_row w (porter nester words) None stage)

  free_of : (d : Option Ptr) → not (is_some d) ≡ true → d ≡ None
  free_of None h = refl
  free_of (Some p) h = cc

  by_tests : (native unheld : Bool) → is_unheld w nester ≡ unheld → holds is_native (w.body me) ≡ native →
      step w me None (asks.Call stage words) ≡ stepped w (when (native && unheld) (call_row w (porter nester words) None stage)) →
      GoesAllowed w me (when (native && unheld) (call_row w (porter nester words) None stage)) → Called
  by_tests true true free is comes ready = record { native = is; free = free_of (decider w nester) free; steps = comes; allowed = ready }
  by_tests true false free is comes ready = absurd ready
  by_tests false unheld free is comes ready = absurd ready

  by_body : (o : Option Body) → w.body me ≡ o → step w me None (asks.Call stage words) ≡ stepped w (porter_move w me None stage words (and_then thread_of o)) →
      GoesAllowed w me (porter_move w me None stage words (and_then thread_of o)) → Called
  by_body (Some (Thread_of t)) e comes ready = by_tests (is_porter t.mode) (is_unheld w nester) refl (ap (holds is_native) e) comes ready
  by_body (Some (Mutex locked)) e comes ready = absurd ready
  by_body (Some Cond) e comes ready = absurd ready
  by_body (Some (Mapping m)) e comes ready = absurd ready
  by_body (Some (Region r)) e comes ready = absurd ready
  by_body (Some (Port set served)) e comes ready = absurd ready
  by_body (Some Portset) e comes ready = absurd ready
  by_body (Some (Space birth holder)) e comes ready = absurd ready
  by_body (Some (Reference to)) e comes ready = absurd ready
  by_body None e comes ready = absurd ready

  pub called : IsReadyAt w (call_of nester stage words) → Called
  unfolding step outcome
  called ready = by_body (w.body me) refl refl ready

  -- what it comes to, by what its row comes to
  pub comes_to : (o : Outcome) → call_row w (porter nester words) None stage ≡ o → IsReadyAt w (call_of nester stage words) →
      (after w (call_of nester stage words) ≡ (stepped w o).world) × (said_of w (call_of nester stage words) ≡ (stepped w o).said)
  comes_to o row ready =
      let its = called ready in
      let whole = its.steps ∙ ap (stepped w) row in
      (ap (λ (s : Step). s.world) whole, ap (λ (s : Step). s.said) whole)

pub call_is_its_row : CallIsItsRow
call_is_its_row nester w stage words changes said row ready = comes_to nester w stage words (Goes changes said) row ready

-- ---- what is answered, by what the row lists

module _ (nester : Path) (w : World) (stage : Stage) (words : List ℕ) (reply : Reply) (answered : IsAnswered nester w stage words reply) where
  -- the changes of the row, and its answer
  pub goes_by : (changes : List Change) (status : ℕ) (given : List ℕ) → call_row w (porter nester words) None stage ≡ Goes changes (Answered status given) →
      (after w (call_of nester stage words) ≡ apply_all changes w) × ((reply.status ≡ status) × (reply.words ≡ given))
  goes_by changes status given row =
      let goes = call_is_its_row nester w stage words changes (Answered status given) row answered.ready in
      let told : reply ≡ record { status = status; words = given } = sym answered.said ∙ ap reply_of goes.1 in
      (goes.0, (ap (λ (r : Reply). r.status) told, ap (λ (r : Reply). r.words) told))

  pub one_change : (change : Change) (status : ℕ) (given : List ℕ) → call_row w (porter nester words) None stage ≡ Goes (change ∷ []) (Answered status given) →
      (after w (call_of nester stage words) ≡ apply change w) × ((reply.status ≡ status) × (reply.words ≡ given))
  unfolding apply_all
  one_change change status given row = goes_by (change ∷ []) status given row

  pub no_change : (status : ℕ) (given : List ℕ) → call_row w (porter nester words) None stage ≡ Goes [] (Answered status given) →
      (after w (call_of nester stage words) ≡ w) × ((reply.status ≡ status) × (reply.words ≡ given))
  unfolding apply_all
  no_change status given row = goes_by [] status given row
