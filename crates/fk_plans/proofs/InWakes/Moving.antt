-- Moving: what gets another slot gets it first of all.
use Rattle.std.proofs.Common.{◌≡◌, ◌||◌, ◌&&◌, ◌==◌, ℕ, Bool, true, false, is_none, List, [], ◌∷◌, ◌++◌, Option, None, Some, if◌then◌else◌, refl, eq-eqb}
use Rattle.fk_model.specs.declared.names.Who.{Who}
use Rattle.fk_model.specs.declared.statuses.status.TheConstants.{OK}
use Rattle.fk_model.specs.Moves.{closed, with_pick}
use Rattle.fk_model.specs.ObjectRows.{renamed}
use Rattle.fk_model.specs.Outcomes.{Caller, Outcome, Said, path_of, when}
use Rattle.fk_model.specs.Outcomes.Outcome.{Goes, Refused, Waits}
use Rattle.fk_model.specs.Outcomes.Said.{Answered, Nothing}
use Rattle.fk_model.specs.Places.{Path, parent, same_path}
use Rattle.fk_model.specs.World.{World, Change}
use Rattle.fk_model.specs.World.Change.{Alter, Move}
use Rattle.fk_model.specs.World.Edit.{Finish}
use Rattle.fk_model.proofs.walks.PlaceLaws.{same_path_refl}
use Rattle.fk_store.specs.Store.Paths.{place}
use Rattle.fk_plans.specs.declared.plans.plan.Plan.{Plan}
use Rattle.fk_plans.specs.declared.plans.plan.Plan.TheVariants as plans
use Rattle.fk_plans.specs.declared.plans.plan.Verdict.{Verdict}
use Rattle.fk_plans.specs.declared.plans.plan.Verdict.TheVariants as verdicts
use Rattle.fk_plans.specs.Plans.Verdicts.{outcome_by}
use Rattle.fk_plans.specs.declared.wakes.touching.Touched.{Touched}
use Rattle.fk_plans.specs.declared.wakes.touching.Touched.TheVariants.{Any, Dies, Few, Moves}
use Rattle.fk_plans.specs.Wakes.Touches.{judged, moves_first, planned, MovesFirst}
use Rattle.fk_plans.proofs.InWakes.Leaving.{both}

-- by a plan nothing gets another slot
plan_first : (p : ℕ → Path) (plan : Plan) (cs : List Change) → moves_first p (planned plan) cs ≡ true
plan_first p plans.Nothing cs = refl
plan_first p (plans.One a) cs = refl
plan_first p (plans.Two a b) cs = refl
plan_first p (plans.Moves block client receiver sender) cs = refl
plan_first p (plans.HandsOver reference to receiver client turn) cs = refl
plan_first p (plans.Makes object kind) cs = refl
plan_first p (plans.MakesHeld object holder) cs = refl
plan_first p (plans.Gives space page source) cs = refl

pub always : (p : ℕ → Path) (t : Touched) (o : Outcome) → ((cs : List Change) → moves_first p t cs ≡ true) → MovesFirst p t o
always p t (Goes cs said) all = all cs
always p t (Refused status) all = tt
always p t Waits all = tt

module _ (w : World) (p : ℕ → Path) (c : Caller) (chosen : Bool) (pick : Option Path) where
  goes_first : (t : Touched) (cs : List Change) (said : Said) → moves_first p t cs ≡ true → MovesFirst p t (closed c (with_pick chosen pick (Goes cs said)))
  goes_first t cs said is = by (chosen || is_none pick)
    where
      by : (free : Bool) → MovesFirst p t (closed c (when free (Goes cs said)))
      by true = is
      by false = tt

  renamed_first : (object : Who) (slot : ℕ) →
      MovesFirst p (Moves object slot) (closed c (with_pick chosen pick (outcome_by w p c (verdicts.Renames object slot))))
  renamed_first object slot = by c.is_porter
    where
      x : Path
      x = place p object

      me : Path
      me = renamed x (slot ∷ parent x) (path_of c)

      first : ((same_path x x && slot == slot) && true) ≡ true
      first = both (same_path x x && slot == slot) true (both (same_path x x) (slot == slot) (same_path_refl x) (eq-eqb slot slot refl)) refl

      by : (porter : Bool) → MovesFirst p (Moves object slot) (closed c (with_pick chosen pick
          (if porter then Goes (Move x slot ∷ []) (Answered OK []) else Goes ((Move x slot ∷ []) ++ Alter me (Finish []) ∷ []) Nothing)))
      by true = goes_first (Moves object slot) (Move x slot ∷ []) (Answered OK []) first
      by false = goes_first (Moves object slot) ((Move x slot ∷ []) ++ Alter me (Finish []) ∷ []) Nothing first

  other : (v : Verdict) (t : Touched) → ((cs : List Change) → moves_first p t cs ≡ true) → MovesFirst p t (closed c (with_pick chosen pick (outcome_by w p c v)))
  other v t all = always p t (closed c (with_pick chosen pick (outcome_by w p c v))) all

  pub verdict_first : (v : Verdict) → MovesFirst p (judged v) (closed c (with_pick chosen pick (outcome_by w p c v)))
  verdict_first (verdicts.Runs e) = other (verdicts.Runs e) (Few None None None) (λ cs. refl)
  verdict_first (verdicts.Refused status) = other (verdicts.Refused status) (Few None None None) (λ cs. refl)
  verdict_first verdicts.Waits = other verdicts.Waits (Few None None None) (λ cs. refl)
  verdict_first (verdicts.Done plan answers) = other (verdicts.Done plan answers) (planned plan) (plan_first p plan)
  verdict_first (verdicts.Ends plan answers) = other (verdicts.Ends plan answers) (planned plan) (plan_first p plan)
  verdict_first (verdicts.Shows plan space page) = other (verdicts.Shows plan space page) (planned plan) (plan_first p plan)
  verdict_first (verdicts.ShowsRecord object) = other (verdicts.ShowsRecord object) (Few None None None) (λ cs. refl)
  verdict_first (verdicts.Sets object from) = other (verdicts.Sets object from) (Few (Some object) None None) (λ cs. refl)
  verdict_first (verdicts.Renames object slot) = renamed_first object slot
  verdict_first (verdicts.Destroys object last) = other (verdicts.Destroys object last) (Dies object) (λ cs. refl)
  verdict_first (verdicts.WakesAll cond) = other (verdicts.WakesAll cond) Any (λ cs. refl)
  verdict_first (verdicts.Goes plan) = other (verdicts.Goes plan) (planned plan) (plan_first p plan)
  verdict_first (verdicts.Tells plan news last) = other (verdicts.Tells plan news last) (planned plan) (plan_first p plan)
  verdict_first (verdicts.Faults page write port) = other (verdicts.Faults page write port) (Few None None None) (λ cs. refl)
