-- Told: what a native server is told besides a user's stage.
use Rattle.std.proofs.Common.{◌≡◌, ℕ, Bool, true, false, List, Result, Ok, Err, IfOk}
use Rattle.fk_model.specs.declared.names.Who.{Who}
use Rattle.fk_model.specs.Moves.{Step, closed, stepped}
use Rattle.fk_model.specs.Outcomes.{Said}
use Rattle.fk_model.specs.Places.{Path}
use Rattle.fk_model.specs.World.{World, Change}
use Rattle.fk_plans.specs.Plans.Plans.{caller_by}
use Rattle.fk_plans.specs.Plans.Verdicts.{tells}

-- it is no refusal
pub told_step : (p : ℕ → Path) (who : Who) (is_porter : Bool) →
    is_porter ≡ false → (given : List ℕ) (w : World) (cs : List Change) (said : Said) (last : Bool) (s : Step) →
    stepped w (tells (caller_by p (record { who = who; is_porter = is_porter }) given) cs said last) ≡ s →
    stepped w (closed (caller_by p (record { who = who; is_porter = is_porter }) given)
    (tells (caller_by p (record { who = who; is_porter = is_porter }) given) cs said last)) ≡ s
told_step p who true user given w cs said last s made = absurd (cc)
told_step p who false user given w cs said true s made = made
told_step p who false user given w cs said false s made = made

pub if_ok : {A B : Type 0} {P Q : A → Type 0} → (r : Result A B) → ((a : A) → P a → Q a) → IfOk r P → IfOk r Q
if_ok (Ok a) f h = f a h
if_ok (Err e) f h = tt
