-- A space in which something stays, stays itself.
use Rattle.std.proofs.Common.{◌≡◌, ℕ, true, false, nat_le, IsSome, List, [], ◌∷◌, Option, Some, None, refl, ◌∙◌}
use Rattle.fk_model.specs.declared.limits.TheConstants.{LAST_USER_SLOT, LAST_PORTER_SLOT}
use Rattle.fk_model.specs.Places.{Path}
use Rattle.fk_model.specs.Objects.{Body, holds}
use Rattle.fk_model.specs.World.{World, Change, apply, apply_all}
use Rattle.fk_model.specs.StateRows.{is_native}
use Rattle.fk_model.specs.Outcomes.{Outcome, listed}
use Rattle.fk_model.specs.Outcomes.Outcome.{Refused, Waits, Goes}
use Rattle.fk_model.specs.Moves.{outcome, step, stepped}
use Rattle.fk_model.specs.Runs.{after}
use Rattle.fk_model.specs.Valid.{IsConsistent, birth_at}
use Rattle.laws_moves.proofs.InMachine.validity.Changes.{valid-apply}
use Rattle.laws_moves.proofs.InMachine.validity.Steps.{facts_of}
use Rattle.laws_moves.proofs.InMachine.safety.Safe.{AreSafe}
use Rattle.laws_moves.proofs.InMachine.safety.Staying.{birth_one}
use Rattle.laws_moves.proofs.InMachine.safety.Outcomes.{SafeOutcome}
use Rattle.laws_moves.proofs.InMachine.safety.Moves.{outcome-safe}
use Rattle.laws_moves.specs.Frozen.Users.{AreUsers}
use Rattle.laws_moves.proofs.InFrozen.Users.{users_name_low}
use Rattle.laws_jobs.specs.Nesters.{NesterStays}
use Rattle.laws_jobs.proofs.Filling.{were_there, users_owed}

-- ---- and so with the moves of users

module _ (w : World) (k : ℕ) (x : Path) (high : nat_le k LAST_USER_SLOT ≡ false) where
  birth_all : (cs : List Change) (v : World) → IsConsistent v → AreSafe v cs → AreUsers w cs → IsSome ((apply_all cs v).body (k ∷ x)) →
      birth_at (apply_all cs v) x ≡ birth_at v x
  unfolding apply_all
  birth_all [] v valid safe users there = refl
  birth_all (c ∷ cs) v valid safe users there =
      let before = were_there w k x high (c ∷ cs) v users there in
      birth_all cs (apply c v) (valid-apply c v valid safe.0) safe.1 users.1 there ∙ birth_one v valid k x before c safe.0

  birth_stepped : (o : Outcome) → IsConsistent w → SafeOutcome w o → AreUsers w (listed o) → IsSome ((stepped w o).world.body (k ∷ x)) →
      birth_at (stepped w o).world x ≡ birth_at w x
  birth_stepped (Goes cs said) valid safe users there = birth_all cs w valid safe.safe users there
  birth_stepped (Refused status) valid safe users there = refl
  birth_stepped Waits valid safe users there = refl

some_held : (o : Option Body) → holds is_native o ≡ true → IsSome o
some_held (Some b) h = refl
some_held None h = cc

pub nester_stays : NesterStays
unfolding step
nester_stays w e valid few users nester porter =
    let proper = users_owed w e.mover e.ask users in
    birth_stepped w LAST_PORTER_SLOT nester refl (outcome w e.mover e.pick e.ask) valid.consistent
    (outcome-safe w e.mover e.pick e.ask (facts_of w valid few) proper.0)
    (users_name_low w e.mover e.pick e.ask valid.rooted users)
    (some_held ((after w e).body (LAST_PORTER_SLOT ∷ nester)) porter)
