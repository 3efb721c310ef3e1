-- Users fill no slot above those of users, and owe nothing.
use Rattle.std.proofs.Common.{◌≡◌, ℕ, arith, Bool, true, false, ◌&&◌, if◌then◌else◌, nat_le, IsSome, List, [], ◌∷◌, Option, Some, None, option_map, refl}
use Rattle.std.proofs.lemmas.Bool.{leb-true, and_parts}
use Rattle.fk_model.specs.declared.limits.TheConstants.{LAST_USER_SLOT, FIRST_SCRATCH_SLOT, LAST_SCRATCH_SLOT}
use Rattle.fk_model.specs.declared.moves.Ask.{Ask}
use Rattle.fk_model.specs.declared.moves.Ask.TheVariants as asks
use Rattle.fk_model.specs.Places.{Path, same_path, parent}
use Rattle.fk_model.specs.Objects.{Body}
use Rattle.fk_model.specs.Objects.Body.{Space}
use Rattle.fk_model.specs.World.{World, Change, edited, through, death_sweep, following, apply, apply_all}
use Rattle.fk_model.specs.World.Change.{Alter, Make, MakeSpace, Kill, Move, PutPage, DropPage}
use Rattle.fk_model.specs.Outcomes.{Outcome, listed}
use Rattle.fk_model.specs.Outcomes.Outcome.{Refused, Waits, Goes}
use Rattle.fk_model.specs.ObjectRows.{is_scratch}
use Rattle.fk_model.specs.Moves.{outcome, step, stepped}
use Rattle.fk_model.specs.Runs.{Event, after}
use Rattle.fk_model.specs.Valid.{IsRooted, is_fit}
use Rattle.fk_model.specs.Sound.{IsClean}
use Rattle.fk_model.proofs.walks.PlaceLaws.{same_path_eq}
use Rattle.laws_moves.specs.Frozen.Users.{is_low, is_users, IsUsers, AreUsers}
use Rattle.laws_moves.proofs.InFrozen.Users.{users_name_low}
use Rattle.laws_moves.specs.Savable.Savable.{OwesAsk}
use Rattle.laws_jobs.specs.Nesters.{UsersFillLow}

is_some-map : (f : Body → Body) (o : Option Body) → IsSome (option_map f o) → IsSome o
is_some-map f (Some b) h = refl
is_some-map f None h = cc

module _ (w v : World) (k : ℕ) (x : Path) (high : nat_le k LAST_USER_SLOT ≡ false) where
  low_at : (y : Path) → same_path (k ∷ x) y ≡ true → is_low y ≡ true → ⊥
  low_at y e low = let here = same_path_eq (k ∷ x) y e in let its = rw (← here) at low in cc

  was_there : (c : Change) → IsUsers w c → IsSome ((apply c v).body (k ∷ x)) → IsSome (v.body (k ∷ x))
  unfolding apply
  was_there (Alter y edit) users there = by (same_path (k ∷ x) y) there
    where
      by : (t : Bool) → IsSome (if t then option_map (edited edit) (v.body (k ∷ x)) else v.body (k ∷ x)) → IsSome (v.body (k ∷ x))
      by true h = is_some-map (edited edit) (v.body (k ∷ x)) h
      by false h = h
  was_there (Make y body) users there = by (same_path (k ∷ x) y) refl there
    where
      by : (t : Bool) → same_path (k ∷ x) y ≡ t → IsSome (if t then Some body else v.body (k ∷ x)) → IsSome (v.body (k ∷ x))
      by true e h = absurd (low_at y e users.0)
      by false e h = h
  was_there (MakeSpace y holder) users there = by (same_path (k ∷ x) y) refl there
    where
      by : (t : Bool) → same_path (k ∷ x) y ≡ t → IsSome (if t then Some (Space v.next holder) else v.body (k ∷ x)) → IsSome (v.body (k ∷ x))
      by true e h = absurd (low_at y e users.0)
      by false e h = h
  was_there (Kill y) users there = by (same_path (k ∷ x) y) there
    where
      by : (t : Bool) → IsSome (if t then None else option_map (through (death_sweep y) (k ∷ x)) (v.body (k ∷ x))) → IsSome (v.body (k ∷ x))
      by true h = cc
      by false h = is_some-map _ (v.body (k ∷ x)) h
  was_there (Move y j) users there = by (same_path (k ∷ x) (j ∷ parent y)) refl (same_path (k ∷ x) y) there
    where
      by : (t : Bool) → same_path (k ∷ x) (j ∷ parent y) ≡ t → (r : Bool) →
          IsSome (if t then option_map (through (following y (j ∷ parent y)) (j ∷ parent y)) (v.body y)
          else (if r then None else option_map (through (following y (j ∷ parent y)) (k ∷ x)) (v.body (k ∷ x)))) → IsSome (v.body (k ∷ x))
      by true e r h = absurd (low_at (j ∷ parent y) e users.1)
      by false e true h = cc
      by false e false h = is_some-map _ (v.body (k ∷ x)) h
  was_there (PutPage space page words) users there = there
  was_there (DropPage space page) users there = there

module _ (w : World) (k : ℕ) (x : Path) (high : nat_le k LAST_USER_SLOT ≡ false) where
  pub were_there : (cs : List Change) (v : World) → AreUsers w cs → IsSome ((apply_all cs v).body (k ∷ x)) → IsSome (v.body (k ∷ x))
  unfolding apply_all
  were_there [] v users there = there
  were_there (c ∷ cs) v users there = was_there w v k x high c users.0 (were_there cs (apply c v) users.1 there)

  stepped_there : (o : Outcome) → AreUsers w (listed o) → IsSome ((stepped w o).world.body (k ∷ x)) → IsSome (w.body (k ∷ x))
  stepped_there (Goes cs said) users there = were_there cs w users there
  stepped_there (Refused status) users there = there
  stepped_there Waits users there = there

pub users_fill_low : UsersFillLow
unfolding step
users_fill_low w e rooted users x k high there =
    stepped_there w k x high (outcome w e.mover e.pick e.ask) (users_name_low w e.mover e.pick e.ask rooted users) there

-- ---- what they owe is nothing

pub users_owed : (w : World) (x : Path) (ask : Ask) → is_users ask ≡ true → (is_fit w x ask ≡ true) × OwesAsk w x ask
unfolding is_fit
users_owed w x asks.Run users = (refl, tt)
users_owed w x (asks.Call stage words) users = cc
users_owed w x asks.Accept users = (refl, tt)
users_owed w x (asks.Give words len) users = (refl, tt)
users_owed w x asks.Over users = (refl, tt)

pub scratch_high : (s : Path) (k : ℕ) → is_scratch s (k ∷ s) ≡ true → nat_le k LAST_USER_SLOT ≡ false
scratch_high s k h = by (nat_le k LAST_USER_SLOT) refl
  where
    by : (b : Bool) → nat_le k LAST_USER_SLOT ≡ b → b ≡ false
    by false e = refl
    by true e =
        let both = and_parts (same_path s s && nat_le FIRST_SCRATCH_SLOT k) (nat_le k LAST_SCRATCH_SLOT) h in
        let least = leb-true FIRST_SCRATCH_SLOT k (and_parts (same_path s s) (nat_le FIRST_SCRATCH_SLOT k) both.0).1 in
        let most = leb-true k LAST_USER_SLOT e in
        absurd (omega (arith, least, most))

empty_from : (o : Option Body) → (IsSome o → ⊥) → o ≡ None
empty_from None h = refl
empty_from (Some b) h = absurd (h refl)

-- users fill no scratch
pub clean_on : (w : World) (e : Event) → IsRooted w → is_users e.ask ≡ true → IsClean w → IsClean (after w e)
clean_on w e rooted users clean s k scratch = empty_from ((after w e).body (k ∷ s)) (λ there. full there)
  where
    full : IsSome ((after w e).body (k ∷ s)) → ⊥
    full there =
        let was = users_fill_low w e rooted users s k (scratch_high s k scratch) there in
        let none = clean s k scratch in
        let gone = rw none at was in
        cc
