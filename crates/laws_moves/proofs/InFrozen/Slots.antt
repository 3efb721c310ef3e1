-- What stands in which slots stays with the moves of users and of native servers.
use Rattle.std.proofs.Common.{◌≡◌, ℕ, Bool, true, false, if◌then◌else◌, not, ◌&&◌, ◌==◌, nat_le, IsSome, is_some, List, [], ◌∷◌, Option, Some, None, option_map}
use Rattle.std.proofs.Common.{refl, sym, ap, ◌∙◌}
use Rattle.fk_model.specs.declared.limits.TheConstants.{LAST_USER_SLOT, LAST_SCRATCH_SLOT, LAST_PORTER_SLOT}
use Rattle.fk_model.specs.Places.{Path, same_path}
use Rattle.fk_model.specs.Objects.{Mode, Thread, Body, reference_of, holds}
use Rattle.fk_model.specs.Objects.Body.{Mutex, Space, Thread_of, Reference}
use Rattle.fk_model.specs.World.{World, Change, Edit, Sweep, edited, through, death_sweep, following, apply, apply_all}
use Rattle.fk_model.specs.World.Change.{Alter, Make, MakeSpace, Kill, Move, PutPage, DropPage}
use Rattle.fk_model.specs.World.Edit.{Proceed}
use Rattle.fk_model.specs.Holds.{is_porter}
use Rattle.fk_model.specs.StateRows.{is_native}
use Rattle.fk_model.specs.Outcomes.{Outcome, listed}
use Rattle.fk_model.specs.Outcomes.Outcome.{Refused, Waits, Goes}
use Rattle.fk_model.specs.Moves.{outcome, step, stepped}
use Rattle.fk_model.specs.Whole.{stands_in, KeepsSlots}
use Rattle.fk_model.proofs.walks.PlaceLaws.{same_path_eq}
use Rattle.laws_moves.proofs.InMachine.safety.Safe.{IsSafe, AreSafe}
use Rattle.laws_moves.proofs.InMachine.safety.Outcomes.{SafeOutcome}
use Rattle.laws_moves.proofs.InMachine.safety.Moves.{outcome-safe}
use Rattle.laws_moves.proofs.InMachine.validity.Steps.{facts_of}
use Rattle.laws_moves.specs.Frozen.Users.{is_low, IsUsers, AreUsers}
use Rattle.laws_moves.specs.Frozen.Slots.{UsersKeepSlots}
use Rattle.laws_moves.proofs.InFrozen.Edited.{is_proceed, same-native, same-reference}
use Rattle.laws_moves.proofs.InFrozen.Users.{users_name_low}

-- ---- which slots a body may stand in is told by whether it is a porter and whether it is a reference

abbrev sort : Body → Bool × Bool
sort b = (is_native b, is_some (reference_of b))

same-stands : (k : ℕ) (a b : Body) → sort a ≡ sort b → stands_in k b ≡ true → stands_in k a ≡ true
same-stands k a b same h = rw (ap (λ (e : Bool × Bool). e.0) same, ap (λ (e : Bool × Bool). e.1) same) h

-- in a low slot any object may stand but a porter
low-stands : (k : ℕ) (b : Body) → nat_le k LAST_USER_SLOT ≡ true → is_native b ≡ false → stands_in k b ≡ true
low-stands k b low users = rw (low, users) refl

-- in another slot no other body of a user's
high-native : (k : ℕ) (b : Body) → nat_le k LAST_USER_SLOT ≡ false → stands_in k b ≡ true → (is_native b ≡ true → is_some (reference_of b) ≡ false)
high-native k (Thread_of t) high h native = refl
high-native k (Mutex locked) high h native = cc
high-native k b high h native = cc

-- ---- sweeps

pub swept-sort : (f : Sweep) (q : Path) (b : Body) → sort (through f q b) ≡ sort b
swept-sort f q (Thread_of t) = refl
swept-sort f q (Reference to) = refl
swept-sort f q (Mutex locked) = refl
swept-sort f q b = refl

-- ---- one change

-- what stands in a low slot is no porter
low-user : (k : ℕ) (b : Body) → nat_le k LAST_USER_SLOT ≡ true → stands_in k b ≡ true → is_native b ≡ false
low-user k b low h = by (is_native b) (rw low at h)
  where
    by : (t : Bool) → not t ≡ true → t ≡ false
    by true h = cc
    by false h = refl

-- a thread in another slot is a porter
high-thread : (k : ℕ) (t : Thread) → nat_le k LAST_USER_SLOT ≡ false → stands_in k (Thread_of t) ≡ true →
    (nat_le k LAST_SCRATCH_SLOT ≡ false) × (is_porter t.mode ≡ true)
high-thread k t high h = by (nat_le k LAST_SCRATCH_SLOT) (k == LAST_PORTER_SLOT) refl (rw high at h)
  where
    by : (scratch last : Bool) → nat_le k LAST_SCRATCH_SLOT ≡ scratch → (if scratch then false else last && is_porter t.mode) ≡ true →
        (nat_le k LAST_SCRATCH_SLOT ≡ false) × (is_porter t.mode ≡ true)
    by true last e h = cc
    by false true e h = (e, h)
    by false false e h = cc

-- and so is whatever stands in a last slot
last-native : (k : ℕ) (b : Body) → nat_le k LAST_USER_SLOT ≡ false → nat_le k LAST_SCRATCH_SLOT ≡ false → stands_in k b ≡ true → is_native b ≡ true
last-native k b high scratch h = by (k == LAST_PORTER_SLOT) (is_native b) (rw (high, scratch) at h)
  where
    by : (a t : Bool) → (a && t) ≡ true → t ≡ true
    by true t h = h
    by false t h = cc

module _ (w : World) (kept : KeepsSlots w) where
  record Going (v : World) : Type 0 where
    slots : KeepsSlots v
    high : (k : ℕ) (x : Path) → nat_le k LAST_USER_SLOT ≡ false → IsSome (v.body (k ∷ x)) → IsSome (w.body (k ∷ x))

  some_of : (o : Option Body) → IsSome o → (b : Body) × (o ≡ Some b)
  some_of (Some b) h = (b, refl)
  some_of None h = cc

  -- a thread in a high slot isn't told what to do by a user
  proceed-high : (v : World) → Going v → (k : ℕ) (x : Path) (t : Thread) → v.body (k ∷ x) ≡ Some (Thread_of t) → nat_le k LAST_USER_SLOT ≡ false →
      holds is_native (w.body (k ∷ x)) ≡ false → ⊥
  proceed-high v going k x t there high users =
      let its = high-thread k t high (going.slots k x (Thread_of t) there) in
      let was = some_of (w.body (k ∷ x)) (going.high k x high (rw there refl)) in
      let native = last-native k was.0 high its.0 (kept k x was.0 was.1) in
      let on : holds is_native (w.body (k ∷ x)) ≡ true = rw was.1 native in
      cc

  proceeds : (v : World) → Going v → (k : ℕ) (x : Path) (mode : Mode) (counter : ℕ) (b : Body) → v.body (k ∷ x) ≡ Some b →
      holds is_native (w.body (k ∷ x)) ≡ false →
      is_porter mode ≡ false → stands_in k (edited (Proceed mode counter) b) ≡ true
  unfolding edited
  proceeds v going k x mode counter (Thread_of t) there users user = by (nat_le k LAST_USER_SLOT) refl
    where
      by : (low : Bool) → nat_le k LAST_USER_SLOT ≡ low → stands_in k (Thread_of (record t { mode = mode; counter = counter })) ≡ true
      by true e = low-stands k (Thread_of (record t { mode = mode; counter = counter })) e user
      by false e = absurd (proceed-high v going k x t there e users)
  proceeds v going k x mode counter (Mutex locked) there users user = going.slots k x (Mutex locked) there
  proceeds v going k x mode counter b there users user = going.slots k x b there

  edited-stands : (v : World) → Going v → (k : ℕ) (x : Path) (edit : Edit) (b : Body) → v.body (k ∷ x) ≡ Some b → IsUsers w (Alter (k ∷ x) edit) →
      stands_in k (edited edit b) ≡ true
  edited-stands v going k x (Proceed mode counter) b there users = proceeds v going k x mode counter b there users.0 users.1
  edited-stands v going k x edit b there users = same-stands k (edited edit b) b (same edit refl) (going.slots k x b there)
    where
      same : (edit : Edit) → is_proceed edit ≡ false → sort (edited edit b) ≡ sort b
      same edit other = rw (same-native edit b other, same-reference edit b) refl

  mapped : (f : Body → Body) (o : Option Body) (c : Body) → option_map f o ≡ Some c → (b : Body) × (o ≡ Some b) × (c ≡ f b)
  mapped f (Some b) c h = (b, refl, (let e : f b ≡ c = cc in sym e))
  mapped f None c h = cc

  is_some-map : (f : Body → Body) (o : Option Body) → IsSome (option_map f o) → IsSome o
  is_some-map f (Some b) h = refl
  is_some-map f None h = cc

  module _ (v : World) (going : Going v) where
    altered : (y : Path) (edit : Edit) → IsUsers w (Alter y edit) → Going (apply (Alter y edit) v)
    unfolding apply
    altered y edit users = record { slots = λ k x b. slot k x b (same_path (k ∷ x) y) refl; high = λ k x far. up k x far (same_path (k ∷ x) y) }
      where
        slot : (k : ℕ) (x : Path) (b : Body) (t : Bool) → same_path (k ∷ x) y ≡ t →
            (if t then option_map (edited edit) (v.body (k ∷ x)) else v.body (k ∷ x)) ≡ Some b →
            stands_in k b ≡ true
        slot k x b true e h =
            let here = same_path_eq (k ∷ x) y e in
            let was = mapped (edited edit) (v.body (k ∷ x)) b h in
            rw (was.2) (edited-stands v going k x edit was.0 was.1 (rw (← here) at users))
        slot k x b false e h = going.slots k x b h

        up : (k : ℕ) (x : Path) → nat_le k LAST_USER_SLOT ≡ false → (t : Bool) →
            IsSome (if t then option_map (edited edit) (v.body (k ∷ x)) else v.body (k ∷ x)) → IsSome (w.body (k ∷ x))
        up k x far true h = going.high k x far (is_some-map (edited edit) (v.body (k ∷ x)) h)
        up k x far false h = going.high k x far h

    -- a low place
    low_at : (k : ℕ) (x y : Path) → same_path (k ∷ x) y ≡ true → is_low y ≡ true → nat_le k LAST_USER_SLOT ≡ true
    low_at k x y e low = let here = same_path_eq (k ∷ x) y e in rw (← here) at low

    made : (y : Path) (new : Body) → is_low y ≡ true → is_native new ≡ false →
        ((k : ℕ) (x : Path) (b : Body) → (if same_path (k ∷ x) y then Some new else v.body (k ∷ x)) ≡ Some b → stands_in k b ≡ true)
    made y new low user k x b h = by (same_path (k ∷ x) y) refl h
      where
        by : (t : Bool) → same_path (k ∷ x) y ≡ t → (if t then Some new else v.body (k ∷ x)) ≡ Some b → stands_in k b ≡ true
        by true e h = let same : new ≡ b = cc in rw (← same) (low-stands k new (low_at k x y e low) user)
        by false e h = going.slots k x b h

    made_high : (y : Path) (new : Body) → is_low y ≡ true → ((k : ℕ) (x : Path) → nat_le k LAST_USER_SLOT ≡ false →
        IsSome (if same_path (k ∷ x) y then Some new else v.body (k ∷ x)) → IsSome (w.body (k ∷ x)))
    made_high y new low k x far h = by (same_path (k ∷ x) y) refl h
      where
        by : (t : Bool) → same_path (k ∷ x) y ≡ t → IsSome (if t then Some new else v.body (k ∷ x)) → IsSome (w.body (k ∷ x))
        by true e h = let near = low_at k x y e low in cc
        by false e h = going.high k x far h

    swept-slot : (f : Sweep) (k : ℕ) (x q : Path) (b : Body) → option_map (through f q) (v.body (k ∷ x)) ≡ Some b → stands_in k b ≡ true
    swept-slot f k x q b h = let was = mapped (through f q) (v.body (k ∷ x)) b h in
        rw (was.2) (same-stands k (through f q was.0) was.0 (swept-sort f q was.0) (going.slots k x was.0 was.1))

    killed : (y : Path) → Going (apply (Kill y) v)
    unfolding apply
    killed y = record { slots = λ k x b. slot k x b (same_path (k ∷ x) y); high = λ k x far. up k x far (same_path (k ∷ x) y) }
      where
        slot : (k : ℕ) (x : Path) (b : Body) (t : Bool) → (if t then None else option_map (through (death_sweep y) (k ∷ x)) (v.body (k ∷ x))) ≡ Some b →
            stands_in k b ≡ true
        slot k x b true h = cc
        slot k x b false h = swept-slot (death_sweep y) k x (k ∷ x) b h

        up : (k : ℕ) (x : Path) → nat_le k LAST_USER_SLOT ≡ false → (t : Bool) →
            IsSome (if t then None else option_map (through (death_sweep y) (k ∷ x)) (v.body (k ∷ x))) → IsSome (w.body (k ∷ x))
        up k x far true h = cc
        up k x far false h = going.high k x far (is_some-map _ (v.body (k ∷ x)) h)

    renamed : (i : ℕ) (s : Path) (j : ℕ) → nat_le i LAST_USER_SLOT ≡ true → nat_le j LAST_USER_SLOT ≡ true → Going (apply (Move (i ∷ s) j) v)
    unfolding apply
    renamed i s j low there = record {
      slots = λ k x b. slot k x b (same_path (k ∷ x) (j ∷ s)) refl (same_path (k ∷ x) (i ∷ s));
      high = λ k x far. up k x far (same_path (k ∷ x) (j ∷ s)) refl (same_path (k ∷ x) (i ∷ s));
    }
      where
        slot : (k : ℕ) (x : Path) (b : Body) (t : Bool) → same_path (k ∷ x) (j ∷ s) ≡ t → (r : Bool) →
            (if t then option_map (through (following (i ∷ s) (j ∷ s)) (j ∷ s)) (v.body (i ∷ s))
            else (if r then None else option_map (through (following (i ∷ s) (j ∷ s)) (k ∷ x)) (v.body (k ∷ x)))) ≡ Some b → stands_in k b ≡ true
        slot k x b true e r h =
            let was = mapped (through (following (i ∷ s) (j ∷ s)) (j ∷ s)) (v.body (i ∷ s)) b h in
            let user = low-user i was.0 low (going.slots i s was.0 was.1) in
            let same = ap (λ (e : Bool × Bool). e.0) (swept-sort (following (i ∷ s) (j ∷ s)) (j ∷ s) was.0) in
            low-stands k b (low_at k x (j ∷ s) e there) (rw (was.2) (same ∙ user))
        slot k x b false e true h = cc
        slot k x b false e false h = swept-slot (following (i ∷ s) (j ∷ s)) k x (k ∷ x) b h

        up : (k : ℕ) (x : Path) → nat_le k LAST_USER_SLOT ≡ false → (t : Bool) → same_path (k ∷ x) (j ∷ s) ≡ t → (r : Bool) →
            IsSome (if t then option_map (through (following (i ∷ s) (j ∷ s)) (j ∷ s)) (v.body (i ∷ s))
            else (if r then None else option_map (through (following (i ∷ s) (j ∷ s)) (k ∷ x)) (v.body (k ∷ x)))) → IsSome (w.body (k ∷ x))
        up k x far true e r h = let near = low_at k x (j ∷ s) e there in cc
        up k x far false e true h = cc
        up k x far false e false h = going.high k x far (is_some-map _ (v.body (k ∷ x)) h)

    change-going : (c : Change) → IsSafe v c → IsUsers w c → Going (apply c v)
    unfolding apply
    change-going (Alter y edit) safe users = altered y edit users
    change-going (Make y body) safe users = record { slots = made y body users.0 users.1; high = made_high y body users.0 }
    change-going (MakeSpace y holder) safe users = record {
      slots = made y (Space v.next holder) users.0 refl;
      high =
          made_high y (Space v.next holder) users.0;
    }
    change-going (Kill y) safe users = killed y
    change-going (Move [] j) safe users = absurd safe
    change-going (Move (i ∷ s) j) safe users = renamed i s j users.0 users.1
    change-going (PutPage space page words) safe users = record { slots = going.slots; high = going.high }
    change-going (DropPage space page) safe users = record { slots = going.slots; high = going.high }

  going-on : (cs : List Change) (v : World) → Going v → AreSafe v cs → AreUsers w cs → Going (apply_all cs v)
  unfolding apply_all
  going-on [] v going safe users = going
  going-on (c ∷ cs) v going safe users = going-on cs (apply c v) (change-going v going c safe.0 users.0) safe.1 users.1

  stepped-slots : (o : Outcome) → SafeOutcome w o → AreUsers w (listed o) → KeepsSlots (stepped w o).world
  stepped-slots (Goes cs said) safe users = (going-on cs w (record { slots = kept; high = λ k x far there. there }) safe.safe users).slots
  stepped-slots (Refused status) safe users = kept
  stepped-slots Waits safe users = kept

pub users_keep_slots : UsersKeepSlots
unfolding step
users_keep_slots w e valid few fit is kept = stepped-slots w kept (outcome w e.mover e.pick e.ask)
    (outcome-safe w e.mover e.pick e.ask (facts_of w valid few) fit) (users_name_low w e.mover e.pick e.ask valid.rooted is)
