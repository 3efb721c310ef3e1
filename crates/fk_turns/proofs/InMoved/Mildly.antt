-- Mildly: a stage that sets a mutex leaves the reasons of all others, but of those who wait for a mutex that it unlocks.
use Rattle.std.proofs.Common.{◌≡◌, ℕ, Bool, true, false, not, List, [], ◌∷◌, Option, Some, None, IsSome, refl, sym, ap, subst, ◌∙◌, inl, inr}
use Rattle.fk_calls.specs.declared.calls.going.What.{What}
use Rattle.fk_calls.specs.declared.calls.going.What.TheVariants as whats
use Rattle.fk_model.specs.declared.moves.Ask.TheVariants as asks
use Rattle.fk_model.specs.declared.names.Who.{Who}
use Rattle.fk_model.specs.declared.stage.Stage.{Stage}
use Rattle.fk_model.specs.Holds.{is_porter}
use Rattle.fk_model.specs.Moves.{outcome, step}
use Rattle.fk_model.specs.Objects.{Mode, Thread, holds}
use Rattle.fk_model.specs.Objects.Mode.{Calling, Halted, Native, Running}
use Rattle.fk_model.specs.Outcomes.{listed}
use Rattle.fk_model.specs.Places.{Path, same_path}
use Rattle.fk_model.specs.Searches.{thread_at}
use Rattle.fk_model.specs.World.{Change, World}
use Rattle.fk_plans.specs.declared.wakes.touching.Touched.TheVariants.{Few}
use Rattle.fk_plans.specs.Wakes.Touches.{leave}
use Rattle.fk_store.specs.Store.Contents.{Contents}
use Rattle.fk_store.specs.Store.Paths.{path}
use Rattle.fk_store.specs.Store.Threads.{todo_at, todo_of_mode, todo_of_thread}
use Rattle.fk_store.specs.Store.World.{world, place_of}
use Rattle.fk_turns.specs.declared.whys.whys.Why.{Why}
use Rattle.fk_turns.specs.declared.whys.whys.Why.TheVariants as whys
use Rattle.fk_turns.specs.Moved.Kept.{is_user_at}
use Rattle.fk_turns.specs.Moved.Told.{IsMadeTo, IsStored}
use Rattle.fk_turns.specs.Next.Goings.{locks_by, mutex_by, own_by, was_locked, HasRow}
use Rattle.fk_turns.specs.Steps.Classes.{IsMildTo, IsSpared}
use Rattle.fk_turns.specs.Whys.Whys.{IsAt, IsLoudly, IsStill, IsWhy}
use Rattle.fk_turns.proofs.InMoved.Told.{same_name, stays, taken_off, user_there}
use Rattle.fk_turns.proofs.InWhys.Apart.{key_there}
use Rattle.fk_turns.proofs.InWhys.Mildly.{mutex_lone, why_mild, IsSparedAt}
use Rattle.fk_waits.proofs.InCauses.Numbers.{clash}
use Rattle.fk_waits.specs.Causes.Names.{is_same}
use Rattle.laws_waits.specs.Touching.{is_loud, IsThreadEdit}

-- a thread whose call has one stage
pub record IsAtOne (w : World) (x : Path) (stage : Stage) : Type 0 where
  pub thread : Thread
  pub rest : List ℕ
  pub there : thread_at w x ≡ Some thread
  pub mode : thread.mode ≡ Calling (stage ∷ []) rest

pub at_one : (w : World) (x : Path) (stage : Stage) → todo_at w x ≡ stage ∷ [] → IsAtOne w x stage
unfolding todo_at
at_one w x stage is = by (thread_at w x) refl is
  where
    by_mode : (t : Thread) (m : Mode) → thread_at w x ≡ Some t → t.mode ≡ m → todo_of_mode m ≡ stage ∷ [] → IsAtOne w x stage
    by_mode t (Calling todo rest) there e h = record { thread = t; rest = rest; there = there; mode = e ∙ ap (λ (l : List Stage). Calling l rest) h }
    by_mode t (Running g) there e h = absurd (cc)
    by_mode t (Halted g code) there e h = absurd (cc)
    by_mode t (Native g) there e h = absurd (cc)

    by : (o : Option Thread) → thread_at w x ≡ o → todo_of_thread o ≡ stage ∷ [] → IsAtOne w x stage
    by None there h = absurd (cc)
    by (Some t) there h = by_mode t t.mode there refl h

-- a user's thread
pub user_thread : (o : Option Thread) → holds (λ (t : Thread). not (is_porter t.mode)) o ≡ true → (t : Thread) × (o ≡ Some t)
user_thread None is = absurd (cc)
user_thread (Some t) is = (t, refl)

module _ (m n : Contents) (mover : Who) (what : What) (old : IsStored m) (new : IsStored n) (made : IsMadeTo m n mover None asks.Run)
    (row : HasRow m mover what) where
  abbrev changes : List Change
  changes = listed (outcome (world m) (place_of m mover) None asks.Run)

  -- nothing is taken from its place
  leaves : leave (path m) (Few None None None) changes ≡ true
  leaves = ap (leave (path m) (Few None None None)) row.changes

  -- a name of what is there leads where it led
  leads : (who : Who) → IsSome ((world m).body (place_of m who)) → place_of n who ≡ place_of m who
  leads who live =
      stays m n mover None asks.Run old new made who live
      (taken_off m n mover None asks.Run old new made (Few None None None) leaves who refl live)

  setter : IsAtOne (world m) (place_of m mover) row.begins.stage
  setter = at_one (world m) (place_of m mover) row.begins.stage row.begins.alone

  -- what becomes of the setter is nothing that others wait for
  quiet_own : (what : What) → is_loud (own_by what) setter.thread ≡ false
  quiet_own (whats.Locks mutex) = rw setter.mode refl
  quiet_own (whats.Unlocks mutex) = rw setter.mode refl
  quiet_own (whats.Sleeps cond mutex) = rw setter.mode refl

  plain_own : (what : What) → IsThreadEdit (own_by what)
  plain_own (whats.Locks mutex) = (refl, refl, refl)
  plain_own (whats.Unlocks mutex) = (refl, refl, refl)
  plain_own (whats.Sleeps cond mutex) = (refl, refl, refl)

  other_place : (a b : Who) → is_same b a ≡ false → IsSome ((world m).body (place_of m a)) → same_path (place_of m a) (place_of m b) ≡ false
  other_place a b off there = by (same_path (place_of m a) (place_of m b)) refl
    where
      by : (t : Bool) → same_path (place_of m a) (place_of m b) ≡ t → same_path (place_of m a) (place_of m b) ≡ false
      by false e = e
      by true e = clash (is_same b a) (same_name m old a b there e) off

  spared_at : (who : Who) (why : Why) → IsSpared what why → IsWhy (world m) (path m) (place_of m who) why →
      IsSparedAt (path m) (place_of m (mutex_by what)) (was_locked what) why
  spared_at who whys.Still spared is = tt
  spared_at who (whys.At key) (inl free) is = inl free
  spared_at who (whys.At key) (inr far) is = inr (other_place key (mutex_by what) far (key_there (world m) (place_of m who) (place_of m key) is))
  spared_at who whys.Loud spared is = tt
  spared_at who whys.Barred spared is = absurd spared

  left : (who : Who) (why : Why) → is_same mover who ≡ false → is_user_at m who ≡ true → IsSpared what why →
      IsWhy (world m) (path m) (place_of m who) why → IsWhy (world n) (path n) (place_of n who) why
  left who why off user spared is = by why spared is
      (why_mild (world m) (place_of m mover) (place_of m (mutex_by what)) (locks_by what) (was_locked what) setter.thread row.begins.stage setter.rest
      setter.there setter.mode row.begins.lock row.found (own_by what) (quiet_own what) (plain_own what) (place_of m who) here.0 here.1 (other_place who mover off there) None asks.Run row.changes
      (path m) why (spared_at who why spared is) is)
    where
      there : IsSome ((world m).body (place_of m who))
      there = user_there (world m) (place_of m who) user

      here : (t : Thread) × (thread_at (world m) (place_of m who) ≡ Some t)
      here = user_thread (thread_at (world m) (place_of m who)) user

      by : (why : Why) → IsSpared what why → IsWhy (world m) (path m) (place_of m who) why →
          IsWhy (step (world m) (place_of m mover) None asks.Run).world (path m) (place_of m who) why → IsWhy (world n) (path n) (place_of n who) why
      by whys.Still spared was now =
          subst (λ (x : Path). IsStill (world n) x) (sym (leads who there)) (subst (λ (u : World). IsStill u (place_of m who)) (sym made.step) now)
      by (whys.At key) spared was now =
          let its = key_there (world m) (place_of m who) (place_of m key) was in
          subst (λ (x : Path). IsAt (world n) (place_of n who) x) (sym (leads key its))
          (subst (λ (x : Path). IsAt (world n) x (place_of m key)) (sym (leads who there))
          (subst (λ (u : World). IsAt u (place_of m who) (place_of m key)) (sym made.step) now))
      by whys.Loud spared was now =
          subst (λ (x : Path). IsLoudly (world n) x) (sym (leads who there)) (subst (λ (u : World). IsLoudly u (place_of m who)) (sym made.step) now)
      by whys.Barred spared was now = absurd spared

  -- the mutex is no user's thread
  pub lone_mutex : is_user_at m (mutex_by what) ≡ false
  lone_mutex = by (is_user_at m (mutex_by what)) refl
    where
      by : (b : Bool) → is_user_at m (mutex_by what) ≡ b → is_user_at m (mutex_by what) ≡ false
      by false e = e
      by true e =
          let thread = user_thread (thread_at (world m) (place_of m (mutex_by what))) e in
          absurd (mutex_lone ((world m).body (place_of m (mutex_by what))) (was_locked what) thread.0 row.found thread.1)

  pub mild_to : IsMildTo m n mover what
  mild_to = record { mild = left }
