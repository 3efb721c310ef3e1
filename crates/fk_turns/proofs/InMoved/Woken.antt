-- Woken: a signal leaves the reasons of all but who makes it and who is woken.
use Rattle.std.proofs.Common.{◌≡◌, ℕ, Bool, true, false, not, List, [], ◌∷◌, Option, Some, None, IsSome, refl, sym, ap, subst, ◌∙◌}
use Rattle.fk_model.specs.declared.moves.Ask.TheVariants as asks
use Rattle.fk_model.specs.declared.names.Who.{Who}
use Rattle.fk_model.specs.declared.stage.Stage.{Stage}
use Rattle.fk_model.specs.declared.stage.Stage.TheVariants.{CondAsleep, CondSignal}
use Rattle.fk_model.specs.Holds.{is_porter}
use Rattle.fk_model.specs.Moves.{outcome, step}
use Rattle.fk_model.specs.Objects.{Thread, holds}
use Rattle.fk_model.specs.Outcomes.{listed}
use Rattle.fk_model.specs.Places.{Path, same_path}
use Rattle.fk_model.specs.Searches.{thread_at}
use Rattle.fk_model.specs.World.{Change, World}
use Rattle.fk_model.proofs.walks.PlaceLaws.{same_path_eq}
use Rattle.fk_plans.specs.declared.wakes.touching.Touched.TheVariants.{Few}
use Rattle.fk_plans.specs.Wakes.Touches.{leave}
use Rattle.fk_store.specs.Store.Contents.{Contents}
use Rattle.fk_store.specs.Store.Paths.{path}
use Rattle.fk_store.specs.Store.Threads.{todo_at}
use Rattle.fk_store.specs.Store.World.{world, place_of}
use Rattle.fk_turns.specs.declared.whys.whys.Why.{Why}
use Rattle.fk_turns.specs.declared.whys.whys.Why.TheVariants as whys
use Rattle.fk_turns.specs.Moved.Kept.{is_user_at}
use Rattle.fk_turns.specs.Moved.Told.{IsMadeTo, IsStored}
use Rattle.fk_turns.specs.Next.Signals.{HasSignal}
use Rattle.fk_turns.specs.Steps.Beside.{IsMildBeside}
use Rattle.fk_turns.specs.Whys.Whys.{IsAt, IsLoudly, IsStill, IsWhy}
use Rattle.fk_turns.proofs.InMoved.Mildly.{at_one, user_thread, IsAtOne}
use Rattle.fk_turns.proofs.InMoved.Told.{same_name, stays, taken_off, user_there}
use Rattle.fk_turns.proofs.InWhys.Apart.{key_there}
use Rattle.fk_turns.proofs.InWhys.Woken.{why_beside}
use Rattle.fk_waits.proofs.InCauses.Numbers.{clash}
use Rattle.fk_waits.specs.Causes.Names.{is_same}

-- a thread at a stage is a user's
pub user_at_stage : (m : Contents) (who : Who) (stage : Stage) → todo_at (world m) (place_of m who) ≡ stage ∷ [] → is_user_at m who ≡ true
user_at_stage m who stage alone = let its = at_one (world m) (place_of m who) stage alone in rw (its.there, its.mode) refl

module _ (m n : Contents) (mover other : Who) (old : IsStored m) (new : IsStored n)
    (made : IsMadeTo m n mover (Some (place_of m other)) asks.Run) (row : HasSignal m mover other) where
  abbrev pick : Option Path
  pick = Some (place_of m other)

  abbrev changes : List Change
  changes = listed (outcome (world m) (place_of m mover) pick asks.Run)

  -- nothing is taken from its place
  leaves : leave (path m) (Few None None None) changes ≡ true
  leaves = ap (leave (path m) (Few None None None)) row.changes

  -- a name of what is there leads where it led
  leads : (who : Who) → IsSome ((world m).body (place_of m who)) → place_of n who ≡ place_of m who
  leads who live =
      stays m n mover pick asks.Run old new made who live
      (taken_off m n mover pick asks.Run old new made (Few None None None) leaves who refl live)

  signaller : IsAtOne (world m) (place_of m mover) (CondSignal row.cond)
  signaller = at_one (world m) (place_of m mover) (CondSignal row.cond) row.alone

  sleeper : IsAtOne (world m) (place_of m other) (CondAsleep row.asleep.0 row.mutex)
  sleeper = at_one (world m) (place_of m other) (CondAsleep row.asleep.0 row.mutex) row.asleep.1

  far : same_path (place_of m mover) (place_of m other) ≡ false
  far = by (same_path (place_of m mover) (place_of m other)) refl
    where
      by : (b : Bool) → same_path (place_of m mover) (place_of m other) ≡ b → same_path (place_of m mover) (place_of m other) ≡ false
      by false e = e
      by true e =
          let same : CondSignal row.cond ∷ [] ≡ CondAsleep row.asleep.0 row.mutex ∷ [] =
          sym row.alone ∙ ap (todo_at (world m)) (same_path_eq (place_of m mover) (place_of m other) e) ∙ row.asleep.1 in
          absurd (cc)

  other_place : (a b : Who) → is_same b a ≡ false → IsSome ((world m).body (place_of m a)) → same_path (place_of m a) (place_of m b) ≡ false
  other_place a b off there = by (same_path (place_of m a) (place_of m b)) refl
    where
      by : (t : Bool) → same_path (place_of m a) (place_of m b) ≡ t → same_path (place_of m a) (place_of m b) ≡ false
      by false e = e
      by true e = clash (is_same b a) (same_name m old a b there e) off

  left : (who : Who) (why : Why) → is_same mover who ≡ false → is_same other who ≡ false → is_user_at m who ≡ true → (why ≡ whys.Barred → ⊥) →
      IsWhy (world m) (path m) (place_of m who) why → IsWhy (world n) (path n) (place_of n who) why
  left who why off off_other user some is = by why some is
      (why_beside (world m) (place_of m mover) (place_of m other) row.cond row.asleep.0 row.mutex signaller.thread sleeper.thread signaller.rest sleeper.rest
      signaller.there signaller.mode sleeper.there sleeper.mode far (place_of m who) (other_place who mover off there)
      (other_place who other off_other there) pick asks.Run row.changes (path m) why some is)
    where
      there : IsSome ((world m).body (place_of m who))
      there = user_there (world m) (place_of m who) user

      by : (why : Why) → (why ≡ whys.Barred → ⊥) → IsWhy (world m) (path m) (place_of m who) why →
          IsWhy (step (world m) (place_of m mover) pick asks.Run).world (path m) (place_of m who) why → IsWhy (world n) (path n) (place_of n who) why
      by whys.Still some was now =
          subst (λ (x : Path). IsStill (world n) x) (sym (leads who there)) (subst (λ (u : World). IsStill u (place_of m who)) (sym made.step) now)
      by (whys.At key) some was now =
          let its = key_there (world m) (place_of m who) (place_of m key) was in
          subst (λ (x : Path). IsAt (world n) (place_of n who) x) (sym (leads key its))
          (subst (λ (x : Path). IsAt (world n) x (place_of m key)) (sym (leads who there))
          (subst (λ (u : World). IsAt u (place_of m who) (place_of m key)) (sym made.step) now))
      by whys.Loud some was now =
          subst (λ (x : Path). IsLoudly (world n) x) (sym (leads who there)) (subst (λ (u : World). IsLoudly u (place_of m who)) (sym made.step) now)
      by whys.Barred some was now = absurd (some refl)

  pub mild_beside : IsMildBeside m n mover other
  mild_beside = record { mild = left }
