-- Quiet: an instruction after which a thread runs on, or is at a stage at which no other reaches it, leaves the reasons of all others.
use Rattle.std.proofs.Common.{◌≡◌, ◌&&◌, Bool, true, false, is_none, Option, Some, None, IsSome, refl, sym, ap, subst, ◌∙◌}
use Rattle.fk_model.specs.declared.moves.Ask.TheVariants as asks
use Rattle.fk_model.specs.declared.names.Who.{Who}
use Rattle.fk_model.specs.Moves.{outcome, step}
use Rattle.fk_model.specs.Objects.{Body, Mode, Thread, holds}
use Rattle.fk_model.specs.Objects.Mode.{Calling, Halted, Native, Running}
use Rattle.fk_model.specs.Outcomes.{listed}
use Rattle.fk_model.specs.Places.{Path, same_path}
use Rattle.fk_model.specs.Searches.{thread_at}
use Rattle.fk_model.specs.World.{World}
use Rattle.fk_store.specs.Store.Contents.{Contents}
use Rattle.fk_store.specs.Store.Paths.{path}
use Rattle.fk_store.specs.Store.World.{world, place_of}
use Rattle.fk_turns.specs.Moved.Kept.{is_user_at}
use Rattle.fk_waits.proofs.InCauses.Numbers.{clash}
use Rattle.fk_waits.specs.Causes.Names.{is_same}
use Rattle.fk_plans.specs.declared.wakes.touching.Touched.TheVariants.{Few}
use Rattle.fk_turns.specs.declared.whys.whys.Why.{Why}
use Rattle.fk_turns.specs.declared.whys.whys.Why.TheVariants as whys
use Rattle.fk_turns.specs.Whys.Whys.{IsAt, IsLoudly, IsStill, IsWhy}
use Rattle.fk_turns.proofs.InWhys.Apart.{is_barred_why, key_there, why_calm}
use Rattle.fk_turns.proofs.InWhys.Calmly.{instructions_calm, is_on}
use Rattle.laws_waits.specs.Calm.{AreCalm}
use Rattle.fk_turns.specs.Moved.Told.{goes_quietly_at, is_going, EntersQuietly, IsMadeTo, IsRunning, IsStored, IsToldOf, ToldQuiet}
use Rattle.fk_turns.proofs.InMoved.Told.{same_name, stays, taken_off, user_there}

running_there : (w : World) (x : Path) (t : Thread) → thread_at w x ≡ Some t → IsSome (w.body x)
running_there w x t is = by (w.body x) refl is
  where
    by : (o : Option Body) → w.body x ≡ o → thread_at w x ≡ Some t → IsSome (w.body x)
    by (Some b) e is = rw e refl
    by None e is = let off = rw e at is in absurd (cc)

on_by : (t : Thread) → (is_going t.mode && is_none t.fault) ≡ true → is_on t ≡ true
on_by t is = by t.mode refl is
  where
    by : (m : Mode) → t.mode ≡ m → (is_going t.mode && is_none t.fault) ≡ true → is_on t ≡ true
    by (Running g) e h = rw e (rw e at h)
    by (Calling todo rest) e h = let off : false ≡ true = rw e at h in absurd (cc)
    by (Halted g code) e h = let off : false ≡ true = rw e at h in absurd (cc)
    by (Native g) e h = let off : false ≡ true = rw e at h in absurd (cc)

pub on_of : (o : Option Thread) → holds (λ (t : Thread). is_going t.mode && is_none t.fault) o ≡ true → holds is_on o ≡ true
on_of None is = absurd (cc)
on_of (Some t) is = on_by t is

not_barred : (why : Why) → (why ≡ whys.Barred → ⊥) → is_barred_why why ≡ false
not_barred whys.Still some = refl
not_barred (whys.At key) some = refl
not_barred whys.Loud some = refl
not_barred whys.Barred some = absurd (some refl)

module _ (m n : Contents) (mover : Who) (pick : Option Path) (old : IsStored m) (new : IsStored n) (made : IsMadeTo m n mover pick asks.Run)
    (told : IsToldOf m mover pick asks.Run (Few None None None)) (running : IsRunning m mover) (on : goes_quietly_at n mover ≡ true) where
  -- a name of what is there leads where it led
  leads : (who : Who) → IsSome ((world m).body (place_of m who)) → place_of n who ≡ place_of m who
  leads who live =
      stays m n mover pick asks.Run old new made who live
      (taken_off m n mover pick asks.Run old new made (Few None None None) told.leaves who refl live)

  live : IsSome ((world m).body (place_of m mover))
  live = running_there (world m) (place_of m mover) running.thread running.there

  after : holds is_on (thread_at (step (world m) (place_of m mover) pick asks.Run).world (place_of m mover)) ≡ true
  after =
      ap (λ (u : World). holds is_on (thread_at u (place_of m mover))) (sym made.step) ∙ ap (λ (x : Path). holds is_on (thread_at (world n) x)) (sym (leads mover live))
      ∙ on

  calm : AreCalm (world m) (place_of m mover) (listed (outcome (world m) (place_of m mover) pick asks.Run))
  calm = instructions_calm (world m) mover.slot (path m mover.space) pick running.thread running.registers running.there running.mode after

  other_place : (who : Who) → is_same mover who ≡ false → IsSome ((world m).body (place_of m who)) → same_path (place_of m who) (place_of m mover) ≡ false
  other_place who off there = by (same_path (place_of m who) (place_of m mover)) refl
    where
      by : (b : Bool) → same_path (place_of m who) (place_of m mover) ≡ b → same_path (place_of m who) (place_of m mover) ≡ false
      by false e = e
      by true e = clash (is_same mover who) (same_name m old who mover there e) off

  left : (who : Who) (why : Why) → is_same mover who ≡ false → is_user_at m who ≡ true → (why ≡ whys.Barred → ⊥) →
      IsWhy (world m) (path m) (place_of m who) why → IsWhy (world n) (path n) (place_of n who) why
  left who why off user some is = by why some is (why_calm (world m) (place_of m mover) running.thread running.registers running.there running.mode
      (place_of m who) (other_place who off there) pick asks.Run calm (path m) why (not_barred why some) is)
    where
      there : IsSome ((world m).body (place_of m who))
      there = user_there (world m) (place_of m who) user

      by : (why : Why) → (why ≡ whys.Barred → ⊥) → IsWhy (world m) (path m) (place_of m who) why →
          IsWhy (step (world m) (place_of m mover) pick asks.Run).world (path m) (place_of m who) why → IsWhy (world n) (path n) (place_of n who) why
      by whys.Still none was now =
          subst (λ (x : Path). IsStill (world n) x) (sym (leads who there)) (subst (λ (u : World). IsStill u (place_of m who)) (sym made.step) now)
      by (whys.At key) none was now =
          let its = key_there (world m) (place_of m who) (place_of m key) was in
          subst (λ (x : Path). IsAt (world n) (place_of n who) x) (sym (leads key its))
          (subst (λ (x : Path). IsAt (world n) x (place_of m key)) (sym (leads who there))
          (subst (λ (u : World). IsAt u (place_of m who) (place_of m key)) (sym made.step) now))
      by whys.Loud none was now =
          subst (λ (x : Path). IsLoudly (world n) x) (sym (leads who there)) (subst (λ (u : World). IsLoudly u (place_of m who)) (sym made.step) now)
      by whys.Barred none was now = absurd (none refl)

pub enters_quietly : EntersQuietly
enters_quietly m n mover pick old new made told running on =
    record { quiet = λ who why off user some is. left m n mover pick old new made told running on who why off user some is }

pub told_quiet : ToldQuiet
told_quiet m n mover pick old new made told running on =
    enters_quietly m n mover pick old new made told running (on_of (thread_at (world n) (place_of n mover)) on)
