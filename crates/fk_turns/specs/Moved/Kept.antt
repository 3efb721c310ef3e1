-- Kept: each user's thread stands once, and who is queued can't move.
use Rattle.std.specs.Prelude.{◌≡◌, Bool, true, false, not, ⊤}
use Rattle.fk_model.specs.declared.names.Who.{Who}
use Rattle.fk_model.specs.Holds.{is_porter}
use Rattle.fk_model.specs.Objects.{Thread, holds}
use Rattle.fk_model.specs.Searches.{thread_at}
use Rattle.fk_store.specs.Store.Contents.{Contents}
use Rattle.fk_store.specs.Store.Paths.{path}
use Rattle.fk_store.specs.Store.World.{world, place_of}
use Rattle.fk_waits.specs.Turns.Turns.{all_marks, free_cause, loud_cause, waits_at, IsSound}
use Rattle.fk_waits.specs.Waits.Lists.{is_in, is_queued, stands, Lists}
use Rattle.fk_waits.specs.Causes.Names.{is_same}
use Rattle.fk_turns.specs.declared.whys.whys.Why.{Why}
use Rattle.fk_turns.specs.declared.whys.whys.Why.TheVariants as whys
use Rattle.fk_turns.specs.Whys.Whys.{IsWhy}

-- a user's thread stands in a slot
abbrev pub is_user_at : Contents → Who → Bool
is_user_at m who = holds (λ (t : Thread). not (is_porter t.mode)) (thread_at (world m) (place_of m who))

-- whom one object may free is marked at it, or queued there, and whom any change may free is marked
abbrev pub IsFiledAs : Lists → Who → Why → Type 0
IsFiledAs marks who whys.Still = ⊤
IsFiledAs marks who (whys.At key) = (is_same free_cause key ≡ false) × (waits_at key who marks.queued ≡ true)
IsFiledAs marks who whys.Loud = waits_at loud_cause who marks.queued ≡ true
IsFiledAs marks who whys.Barred = is_in who marks.ready ≡ true

-- there is a reason why a thread can't move, and it is marked as that one wants it
pub record IsFiled (m : Contents) (marks : Lists) (who : Who) : Type 0 where
  pub why : Why
  pub stuck : IsWhy (world m) (path m) (place_of m who) why
  pub filed : IsFiledAs marks who why

-- exactly the users' threads stand in the lists, in order, and who is queued stands at what it waits for
pub record AreKept (m : Contents) (waits marks : Lists) : Type 0 where
  pub each : (who : Who) → stands who waits ≡ is_user_at m who
  pub sound : IsSound waits marks
  pub filed : (who : Who) → is_queued who waits.queued ≡ true → IsFiled m (all_marks waits marks) who
