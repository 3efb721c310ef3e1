-- Classes: what a stage that is made by one look leaves of where threads stand.
use Rattle.std.specs.Prelude.{◌≡◌, ◌⊎◌, Bool, true, false, [], ⊤}
use Rattle.fk_calls.specs.declared.calls.going.What.{What}
use Rattle.fk_model.specs.declared.names.Who.{Who}
use Rattle.fk_store.specs.Store.Contents.{Contents}
use Rattle.fk_store.specs.Store.Paths.{path}
use Rattle.fk_store.specs.Store.World.{world, place_of}
use Rattle.fk_turns.specs.declared.steps.going.Gone.{Gone}
use Rattle.fk_turns.specs.declared.steps.going.Gone.TheVariants as gones
use Rattle.fk_turns.specs.declared.whys.whys.Why.{Why}
use Rattle.fk_turns.specs.declared.whys.whys.Why.TheVariants as whys
use Rattle.fk_turns.specs.Moved.Kept.{is_user_at, AreKept}
use Rattle.fk_turns.specs.Moved.Moved.{IsMoved}
use Rattle.fk_turns.specs.Next.Goings.{mutex_by, touched_by, was_locked}
use Rattle.fk_turns.specs.Whys.Whys.{IsWhy}
use Rattle.fk_waits.specs.Causes.Names.{is_same}
use Rattle.fk_waits.specs.Waits.Lists.{is_queued, Lists}

-- a move was made
abbrev pub is_made : Gone → Bool
is_made gones.Not = false
is_made gones.Waits = false
is_made gones.Made = true

-- what a stage did ends no such reason: only an unlock ends one, of those who wait for its mutex
abbrev pub IsSpared : What → Why → Type 0
IsSpared what whys.Still = ⊤
IsSpared what (whys.At key) = (was_locked what ≡ false) ⊎ (is_same (mutex_by what) key ≡ false)
IsSpared what whys.Loud = ⊤
IsSpared what whys.Barred = ⊥

-- a stage that did this left the reasons of all others, but of whom it may have freed
pub record IsMildTo (m n : Contents) (mover : Who) (what : What) : Type 0 where
  pub mild : (who : Who) (why : Why) → is_same mover who ≡ false → is_user_at m who ≡ true → IsSpared what why →
      IsWhy (world m) (path m) (place_of m who) why → IsWhy (world n) (path n) (place_of n who) why

-- the lists were kept before a stage that did this, made by a thread that wasn't queued
pub record ComesMildly (n : Contents) (mover : Who) (what : What) (waits marks : Lists) : Type 0 where
  pub before : Contents
  pub kept : AreKept before waits marks
  pub free : is_queued mover waits.queued ≡ false
  pub moved : IsMoved before n mover (touched_by what)
  pub lone : is_user_at before (mutex_by what) ≡ false
  -- nobody is marked whom any change may free
  pub none : marks.ready ≡ []
  pub mild : IsMildTo before n mover what
