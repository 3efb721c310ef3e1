-- Beside: what a move leaves of where threads stand that changes one other thread.
use Rattle.std.specs.Prelude.{◌≡◌, true, false, [], Some, None}
use Rattle.fk_model.specs.declared.names.Who.{Who}
use Rattle.fk_plans.specs.declared.wakes.touching.Touched.TheVariants.{Few}
use Rattle.fk_store.specs.Store.Contents.{Contents}
use Rattle.fk_store.specs.Store.Paths.{path}
use Rattle.fk_store.specs.Store.World.{world, place_of}
use Rattle.fk_turns.specs.declared.whys.whys.Why.{Why}
use Rattle.fk_turns.specs.declared.whys.whys.Why.TheVariants as whys
use Rattle.fk_turns.specs.Moved.Kept.{is_user_at, AreKept}
use Rattle.fk_turns.specs.Moved.Moved.{IsMoved}
use Rattle.fk_turns.specs.Whys.Whys.{IsWhy}
use Rattle.fk_waits.specs.Causes.Names.{is_same}
use Rattle.fk_waits.specs.Waits.Lists.{is_queued, Lists}

-- it left the reasons of all others, but of whom any change may free
pub record IsMildBeside (m n : Contents) (mover other : Who) : Type 0 where
  pub mild : (who : Who) (why : Why) → is_same mover who ≡ false → is_same other who ≡ false → is_user_at m who ≡ true → (why ≡ whys.Barred → ⊥) →
      IsWhy (world m) (path m) (place_of m who) why → IsWhy (world n) (path n) (place_of n who) why

-- the lists were kept before a move of a thread that wasn't queued, which changed another
pub record ComesBeside (n : Contents) (mover other : Who) (waits marks : Lists) : Type 0 where
  pub before : Contents
  pub kept : AreKept before waits marks
  pub free : is_queued mover waits.queued ≡ false
  pub moved : IsMoved before n mover (Few (Some other) None None)
  -- which is a user's, before and after
  pub was : is_user_at before other ≡ true
  pub is : is_user_at n other ≡ true
  -- nobody is marked whom any change may free
  pub none : marks.ready ≡ []
  pub mild : IsMildBeside before n mover other
