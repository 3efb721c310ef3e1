-- Waiting: where a store's user threads stand, and whose move comes next.
use Rattle.std.specs.Prelude.{◌≡◌, true, List, [], ◌∷◌, ◌++◌, Option, ⊤}
use Rattle.fk_model.specs.declared.moves.Ask.TheVariants as asks
use Rattle.fk_model.specs.declared.names.Who.{Who}
use Rattle.fk_model.specs.Moves.{IsReady}
use Rattle.fk_model.specs.Places.{Path}
use Rattle.fk_model.specs.World.{World}
use Rattle.fk_store.specs.Store.Contents.{Contents}
use Rattle.fk_store.specs.Store.World.{world, place_of}
use Rattle.fk_turns.specs.Moved.Kept.{is_user_at, AreKept}
use Rattle.fk_turns.specs.Moved.Moved.{HasRoom, IsMoved}
use Rattle.fk_waits.specs.Waits.Lists.{is_queued, stands, Lists, StandOnce}
use Rattle.fk_plans.specs.declared.wakes.touching.Touched.{Touched}
use Rattle.fk_turns.specs.Whys.Causes.{cause_at}

-- a move of the user at a path is ready, whomever it picks
abbrev pub IsMoveReady : World → Path → Type 0
IsMoveReady w x = (pick : Option Path) × IsReady w x pick asks.Run

-- each user's thread stands once, and who is queued can't move
pub record AreWaiting (m : Contents) (waits : Lists) : Type 0 where
  pub each : (who : Who) → stands who waits ≡ is_user_at m who
  pub once : StandOnce waits
  pub unready : (who : Who) → is_queued who waits.queued ≡ true → IsMoveReady (world m) (place_of m who) → ⊥

-- who is ready and who is queued at what, in order
pub record Standing : Type 0 where
  pub ready : List Who
  pub queued : List (Who × Who)

-- who is ready, and who is queued at what
abbrev pub standing : Lists → Standing
standing waits = record { ready = waits.ready; queued = waits.queued }

-- ---- after a move

-- the lists were kept before a move that touched this, and there is room for what it makes
pub record ComesAfter (n : Contents) (mover : Who) (touched : Touched) (waits marks : Lists) : Type 0 where
  pub before : Contents
  pub kept : AreKept before waits marks
  pub moved : IsMoved before n mover touched
  pub room : HasRoom n mover touched waits marks

-- a thread stands last of the ready
pub record IsLastReady (s : Standing) (who : Who) : Type 0 where
  pub front : List Who
  pub ready : s.ready ≡ front ++ who ∷ []

-- a thread is queued last of all, at its cause
pub record IsLastQueued (m : Contents) (s : Standing) (who : Who) : Type 0 where
  pub front : List (Who × Who)
  pub cause : Who
  pub queued : s.queued ≡ front ++ (cause, who) ∷ []
  pub where_it_waits : place_of m cause ≡ cause_at (world m) (place_of m who)

-- who moved stands last of the ready where a move of it is ready, and else last of the queued
pub record IsPlaced (m : Contents) (s : Standing) (who : Who) : Type 0 where
  pub ready : IsMoveReady (world m) (place_of m who) → IsLastReady s who
  pub queued : (IsMoveReady (world m) (place_of m who) → ⊥) → IsLastQueued m s who

-- ---- whose move comes next

-- a thread of which no move is ready is queued at its cause
pub record IsParked (m : Contents) (who : Who) (entry : Who × Who) : Type 0 where
  pub is : entry.1 ≡ who
  pub where_it_waits : place_of m entry.0 ≡ cause_at (world m) (place_of m who)
  pub unready : IsMoveReady (world m) (place_of m who) → ⊥

-- so are these, in their order
abbrev pub AreParked : Contents → List Who → List (Who × Who) → Type 0
AreParked m [] [] = ⊤
AreParked m (who ∷ passed) (entry ∷ parked) = IsParked m who entry × AreParked m passed parked
AreParked m [] (entry ∷ parked) = ⊥
AreParked m (who ∷ passed) [] = ⊥

-- some that stood first of the ready are queued, and nothing else has changed
pub record ArePassed (m : Contents) (old new : Standing) : Type 0 where
  pub passed : List Who
  pub parked : List (Who × Who)
  pub ready : old.ready ≡ passed ++ new.ready
  pub queued : new.queued ≡ old.queued ++ parked
  pub parks : AreParked m passed parked

-- no move of a user is ready
abbrev pub IsIdle : Contents → Type 0
IsIdle m = (x : Path) (pick : Option Path) → IsReady (world m) x pick asks.Run → ⊥
