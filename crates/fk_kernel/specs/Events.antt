-- Events: what is ready, and what it does.
use Rattle.std.specs.Prelude.{◌≡◌, ℕ, ◌∷◌, Bool, false, IsTrue, IsSome, Option, Some, None, ⊤}
use Rattle.std.specs.Ordering.{is_lt}
use Rattle.fk_model.specs.declared.moves.Ask.TheVariants as asks
use Rattle.fk_model.specs.declared.moves.Move.{Move}
use Rattle.fk_model.specs.declared.names.Who.{Who}
use Rattle.fk_model.specs.Moves.{Step, IsReady, step}
use Rattle.fk_model.specs.Places.{Path}
use Rattle.fk_model.specs.Runs.{Event}
use Rattle.fk_model.specs.Valid.{is_fit, kind_there}
use Rattle.fk_model.specs.Who.{event_of}
use Rattle.fk_model.specs.World.{World}
use Rattle.fk_turns.specs.Steps.Rows.{may_want_memory}
use Rattle.fk_store.specs.Store.Contents.{Contents}
use Rattle.fk_store.specs.Store.Names.{same_who, who_cmp}
use Rattle.fk_store.specs.Store.Orders.{comes_after}
use Rattle.fk_store.specs.Store.World.{world, place_of, IsLive}
pub use Rattle.fk_turns.specs.Next.Waiting.{IsMoveReady}

-- an event is ready in the machine
abbrev pub IsReadyEvent : World → Event → Type 0
IsReadyEvent w e = IsReady w e.mover e.pick e.ask

-- it is fit: a porter that makes a talk or a fault again gives words in range, and names a server that may serve
abbrev pub is_fit_event : World → Event → Bool
is_fit_event w e = is_fit w e.mover e.ask

-- the world after an event, and what it tells
abbrev pub step_of : World → Event → Step
step_of w e = step w e.mover e.pick e.ask

-- some user's move is ready
abbrev pub IsAnyReady : World → Type 0
IsAnyReady w = (x : Path) × (pick : Option Path) × IsReady w x pick asks.Run

-- an accept of the native server of a port is ready, whomever it picks
abbrev pub IsAcceptReady : World → Path → Type 0
IsAcceptReady w port = (pick : Option Path) × IsReady w port pick asks.Accept

-- a name is this one, if there is one
abbrev pub is_who : Option Who → Who → Bool
is_who None who = false
is_who (Some other) who = same_who who other

-- a user's move is ready, and it isn't this one's
abbrev pub IsReadyBesides : World → Option Who → Move → Type 0
IsReadyBesides w besides m = (is_who besides m.who ≡ false) × IsReadyEvent w (event_of w asks.Run m)

-- an event may want memory, for an object or a page
abbrev pub may_lack : World → Event → Bool
may_lack w e = may_want_memory w e.mover e.ask

-- ---- looking for a user that is ready

-- an object comes after another in the order of spaces and slots, where there is another
abbrev pub is_past : Who → Option Who → Bool
is_past who None = false
is_past who (Some last) = is_lt (who_cmp last who)

-- no user after an object, and up to another, is ready, but maybe one
abbrev pub IsIdleBetween : Contents → Option Who → Option Who → Option Who → Type 0
IsIdleBetween m after last besides = (other : Who) → IsLive m other → IsTrue (comes_after who_cmp after other) → is_past other last ≡ false →
    is_who besides other ≡ false → IsMoveReady (world m) (place_of m other) → ⊥

-- nor is any up to an object, where there is one
abbrev pub IsIdleUpTo : Contents → Option Who → Option Who → Type 0
IsIdleUpTo m None besides = ⊤
IsIdleUpTo m (Some last) besides = IsIdleBetween m None (Some last) besides

-- every object has a name
abbrev pub AreNamed : Contents → Type 0
AreNamed m = (k : ℕ) (s : Path) → IsSome (kind_there (world m) (k ∷ s)) → (other : Who) × (place_of m other ≡ k ∷ s)
