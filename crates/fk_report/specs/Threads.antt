-- The user threads of a world, in the order of their paths.
use Rattle.std.specs.Prelude.{◌≡◌, ℕ, Bool, true, false, IsTrue, List, Contains, All, reverse, Option, Some, None, Vec}
use Rattle.std.specs.List.{AllByRecursion}
use Rattle.std.specs.declared.alloc.Global.{Global}
use Rattle.std.specs.Cmp.Lexicographic.{slice_cmp}
use Rattle.std.specs.List.Sorted.{IsStrictlySortedBy}
use Rattle.std.specs.Ordering.{is_le, nat_cmp}
use Rattle.std.specs.declared.cmp.Ordering.{Ordering}
use Rattle.fk_model.specs.declared.thread.Mode.{Mode as CodeMode}
use Rattle.fk_model.specs.declared.thread.Mode.TheVariants as modes
use Rattle.fk_model.specs.Places.{Path}
use Rattle.fk_model.specs.Objects.{Mode, Thread, thread_of, and_then}
use Rattle.fk_model.specs.Objects.Mode.{Running, Calling, Halted, Native}
use Rattle.fk_model.specs.World.{World}
use Rattle.fk_report.specs.declared.threads.ThreadState.{ThreadState}

-- a user thread at a path: what it is about. A porter's is none
abbrev pub state_in : Path → Mode → Option ThreadState
state_in x (Running registers) = Some (record { path = x; mode = modes.Running })
state_in x (Calling todo rest) = Some (record { path = x; mode = modes.Calling })
state_in x (Halted registers code) = Some (record { path = x; mode = modes.Halted code })
state_in x (Native registers) = None

-- the user thread that stands at a path
abbrev pub state_at : World → Path → Option ThreadState
state_at w x = and_then (λ (t : Thread). state_in x t.mode) (and_then thread_of (w.body x))

-- paths in order, slot by slot from the root down
abbrev pub by_path : ThreadState → ThreadState → Ordering
by_path a b = slice_cmp nat_cmp (reverse a.path) (reverse b.path)

-- each user thread once, in the order of their paths
pub record AreThreads (w : World) (threads : List ThreadState) : Type 0 where
  pub each : All (λ (t : ThreadState). state_at w t.path ≡ Some t) threads
  pub whole : (x : Path) (t : ThreadState) → state_at w x ≡ Some t → Contains threads t
  pub ordered : IsStrictlySortedBy by_path threads

-- ---- whether they have halted

abbrev pub is_halted : CodeMode → Bool
is_halted (modes.Halted code) = true
is_halted other = false

-- a thread in this mode has halted, or is no user
abbrev pub is_over : CodeMode → Bool
is_over modes.Running = false
is_over modes.Calling = false
is_over (modes.Halted code) = true
is_over modes.Native = true

-- the user thread at a path has halted, if one is there
abbrev pub HasHalted : World → Path → Type 0
HasHalted w x = (t : ThreadState) → state_at w x ≡ Some t → is_halted t.mode ≡ true

-- every user thread has halted
abbrev pub HaveHalted : World → Type 0
HaveHalted w = (x : Path) → HasHalted w x

-- ---- while they are gathered

-- a path from the root down, and their order
abbrev pub Slots : Type 0
Slots = Vec ℕ Global

abbrev pub by_slots : Slots → Slots → Ordering
by_slots a b = slice_cmp nat_cmp a.items b.items

-- a user thread is kept under its path from the root down
abbrev pub IsKept : World → Slots × ThreadState → Type 0
IsKept w kept = (kept.0.items ≡ reverse kept.1.path) × (state_at w kept.1.path ≡ Some kept.1)

abbrev pub AreKept : World → List (Slots × ThreadState) → Type 0
AreKept w kept = All (IsKept w) kept

-- user threads in the order of their paths, and the path from the root down past which none of them is
pub record IsLine (w : World) (threads : List ThreadState) (farthest : List ℕ) : Type 0 where
  pub each : All (λ (t : ThreadState). state_at w t.path ≡ Some t) threads
  pub ordered : IsStrictlySortedBy by_path threads
  pub none_past : AllByRecursion (λ (t : ThreadState). IsTrue (is_le (slice_cmp nat_cmp (reverse t.path) farthest))) threads
