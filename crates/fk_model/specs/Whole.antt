-- What a world keeps while a machine runs: what every law of subtrees supposes, and what saving one needs besides.
use Rattle.std.specs.Prelude.{◌≡◌, ℕ, ◌^◌, ◌<◌, ◌≤◌, Bool, true, false, not, ◌&&◌, ◌||◌, ◌==◌, nat_le, nat_lt, IsSome, is_some, List, ◌∷◌, length, Some}
use Rattle.std.specs.Prelude.{if◌then◌else◌}
use Rattle.std.specs.List.{list_all}
use Rattle.fk_model.specs.declared.limits.TheConstants.{LAST_USER_SLOT, LAST_SCRATCH_SLOT, LAST_PORTER_SLOT, MOST_STOPS, MOST_MOVED, PAGES, PAGE_WORDS}
use Rattle.fk_model.specs.Places.{Path, parent, is_within, Ptr, leads_to}
use Rattle.fk_model.specs.Places.Ptr.{At}
use Rattle.fk_model.specs.Objects.{Peer, Talk, Fault, Thread, Body, registers_of, thread_of, reference_of, and_then, holds}
use Rattle.fk_model.specs.Objects.Peer.{Server, Service, Parked}
use Rattle.fk_model.specs.World.{World}
use Rattle.fk_model.specs.Searches.{depth, talk_at, fault_at}
use Rattle.fk_model.specs.Holds.{holder_of}
use Rattle.fk_model.specs.Shapes.{IsShapedMode, IsCodeInRange}
use Rattle.fk_model.specs.StateRows.{is_native}
use Rattle.fk_model.specs.Valid.{IsValid, birth_at, is_served_port}

-- a port whose space has a porter
abbrev pub is_nester_port : World → Ptr → Bool
is_nester_port w (At x) = holds is_native (w.body (LAST_PORTER_SLOT ∷ parent x))
is_nester_port w other = false

-- a parked peer waits at a port of a nester's space, a native one serves a served port
abbrev pub is_placed : World → Ptr → Peer → Bool
is_placed w port (Server thread) = true
is_placed w port Service = is_served_port w port
is_placed w port Parked = is_nester_port w port

-- porters stand in the last slot of a space, their scratch references in the slots before it, and nothing else there
abbrev pub stands_in : ℕ → Body → Bool
stands_in k b =
    if nat_le k LAST_USER_SLOT then not (is_native b)
    else (if nat_le k LAST_SCRATCH_SLOT then is_some (reference_of b) else k == LAST_PORTER_SLOT && is_native b)

abbrev pub is_scratch_slot : ℕ → Bool
is_scratch_slot k = not (nat_le k LAST_USER_SLOT) && nat_le k LAST_SCRATCH_SLOT

-- a space in which a porter has scratch: its own, or one in a slot of its own that it holds
abbrev pub is_porters : World → Path → Bool
is_porters w s = holds is_native (w.body (LAST_PORTER_SLOT ∷ s)) || holds (leads_to (LAST_PORTER_SLOT ∷ parent s)) (holder_of (w.body s))

-- ---- numbers

abbrev pub is_word : ℕ → Bool
is_word n = nat_lt n (2 ^ 64)

-- numbers below 2^64
abbrev pub are_words : List ℕ → Bool
are_words words = list_all is_word words

-- numbers are such as an image holds: registers, counters and words of pages below 2^64, at most 65,535 words moved in a turn, and faults
-- on pages that a space has
pub record HasNumbers (w : World) : Type 0 where
  pub registers : (x : Path) (t : Thread) → and_then thread_of (w.body x) ≡ Some t → are_words (registers_of t.mode) ≡ true
  pub counters : (x : Path) (t : Thread) → and_then thread_of (w.body x) ≡ Some t → is_word t.counter ≡ true
  pub moved : (x : Path) (talk : Talk) → talk_at w x ≡ Some talk → talk.moved ≤ MOST_MOVED
  pub missing : (x : Path) (fault : Fault) → fault_at w x ≡ Some fault → fault.page < PAGES
  pub pages : (s : Path) (page : ℕ) (words : List ℕ) → w.page s page ≡ Some words → are_words words ≡ true

-- every page has all its words
abbrev pub HasFullPages : World → Type 0
HasFullPages w = (s : Path) (page : ℕ) (words : List ℕ) → w.page s page ≡ Some words → length words ≡ PAGE_WORDS

-- valid, with birth numbers below 2^32 and full pages: what the law of the cut supposes, and every proper move keeps
pub record IsWhole (w : World) : Type 0 where
  pub valid : IsValid w
  pub few : w.next ≤ depth
  pub full : HasFullPages w

-- a space is younger than the one in which it lies
abbrev pub IsYounger : World → Type 0
IsYounger w = (k : ℕ) (x : Path) (birth above : ℕ) → birth_at w (k ∷ x) ≡ Some birth → birth_at w x ≡ Some above → above < birth

-- porters stand in last slots alone, references alone in those of scratch, and no porter elsewhere
abbrev pub KeepsSlots : World → Type 0
KeepsSlots w = (k : ℕ) (x : Path) (b : Body) → w.body (k ∷ x) ≡ Some b → stands_in k b ≡ true

-- what a subtree needs besides, so that it can be saved, and made again from what was saved
pub record IsSavable (w : World) : Type 0 where
  pub younger : IsYounger w
  -- a thread is in a call that there is, and its numbers are in range
  pub shaped : (x : Path) (t : Thread) → and_then thread_of (w.body x) ≡ Some t → IsShapedMode t.mode
  pub few_stops : (x : Path) (t : Thread) → and_then thread_of (w.body x) ≡ Some t → t.stops ≤ MOST_STOPS
  pub codes : (x : Path) (t : Thread) → and_then thread_of (w.body x) ≡ Some t → IsCodeInRange t.mode
  -- nobody holds the space in or beneath which it lives
  pub holders_outside : (x y : Path) → holder_of (w.body x) ≡ Some (At y) → is_within x y ≡ false
  -- who waits to be taken up waits at a nester's port, and a native server serves at its own
  pub talks_placed : (x : Path) (talk : Talk) → talk_at w x ≡ Some talk → is_placed w talk.port talk.peer ≡ true
  pub faults_placed : (x : Path) (fault : Fault) (taker : Peer) → fault_at w x ≡ Some fault → fault.taker ≡ Some taker → is_placed w fault.port taker ≡ true
  -- slots above 239 are for porters and their scratch
  pub slots_kept : KeepsSlots w
  pub scratch_kept : (k : ℕ) (x : Path) → is_scratch_slot k ≡ true → IsSome (w.body (k ∷ x)) → is_porters w x ≡ true
  -- and an image has room for each number
  pub numbers : HasNumbers w
