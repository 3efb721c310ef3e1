-- Memory: pages given and taken, mappings and regions, and pages that are missing.
use Rattle.std.specs.Prelude.{ℕ, ◌+◌, false, true, Bool, List, [], ◌∷◌, ◌++◌, None}
use Rattle.std.specs.List.{flat_map}
use Rattle.fk_model.specs.declared.thread.Turn.TheVariants as turns
use Rattle.fk_model.specs.Places.{Path, Ptr}
use Rattle.fk_model.specs.Places.Ptr.{Null, At}
use Rattle.fk_model.specs.Objects.{Talk, Body}
use Rattle.fk_model.specs.Objects.Body.{Mapping, Region, Port, Space}
use Rattle.fk_model.specs.World.{World}
use Rattle.fk_model.specs.Runs.{run}
use Rattle.examples_moves.specs.Worked.{machine, world_of, page_with, numbered, numbers_from, running, calling, with_talk, with_fault, served_by, goes}
use Rattle.examples_moves.specs.Worked.{stores_at_r2}

-- ---- pages of /1: the pages 0, 1 and 2 are there, and each thread is in one call

-- a thread of /1, by its slot
abbrev pub thread : ℕ → Path
thread k = k ∷ 1 ∷ []

-- two give page 5, two take it; one gives page 256, one reads page 1, one gives a copy of it
unfoldable pub giving_and_taking : World
giving_and_taking = world_of
    ((1 ∷ [], Space 1 None)
    ∷ (thread 0, calling 0 (17 ∷ 256 ∷ 5 ∷ 0xffff_ffff_ffff_ffff ∷ [])) ∷ (thread 1, calling 0 (17 ∷ 256 ∷ 5 ∷ 0xffff_ffff_ffff_ffff ∷ []))
    ∷ (thread 2, calling 0 (18 ∷ 256 ∷ 5 ∷ 64 ∷ [])) ∷ (thread 3, calling 0 (18 ∷ 256 ∷ 5 ∷ 64 ∷ []))
    ∷ (thread 4, calling 0 (17 ∷ 256 ∷ 256 ∷ 0 ∷ []))
    ∷ (thread 5, calling 0 (19 ∷ 256 ∷ 1 ∷ 128 ∷ [])) ∷ (thread 6, calling 0 (17 ∷ 256 ∷ 7 ∷ 64 ∷ [])) ∷ [])
    (numbered (1 ∷ []) 1000 0 ∷ numbered (1 ∷ []) 1000 1 ∷ numbered (1 ∷ []) 1000 2 ∷ [])

-- the first thread gives page 5, the third takes it
unfoldable pub given_and_taken : World
given_and_taken = run giving_and_taking (goes (thread 0) ∷ goes (thread 2) ∷ [])

-- the pages 0 and 3 are there
unfoldable pub two_pages : World
two_pages = world_of
    ((1 ∷ [], Space 1 None) ∷ (thread 0, calling 0 (20 ∷ 256 ∷ 1 ∷ [])) ∷ (thread 1, calling 0 (20 ∷ 256 ∷ 4 ∷ [])) ∷ [])
    (numbered (1 ∷ []) 1000 0 ∷ numbered (1 ∷ []) 1000 3 ∷ [])

-- ---- spaces /1 to /18: each but the last maps page 3 to the region in slot 1 of the next, which covers page 3

-- a mapping of page 3 to a region
abbrev pub maps_3_to : Path → Body
maps_3_to region = Mapping (record { first = 3; count = 1; offset = 0; write = false; region = At region })

-- a region of page 3
abbrev pub covers_3 : Body
covers_3 = Region (record { first = 3; count = 1; write = false; keeper = Null })

-- a space with both
abbrev pub chain_link : ℕ → List (Path × Body)
chain_link k = (k ∷ [], Space k None) ∷ (0 ∷ k ∷ [], maps_3_to (1 ∷ (k + 1) ∷ [])) ∷ (1 ∷ k ∷ [], covers_3) ∷ []

-- the eighteen spaces
abbrev pub chain_of_18 : List (Path × Body)
chain_of_18 = flat_map chain_link (numbers_from 1 17) ++ ((18 ∷ [], Space 18 None) ∷ (1 ∷ 18 ∷ [], covers_3) ∷ [])

-- in /1 one thread loads the word at 192, and one sends it to a server of the root

-- load r1, r2, 192
abbrev pub loads_192 : List ℕ
loads_192 = 0x0d12_0000_0000_00c0 ∷ []

-- the thread that loads
abbrev pub loader : Path
loader = 2 ∷ 1 ∷ []

-- the thread that sends
abbrev pub sender : Path
sender = 3 ∷ 1 ∷ []

-- its talk
abbrev pub to_root : ℕ → Talk
to_root moved = served_by (20 ∷ []) (21 ∷ []) turns.Client moved

-- both threads, and the server
abbrev pub load_and_send : List (Path × Body)
load_and_send =
    (loader, running 0 []) ∷ (sender, with_talk (to_root 0) (calling 0 (37 ∷ 0 ∷ 192 ∷ 1 ∷ [])))
    ∷ (20 ∷ [], Port None false) ∷ (21 ∷ [], calling 0 (50 ∷ 0 ∷ 0 ∷ 0 ∷ 64 ∷ 9 ∷ [])) ∷ []

-- the page is in this space, and begins with 5
unfoldable pub chain_to : ℕ → World
chain_to k = world_of (load_and_send ++ chain_of_18) (page_with (1 ∷ []) 0 loads_192 ∷ numbered [] 2000 1 ∷ page_with (k ∷ []) 3 (5 ∷ []) ∷ [])

-- page 3 is mapped to itself
unfoldable pub loop : World
loop = world_of (load_and_send ++ ((1 ∷ [], Space 1 None) ∷ (0 ∷ 1 ∷ [], maps_3_to (1 ∷ 1 ∷ [])) ∷ (1 ∷ 1 ∷ [], covers_3) ∷ []))
    (page_with (1 ∷ []) 0 loads_192 ∷ numbered [] 2000 1 ∷ [])

-- ---- a window on pages 10 to 13 of /1, which leads to the pages of a region of /2 from its page 2 on

-- the region has so many pages from 20 on; the thread stores 7 at an address of /1
unfoldable pub window : ℕ → Bool → ℕ → World
window count write address = world_of
    ((1 ∷ [], Space 1 None) ∷ (2 ∷ [], Space 2 None) ∷ (thread 0, running 0 (0 ∷ 7 ∷ address ∷ []))
    ∷ (thread 4, Mapping (record { first = 10; count = 4; offset = 2; write = true; region = At (4 ∷ 2 ∷ []) }))
    ∷ (4 ∷ 2 ∷ [], Region (record { first = 20; count = count; write = write; keeper = Null })) ∷ [])
    (page_with (1 ∷ []) 0 stores_at_r2 ∷ numbered (2 ∷ []) 2000 24 ∷ numbered (2 ∷ []) 2000 25 ∷ [])

-- ---- a load from a page that is missing; a region covers it or doesn't, and its keeper is port 9 of the root

-- a region of all pages of /1, with this keeper
abbrev pub all_pages : Ptr → List (Path × Body)
all_pages keeper = (thread 1, Region (record { first = 0; count = 256; write = false; keeper = keeper })) ∷ []

-- the thread missed page 5 by a read
abbrev pub thread_that_missed_5 : Body
thread_that_missed_5 = with_fault (record { page = 5; write = false; port = At (9 ∷ []); taker = None }) (running 0 (0 ∷ 0 ∷ 128 ∷ []))

-- the thread loads from an address and 192
unfoldable pub missing : List (Path × Body) → ℕ → World
missing regions address = world_of
    (regions ++ ((1 ∷ [], Space 1 None) ∷ (9 ∷ [], Port None false) ∷ (thread 0, running 0 (0 ∷ 0 ∷ address ∷ [])) ∷ []))
    (page_with (1 ∷ []) 0 loads_192 ∷ [])

-- ---- two mappings or two regions in the slots 1 and 4 of /1: the higher is of page 5, the lower of this page; the thread
-- loads from page 5

-- a mapping of one page to the region in a slot of /2
abbrev pub maps_to_slot : ℕ → ℕ → Body
maps_to_slot first slot = Mapping (record { first = first; count = 1; offset = 0; write = false; region = At (slot ∷ 2 ∷ []) })

-- slot 1 of /2 holds a region of page 20, slot 2 one of page 30; the mappings lead to these slots
unfoldable pub two_mappings : ℕ → ℕ → ℕ → World
two_mappings first low high = world_of
    ((1 ∷ [], Space 1 None) ∷ (2 ∷ [], Space 2 None) ∷ (thread 0, running 0 (0 ∷ 0 ∷ 128 ∷ []))
    ∷ (thread 4, maps_to_slot 5 high) ∷ (thread 1, maps_to_slot first low)
    ∷ (1 ∷ 2 ∷ [], Region (record { first = 20; count = 1; write = false; keeper = Null }))
    ∷ (2 ∷ 2 ∷ [], Region (record { first = 30; count = 1; write = false; keeper = Null })) ∷ [])
    (page_with (1 ∷ []) 0 loads_192 ∷ numbered (2 ∷ []) 2000 20 ∷ numbered (2 ∷ []) 2000 30 ∷ [])

-- the regions have these keepers, of the ports 9 and 10 of the root
unfoldable pub two_regions : ℕ → Ptr → Ptr → World
two_regions first low high = world_of
    ((1 ∷ [], Space 1 None) ∷ (9 ∷ [], Port None false) ∷ (10 ∷ [], Port None false) ∷ (thread 0, running 0 (0 ∷ 0 ∷ 128 ∷ []))
    ∷ (thread 4, Region (record { first = 5; count = 1; write = false; keeper = high }))
    ∷ (thread 1, Region (record { first = first; count = 1; write = false; keeper = low })) ∷ [])
    (page_with (1 ∷ []) 0 loads_192 ∷ [])

-- ---- to compute in these worlds is to unfold these
unfoldable pub memory_worlds : Unit {0}
unfolding machine giving_and_taking given_and_taken two_pages chain_to loop window missing two_mappings two_regions
memory_worlds = tt
