-- Programs, mutexes and conditions: threads of /1 run the program in its page 0.
use Rattle.std.specs.Prelude.{ℕ, false, true, List, [], ◌∷◌, ◌++◌, replicate, Option, None}
use Rattle.fk_model.specs.Places.{Path}
use Rattle.fk_model.specs.Objects.{Body}
use Rattle.fk_model.specs.Objects.Body.{Mutex, Cond, Space}
use Rattle.fk_model.specs.World.{World}
use Rattle.fk_model.specs.Runs.{Event, run}
use Rattle.examples_moves.specs.Worked.{machine, world_of, page_with, numbered, numbers_from, running, calling, goes, picks, times, stopped}

-- the two threads
abbrev pub thread_0 : Path
thread_0 = 0 ∷ 1 ∷ []

abbrev pub thread_1 : Path
thread_1 = 1 ∷ 1 ∷ []

-- ---- programs

-- set r1, 3; set r2, 5; sub r3, r1, r2; set r4, 64; shl r5, r2, r4; div r6, r1, r5
abbrev pub division : List ℕ
division = 0x0110_0000_0000_0003 ∷ 0x0120_0000_0000_0005 ∷ 0x0431_2000_0000_0000 ∷ 0x0140_0000_0000_0040 ∷ 0x0952_4000_0000_0000 ∷ 0x0b61_5000_0000_0000 ∷ []

-- set r1, 2; addi r1, r1, -1; jnz r1, 1; halt
abbrev pub countdown : List ℕ
countdown = 0x0110_0000_0000_0002 ∷ 0x1311_0000_ffff_ffff ∷ 0x1110_0000_0000_0001 ∷ 0x0000_0000_0000_0000 ∷ []

-- one thread, with this program
unfoldable pub alone_with : List ℕ → World
alone_with program = world_of ((1 ∷ [], Space 1 None) ∷ (thread_0, running 0 []) ∷ []) (page_with (1 ∷ []) 0 program ∷ [])

-- ---- a mutex in slot 5, which both threads lock

-- set r0, 21; set r1, 5; call; halt
abbrev pub locks_5 : List ℕ
locks_5 = 0x0100_0000_0000_0015 ∷ 0x0110_0000_0000_0005 ∷ 0x1400_0000_0000_0000 ∷ 0x0000_0000_0000_0000 ∷ []

-- the mutex
abbrev pub mutex : Path
mutex = 5 ∷ 1 ∷ []

-- both threads run that program
unfoldable pub two_lock : World
two_lock =
    world_of ((1 ∷ [], Space 1 None) ∷ (mutex, Mutex false) ∷ (thread_0, running 0 []) ∷ (thread_1, running 0 []) ∷ []) (page_with (1 ∷ []) 0 locks_5 ∷ [])

-- four moves of the first thread, three of the second
abbrev pub lock_twice : List Event
lock_twice = times 4 (goes thread_0) ++ times 3 (goes thread_1)

-- ---- a condition in slot 6

-- set r0, 15; set r1, 0; call; set r0, 9; set r1, 256; set r2, 0; set r3, 128; call; set r0, 26; set r1, 6; call;
-- set r0, 16; set r1, 0; call
abbrev pub stops_and_signals : List ℕ
stops_and_signals =
    0x0100_0000_0000_000f ∷ 0x0110_0000_0000_0000 ∷ 0x1400_0000_0000_0000 ∷
    0x0100_0000_0000_0009 ∷ 0x0110_0000_0000_0100 ∷ 0x0120_0000_0000_0000 ∷ 0x0130_0000_0000_0080 ∷ 0x1400_0000_0000_0000 ∷
    0x0100_0000_0000_001a ∷ 0x0110_0000_0000_0006 ∷ 0x1400_0000_0000_0000 ∷
    0x0100_0000_0000_0010 ∷ 0x0110_0000_0000_0000 ∷ 0x1400_0000_0000_0000 ∷ []

-- the condition
abbrev pub cond : Path
cond = 6 ∷ 1 ∷ []

-- the first thread has the mutex and is about to wait for the condition
unfoldable pub one_sleeps : World
one_sleeps = world_of ((1 ∷ [], Space 1 None) ∷ (mutex, Mutex true) ∷ (cond, Cond) ∷ (thread_0, calling 40 (24 ∷ 6 ∷ 5 ∷ [])) ∷ (thread_1, running 0 []) ∷ [])
    (page_with (1 ∷ []) 0 stops_and_signals ∷ numbered (1 ∷ []) 1000 2 ∷ [])

-- what there is to look at
abbrev pub sleeper_and_signaller : List Path
sleeper_and_signaller = thread_0 ∷ thread_1 ∷ mutex ∷ []

-- it sleeps
abbrev pub sleeps : List Event
sleeps = goes thread_0 ∷ []

-- it is stopped
abbrev pub stops : List Event
stops = times 4 (goes thread_1)

-- its state is read
abbrev pub reads : List Event
reads = times 6 (goes thread_1)

-- it is signalled to
abbrev pub signals_the_sleeper : List Event
signals_the_sleeper = times 3 (goes thread_1) ++ picks thread_1 thread_0 ∷ []

-- it is let go
abbrev pub lets_go : List Event
lets_go = times 4 (goes thread_1)

-- all of it, in parts, up to its lock
abbrev pub signal_parts : List (List Event)
signal_parts = sleeps ∷ stops ∷ (reads ++ signals_the_sleeper) ∷ lets_go ∷ (goes thread_0 ∷ []) ∷ []

-- up to its being stopped
abbrev pub until_stopped : List Event
until_stopped = sleeps ++ stops

-- up to the call that signals
abbrev pub until_signalling : List Event
until_signalling = until_stopped ++ (reads ++ times 3 (goes thread_1))

-- up to the signal
abbrev pub until_signalled : List Event
until_signalled = until_stopped ++ (reads ++ signals_the_sleeper)

-- its record: a thread with these registers, at counter 40, that calls and is stopped once; and what else is in the page
abbrev pub page_with_record : List ℕ
page_with_record = (8 ∷ 25 ∷ 6 ∷ 5 ∷ []) ++ (replicate 13 0 ++ ((40 ∷ 1 ∷ 0 ∷ 1 ∷ []) ++ (replicate 11 0 ++ numbers_from 1160 32)))

-- nobody sleeps on the condition
unfoldable pub none_sleeps : World
none_sleeps = world_of ((1 ∷ [], Space 1 None) ∷ (cond, Cond) ∷ (thread_0, running 40 []) ∷ (thread_1, calling 0 (26 ∷ 6 ∷ [])) ∷ []) []

-- ---- the mutex in slot 5 is free, the one in slot 6 locked. Of three sleepers one is stopped, one at another condition.
-- Another thread is stopped twice; a thread of another space sleeps

-- a sleeper
abbrev pub sleeper : ℕ → Path
sleeper k = k ∷ 1 ∷ []

-- what there is to look at
abbrev pub caller_and_sleepers : List Path
caller_and_sleepers = thread_0 ∷ sleeper 10 ∷ sleeper 11 ∷ sleeper 12 ∷ []

-- the first thread makes a call
unfoldable pub locks_and_sleepers : List ℕ → World
locks_and_sleepers g = world_of
    ((1 ∷ [], Space 1 None) ∷ (thread_0, calling 0 g) ∷ (5 ∷ 1 ∷ [], Mutex false) ∷ (6 ∷ 1 ∷ [], Mutex true) ∷ (7 ∷ 1 ∷ [], Cond) ∷ (8 ∷ 1 ∷ [], Cond)
    ∷ (sleeper 10, calling 40 (25 ∷ 7 ∷ 5 ∷ [])) ∷ (sleeper 11, stopped 0xffff (calling 40 (25 ∷ 7 ∷ 6 ∷ []))) ∷ (sleeper 12, calling 40 (25 ∷ 8 ∷ 5 ∷ []))
    ∷ (sleeper 13, stopped 2 (running 3 [])) ∷ (2 ∷ [], Space 2 None) ∷ (0 ∷ 2 ∷ [], calling 40 (25 ∷ 7 ∷ 5 ∷ [])) ∷ []) []

-- what becomes of the caller
unfoldable pub calls_of : List ℕ → Option Body
calls_of g = (run (locks_and_sleepers g) (goes thread_0 ∷ [])).body thread_0

-- ---- to compute in these worlds is to unfold these
unfoldable pub lock_worlds : Unit {0}
unfolding machine alone_with two_lock one_sleeps none_sleeps locks_and_sleepers calls_of
lock_worlds = tt
