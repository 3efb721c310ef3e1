-- Porters: the porter of the root makes talks, faults and holders again in the space /1, which it holds.
use Rattle.std.specs.Prelude.{ℕ, Bool, false, true, Option, List, [], ◌∷◌, ◌++◌, replicate, None, Some}
use Rattle.fk_model.specs.declared.stage.Stage.TheVariants.{LinkPark}
use Rattle.fk_model.specs.declared.thread.Turn.{Turn}
use Rattle.fk_model.specs.Places.{Path}
use Rattle.fk_model.specs.Places.Ptr.{At}
use Rattle.fk_model.specs.Objects.{Talk, Peer, Body}
use Rattle.fk_model.specs.Objects.Mode.{Native}
use Rattle.fk_model.specs.Objects.Body.{Mutex, Port, Space, Reference}
use Rattle.fk_model.specs.World.{World}
use Rattle.fk_model.specs.Runs.{run}
use Rattle.examples_moves.specs.Worked.{machine, world_of, numbered, running, thread_in_mode, with_talk, with_fault, makes, root_port}

-- the porter of the root
abbrev pub porter : Path
porter = 255 ∷ []

-- a thread of /1
abbrev pub subject : Path
subject = 0 ∷ 1 ∷ []

-- a thread of the root
abbrev pub restored_server : Path
restored_server = 5 ∷ []

-- scratch 240 leads to the port, 241 to the server, 242 to the subject, 243 to a port in a space that the server holds.
-- A reference of the root and one of /2 lead to the subject
unfoldable pub restoring : World
restoring = world_of
    ((porter, thread_in_mode (Native (replicate 16 0)) 0) ∷ (root_port, Port None false) ∷ (restored_server, running 0 [])
    ∷ (240 ∷ [], Reference (At root_port)) ∷ (241 ∷ [], Reference (At restored_server)) ∷ (242 ∷ [], Reference (At subject))
    ∷ (1 ∷ [], Space 1 (Some (At porter)))
    ∷ (subject, running 20 (1 ∷ 2 ∷ [])) ∷ (3 ∷ 1 ∷ [], Space 2 None) ∷ (4 ∷ 1 ∷ [], Mutex true) ∷ (5 ∷ 1 ∷ [], Reference (At subject))
    ∷ (8 ∷ [], Space 4 (Some (At restored_server))) ∷ (1 ∷ 8 ∷ [], Port None false) ∷ (243 ∷ [], Reference (At (1 ∷ 8 ∷ [])))
    ∷ (6 ∷ [], Reference (At subject)) ∷ (2 ∷ [], Space 3 None) ∷ (0 ∷ 2 ∷ [], Reference (At subject)) ∷ [])
    (numbered (1 ∷ []) 1000 4 ∷ [])

-- a talk at the port
abbrev pub talk_with : Peer → Turn → ℕ → Talk
talk_with peer turn moved = record { port = At root_port; peer = peer; turn = turn; moved = moved }

-- the subject has a parked talk at the server's turn, of which 5 words were moved
unfoldable pub parked : World
parked = run restoring (makes porter (LinkPark 1 0 9) (2 ∷ 5 ∷ []) ∷ [])

-- the subject with a talk
abbrev pub subject_with : Talk → Body
subject_with talk = with_talk talk (running 20 (1 ∷ 2 ∷ []))

-- the subject with a fault on page 5
abbrev pub subject_missing_5 : Bool → Option Peer → Body
subject_missing_5 write taker = with_fault (record { page = 5; write = write; port = At root_port; taker = taker }) (running 20 (1 ∷ 2 ∷ []))

-- the record of a thread that runs at counter 5 with 7 and 6 in its first registers
abbrev pub runs_at_5 : List ℕ
runs_at_5 = 8 ∷ 7 ∷ 6 ∷ (replicate 14 0 ++ (5 ∷ replicate 14 0))

-- ---- to compute in this world is to unfold these
unfoldable pub porter_worlds : Unit {0}
unfolding machine restoring parked
porter_worlds = tt
