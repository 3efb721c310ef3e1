-- Starts: a small world with its server, its two nesters and its jobs, as a run begins with it, and others that just aren't so.
use Rattle.std.specs.Prelude.{ℕ, true, false, List, [], ◌∷◌, replicate, Option, None, Some}
use Rattle.fk_model.specs.declared.thread.Turn.TheVariants as turns
use Rattle.fk_model.specs.Places.{Path, Ptr}
use Rattle.fk_model.specs.Places.Ptr.{At}
use Rattle.fk_model.specs.Objects.{Body}
use Rattle.fk_model.specs.Objects.Mode.{Native}
use Rattle.fk_model.specs.Objects.Peer.{Service}
use Rattle.fk_model.specs.Objects.Body.{Port, Space}
use Rattle.fk_model.specs.World.{World}
use Rattle.fk_model.specs.Sound.{Errand, Saves, Makes, Start, are_apart}
use Rattle.examples_moves.specs.Worked.{machine, world_of, running, thread_in_mode, with_talk, with_fault}

abbrev pub root : Path
root = []

-- the port of its server, and one that nobody serves
abbrev pub port : Path
port = 9 ∷ []

abbrev pub plain_port : Path
plain_port = 8 ∷ []

-- a space of users with a thread, and a nester
abbrev pub users : Path
users = 1 ∷ []

abbrev pub nester : Path
nester = 2 ∷ []

abbrev pub porter : Body
porter = thread_in_mode (Native (replicate 16 0)) 0

-- who holds the users' space, and its thread
abbrev pub objects_with : Option Ptr → Body → List (Path × Body)
objects_with holder thread =
    (255 ∷ root, porter) ∷ (port, Port None true) ∷ (plain_port, Port None false) ∷ (users, Space 1 holder) ∷ (0 ∷ users, thread)
    ∷ (nester, Space 2 None) ∷ (255 ∷ nester, porter) ∷ []

abbrev pub thread : Body
thread = running 0 []

-- a talk with the native server, and a fault that nobody has taken
abbrev pub talking : Body
talking = with_talk (record { port = At port; peer = Service; turn = turns.Client; moved = 0 }) thread

abbrev pub faulty : Body
faulty = with_fault (record { page = 3; write = false; port = At plain_port; taker = None }) thread

-- the first is saved, and made again in the nester, where two of its ports become one
abbrev pub name : List ℕ
name = 97 ∷ []

abbrev pub jobs : List Errand
jobs = Saves 0 1 (Some root) (Some name) ∷ Makes 2 239 ((9, 4) ∷ (8, 4) ∷ []) ∷ []

-- ---- worlds and what is with them

unfoldable pub first_with : Option Ptr → Body → World
first_with holder thread = world_of (objects_with holder thread) []

-- with one object more
unfoldable pub with_more : Path → Body → World
with_more x b = world_of ((x, b) ∷ objects_with None thread) []

-- after so many birth numbers
unfoldable pub after_births : ℕ → World
after_births next = record (first_with None thread) { next = next }

-- the root alone
unfoldable pub bare : World
bare = world_of [] []

abbrev pub starts_with : World → Start
starts_with w = record { world = w; ports = port ∷ []; nesters = root ∷ nester ∷ []; jobs = jobs; budget = 1000000 }

abbrev pub served_at : List Path → Start
served_at ports = record (starts_with (first_with None thread)) { ports = ports }

abbrev pub nested_in : List Path → Start
nested_in nesters = record (starts_with (first_with None thread)) { nesters = nesters }

abbrev pub works_at : List Errand → Start
works_at jobs = record (starts_with (first_with None thread)) { jobs = jobs }

abbrev pub lasts : ℕ → Start
lasts budget = record (starts_with (first_with None thread)) { budget = budget }

-- with a second server, in what the first job saves
abbrev pub serves_users : Start
serves_users = record (starts_with (with_more (9 ∷ users) (Port None true))) { ports = port ∷ (9 ∷ users) ∷ [] }

abbrev pub nothing_but_a_root : Start
nothing_but_a_root = record { world = bare; ports = []; nesters = []; jobs = []; budget = 1 }

unfoldable pub starts : Unit {0}
unfolding machine are_apart first_with with_more after_births bare
starts = tt
