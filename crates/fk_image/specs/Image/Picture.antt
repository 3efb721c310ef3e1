-- The subtree that an image stands for, seen alone: its root has the empty path, a pointer to a port of the nester is Out of
-- its slot, and a peer outside is Outside. Birth numbers and who holds the root are no part of it, and no port is served.
use Rattle.std.specs.Prelude.{ℕ, zero, suc, ◌+◌, false, ◌==◌, List, [], ◌∷◌, drop, Option, Some, None, option_map, slice_get, if◌then◌else◌}
use Rattle.fk_model.specs.declared.stage.Stage.{Stage}
use Rattle.fk_model.specs.declared.thread.Turn.TheVariants as turns
use Rattle.fk_model.specs.Places.{Path, Ptr, Ptr as ptrs}
use Rattle.fk_model.specs.Calls.{todo_of, rest_of}
use Rattle.fk_model.specs.Objects.{Mode, Mode as modes, Peer as peers, Talk, Fault, Thread as ThreadState, Body, Body as bodies, and_then, or_else}
use Rattle.fk_model.specs.Records.{member_by}
use Rattle.fk_model.specs.World.{World}
use Rattle.fk_image.specs.declared.image.image.Link.{Link}
use Rattle.fk_image.specs.declared.image.image.Link.TheVariants.{Null, Dead, In, Out, Root, Outside}
use Rattle.fk_image.specs.declared.image.image.TalkRec.{TalkRec}
use Rattle.fk_image.specs.declared.image.image.FaultRec.{FaultRec}
use Rattle.fk_image.specs.declared.image.image.ThreadRec.{ThreadRec}
use Rattle.fk_image.specs.declared.image.image.Rec.{Rec}
use Rattle.fk_image.specs.declared.image.image.Rec.TheVariants.{Mutex, Cond, Portset, Mapping, Region, Port, Thread, Reference}
use Rattle.fk_image.specs.declared.image.image.ObjectRec.{ObjectRec}
use Rattle.fk_image.specs.declared.image.image.PageRec.{PageRec}
use Rattle.fk_image.specs.declared.image.image.SpaceRec.{SpaceRec}
use Rattle.fk_image.specs.declared.image.image.Image.{Image}
use Rattle.fk_image.specs.Image.Links.{lies_in}

-- ---- spaces and paths

-- the number of the space that lies in a slot of the space with a number, among those from a number on
unfoldable pub child_from : ℕ → List SpaceRec → ℕ → ℕ → Option ℕ
child_from number [] space slot = None
child_from number (s ∷ ss) space slot = if lies_in space slot s then Some number else child_from (number + 1) ss space slot

abbrev pub child : List SpaceRec → ℕ → ℕ → Option ℕ
child spaces space slot = child_from 1 (drop 1 spaces) space slot

-- the number of the space at a path
unfoldable pub space_number : List SpaceRec → Path → Option ℕ
space_number spaces [] = Some 0
space_number spaces (slot ∷ x) = and_then (λ space. child spaces space slot) (space_number spaces x)

-- the path of the space with a number, at most so many spaces deep
unfoldable pub path_within : ℕ → List SpaceRec → ℕ → Path
path_within zero spaces number = []
path_within (suc depth) spaces number = if number == 0 then [] else elim (slice_get spaces number) [
  | None ↦ []
  | Some s ↦ s.slot ∷ path_within depth spaces s.parent
]

-- a space's number is above its parent's, so it is no deeper than its number
abbrev pub space_path : List SpaceRec → ℕ → Path
space_path spaces number = path_within number spaces number

-- ---- pointers and objects

abbrev pub ptr : List SpaceRec → Link → Ptr
ptr spaces Null = ptrs.Null
ptr spaces Dead = ptrs.Dead
ptr spaces (In slot space) = ptrs.At (slot ∷ space_path spaces space)
ptr spaces (Out slot) = ptrs.Out slot
ptr spaces Root = ptrs.At []
ptr spaces Outside = ptrs.Outside

abbrev pub pictured_holder : List SpaceRec → Link → Option Ptr
pictured_holder spaces Null = None
pictured_holder spaces to = Some (ptr spaces to)

abbrev pub mode_while_calling : List ℕ → Option (List Stage) → Mode
mode_while_calling regs None = modes.Running regs
mode_while_calling regs (Some todo) = modes.Calling todo (rest_of todo regs)

-- 0 running, 1 calling, 2 halted
abbrev pub mode : List ℕ → ℕ → ℕ → Mode
mode regs number code = if number == 0 then modes.Running regs else if number == 1 then mode_while_calling regs (todo_of regs) else modes.Halted regs code

-- the talk for which a record stands
abbrev pub pictured_talk : List SpaceRec → TalkRec → Talk
pictured_talk spaces t = record {
  port = ptr spaces t.port;
  peer = peers.Server (ptr spaces t.server);
  turn = if t.turn == 1 then turns.Client else turns.Server;
  moved = t.moved;
}

-- the fault for which a record stands
abbrev pub pictured_fault : List SpaceRec → FaultRec → Fault
pictured_fault spaces f = record {
  page = f.page;
  write = f.write == 1;
  port = ptr spaces f.port;
  taker = option_map (λ to. peers.Server (ptr spaces to)) f.taker;
}

abbrev pub pictured_thread : List SpaceRec → ThreadRec → ThreadState
pictured_thread spaces t = record {
  mode = mode t.regs t.mode t.code;
  counter = t.pc;
  stops = t.stops;
  talk = option_map (pictured_talk spaces) t.talk;
  fault = option_map (pictured_fault spaces) t.fault;
}

-- the object for which a record stands
abbrev pub pictured_body : List SpaceRec → Rec → Body
pictured_body spaces (Mutex locked) = bodies.Mutex (locked == 1)
pictured_body spaces Cond = bodies.Cond
pictured_body spaces Portset = bodies.Portset
pictured_body spaces (Mapping first count offset write region) =
    bodies.Mapping (record { first = first; count = count; offset = offset; write = write == 1; region = ptr spaces region })
pictured_body spaces (Region first count write keeper) = bodies.Region (record { first = first; count = count; write = write == 1; keeper = ptr spaces keeper })
pictured_body spaces (Port set) = bodies.Port (member_by set) false
pictured_body spaces (Thread t) = bodies.Thread_of (pictured_thread spaces t)
pictured_body spaces (Reference to) = bodies.Reference (ptr spaces to)

-- ---- what lies where

unfoldable pub rec_in : List ObjectRec → ℕ → Option Rec
rec_in [] slot = None
rec_in (o ∷ os) slot = if o.slot == slot then Some o.body else rec_in os slot

unfoldable pub page_in : List PageRec → ℕ → Option (List ℕ)
page_in [] page = None
page_in (p ∷ ps) page = if p.page == page then Some p.words else page_in ps page

-- an object in a slot of the space with a number, or a space there
abbrev pub pictured_body_in : List SpaceRec → ℕ → ℕ → Option Body
pictured_body_in spaces space slot =
    or_else (and_then (λ (s : SpaceRec). option_map (pictured_body spaces) (rec_in s.objects slot)) (slice_get spaces space))
    (and_then (λ number. option_map (λ (s : SpaceRec). bodies.Space 0 (pictured_holder spaces s.holder)) (slice_get spaces number)) (child spaces space slot))

abbrev pub pictured_body_at : List SpaceRec → Path → Option Body
pictured_body_at spaces [] = Some (bodies.Space 0 None)
pictured_body_at spaces (slot ∷ x) = and_then (λ space. pictured_body_in spaces space slot) (space_number spaces x)

abbrev pub pictured_page_at : List SpaceRec → Path → ℕ → Option (List ℕ)
pictured_page_at spaces x page = and_then (λ space. and_then (λ (s : SpaceRec). page_in s.pages page) (slice_get spaces space)) (space_number spaces x)

-- the world of the subtree alone
unfoldable pub picture : Image → World
picture i = record { body = pictured_body_at i.spaces; page = pictured_page_at i.spaces; next = 0 }
