-- Where in its bytes a pointer of an image stands that leads to nothing or to a wrong kind: the first of them.
--
-- A walk goes over the image in the order of its bytes. It keeps the offset of what it looks at next and the threads that
-- were named as a server or a taker before; `Err` has the offset of the first wrong pointer, or of a port's set.
use Rattle.std.specs.Prelude.{ℕ, ◌+◌, ◌*◌, Bool, false, not, ◌&&◌, ◌||◌, ◌==◌, if◌then◌else◌, List, [], ◌∷◌, length, Option, Some, None, Result, Ok, Err}
use Rattle.fk_image.specs.declared.image.image.Link.{Link}
use Rattle.fk_image.specs.declared.image.image.Link.TheVariants.{In}
use Rattle.fk_image.specs.declared.image.image.TalkRec.{TalkRec}
use Rattle.fk_image.specs.declared.image.image.FaultRec.{FaultRec}
use Rattle.fk_image.specs.declared.image.image.ThreadRec.{ThreadRec}
use Rattle.fk_image.specs.declared.image.image.Rec.{Rec}
use Rattle.fk_image.specs.declared.image.image.Rec.TheVariants.{Mutex, Cond, Portset, Mapping, Region, Port, Thread, Reference}
use Rattle.fk_image.specs.declared.image.image.ObjectRec.{ObjectRec}
use Rattle.fk_image.specs.declared.image.image.SpaceRec.{SpaceRec}
use Rattle.fk_image.specs.declared.image.image.Image.{Image}
use Rattle.fk_image.specs.Image.Links.{may_hold, leads_to_region, leads_to_keeper, leads_to_port, is_set_of, may_refer, serves_port}
use Rattle.fk_image.specs.Format.Fields.{◌>>=◌}
use Rattle.fk_image.specs.Format.Spelling.{link_bytes}

-- the threads that were named, by the numbers of their spaces and their slots
abbrev pub Named : Type 0
Named = ℕ → ℕ → Bool

abbrev pub nobody : Named
nobody space slot = false

-- one more thread is named
abbrev pub with_thread : ℕ → ℕ → Named → Named
with_thread space slot named = λ other k. (space == other && slot == k) || named other k

abbrev pub with_peer : Link → Named → Named
with_peer (In slot space) named = with_thread space slot named
with_peer other named = named

abbrev pub is_named : Named → Link → Bool
is_named named (In slot space) = named space slot
is_named named other = false

-- the offset that comes next, and who was named
pub record Walk : Type 0 where
  pub at : ℕ
  pub named : Named

abbrev pub expect_at : Bool → ℕ → Result (Unit {0}) ℕ
expect_at good at = if good then Ok tt else Err at

-- a peer of a port, whose tag has an offset
unfoldable pub peer_walk : List SpaceRec → Link → Link → Walk → Result Walk ℕ
peer_walk spaces port peer w = do
  _ ← expect_at (serves_port spaces port peer && not (is_named w.named peer)) w.at
  Ok (record { at = w.at + length (link_bytes peer); named = with_peer peer w.named })

-- a port is behind a turn and a count, or behind a state, a page and a flag
unfoldable pub port_walk : List SpaceRec → Link → Walk → Result Walk ℕ
port_walk spaces port w = do
  _ ← expect_at (leads_to_port spaces port) (w.at + 3)
  Ok (record { at = w.at + 3 + length (link_bytes port); named = w.named })

abbrev pub talk_walk : List SpaceRec → Option TalkRec → Walk → Result Walk ℕ
talk_walk spaces None w = Ok (record { at = w.at + 1; named = w.named })
talk_walk spaces (Some talk) w = port_walk spaces talk.port w >>= peer_walk spaces talk.port talk.server

abbrev pub taker_walk : List SpaceRec → Link → Option Link → Walk → Result Walk ℕ
taker_walk spaces port None w = Ok w
taker_walk spaces port (Some to) w = peer_walk spaces port to w

abbrev pub fault_walk : List SpaceRec → Option FaultRec → Walk → Result Walk ℕ
fault_walk spaces None w = Ok (record { at = w.at + 1; named = w.named })
fault_walk spaces (Some fault) w = port_walk spaces fault.port w >>= taker_walk spaces fault.port fault.taker

abbrev pub past : ℕ → Walk → Walk
past size w = record { at = w.at + size; named = w.named }

-- a pointer, behind so many bytes of its object
unfoldable pub link_walk : Bool → ℕ → Link → Walk → Result Walk ℕ
link_walk right before to w = do
  _ ← expect_at right (w.at + before)
  Ok (past (before + length (link_bytes to)) w)

-- in front of a thread's talk are its slot and kind, 16 registers and the counter, the mode, the halt code and the stop count
unfoldable pub thread_walk : List SpaceRec → ThreadRec → Walk → Result Walk ℕ
thread_walk spaces t w = talk_walk spaces t.talk (past 142 w) >>= fault_walk spaces t.fault

unfoldable pub set_walk : Bool → Walk → Result Walk ℕ
set_walk right w = do
  _ ← expect_at right (w.at + 2)
  Ok (past 4 w)

-- the objects of a space
abbrev pub body_walk : List SpaceRec → List ObjectRec → Rec → Walk → Result Walk ℕ
body_walk spaces objects (Mutex locked) w = Ok (past 3 w)
body_walk spaces objects Cond w = Ok (past 2 w)
body_walk spaces objects Portset w = Ok (past 2 w)
body_walk spaces objects (Mapping first count offset write region) w = link_walk (leads_to_region spaces region) 7 region w
body_walk spaces objects (Region first count write keeper) w = link_walk (leads_to_keeper spaces keeper) 6 keeper w
body_walk spaces objects (Port set) w = set_walk (is_set_of objects set) w
body_walk spaces objects (Thread t) w = thread_walk spaces t w
body_walk spaces objects (Reference to) w = link_walk (may_refer spaces to) 2 to w

unfoldable pub objects_walk : List SpaceRec → List ObjectRec → List ObjectRec → Walk → Result Walk ℕ
objects_walk spaces all [] w = Ok w
objects_walk spaces all (o ∷ os) w = body_walk spaces all o.body w >>= objects_walk spaces all os

-- A holder is behind a parent and a slot, the first object behind a count, and the pages, of 513 bytes each, behind a count.
unfoldable pub space_walk : List SpaceRec → ℕ → SpaceRec → Walk → Result Walk ℕ
space_walk spaces number s w = do
  held ← link_walk (may_hold spaces number s.holder) 5 s.holder w
  objects ← objects_walk spaces s.objects s.objects (past 2 held)
  Ok (past (2 + 513 * length s.pages) objects)

unfoldable pub spaces_walk : List SpaceRec → ℕ → List SpaceRec → Walk → Result Walk ℕ
spaces_walk spaces number [] w = Ok w
spaces_walk spaces number (s ∷ ss) w = space_walk spaces number s w >>= spaces_walk spaces (number + 1) ss

abbrev pub offset_of : Result Walk ℕ → Option ℕ
offset_of (Ok end) = None
offset_of (Err at) = Some at

-- the first space is behind the magic, the version and the count
unfoldable pub wrong_in : List SpaceRec → Option ℕ
wrong_in spaces = offset_of (spaces_walk spaces 0 spaces (record { at = 14; named = nobody }))

abbrev pub wrong_link : Image → Option ℕ
wrong_link i = wrong_in i.spaces
