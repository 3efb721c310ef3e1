-- Where in an image's bytes each pointer stands, and which of them are wrong. An offset is that of a pointer's tag, or of a port's set:
-- the number of the bytes in front of it.
use Rattle.std.specs.Prelude.{◌≡◌, ◌<◌, ◌≤◌, ℕ, ◌+◌, ◌*◌, List, ◌∷◌, ◌++◌, length, Option, Some, None}
use Rattle.std.specs.List.{sum_by}
use Rattle.fk_image.specs.declared.image.image.Link.{Link}
use Rattle.fk_image.specs.declared.image.image.Link.TheVariants.{Null, Dead, In, Out, Root, Outside}
use Rattle.fk_image.specs.declared.image.image.TalkRec.{TalkRec}
use Rattle.fk_image.specs.declared.image.image.FaultRec.{FaultRec}
use Rattle.fk_image.specs.declared.image.image.ThreadRec.{ThreadRec}
use Rattle.fk_image.specs.declared.image.image.Rec.{Rec}
use Rattle.fk_image.specs.declared.image.image.Rec.TheVariants.{Mutex, Cond, Portset, Mapping, Region, Port, Thread, Reference}
use Rattle.fk_image.specs.declared.image.image.ObjectRec.{ObjectRec}
use Rattle.fk_image.specs.declared.image.image.SpaceRec.{SpaceRec}
use Rattle.fk_image.specs.Form.Holding.{PointerField, MayHold, MayBeSet}
use Rattle.fk_image.specs.Form.Holding.PointerField.{Holder, MappedRegion, Keeper, Target, AtPort, Server}

-- ---- how many bytes a record has

-- a tag; behind that of an inside object its space, of 4 bytes, and its slot; behind that of a port of the nester a slot
abbrev pub link_size : Link → ℕ
link_size Null = 1
link_size Dead = 1
link_size (In slot space) = 6
link_size (Out slot) = 2
link_size Root = 1
link_size Outside = 1

-- a turn, how much was moved, a port and a server
abbrev pub talk_size : Option TalkRec → ℕ
talk_size None = 1
talk_size (Some talk) = 3 + link_size talk.port + link_size talk.server

-- a state, a page, a flag, a port, and a taker where there is one
abbrev pub taker_size : Option Link → ℕ
taker_size None = 0
taker_size (Some taker) = link_size taker

abbrev pub fault_size : Option FaultRec → ℕ
fault_size None = 1
fault_size (Some fault) = 3 + link_size fault.port + taker_size fault.taker

-- in front of a thread's talk are its slot and kind, 16 registers and the counter, of 8 bytes each, the mode, the halt code and the
-- stop count
abbrev pub talk_begins : ℕ
talk_begins = 142

abbrev pub fault_begins : ThreadRec → ℕ
fault_begins t = talk_begins + talk_size t.talk

-- with the slot and the kind; a pointer comes last
abbrev pub body_size : Rec → ℕ
body_size (Mutex locked) = 3
body_size Cond = 2
body_size Portset = 2
body_size (Mapping first count offset write region) = 7 + link_size region
body_size (Region first count write keeper) = 6 + link_size keeper
body_size (Port set) = 4
body_size (Thread t) = fault_begins t + fault_size t.fault
body_size (Reference to) = 2 + link_size to

abbrev pub object_size : ObjectRec → ℕ
object_size o = body_size o.body

-- a space's objects are behind its parent and slot, of 5 bytes, its holder, and their count, of 2
abbrev pub objects_begin : SpaceRec → ℕ
objects_begin s = 5 + link_size s.holder + 2

-- a page is its number and 64 words of 8 bytes
abbrev pub space_size : SpaceRec → ℕ
space_size s = objects_begin s + sum_by object_size s.objects + 2 + 513 * length s.pages

-- ---- where a record begins

-- in front of a space are the magic, the version and the count, of 14 bytes, and the spaces before it
pub record SpaceAt (spaces : List SpaceRec) (offset number : ℕ) (s : SpaceRec) : Type 0 where
  pub before : List SpaceRec
  pub after : List SpaceRec
  pub listed : spaces ≡ before ++ (s ∷ after)
  pub counted : length before ≡ number
  pub begins : offset ≡ 14 + sum_by space_size before

-- in front of an object are what its space begins with, and the objects before it
pub record ObjectAt (spaces : List SpaceRec) (offset : ℕ) (s : SpaceRec) (o : ObjectRec) : Type 0 where
  pub start : ℕ
  pub number : ℕ
  pub space : SpaceAt spaces start number s
  pub before : List ObjectRec
  pub after : List ObjectRec
  pub listed : s.objects ≡ before ++ (o ∷ after)
  pub begins : offset ≡ start + objects_begin s + sum_by object_size before

-- ---- pointers

-- so many bytes behind the beginning of its object stands this field, and holds this pointer
pub data HasPointer : Rec → ℕ → PointerField → Link → Type 0 where
  -- behind a slot, a kind, a first page, a count, an offset and a flag
  OfMapping : (first count offset write : ℕ) (region : Link) → HasPointer (Mapping first count offset write region) 7 MappedRegion region
  -- behind a slot, a kind, a first page, a count and a flag
  OfRegion : (first count write : ℕ) (keeper : Link) → HasPointer (Region first count write keeper) 6 Keeper keeper
  OfReference : (to : Link) → HasPointer (Reference to) 2 Target to
  -- a talk's port is behind its turn and how much was moved, its server behind the port
  TalkPort : (t : ThreadRec) (talk : TalkRec) → t.talk ≡ Some talk → HasPointer (Thread t) (talk_begins + 3) AtPort talk.port
  TalkServer : (t : ThreadRec) (talk : TalkRec) → t.talk ≡ Some talk →
      HasPointer (Thread t) (talk_begins + 3 + link_size talk.port) (Server talk.port) talk.server
  -- a fault's port is behind its state, a page and a flag, its taker behind the port
  FaultPort : (t : ThreadRec) (fault : FaultRec) → t.fault ≡ Some fault → HasPointer (Thread t) (fault_begins t + 3) AtPort fault.port
  FaultTaker : (t : ThreadRec) (fault : FaultRec) (taker : Link) → t.fault ≡ Some fault → fault.taker ≡ Some taker →
      HasPointer (Thread t) (fault_begins t + 3 + link_size fault.port) (Server fault.port) taker

-- at this offset of the image stands this field, and holds this pointer
pub data PointerAt (spaces : List SpaceRec) : ℕ → PointerField → Link → Type 0 where
  -- a holder is behind its space's parent and slot
  OfSpace : (start number : ℕ) (s : SpaceRec) → SpaceAt spaces start number s → PointerAt spaces (start + 5) (Holder number) s.holder
  OfObject : (start behind : ℕ) (s : SpaceRec) (o : ObjectRec) (f : PointerField) (to : Link) → ObjectAt spaces start s o →
      HasPointer o.body behind f to → PointerAt spaces (start + behind) f to

-- ---- wrong ones

pub data IsWrongAt (spaces : List SpaceRec) : ℕ → Type 0 where
  -- a pointer that its field may not hold
  Leads : (offset : ℕ) (f : PointerField) (to : Link) → PointerAt spaces offset f to → (MayHold spaces f to → ⊥) → IsWrongAt spaces offset
  -- a thread that serves or took, and was named so before
  Again : (earlier offset slot number : ℕ) (port other : Link) → PointerAt spaces earlier (Server port) (In slot number) → earlier < offset →
      PointerAt spaces offset (Server other) (In slot number) → IsWrongAt spaces offset
  -- a port's set, behind a slot and a kind, that is no port set of its space
  BadSet : (start set : ℕ) (s : SpaceRec) (o : ObjectRec) → ObjectAt spaces start s o → o.body ≡ Port set → (MayBeSet s.objects set → ⊥) →
      IsWrongAt spaces (start + 2)

-- the first place of an image where a pointer is wrong
pub record IsFirstWrong (spaces : List SpaceRec) (offset : ℕ) : Type 0 where
  pub wrong : IsWrongAt spaces offset
  pub first : (other : ℕ) → IsWrongAt spaces other → offset ≤ other

abbrev pub AllRight : List SpaceRec → Type 0
AllRight spaces = (offset : ℕ) → IsWrongAt spaces offset → ⊥
