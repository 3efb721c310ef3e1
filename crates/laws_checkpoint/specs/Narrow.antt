-- What the fields of an image's records hold of an image: a number that a field can't hold isn't kept, and lists are as long
-- as their fields. Each valid image is kept as it is.
use Rattle.std.specs.Prelude.{ℕ, ◌+◌, ◌^◌, nat_lt, List, [], ◌∷◌, map, option_map, if◌then◌else◌}
use Rattle.fk_model.specs.Records.{padded}
use Rattle.fk_image.specs.declared.image.image.Link.{Link}
use Rattle.fk_image.specs.declared.image.image.Link.TheVariants.{Null, Dead, In, Out, Root, Outside}
use Rattle.fk_image.specs.declared.image.image.TalkRec.{TalkRec}
use Rattle.fk_image.specs.declared.image.image.FaultRec.{FaultRec}
use Rattle.fk_image.specs.declared.image.image.ThreadRec.{ThreadRec}
use Rattle.fk_image.specs.declared.image.image.Rec.{Rec}
use Rattle.fk_image.specs.declared.image.image.Rec.TheVariants.{Mutex, Cond, Portset, Mapping, Region, Port, Thread, Reference}
use Rattle.fk_image.specs.declared.image.image.ObjectRec.{ObjectRec}
use Rattle.fk_image.specs.declared.image.image.PageRec.{PageRec}
use Rattle.fk_image.specs.declared.image.image.SpaceRec.{SpaceRec}
use Rattle.fk_image.specs.declared.image.image.Image.{Image}

abbrev pub within : ℕ → ℕ → ℕ
within bound n = if nat_lt n bound then n else 0

-- fields of 8, 16 and 32 bits
abbrev pub byte : ℕ → ℕ
byte n = within 256 n

-- a number of 16 bits
abbrev pub half : ℕ → ℕ
half n = within (2 ^ 16) n

-- a number of 32 bits
abbrev pub number : ℕ → ℕ
number n = within (2 ^ 32) n

-- a pointer whose numbers are narrow
abbrev pub narrow_link : Link → Link
narrow_link Null = Null
narrow_link Dead = Dead
narrow_link (In slot space) = In (byte slot) (number space)
narrow_link (Out slot) = Out (byte slot)
narrow_link Root = Root
narrow_link Outside = Outside

abbrev pub narrow_talk : TalkRec → TalkRec
narrow_talk t = record { turn = byte t.turn; moved = half t.moved; port = narrow_link t.port; server = narrow_link t.server }

abbrev pub narrow_fault : FaultRec → FaultRec
narrow_fault f = record { page = byte f.page; write = byte f.write; port = narrow_link f.port; taker = option_map narrow_link f.taker }

abbrev pub narrow_thread : ThreadRec → ThreadRec
narrow_thread t = record {
  regs = padded 16 t.regs;
  pc = t.pc;
  mode = byte t.mode;
  code = byte t.code;
  stops = half t.stops;
  talk = option_map narrow_talk t.talk;
  fault = option_map narrow_fault t.fault;
}

-- a record whose numbers are narrow
abbrev pub narrow_rec : Rec → Rec
narrow_rec (Mutex locked) = Mutex (byte locked)
narrow_rec Cond = Cond
narrow_rec Portset = Portset
narrow_rec (Mapping first count offset write region) = Mapping (byte first) (half count) (byte offset) (byte write) (narrow_link region)
narrow_rec (Region first count write keeper) = Region (byte first) (half count) (byte write) (narrow_link keeper)
narrow_rec (Port set) = Port (half set)
narrow_rec (Thread t) = Thread (narrow_thread t)
narrow_rec (Reference to) = Reference (narrow_link to)

abbrev pub narrow_object : ObjectRec → ObjectRec
narrow_object o = record { slot = o.slot; body = narrow_rec o.body }

-- objects stand by rising slot: one that doesn't isn't kept
unfoldable pub rising : ℕ → List ObjectRec → List ObjectRec
rising floor [] = []
rising floor (o ∷ os) = if nat_lt o.slot floor then rising floor os else narrow_object o ∷ rising (o.slot + 1) os

abbrev pub narrow_page : PageRec → PageRec
narrow_page p = record { page = p.page; words = padded 64 p.words }

abbrev pub narrow_space : SpaceRec → SpaceRec
narrow_space s = record {
  parent = number s.parent;
  slot = s.slot;
  holder = narrow_link s.holder;
  objects = rising 0 s.objects;
  pages = map narrow_page s.pages;
}

-- an image whose numbers are narrow
abbrev pub narrowed : Image → Image
narrowed i = record { spaces = map narrow_space i.spaces }
