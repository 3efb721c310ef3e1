-- The one spelling of each image: numbers are little-endian, and each number, tag, register and page word is a field.
use Rattle.std.specs.Prelude.{ℕ, Bool, List, [], ◌∷◌, ◌++◌, length, Option, Some, None}
use Rattle.std.specs.List.{flat_map}
use Rattle.std.specs.Int.{w16, w32, w64, to_le_bytes}
use Rattle.fk_image.specs.declared.image.image.Link.{Link}
use Rattle.fk_image.specs.declared.image.image.Link.TheVariants.{Null, Dead, In, Out, Root, Outside}
use Rattle.fk_image.specs.declared.image.image.TalkRec.{TalkRec}
use Rattle.fk_image.specs.declared.image.image.FaultRec.{FaultRec}
use Rattle.fk_image.specs.declared.image.image.ThreadRec.{ThreadRec}
use Rattle.fk_image.specs.declared.image.image.Rec.{Rec}
use Rattle.fk_image.specs.declared.image.image.Rec.TheVariants.{Mutex, Cond, Portset, Mapping, Region, Port, Thread, Reference}
use Rattle.fk_image.specs.declared.image.image.ObjectRec.{ObjectRec}
use Rattle.fk_image.specs.declared.image.image.PageRec.{PageRec}
use Rattle.fk_image.specs.declared.image.image.SpaceRec.{SpaceRec}
use Rattle.fk_image.specs.declared.image.image.Image.{Image}
use Rattle.fk_image.specs.Format.Versions.{image_shows, version_number}

-- a tag, and what is behind it
abbrev pub link_bytes : Link → List ℕ
link_bytes Null = 0 ∷ []
link_bytes Dead = 1 ∷ []
link_bytes (In slot space) = 2 ∷ (to_le_bytes w32 space ++ slot ∷ [])
link_bytes (Out slot) = 3 ∷ slot ∷ []
link_bytes Root = 4 ∷ []
link_bytes Outside = 5 ∷ []

abbrev pub words_bytes : List ℕ → List ℕ
words_bytes ws = flat_map (to_le_bytes w64) ws

-- 0, or whose turn it is and the talk
abbrev pub talk_bytes : Option TalkRec → List ℕ
talk_bytes None = 0 ∷ []
talk_bytes (Some t) = t.turn ∷ (to_le_bytes w16 t.moved ++ (link_bytes t.port ++ link_bytes t.server))

abbrev pub fault_state : Option Link → ℕ
fault_state None = 1
fault_state (Some taker) = 2

abbrev pub taker_bytes : Option Link → List ℕ
taker_bytes None = []
taker_bytes (Some to) = link_bytes to

-- 0, or 1 where it is raised and 2 where it is taken, and the fault
abbrev pub fault_bytes : Option FaultRec → List ℕ
fault_bytes None = 0 ∷ []
fault_bytes (Some f) = fault_state f.taker ∷ f.page ∷ f.write ∷ (link_bytes f.port ++ taker_bytes f.taker)

abbrev pub thread_bytes : ThreadRec → List ℕ
thread_bytes t = words_bytes t.regs ++ (to_le_bytes w64 t.pc ++ (t.mode ∷ t.code ∷ (to_le_bytes w16 t.stops ++ (talk_bytes t.talk ++ fault_bytes t.fault))))

-- the number of the kind, and the object
abbrev pub body_bytes : Rec → List ℕ
body_bytes (Mutex locked) = 1 ∷ locked ∷ []
body_bytes Cond = 2 ∷ []
body_bytes (Mapping first count offset write region) = 3 ∷ first ∷ (to_le_bytes w16 count ++ (offset ∷ write ∷ link_bytes region))
body_bytes (Region first count write keeper) = 4 ∷ first ∷ (to_le_bytes w16 count ++ (write ∷ link_bytes keeper))
body_bytes (Port set) = 5 ∷ to_le_bytes w16 set
body_bytes Portset = 6 ∷ []
body_bytes (Thread t) = 8 ∷ thread_bytes t
body_bytes (Reference to) = 9 ∷ link_bytes to

abbrev pub object_bytes : ObjectRec → List ℕ
object_bytes o = o.slot ∷ body_bytes o.body

abbrev pub page_bytes : PageRec → List ℕ
page_bytes p = p.page ∷ words_bytes p.words

abbrev pub contents_bytes : List ObjectRec → List PageRec → List ℕ
contents_bytes objects pages =
    to_le_bytes w16 (length objects) ++ (flat_map object_bytes objects ++ (to_le_bytes w16 (length pages) ++ flat_map page_bytes pages))

abbrev pub space_bytes : SpaceRec → List ℕ
space_bytes s = to_le_bytes w32 s.parent ++ (s.slot ∷ (link_bytes s.holder ++ contents_bytes s.objects s.pages))

-- FLUKEIMG
abbrev pub magic : List ℕ
magic = 70 ∷ 76 ∷ 85 ∷ 75 ∷ 69 ∷ 73 ∷ 77 ∷ 71 ∷ []

-- with this version
abbrev pub spelling_in : Bool → Image → List ℕ
spelling_in new i = magic ++ (to_le_bytes w16 (version_number new) ++ (to_le_bytes w32 (length i.spaces) ++ flat_map space_bytes i.spaces))

-- the bytes of an image, in the version that it needs
abbrev pub spelling : Image → List ℕ
spelling i = spelling_in (image_shows i) i
