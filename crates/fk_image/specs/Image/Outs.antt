-- The slots of the nester whose ports an image's pointers lead to.
use Rattle.std.specs.Prelude.{◌≡◌, ◌<◌, ℕ, Bool, false, ◌||◌, ◌==◌, List, [], ◌∷◌, ◌++◌, get_or, Option, Some, None}
use Rattle.std.specs.List.{list_any, flat_map}
use Rattle.fk_image.specs.declared.image.image.Link.{Link}
use Rattle.fk_image.specs.declared.image.image.Link.TheVariants.{Out}
use Rattle.fk_image.specs.declared.image.image.TalkRec.{TalkRec}
use Rattle.fk_image.specs.declared.image.image.FaultRec.{FaultRec}
use Rattle.fk_image.specs.declared.image.image.Rec.{Rec}
use Rattle.fk_image.specs.declared.image.image.Rec.TheVariants.{Mapping, Region, Thread, Reference}
use Rattle.fk_image.specs.declared.image.image.ObjectRec.{ObjectRec}
use Rattle.fk_image.specs.declared.image.image.SpaceRec.{SpaceRec}
use Rattle.fk_image.specs.declared.image.image.Image.{Image}

-- ---- the pointers of an image

abbrev pub talk_links : Option TalkRec → List Link
talk_links None = []
talk_links (Some talk) = talk.port ∷ talk.server ∷ []

abbrev pub taker_links : Option Link → List Link
taker_links None = []
taker_links (Some taker) = taker ∷ []

abbrev pub fault_links : Option FaultRec → List Link
fault_links None = []
fault_links (Some fault) = fault.port ∷ taker_links fault.taker

abbrev pub body_links : Rec → List Link
body_links (Mapping first count offset write region) = region ∷ []
body_links (Region first count write keeper) = keeper ∷ []
body_links (Thread t) = talk_links t.talk ++ fault_links t.fault
body_links (Reference to) = to ∷ []
body_links other = []

abbrev pub object_links : ObjectRec → List Link
object_links o = body_links o.body

abbrev pub space_links : SpaceRec → List Link
space_links s = s.holder ∷ flat_map object_links s.objects

-- all pointers of an image
abbrev pub links : Image → List Link
links i = flat_map space_links i.spaces

-- ---- where they lead

-- a pointer leads to the port in this slot of the nester
abbrev pub leads_out_at : ℕ → Link → Bool
leads_out_at slot (Out other) = other == slot
leads_out_at slot to = false

-- what is marked of the 240 slots once these pointers are looked at
abbrev pub Marks : List Bool → List Bool → List Link → Type 0
Marks old new to = (slot : ℕ) → slot < 240 → get_or new slot false ≡ (get_or old slot false || list_any (leads_out_at slot) to)
