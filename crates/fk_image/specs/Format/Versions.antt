-- Versions: 2 where a calling thread shows a call that hands a reference over or receives one, else 1.
use Rattle.std.specs.Prelude.{ℕ, Bool, true, false, not, ◌&&◌, ◌||◌, ◌==◌, List, slice_index, if◌then◌else◌}
use Rattle.std.specs.List.{list_any}
use Rattle.fk_model.specs.declared.call.TheConstants.{CLIENT_OVER_REF, CLIENT_RECEIVE_REF, SERVER_OVER_REF, SERVER_RECEIVE_REF}
use Rattle.fk_image.specs.declared.image.image.Rec.{Rec}
use Rattle.fk_image.specs.declared.image.image.Rec.TheVariants.{Thread}
use Rattle.fk_image.specs.declared.image.image.ObjectRec.{ObjectRec}
use Rattle.fk_image.specs.declared.image.image.SpaceRec.{SpaceRec}
use Rattle.fk_image.specs.declared.image.image.Image.{Image}

-- the codes of these calls
abbrev pub is_new_code : ℕ → Bool
is_new_code n = n == CLIENT_OVER_REF || n == CLIENT_RECEIVE_REF || n == SERVER_OVER_REF || n == SERVER_RECEIVE_REF

-- the first register of a calling thread is one
abbrev pub shows_new : List ℕ → ℕ → Bool
shows_new regs mode = mode == 1 && is_new_code (slice_index regs 0)

abbrev pub body_shows : Rec → Bool
body_shows (Thread t) = shows_new t.regs t.mode
body_shows other = false

abbrev pub object_shows : ObjectRec → Bool
object_shows o = body_shows o.body

abbrev pub space_shows : SpaceRec → Bool
space_shows s = list_any object_shows s.objects

-- an image needs the newer version
abbrev pub image_shows : Image → Bool
image_shows i = list_any space_shows i.spaces

-- what is in an image may show such a call where the image's version is the new one
abbrev pub allows : Bool → Bool → Bool
allows new shows = new || not shows

abbrev pub version_number : Bool → ℕ
version_number new = if new then 2 else 1

-- the version of an image
abbrev pub version : Image → ℕ
version i = version_number (image_shows i)
