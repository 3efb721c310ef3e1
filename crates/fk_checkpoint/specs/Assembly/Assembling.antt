-- The spaces of what was gathered, by their paths.
use Rattle.std.specs.Prelude.{ℕ, ◌+◌, nat_lt, List, [], ◌∷◌, slice_get, Option, Some, None, if◌then◌else◌}
use Rattle.fk_model.specs.Places.{Path, Ptr}
use Rattle.fk_model.specs.Places.Ptr.{Null}
use Rattle.fk_image.specs.declared.image.image.ObjectRec.{ObjectRec}
use Rattle.laws_checkpoint.specs.Contents.{Item}
use Rattle.laws_checkpoint.specs.Assembly.{paths_read, rec_from}
use Rattle.laws_checkpoint.specs.Narrow.{narrow_rec}
use Rattle.fk_checkpoint.specs.declared.gathering.content.Content.{Content}
use Rattle.fk_checkpoint.specs.declared.gathering.content.Lead.{Lead}
use Rattle.fk_checkpoint.specs.Gathering.Gathering.{contents_of, lead_of}

-- the spaces whose contents were gathered
abbrev pub spaces_of : List Content → List Path
spaces_of contents = paths_read (contents_of contents)

abbrev pub path_of : Option Content → List ℕ
path_of None = []
path_of (Some c) = c.path

abbrev pub path_at : List Content → ℕ → List ℕ
path_at contents at = path_of (slice_get contents at)

-- the pointer that was looked up
abbrev pub pointer_in : Option Lead → Ptr
pointer_in None = Null
pointer_in (Some l) = lead_of l

-- an object is kept where it stands above the others, and the next one is to stand above it
abbrev pub kept_of : List Path → ℕ → Item → List Ptr → List ObjectRec
kept_of sp floor i ps = if nat_lt i.number floor then [] else record { slot = i.number; body = narrow_rec (rec_from sp i.words ps) } ∷ []

abbrev pub floor_after : ℕ → ℕ → ℕ
floor_after floor slot = if nat_lt slot floor then floor else slot + 1
