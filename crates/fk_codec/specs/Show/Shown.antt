-- What `show` writes of an image.
use Rattle.std.specs.Prelude.{ℕ, zero, suc, ◌+◌, Bool, List, [], ◌∷◌, ◌++◌, length, codes, decimal, if◌then◌else◌}
use Rattle.std.specs.List.{list_any}
use Rattle.fk_image.specs.declared.image.image.SpaceRec.{SpaceRec}
use Rattle.fk_image.specs.declared.image.image.Image.{Image}
use Rattle.fk_image.specs.Image.Outs.{leads_out_at, links}
use Rattle.fk_image.specs.Format.Versions.{version}

abbrev pub object_count : List SpaceRec → ℕ
object_count [] = 0
object_count (s ∷ ss) = length s.objects + object_count ss

abbrev pub page_count : List SpaceRec → ℕ
page_count [] = 0
page_count (s ∷ ss) = length s.pages + page_count ss

abbrev pub slot_text : ℕ → List ℕ
slot_text slot = codes " " ++ decimal slot

abbrev pub slot_if : Bool → ℕ → List ℕ
slot_if used slot = if used then slot_text slot else []

-- the slots that are used, each after a space: so many slots from one on
unfoldable pub used_slots_from : (ℕ → Bool) → ℕ → ℕ → List ℕ
used_slots_from used zero slot = []
used_slots_from used (suc count) slot = slot_if (used slot) slot ++ used_slots_from used count (slot + 1)

-- whether a pointer of the image leads to the nester's port in a slot
abbrev pub uses : Image → ℕ → Bool
uses i slot = list_any (leads_out_at slot) (links i)

abbrev pub outs_line : (ℕ → Bool) → List ℕ
outs_line used = codes "outs" ++ (used_slots_from used 240 0 ++ codes "\n")

abbrev pub count_lines : ℕ → ℕ → ℕ → ℕ → List ℕ
count_lines version spaces objects pages =
    codes "version " ++ (decimal version ++ (codes "\nspaces " ++ (decimal spaces ++ (codes "\nobjects " ++ (decimal objects ++ (codes "\npages "
    ++ (decimal pages ++ codes "\n")))))))

-- the version, the numbers of spaces, of other objects and of pages, and the nester's slots that are used
abbrev pub shown : Image → List ℕ
shown i = count_lines (version i) (length i.spaces) (object_count i.spaces) (page_count i.spaces) ++ outs_line (uses i)
