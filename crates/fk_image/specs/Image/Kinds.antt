-- Kinds by slot: a table of numbers, one for each slot, or no table.
use Rattle.std.specs.Prelude.{◌≡◌, ◌<◌, ℕ, ◌==◌, if◌then◌else◌, List, length, Option, Some, None, slice_index_or}
use Rattle.fk_model.specs.declared.names.Kind.{Kind}
use Rattle.fk_model.specs.declared.names.Kind.TheVariants as kinds
use Rattle.fk_image.specs.declared.image.image.ObjectRec.{ObjectRec}
use Rattle.fk_image.specs.Image.Objects.{kind_in}

-- the kind with a number, which is that of its field in the bytes; 0 is none
abbrev pub numbered : ℕ → Option Kind
numbered n =
    if n == 1 then Some kinds.Mutex
    else if n == 2 then Some kinds.Cond
    else if n == 3 then Some kinds.Mapping
    else if n == 4 then Some kinds.Region
    else if n == 5 then Some kinds.Port
    else if n == 6 then Some kinds.Portset
    else if n == 8 then Some kinds.Thread
    else if n == 9 then Some kinds.Reference
    else None

-- the kind that a table has for a slot
unfoldable pub kind_at : List ℕ → ℕ → Option Kind
kind_at numbers slot = numbered (slice_index_or numbers slot 0)

-- a table, where there is one, has the kinds of these objects
abbrev pub Tells : List ℕ → List ObjectRec → Type 0
Tells numbers objects = 0 < length numbers → (slot : ℕ) → kind_in objects slot ≡ kind_at numbers slot
