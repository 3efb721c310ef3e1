-- Sets of places, and what is known of an image's spaces.
use Rattle.std.specs.Prelude.{◌≡◌, ◌≤◌, ◌<◌, ℕ, Bool, ◌&&◌, ◌==◌, List, length, get_or, IfSome}
use Rattle.std.specs.List.{list_any}
use Rattle.fk_image.specs.declared.image.image.SpaceRec.{SpaceRec}
use Rattle.fk_image.specs.Image.Links.{has_space_at, end_of}
use Rattle.fk_image.specs.Format.Offsets.{Named, nobody}
use Rattle.fk_image.specs.declared.pointers.places.Place.{Place}
use Rattle.fk_image.specs.declared.pointers.places.Places.{Places}
use Rattle.fk_image.specs.declared.pointers.places.Index.{Index}

abbrev pub is_place : ℕ → ℕ → Place → Bool
is_place space slot p = space == p.space && slot == p.slot

-- whether a place is in a set
abbrev pub has_place : Places → Named
has_place places = λ space slot. list_any (is_place space slot) places.set.keys

-- no place is listed
abbrev pub IsEmptySet : Places → Type 0
IsEmptySet places = has_place places ≡ nobody

-- the ends of the spaces with numbers from one on
pub record KnowsFrom (number : ℕ) (spaces : List SpaceRec) (ends : List ℕ) : Type 0 where
  pub count : length ends ≡ length spaces
  pub each : (n : ℕ) → number ≤ n → n < length spaces → get_or ends n 0 ≡ end_of spaces n

-- an index knows where spaces lie, and where each one's part ends
pub record IsIndex (spaces : List SpaceRec) (index : Index) : Type 0 where
  pub places : IfSome index.places (λ places. has_place places ≡ has_space_at spaces)
  pub ends : KnowsFrom 0 spaces index.ends.items
