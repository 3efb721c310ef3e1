use Rattle.std.proofs.Common.{◌≡◌, ℕ, ◌||◌, drop}
use Rattle.std.specs.List.{list_any}
use Rattle.fk_image.specs.Image.Links.{lies_in}
use Rattle.fk_image.specs.Pointers.Places.{has_place}
use Rattle.fk_image.proofs.pointers.places.places_of.Given as goal

abbrev pub invariant-loop-space : goal.invariant-loop-space
invariant-loop-space l = (space slot : ℕ) →
    (has_place l.places space slot || list_any (lies_in space slot) (drop l.space-index l.spaces)) ≡ list_any (lies_in space slot) l.spaces
