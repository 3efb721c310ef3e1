-- Where a subtree isn't closed: the first of its objects that says so.
use Rattle.std.specs.Prelude.{ℕ, List, [], ◌∷◌, ◌++◌, reverse, Option, None, option_map, unwrap_or}
use Rattle.fk_model.specs.Closed.{Place, open_field}
use Rattle.fk_model.specs.Objects.{or_else}
use Rattle.fk_model.specs.Places.{Path, strip}
use Rattle.fk_model.specs.World.{World}
use Rattle.fk_cut.specs.declared.closing.closing.Place as places

-- a place whose path is told from the nester, by the path that the machine has
abbrev pub placed : places.Place → Place
placed p = record { path = reverse p.path; field = p.field }

-- what the object at a path of the subtree in a slot of a nester says, with its path from the subtree's root
abbrev pub place_below : World → Path → ℕ → Path → Option Place
place_below w nester slot q = option_map (λ number. record { path = q ++ slot ∷ []; field = number }) (open_field w nester slot q)

-- the same, by its whole path
abbrev pub place_at : World → Path → ℕ → Path → Option Place
place_at w nester slot x = place_below w nester slot (unwrap_or (strip (slot ∷ nester) x) [])

-- the first of several
unfoldable pub first_at : World → Path → ℕ → List Path → Option Place
first_at w nester slot [] = None
first_at w nester slot (x ∷ xs) = or_else (place_at w nester slot x) (first_at w nester slot xs)
