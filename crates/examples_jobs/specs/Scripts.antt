-- In which order a restore looks for ports: by rising slots of the image, whatever the order of the objects that lead there.
use Rattle.std.specs.Prelude.{◌≡◌, ℕ, List, [], ◌∷◌, ◌+◌, None}
use Rattle.std.specs.List.{flat_map}
use Rattle.fk_model.specs.Places.Ptr.{Out}
use Rattle.fk_model.specs.Objects.Body.{Reference}
use Rattle.laws_restore.specs.Sites.Orders.{Order}
use Rattle.laws_restore.specs.Sites.Orders.Order.{Pins}
use Rattle.laws_restore.specs.Restore.Rooms.{Room}
use Rattle.laws_restore.specs.Restore.Script.{script}

-- the first object leads to the higher slot of the nester, the second to the lower one
abbrev pub two_outs : List Room
two_outs =
    record {
      path = [];
      holder = None;
      items = record { slot = 3; body = Reference (Out 9) } ∷ record { slot = 4; body = Reference (Out 7) } ∷ [];
      sheets = [];
    } ∷ []

abbrev pub looked_for : Order → List ℕ
looked_for (Pins slot) = slot ∷ []
looked_for other = []

-- bound ten higher, the lower one is looked for first; a script by the order of objects would look for 19 first, and where both are
-- missing tell of 9
abbrev pub LooksRise : Type 0
LooksRise = flat_map looked_for (script 2 (λ (slot : ℕ). 10 + slot) two_outs) ≡ 17 ∷ 19 ∷ []
