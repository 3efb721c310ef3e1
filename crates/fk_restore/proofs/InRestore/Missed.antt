-- Where a port is missing: what is cleared is all that was made.
use Rattle.std.proofs.Common.{◌≡◌, ℕ, suc, ◌+◌, List, Option, Some, sym, ap, ◌∙◌, arith}
use Rattle.fk_image.specs.declared.image.image.SpaceRec.{SpaceRec}
use Rattle.laws_restore.specs.Sites.Orders.{Order}
use Rattle.laws_restore.specs.Restore.Restore.{State as states, drops, objects, lowest_bound}
use Rattle.laws_restore.specs.Rooms.Restoring.{bound_by}
use Rattle.laws_restore.specs.Rooms.Rooms.{rooms_from}
use Rattle.fk_restore.specs.Restore.Restores.{clears, goes_on}

pub misses : (ss : List SpaceRec) (pairs : List (ℕ × ℕ)) (os : List Order) (port : Option ℕ) (j count low : ℕ) → port ≡ Some j →
    count ≡ objects (rooms_from ss 0 ss) → low ≡ lowest_bound (bound_by pairs) (rooms_from ss 0 ss) j 240 0
    → clears 0 (count + 1) low ≡ goes_on ss pairs os port
misses ss pairs os port j count low is counted lowest =
    let one : count + 1 ≡ suc count = omega arith in
    (λ k. states.Clears drops (one k) (lowest k))
    ∙ ap (λ n. states.Clears drops (suc n) (lowest_bound (bound_by pairs) (rooms_from ss 0 ss) j 240 0)) counted
    ∙ ap (goes_on ss pairs os) (sym is)
