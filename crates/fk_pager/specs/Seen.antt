-- What the code sees of the objects that make a subtree pageable.
use Rattle.std.specs.Prelude.{ℕ, Bool, false, not, ◌&&◌, ◌==◌, ◌∷◌, Option, Some, None}
use Rattle.fk_model.specs.Places.{Path, same_path, leads_to}
use Rattle.fk_model.specs.Objects as objects
use Rattle.fk_model.specs.Objects.{Body}
use Rattle.fk_model.specs.Objects.Body.{Mapping, Region, Port}
use Rattle.fk_store.specs.Store.Bodies.{pointer_by}
use Rattle.fk_pager.specs.declared.desks.Extent.{Extent}
use Rattle.fk_pager.specs.Desks.{root}

abbrev pub extent_by : (ℕ → Path) → Extent → objects.Extent
extent_by path r = record { first = r.first; count = r.count; write = r.write; keeper = pointer_by path r.keeper }

-- there is an object, and it is the one at this path
abbrev pub leads_some : Path → Option Path → Bool
leads_some port None = false
leads_some port (Some x) = same_path x port

-- there is a set, and it is the one in this slot
abbrev pub is_set : ℕ → Option ℕ → Bool
is_set set None = false
is_set set (Some k) = k == set

-- an object bars a pager: a mapping in its space, another port in its set, a region of another space that its port keeps
abbrev pub is_hindrance : (space : Path) (port set : ℕ) → (s : Path) (k : ℕ) → Option Body → Bool
is_hindrance space port set s k (Some (Mapping m)) = same_path s space
is_hindrance space port set s k (Some (Port its served)) = same_path s root && is_set set its && not (k == port)
is_hindrance space port set s k (Some (Region r)) = not (same_path s space) && leads_to (port ∷ root) r.keeper
is_hindrance space port set s k other = false
