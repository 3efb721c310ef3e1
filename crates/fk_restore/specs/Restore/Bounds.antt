-- A slot of an image to which a missing port may belong.
use Rattle.std.specs.Prelude.{ℕ, Bool, ◌&&◌, ◌==◌, List}
use Rattle.std.specs.List.{list_any}
use Rattle.laws_restore.specs.Restore.Rooms.{Room}
use Rattle.laws_restore.specs.Restore.Script.{has, leads_out}

-- something leads out to a slot, and it is bound to another
abbrev pub bound_here : (ℕ → ℕ) → List Room → ℕ → ℕ → Bool
bound_here bind rooms j i = bind i == j && list_any (has (leads_out i)) rooms
