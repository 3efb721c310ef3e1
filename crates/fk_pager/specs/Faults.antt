-- Faults that a pager may take.
use Rattle.std.specs.Prelude.{ℕ, Bool, ◌&&◌, is_some, List, Option}
use Rattle.fk_model.specs.Places.{Path, leads_to}
use Rattle.fk_model.specs.Objects.{Fault}

-- a fault at a port on a page of a list
abbrev pub is_fault_of : Path → (ℕ → Option (List ℕ)) → Fault → Bool
is_fault_of port backing fault = leads_to port fault.port && is_some (backing fault.page)
