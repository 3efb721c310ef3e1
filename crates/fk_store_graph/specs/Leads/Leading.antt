-- Leading: where bodies lead, by names.
use Rattle.std.specs.Prelude.{◌≡◌, ℕ, ◌+◌, Bool, true, false, Option, Some, None, IsSome}
use Rattle.std.specs.FinMap.{FinMap, get, entries}
use Rattle.std.specs.List.{sum_by}
use Rattle.fk_model.specs.declared.names.Who.{Who}
use Rattle.fk_model.specs.declared.thread.Fault.{Fault}
use Rattle.fk_model.specs.declared.thread.Thread as threads_of
use Rattle.fk_model.specs.declared.body.Body.{Body}
use Rattle.fk_model.specs.declared.body.Body.TheVariants.{Mutex, Cond, Mapping, Region, Port, Portset, Space, Thread, Reference}
use Rattle.fk_model.specs.Objects.{and_then}
use Rattle.fk_store_graph.specs.declared.hints.lead.Sort.{Sort}
use Rattle.fk_store_graph.specs.declared.hints.lead.Sort.TheVariants.{Pointer, Served, Taken}
use Rattle.fk_store_graph.specs.declared.hints.lead.Lead.{Lead}
use Rattle.fk_store_graph.specs.Hints.Leads.{led, of_fault}
use Rattle.fk_store_graph.specs.Leads.Names.{who_cmp}
use Rattle.fk_store_graph.specs.Leads.Pointers.{hit, hits_in}

abbrev pub pointed_by : Sort → Who → Option Who
pointed_by Pointer who = Some who
pointed_by Served who = None
pointed_by Taken who = None

abbrev pub pointed : Lead → Option Who
pointed lead = pointed_by lead.sort lead.to

-- where a field of a body leads as a pointer
unfoldable pub target : ℕ → Body → Option Who
target field b = and_then pointed (led b field)

-- and where a field of a thread with this fault does, of the fields 3 to 5
abbrev pub fault_target : ℕ → Option Fault → Option Who
fault_target field fault = and_then pointed (and_then (of_fault field) fault)

-- a thread, and its body with another fault
abbrev pub IsThread : Option Body → Type 0
IsThread o = (t : threads_of.Thread) × (o ≡ Some (Thread t))

-- the body of a thread with this fault, or with none
abbrev pub with_fault : threads_of.Thread → Option Fault → Body
with_fault t fault = Thread (record t { fault = fault })

-- a body leads to what is there
abbrev pub LeadsAmong : FinMap who_cmp Body → Body → Type 0
LeadsAmong bodies b = (i : ℕ) (l : Lead) → led b i ≡ Some l → IsSome (get bodies l.to)

-- a body with one field
abbrev pub is_single : Body → Bool
is_single (Mutex locked) = false
is_single Cond = false
is_single (Mapping first count offset write region) = true
is_single (Region first count write keeper) = true
is_single (Port set served) = false
is_single Portset = false
is_single (Space birth holder) = true
is_single (Thread thread) = false
is_single (Reference to) = true

-- an object is a reference
abbrev pub is_reference : Body → Bool
is_reference (Mutex locked) = false
is_reference Cond = false
is_reference (Mapping first count offset write region) = false
is_reference (Region first count write keeper) = false
is_reference (Port set served) = false
is_reference Portset = false
is_reference (Space birth holder) = false
is_reference (Thread thread) = false
is_reference (Reference to) = true

-- a body that may lead somewhere otherwise than by a pointer
abbrev pub may_tell : Body → Bool
may_tell (Mutex locked) = false
may_tell Cond = false
may_tell (Mapping first count offset write region) = false
may_tell (Region first count write keeper) = false
may_tell (Port set served) = false
may_tell Portset = false
may_tell (Space birth holder) = false
may_tell (Thread thread) = true
may_tell (Reference to) = false

-- how many fields of a body lead to an object as pointers
unfoldable pub leading : Who → Body → ℕ
leading who b = (hits_in (hit who) (target 0 b) + hits_in (hit who) (target 1 b)) + (hits_in (hit who) (target 3 b) + hits_in (hit who) (target 4 b))

unfoldable pub all_leading : Who → FinMap who_cmp Body → ℕ
all_leading who bodies = sum_by (λ e. leading who e.1) (entries bodies)
