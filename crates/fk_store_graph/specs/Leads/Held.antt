-- Held: how many spaces are held.
use Rattle.std.specs.Prelude.{◌≡◌, ℕ, ◌<◌, Bool, false, is_some, if◌then◌else◌}
use Rattle.std.specs.List.{sum_by}
use Rattle.std.specs.FinMap.{FinMap, entries}
use Rattle.fk_model.specs.declared.body.Body.{Body}
use Rattle.fk_model.specs.declared.body.Body.TheVariants.{Mutex, Cond, Mapping, Region, Port, Portset, Space, Thread, Reference}
use Rattle.fk_store_graph.specs.Leads.Names.{who_cmp}

-- a space that somebody holds
abbrev pub is_held : Body → Bool
is_held (Mutex locked) = false
is_held Cond = false
is_held (Mapping first count offset write region) = false
is_held (Region first count write keeper) = false
is_held (Port set served) = false
is_held Portset = false
is_held (Space birth holder) = is_some holder
is_held (Thread thread) = false
is_held (Reference to) = false

-- 1 where it is so, else 0
abbrev pub one_if : Bool → ℕ
one_if b = if b then 1 else 0

-- how many spaces are held
unfoldable pub held_in : FinMap who_cmp Body → ℕ
held_in bodies = sum_by (λ e. one_if (is_held e.1)) (entries bodies)

-- the count of a number, unless it has come to its end
abbrev pub IsCount : ℕ → ℕ → Type 0
IsCount n count = count < 18446744073709551615 → n ≡ count
