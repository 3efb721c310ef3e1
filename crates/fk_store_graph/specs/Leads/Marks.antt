-- Marks: in which slots a space may have mappings and regions, by groups of 16 slots.
use Rattle.std.specs.Prelude.{ℕ, ◌+◌, ◌/◌, Bool, true, false, is_some}
use Rattle.fk_model.specs.declared.body.Body.{Body}
use Rattle.fk_model.specs.declared.body.Body.TheVariants.{Mutex, Cond, Mapping, Region, Port, Portset, Space, Thread, Reference}

-- a mapping or a region
abbrev pub is_of_pages : Body → Bool
is_of_pages (Mutex locked) = false
is_of_pages Cond = false
is_of_pages (Mapping first count offset write region) = true
is_of_pages (Region first count write keeper) = true
is_of_pages (Port set served) = false
is_of_pages Portset = false
is_of_pages (Space birth holder) = false
is_of_pages (Thread thread) = false
is_of_pages (Reference to) = false

-- a port in a set
abbrev pub is_member : Body → Bool
is_member (Mutex locked) = false
is_member Cond = false
is_member (Mapping first count offset write region) = false
is_member (Region first count write keeper) = false
is_member (Port set served) = is_some set
is_member Portset = false
is_member (Space birth holder) = false
is_member (Thread thread) = false
is_member (Reference to) = false

-- the mark of the group of a mapping's or a region's slot, and that of a port's in a set
abbrev pub page_mark : ℕ → ℕ
page_mark slot = slot / 16

-- the mark of a group of slots, in which ports that are members of a set may stand
abbrev pub member_mark : ℕ → ℕ
member_mark slot = 16 + slot / 16
