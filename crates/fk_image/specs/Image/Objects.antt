-- The objects of a space, by rising slot.
use Rattle.std.specs.Prelude.{ℕ, ◌+◌, Bool, true, ◌&&◌, nat_le, ◌==◌, if◌then◌else◌, List, [], ◌∷◌, Option, Some, None}
use Rattle.fk_model.specs.declared.names.Kind.{Kind}
use Rattle.fk_model.specs.declared.names.Kind.TheVariants as kinds
use Rattle.fk_image.specs.declared.image.image.Rec.{Rec}
use Rattle.fk_image.specs.declared.image.image.Rec.TheVariants.{Mutex, Cond, Portset, Mapping, Region, Port, Thread, Reference}
use Rattle.fk_image.specs.declared.image.image.ObjectRec.{ObjectRec}

-- slots rise from a lowest one on
abbrev pub rises : ℕ → List ObjectRec → Bool
rises floor [] = true
rises floor (o ∷ os) = nat_le floor o.slot && rises (o.slot + 1) os

-- the lowest slot behind all objects
abbrev pub next_slot : List ObjectRec → ℕ
next_slot [] = 0
next_slot (o ∷ []) = o.slot + 1
next_slot (o ∷ p ∷ os) = next_slot (p ∷ os)

-- the kind of an object's record
abbrev pub kind_of_rec : Rec → Kind
kind_of_rec (Mutex locked) = kinds.Mutex
kind_of_rec Cond = kinds.Cond
kind_of_rec Portset = kinds.Portset
kind_of_rec (Mapping first count offset write region) = kinds.Mapping
kind_of_rec (Region first count write keeper) = kinds.Region
kind_of_rec (Port set) = kinds.Port
kind_of_rec (Thread t) = kinds.Thread
kind_of_rec (Reference to) = kinds.Reference

-- the kind of the object in a slot
unfoldable pub kind_in : List ObjectRec → ℕ → Option Kind
kind_in [] slot = None
kind_in (o ∷ os) slot = if o.slot == slot then Some (kind_of_rec o.body) else kind_in os slot
