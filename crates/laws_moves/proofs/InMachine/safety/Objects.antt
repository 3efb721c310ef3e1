-- Where an object may be made, and where a reference, a field or a holder may lead.
use Rattle.std.proofs.Common.{◌≡◌, ℕ, Bool, true, false, if◌then◌else◌, [], ◌∷◌, Option, Some, None, is_some, Ok, refl}
use Rattle.std.specs.List.{list_any}
use Rattle.fk_model.specs.declared.names.Kind.TheVariants as kinds
use Rattle.fk_model.specs.Places.{Path, Ptr}
use Rattle.fk_model.specs.Places.Ptr.{Null, At}
use Rattle.fk_model.specs.Objects.{Body, kind_of, same_kind, reference_of}
use Rattle.fk_model.specs.Objects.Body.{Mapping, Region, Reference}
use Rattle.fk_model.specs.World.{World}
use Rattle.fk_model.specs.Outcomes.{Caller, path_of}
use Rattle.fk_model.specs.Readers.{slot_for}
use Rattle.fk_model.specs.StateRows.{referable}
use Rattle.fk_model.specs.ObjectRows.{pointer_to}
use Rattle.fk_model.specs.Valid.{IsConsistent, kind_there, leads_there, may_lead, all_in}
use Rattle.laws_moves.proofs.InMachine.safety.Safe.{takes_pointer, IsVacant}
use Rattle.laws_moves.proofs.InMachine.safety.Reads.{IsCaller, Found, kind-there, body-reference_of, slot_for-fits}
use Rattle.laws_moves.proofs.InMachine.safety.Memory.{good-at}

-- ---- empty slots

pub nothing-there : {A : Type 0} (o : Option A) → is_some o ≡ false → o ≡ None
nothing-there None free = refl
nothing-there (Some a) free = cc

pub vacant : (w : World) (c : Caller) (k j : ℕ) (s : Path) →
    kind_there w s ≡ Some kinds.Space → slot_for c k ≡ Ok j → is_some (w.body (k ∷ s)) ≡ false → IsVacant w k s
vacant w c k j s space slot free = record { slot = slot_for-fits c k j slot; space = space; empty = nothing-there _ free }

-- ---- references

pub takes-at : (w : World) (x : Path) (to old : Ptr) →
    w.body x ≡ Some (Reference old) → may_lead (kind_there w) referable to ≡ true → all_in (takes_pointer w to) (w.body x) ≡ true
takes-at w x to old there may = rw there may

-- the pointer of a reference may stand in any other
pub reference-leads : (w : World) (x : Path) (to : Ptr) → IsConsistent w → w.body x ≡ Some (Reference to) → may_lead (kind_there w) referable to ≡ true
reference-leads w x to valid there = good-at w valid x (Reference to) there

pub reference-there : (w : World) (x : Path) (to : Ptr) → Found w reference_of x to → w.body x ≡ Some (Reference to)
reference-there w x to found = let same = body-reference_of found.body to found.seen in rw (← same) found.there

pub pointer_to-leads : (w : World) (x : Path) (to : Ptr) (b : Body) →
    IsConsistent w → w.body x ≡ Some b → pointer_to x b ≡ Some to → may_lead (kind_there w) referable to ≡ true
pointer_to-leads w x to (Reference old) valid there seen = let same : to ≡ old = cc in rw same (reference-leads w x old valid there)
pointer_to-leads w x to b valid there seen = by (list_any (same_kind (kind_of b)) referable) refl seen
  where
    by : (t : Bool) → list_any (same_kind (kind_of b)) referable ≡ t → (if t then Some (At x) else None) ≡ Some to → may_lead (kind_there w) referable to ≡ true
    by true e h = let same : to ≡ At x = cc in let kind = kind-there w x b there in rw (same, kind) e
    by false e h = cc

-- every pointer field takes Null
pub takes-null : (w : World) (o : Option Body) → all_in (takes_pointer w Null) o ≡ true
takes-null w None = refl
takes-null w (Some (Mapping m)) = refl
takes-null w (Some (Region r)) = refl
takes-null w (Some (Reference to)) = refl
takes-null w (Some b) = refl

-- ---- the caller as a holder

pub caller-leads : (w : World) (c : Caller) → IsCaller w c → leads_there (kind_there w) (kinds.Thread ∷ []) (At (path_of c)) ≡ true
caller-leads w c caller = let kind = caller.thread in rw kind refl
