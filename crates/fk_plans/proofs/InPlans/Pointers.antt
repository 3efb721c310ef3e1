-- Pointers: when the freezing rule lets them be.
use Rattle.std.proofs.Common.{◌≡◌, Bool, true, false, not, ◌&&◌, ◌↔◌, IsTrue, [], ◌∷◌, Option, refl}
use Rattle.fk_model.specs.Places.{Path, Ptr}
use Rattle.fk_model.specs.World.{World, Edit}
use Rattle.fk_model.specs.World.Edit.{SetPointer, SetHolder}
use Rattle.fk_model.specs.Freezing.{are_unfrozen, body_pointers, changed_pointers, made_pointers, MayAlter}
use Rattle.fk_model.specs.Holds.{is_frozen_for, leads_to_frozen}
use Rattle.fk_model.specs.Searches.{option_list}

-- a pointer that is set elsewhere
pub pointed_iff : (w : World) (me x : Path) (to : Ptr) →
    IsTrue (not (is_frozen_for w me x) && are_unfrozen w me (body_pointers (w.body x)) && not (leads_to_frozen w me to)) ↔ MayAlter w me x (SetPointer to)
pointed_iff w me x to = by (is_frozen_for w me x) refl (are_unfrozen w me (body_pointers (w.body x))) refl (leads_to_frozen w me to) refl
  where
    by : (a : Bool) → is_frozen_for w me x ≡ a → (b : Bool) → are_unfrozen w me (body_pointers (w.body x)) ≡ b →
        (c : Bool) → leads_to_frozen w me to ≡ c → IsTrue (not a && b && not c) ↔ MayAlter w me x (SetPointer to)
    by true ea b eb c ec = ((λ h. absurd (cc)), (λ h. let no = h.object in absurd (cc)))
    by false ea false eb c ec = ((λ h. absurd (cc)), (λ h. let no = h.changed in absurd (cc)))
    by false ea true eb true ec = ((λ h. absurd (cc)), (λ h. let no = rw ec at h.made in absurd (cc)))
    by false ea true eb false ec = ((λ h. record { object = ea; changed = eb; made = rw ec refl }), (λ h. refl))

-- a holder that is set
pub held_iff : (w : World) (me x : Path) (holder : Option Ptr) → IsTrue (not (is_frozen_for w me x)
    && are_unfrozen w me (body_pointers (w.body x)) && are_unfrozen w me (option_list (λ to. to ∷ []) holder)) ↔ MayAlter w me x (SetHolder holder)
held_iff w me x holder =
    by (is_frozen_for w me x) refl (are_unfrozen w me (body_pointers (w.body x))) refl (are_unfrozen w me (option_list (λ to. to ∷ []) holder)) refl
  where
    by : (a : Bool) → is_frozen_for w me x ≡ a → (b : Bool) → are_unfrozen w me (body_pointers (w.body x)) ≡ b →
        (c : Bool) → are_unfrozen w me (option_list (λ to. to ∷ []) holder) ≡ c → IsTrue (not a && b && c) ↔ MayAlter w me x (SetHolder holder)
    by true ea b eb c ec = ((λ h. absurd (cc)), (λ h. let no = h.object in absurd (cc)))
    by false ea false eb c ec = ((λ h. absurd (cc)), (λ h. let no = h.changed in absurd (cc)))
    by false ea true eb false ec = ((λ h. absurd (cc)), (λ h. let no = h.made in absurd (cc)))
    by false ea true eb true ec = ((λ h. record { object = ea; changed = eb; made = ec }), (λ h. refl))

-- pointers that are removed
pub removed_iff : (w : World) (me x : Path) (e : Edit) → made_pointers e ≡ [] →
    IsTrue (not (is_frozen_for w me x) && are_unfrozen w me (option_list (changed_pointers e) (w.body x))) ↔ MayAlter w me x e
removed_iff w me x e none = by (is_frozen_for w me x) refl (are_unfrozen w me (option_list (changed_pointers e) (w.body x))) refl
  where
    by : (a : Bool) → is_frozen_for w me x ≡ a → (b : Bool) → are_unfrozen w me (option_list (changed_pointers e) (w.body x)) ≡ b →
        IsTrue (not a && b) ↔ MayAlter w me x e
    by true ea b eb = ((λ h. absurd (cc)), (λ h. let no = h.object in absurd (cc)))
    by false ea false eb = ((λ h. absurd (cc)), (λ h. let no = h.changed in absurd (cc)))
    by false ea true eb = ((λ h. record { object = ea; changed = eb; made = rw none refl }), (λ h. refl))

-- pointers that others take the place of
pub changed_iff : (w : World) (me x : Path) (e : Edit) → IsTrue (not (is_frozen_for w me x)
    && are_unfrozen w me (option_list (changed_pointers e) (w.body x)) && are_unfrozen w me (made_pointers e)) ↔ MayAlter w me x e
changed_iff w me x e =
    by (is_frozen_for w me x) refl (are_unfrozen w me (option_list (changed_pointers e) (w.body x))) refl (are_unfrozen w me (made_pointers e)) refl
  where
    by : (a : Bool) → is_frozen_for w me x ≡ a → (b : Bool) → are_unfrozen w me (option_list (changed_pointers e) (w.body x)) ≡ b →
        (c : Bool) → are_unfrozen w me (made_pointers e) ≡ c → IsTrue (not a && b && c) ↔ MayAlter w me x e
    by true ea b eb c ec = ((λ h. absurd (cc)), (λ h. let no = h.object in absurd (cc)))
    by false ea false eb c ec = ((λ h. absurd (cc)), (λ h. let no = h.changed in absurd (cc)))
    by false ea true eb false ec = ((λ h. absurd (cc)), (λ h. let no = h.made in absurd (cc)))
    by false ea true eb true ec = ((λ h. record { object = ea; changed = eb; made = ec }), (λ h. refl))
