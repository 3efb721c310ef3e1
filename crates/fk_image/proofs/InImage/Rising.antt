-- Objects by rising slot: one more at the end.
use Rattle.std.proofs.Common.{◌≡◌, ℕ, ◌+◌, ◌≤◌, Bool, true, false, leb, ◌&&◌, List, [], ◌∷◌, ◌++◌, refl, arith}
use Rattle.std.proofs.lemmas.Bool.{leb-true, le-leb}
use Rattle.fk_image.specs.declared.image.image.ObjectRec.{ObjectRec}
use Rattle.fk_image.specs.Image.Objects.{rises, next_slot}

abbrev pub Up : ℕ → List ObjectRec → Type 0
Up floor [] = Unit {0}
Up floor (o ∷ os) = (floor ≤ o.slot) × Up (o.slot + 1) os

both : (a b : Bool) → (a && b) ≡ true → (a ≡ true) × (b ≡ true)
both true b e = (refl, e)
both false b e = absurd cc

pub up : (floor : ℕ) (os : List ObjectRec) → rises floor os ≡ true → Up floor os
up floor [] e = tt
up floor (o ∷ os) e = let p = both _ _ e in (leb-true _ _ p.0, up (o.slot + 1) os p.1)

-- one more at the end
more_after : (floor : ℕ) (p : ObjectRec) (os : List ObjectRec) (o : ObjectRec) →
    rises floor (p ∷ os) ≡ true → next_slot (p ∷ os) ≤ o.slot → rises floor (p ∷ (os ++ o ∷ [])) ≡ true
more_after floor p [] o e last = let h = both (leb floor p.slot) true e in rw (h.0, le-leb (p.slot + 1) o.slot last) refl
more_after floor p (q ∷ os) o e last = let h = both (leb floor p.slot) (rises (p.slot + 1) (q ∷ os)) e in rw h.0 (more_after (p.slot + 1) q os o h.1 last)

pub rises_more : (os : List ObjectRec) (o : ObjectRec) → rises 0 os ≡ true → next_slot os ≤ o.slot → rises 0 (os ++ o ∷ []) ≡ true
rises_more [] o e last = rw (le-leb 0 o.slot (omega arith)) refl
rises_more (p ∷ os) o e last = more_after 0 p os o e last

pub next_slot-more : (os : List ObjectRec) (o : ObjectRec) → next_slot (os ++ o ∷ []) ≡ o.slot + 1
next_slot-more [] o = refl
next_slot-more (p ∷ []) o = refl
next_slot-more (p ∷ q ∷ os) o = next_slot-more (q ∷ os) o
