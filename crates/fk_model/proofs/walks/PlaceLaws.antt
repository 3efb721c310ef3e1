-- Paths: when two are the same, and what lies beneath what.
use Rattle.std.proofs.Common.{◌≡◌, ℕ, Bool, true, false, if◌then◌else◌, ◌&&◌, ◌==◌, [], ◌∷◌, ◌++◌, length, Option, Some, None, option_map, refl, ap, sym, arith}
use Rattle.std.proofs.Common.{length-append, eqb-true, eq-eqb}
use Rattle.std.proofs.lemmas.Bool.{and_parts}
use Rattle.fk_model.specs.Places.{Path, same_path, strip, Ptr, leads_to}
use Rattle.fk_model.specs.Places.Ptr.{Null, Dead, At, Out, Outside, Far}

pub same_path_refl : (x : Path) → same_path x x ≡ true
unfolding same_path
same_path_refl [] = refl
same_path_refl (k ∷ x) = rw (eq-eqb k k refl) (same_path_refl x)

pub same_path_eq : (x y : Path) → same_path x y ≡ true → x ≡ y
unfolding same_path
same_path_eq [] [] h = refl
same_path_eq [] (j ∷ y) h = cc
same_path_eq (k ∷ x) [] h = cc
same_path_eq (k ∷ x) (j ∷ y) h =
    let both = and_parts (k == j) (same_path x y) h in
    let first = eqb-true k j both.0 in
    let rest = same_path_eq x y both.1 in
    cc

pub same_path_ne : (x y : Path) → (x ≡ y → ⊥) → same_path x y ≡ false
same_path_ne x y apart = by _ refl
  where
    by : (b : Bool) → same_path x y ≡ b → b ≡ false
    by true h = absurd (apart (same_path_eq x y h))
    by false h = refl

pub same_path_apart : (x y : Path) → same_path x y ≡ false → x ≡ y → ⊥
same_path_apart x y h e = let here = same_path_refl y in let there : same_path y y ≡ false = rw e at h in cc

pub same_path_sym : (x y : Path) → same_path x y ≡ same_path y x
same_path_sym x y = by _ refl
  where
    by : (b : Bool) → same_path x y ≡ b → b ≡ same_path y x
    by true h = let e = same_path_eq x y h in rw e (sym (same_path_refl y))
    by false h = sym (same_path_ne y x (λ e. same_path_apart x y h (sym e)))

pub same_path_long : (x y : Path) → same_path x y ≡ true → length x ≡ length y
same_path_long x y h = ap length (same_path_eq x y h)

-- a path is never one of those beneath it
pub same_path_beneath : (k : ℕ) (q r : Path) → same_path (k ∷ (q ++ r)) r ≡ false
same_path_beneath k q r = by _ refl
  where
    by : (b : Bool) → same_path (k ∷ (q ++ r)) r ≡ b → b ≡ false
    by true h = absurd (omega (arith, same_path_long (k ∷ (q ++ r)) r h, length-append q r))
    by false h = refl

pub same_path_above : (k : ℕ) (q r : Path) → same_path r (k ∷ (q ++ r)) ≡ false
same_path_above k q r = rw (same_path_sym r (k ∷ (q ++ r))) (same_path_beneath k q r)

pub same_path_cancel : (q x r : Path) → same_path (q ++ r) (x ++ r) ≡ same_path q x
unfolding same_path
same_path_cancel [] [] r = same_path_refl r
same_path_cancel [] (j ∷ x) r = same_path_above j x r
same_path_cancel (k ∷ q) [] r = same_path_beneath k q r
same_path_cancel (k ∷ q) (j ∷ x) r = ap (λ b. (k == j) && b) (same_path_cancel q x r)

pub strip-append : (r q : Path) → strip r (q ++ r) ≡ Some q
unfolding strip
strip-append [] [] = rw (same_path_refl []) refl
strip-append (k ∷ r) [] = rw (same_path_refl (k ∷ r)) refl
strip-append r (k ∷ q) = rw (same_path_beneath k q r, strip-append r q) refl

pub strip_some : (r x q : Path) → strip r x ≡ Some q → x ≡ q ++ r
unfolding strip
strip_some r [] q h = by (same_path [] r) refl h
  where
    by : (b : Bool) → same_path [] r ≡ b → (if b then Some [] else None) ≡ Some q → [] ≡ q ++ r
    by true e h = let at_root = same_path_eq [] r e in let none : q ≡ [] = cc in rw none at_root
    by false e h = cc
strip_some r (k ∷ x) q h = by (strip_some r x) (same_path (k ∷ x) r) refl h
  where
    deeper : (o : Option Path) → ((z : Path) → o ≡ Some z → x ≡ z ++ r) → option_map (λ z. k ∷ z) o ≡ Some q → k ∷ x ≡ q ++ r
    deeper None below h = cc
    deeper (Some z) below h = let under = below z refl in let joined : q ≡ k ∷ z = cc in rw (joined, ← under) refl

    by : ((z : Path) → strip r x ≡ Some z → x ≡ z ++ r) →
        (b : Bool) → same_path (k ∷ x) r ≡ b → (if b then Some [] else option_map (λ z. k ∷ z) (strip r x)) ≡ Some q → k ∷ x ≡ q ++ r
    by below true e h = let at_root = same_path_eq (k ∷ x) r e in let none : q ≡ [] = cc in rw none at_root
    by below false e h = deeper (strip r x) below h

-- a test of two paths against a third is off where the first is inside and the second is not
pub same_path_outside : (r q x : Path) → strip r x ≡ None → same_path (q ++ r) x ≡ false
same_path_outside r q x out = by _ refl
  where
    by : (b : Bool) → same_path (q ++ r) x ≡ b → b ≡ false
    by true h = let inside = strip-append r q in let same = same_path_eq (q ++ r) x h in cc
    by false h = refl

-- ---- pointers

pub leads_to_at : (x : Path) (p : Ptr) → leads_to x p ≡ true → p ≡ At x
leads_to_at x (At y) h = let e = same_path_eq y x h in cc
leads_to_at x Null h = cc
leads_to_at x Dead h = cc
leads_to_at x (Out slot) h = cc
leads_to_at x Outside h = cc
leads_to_at x Far h = cc
