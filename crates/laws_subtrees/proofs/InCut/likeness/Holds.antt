-- What is held, and who is free, inside is so in a likeness, where nothing at or above the root is held.
use Rattle.std.proofs.Common.{◌≡◌, ℕ, Bool, true, false, not, ◌&&◌, eqb, [], ◌∷◌, ◌++◌, Option, Some, None, IfSome, is_some, is_none, option_map, refl, sym, ap}
use Rattle.std.proofs.Common.{◌∙◌}
use Rattle.fk_model.specs.Places.{Path, strip, is_within, Ptr, leads_to}
use Rattle.fk_model.specs.Objects.{Fault, Thread, Body, and_then, or_else}
use Rattle.fk_model.specs.Objects.Body.{Space}
use Rattle.fk_model.specs.World.{World}
use Rattle.fk_model.specs.Holds.{holder_of, decider, is_frozen, is_frozen_for, is_decided_by, leads_to_frozen, is_user, is_free, is_unheld}
use Rattle.fk_model.specs.SpaceRows.{is_held_by_other}
use Rattle.fk_model.specs.Cut.{seen_by, unheld}
use Rattle.laws_subtrees.specs.Cut.Likeness.{seeing, seen_thread, PtrLikeness, HasLikeness, IsPlainBody, IsLikeness, AlikeOptions, IsSeenAs}
use Rattle.laws_subtrees.specs.Cut.Likeness.PtrLikeness.{Nulls, Deads, Inside, PortAt, PortOut}
use Rattle.fk_model.proofs.walks.PlaceLaws.{same_path_sym, same_path_cancel, same_path_outside}
use Rattle.laws_subtrees.proofs.InCut.likeness.Alike.{alike_or_else, alike-is_some, alike-holds}
use Rattle.laws_subtrees.proofs.InCut.likeness.Memory.{root_seen}

-- ---- where a pointer leads

pub strip_none : (root x : Path) → is_within root x ≡ false → strip root x ≡ None
strip_none root x h = by (strip root x) h
  where
    by : (o : Option Path) → is_some o ≡ false → o ≡ None
    by None h = refl
    by (Some q) h = cc

pub leads_to-like : (root : Path) (big : World) (x : Path) (p seen : Ptr) → PtrLikeness root big p seen → leads_to x seen ≡ leads_to (x ++ root) p
leads_to-like root big x _ _ Nulls = refl
leads_to-like root big x _ _ Deads = refl
leads_to-like root big x _ _ (Inside y) = sym (same_path_cancel y x root)
leads_to-like root big x _ _ (PortAt y slot apart port) = sym (same_path_sym y (x ++ root) ∙ same_path_outside root x y (strip_none root y apart))
leads_to-like root big x _ _ (PortOut old slot) = refl

-- ---- options

pub or_else-none : (a b : Option Ptr) → or_else a b ≡ None → a ≡ None
or_else-none None b h = refl
or_else-none (Some p) b h = cc

pub none-unfrozen : (w : World) (x : Path) → is_frozen w x ≡ false → decider w x ≡ None
none-unfrozen w x h = by (decider w x) h
  where
    by : (o : Option Ptr) → is_some o ≡ false → o ≡ None
    by None h = refl
    by (Some p) h = cc

-- nothing at or above the root is held where nothing at or above what lies beneath is
pub root_unfrozen : (w : World) (root q : Path) → is_frozen w (q ++ root) ≡ false → is_frozen w root ≡ false
unfolding decider
root_unfrozen w root [] h = h
root_unfrozen w root (k ∷ q) h =
    let above = or_else-none (decider w (q ++ root)) (holder_of (w.body (k ∷ (q ++ root)))) (none-unfrozen w (k ∷ (q ++ root)) h) in
    root_unfrozen w root q (ap is_some above)

module _ {root : Path} {see : Ptr → Ptr} {small big : World} (like : IsLikeness root see small big) where
  seen_leads_to : (me : Path) (seen p : Ptr) → IsSeenAs root see big seen p → leads_to me seen ≡ leads_to (me ++ root) p
  seen_leads_to me seen p h = rw h.0 (leads_to-like root big me p (see p) h.1)

  seen_leads_past : (me : Path) (seen p : Ptr) → IsSeenAs root see big seen p → not (leads_to me seen) ≡ not (leads_to (me ++ root) p)
  seen_leads_past me seen p h = ap not (seen_leads_to me seen p h)

  -- ---- holders

  pub holder_of-like : (k : ℕ) (q : Path) → AlikeOptions (IsSeenAs root see big) (holder_of (small.body (k ∷ q))) (holder_of (big.body (k ∷ (q ++ root))))
  unfolding seen_by
  holder_of-like k q = rw (like.bodies (k ∷ q)) (by (big.body (k ∷ (q ++ root))) (like.plain k q))
    where
      by : (v : Option Body) → IfSome v (IsPlainBody see (HasLikeness root see big)) →
          AlikeOptions (IsSeenAs root see big) (holder_of (option_map (λ b. unheld (k ∷ q) (seen_by (seeing see) b)) v)) (holder_of v)
      by (Some (Space birth (Some holder))) h = (refl, h)
      by (Some (Space birth None)) h = tt
      by (Some b) h = tt
      by None h = tt

  pub is_held_by_other-like : (me : Path) (k : ℕ) (q : Path) → is_held_by_other small me (k ∷ q) ≡ is_held_by_other big (me ++ root) (k ∷ (q ++ root))
  is_held_by_other-like me k q = alike-holds (IsSeenAs root see big)
      (holder_of (small.body (k ∷ q))) (holder_of (big.body (k ∷ (q ++ root)))) _ _ (holder_of-like k q) (seen_leads_past me)

  module _ (free : is_frozen big root ≡ false) where
    pub decider-like : (q : Path) → AlikeOptions (IsSeenAs root see big) (decider small q) (decider big (q ++ root))
    unfolding decider
    decider-like [] = rw (none-unfrozen big root free, root_seen like) tt
    decider-like (k ∷ q) = alike_or_else (IsSeenAs root see big) (decider small q)
        (holder_of (small.body (k ∷ q))) (decider big (q ++ root)) (holder_of (big.body (k ∷ (q ++ root)))) (decider-like q) (holder_of-like k q)

    pub is_frozen-like : (q : Path) → is_frozen small q ≡ is_frozen big (q ++ root)
    is_frozen-like q = alike-is_some (IsSeenAs root see big) (decider small q) (decider big (q ++ root)) (decider-like q)

    pub is_frozen_for-like : (me q : Path) → is_frozen_for small me q ≡ is_frozen_for big (me ++ root) (q ++ root)
    is_frozen_for-like me q = alike-holds (IsSeenAs root see big) (decider small q) (decider big (q ++ root)) _ _ (decider-like q) (seen_leads_past me)

    pub is_decided_by-like : (me q : Path) → is_decided_by small me q ≡ is_decided_by big (me ++ root) (q ++ root)
    is_decided_by-like me q = alike-holds (IsSeenAs root see big) (decider small q) (decider big (q ++ root)) _ _ (decider-like q) (seen_leads_to me)

    -- a port outside may be frozen, and isn't seen to be
    pub leads_to_frozen-like : (me : Path) (p seen : Ptr) →
        PtrLikeness root big p seen → leads_to_frozen big (me ++ root) p ≡ false → leads_to_frozen small me seen ≡ false
    leads_to_frozen-like me _ _ Nulls h = refl
    leads_to_frozen-like me _ _ Deads h = refl
    leads_to_frozen-like me _ _ (Inside x) h = is_frozen_for-like me x ∙ h
    leads_to_frozen-like me _ _ (PortAt x slot apart port) h = refl
    leads_to_frozen-like me _ _ (PortOut old slot) h = refl

    -- ---- who is free

    pub is_unheld-like : (q : Path) → is_unheld small q ≡ is_unheld big (q ++ root)
    is_unheld-like q = ap not (is_frozen-like q)

    no_fault : (o : Option Fault) → is_none (and_then (seeing see).fault o) ≡ is_none o
    no_fault None = refl
    no_fault (Some fault) = refl

    pub is_free-like : (q : Path) (t : Thread) → is_free small q (seen_thread see t) ≡ is_free big (q ++ root) t
    is_free-like q t = rw (is_frozen-like q, no_fault t.fault) refl

  -- what is free in the big world is free in the likeness, whatever is held above the root
  pub unheld-free : (q : Path) (t : Thread) → is_free big (q ++ root) t ≡ true → is_frozen big root ≡ false
  unheld-free q t h = by (is_frozen big (q ++ root)) refl h
    where
      by : (b : Bool) → is_frozen big (q ++ root) ≡ b → (not b && eqb t.stops 0 && is_none t.fault && is_user t.mode) ≡ true → is_frozen big root ≡ false
      by true e h = cc
      by false e h = root_unfrozen big root q e
