-- Listed: the walk through all objects of a world comes to none of them twice.
use Rattle.std.proofs.Common.{◌≡◌, ℕ, zero, suc, ◌<◌, inl, inr, List, [], ◌∷◌, ◌++◌, length, is_some, IsSome, refl, sym, ap, subst, ◌∙◌, arith}
use Rattle.std.proofs.lemmas.List.{append_assoc, length-append}
use Rattle.fk_model.specs.declared.limits.TheConstants.{SLOTS}
use Rattle.fk_model.specs.Places.{Path, slot_of}
use Rattle.fk_model.specs.World.{World}
use Rattle.fk_model.specs.Searches.{slots, residents, depth, beneath_by, beneath, objects}
use Rattle.fk_model.proofs.walks.Members.{IsIn, in_either, of_filter, of_flat_map}
use Rattle.fk_store.proofs.InFreezing.Lists.{Differ, differ-append, differ-filter, differ-flat_map}

below_slots : (n k : ℕ) → IsIn k (slots n) → k < n
unfolding slots
below_slots zero k h = absurd h
below_slots (suc n) k h = elim (in_either k (slots n) (n ∷ []) h) [
  | inl g ↦ let low = below_slots n k g in omega arith
  | inr g ↦ elim g [ inl e ↦ omega arith | inr none ↦ absurd none ]
]

slots-differ : (n : ℕ) → Differ (slots n)
unfolding slots
slots-differ zero = tt
slots-differ (suc n) = differ-append (slots n) (n ∷ []) (slots-differ n) (λ h. h, tt)
    (λ y a b. let low = below_slots n y a in elim b [ inl e ↦ absurd (omega arith) | inr none ↦ none ])

residents-differ : (w : World) (s : Path) → Differ (residents w s)
unfolding residents
residents-differ w s = differ-filter (λ k. is_some (w.body (k ∷ s))) (slots SLOTS) (slots-differ SLOTS)

-- two ends of a path that are as long are one
suffix : (q r a b : List ℕ) → q ++ a ≡ r ++ b → length a ≡ length b → a ≡ b
suffix [] [] a b e long = e
suffix [] (j ∷ r) a b e long = let more = ap length e in let all = length-append r b in absurd (omega (arith, more, all))
suffix (k ∷ q) [] a b e long = let more = ap length e in let all = length-append q a in absurd (omega (arith, more, all))
suffix (k ∷ q) (j ∷ r) a b e long = let tails : q ++ a ≡ r ++ b = cc in suffix q r a b tails long

-- a slot of a space, and all that lies beneath it
abbrev block : ℕ → World → Path → ℕ → List Path
block n w s k = (k ∷ s) ∷ beneath_by n w (k ∷ s)

in_block : (n : ℕ) (w : World) (s : Path) (k : ℕ) (y : Path) → IsIn y (block n w s k) → (q : List ℕ) × (y ≡ q ++ k ∷ s)
unfolding beneath_by
in_block n w s k y (inl e) = ([], sym e)
in_block zero w s k y (inr h) = absurd h
in_block (suc n) w s k y (inr h) =
    let found = of_flat_map (block n w (k ∷ s)) y (residents w (k ∷ s)) h in
    let beneath = in_block n w (k ∷ s) found.0 y found.2 in
    (beneath.0 ++ found.0 ∷ [], beneath.1 ∙ sym (append_assoc beneath.0 (found.0 ∷ []) (k ∷ s)))

-- what lies beneath a space has a longer path
pub in_longer : (n : ℕ) (w : World) (s y : Path) → IsIn y (beneath_by n w s) → length s < length y
unfolding beneath_by
in_longer zero w s y h = absurd h
in_longer (suc n) w s y h =
    let found = of_flat_map (block n w s) y (residents w s) h in
    let end = in_block n w s found.0 y found.2 in
    let long = ap length end.1 in
    let all = length-append end.0 (found.0 ∷ s) in
    omega (arith, long, all)

walk-differs : (n : ℕ) (w : World) (s : Path) → Differ (beneath_by n w s)
unfolding beneath_by
walk-differs zero w s = tt
walk-differs (suc n) w s = differ-flat_map (block n w s) (residents w s) (residents-differ w s)
    (λ k. (λ h. let long = in_longer n w (k ∷ s) (k ∷ s) h in absurd (omega arith), walk-differs n w (k ∷ s)))
    (λ k j y a b.
    let one = in_block n w s k y a in
    let two = in_block n w s j y b in
    ap slot_of (suffix one.0 two.0 (k ∷ s) (j ∷ s) (sym one.1 ∙ two.1) refl))

pub objects-differ : (w : World) → Differ (objects w)
unfolding beneath
objects-differ w = walk-differs depth w []

pub not_root : (w : World) (y : Path) → IsIn y (objects w) → 0 < length y
unfolding beneath
not_root w y h = in_longer depth w [] y h

-- and all that it comes to is there
in_lives : (n : ℕ) (w : World) (s x : Path) → IsIn x (beneath_by n w s) → IsSome (w.body x)
unfolding beneath_by residents
in_lives zero w s x h = absurd h
in_lives (suc n) w s x h =
    let found = of_flat_map (block n w s) x (residents w s) h in
    elim found.2 [
      | inl e ↦ subst (λ x. IsSome (w.body x)) e (of_filter (λ k. is_some (w.body (k ∷ s))) found.0 (slots SLOTS) found.1).1
      | inr g ↦ in_lives n w (found.0 ∷ s) x g
    ]

pub objects-live : (w : World) (x : Path) → IsIn x (objects w) → IsSome (w.body x)
unfolding beneath
objects-live w x h = in_lives depth w [] x h
