-- The table of kinds, as objects come.
use Rattle.std.proofs.Common.{◌≡◌, ◌≢◌, ℕ, suc, ◌+◌, ◌<◌, ◌≤◌, ◌⊎◌, Bool, true, false, cond, ◌==◌, List, [], ◌∷◌, ◌++◌, length, get_or, drop, take, replicate}
use Rattle.std.proofs.Common.{set, inl, inr, Option, Some, None, refl, sym, ap, ◌∙◌, arith, drop-cons}
use Rattle.std.proofs.lemmas.Bool.{ne_eqb, cases_lt}
use Rattle.std.proofs.lemmas.Bool.Decides.{nat_tests}
use Rattle.std.proofs.lemmas.List.{take_all, length-set, get_or_past, get_or_default, get_or-replicate, length-replicate, get_or-set_same, get_or-set_other}
use Rattle.std.proofs.Math.Seq.{drop-length}
use Rattle.fk_model.specs.declared.names.Kind.{Kind}
use Rattle.fk_image.specs.declared.image.image.ObjectRec.{ObjectRec}
use Rattle.fk_image.specs.Image.Objects.{rises, next_slot, kind_of_rec, kind_in}
use Rattle.fk_image.specs.Image.Kinds.{numbered, kind_at, Tells}
use Rattle.fk_image.proofs.InImage.Rising.{Up, up}

pub kind_past : (numbers : List ℕ) (n : ℕ) → length numbers ≤ n → kind_at numbers n ≡ None
unfolding kind_at
kind_past numbers n past = ap numbered (get_or_past numbers n 0 past)

pub kind_read : (numbers : List ℕ) (n d : ℕ) → n < length numbers → d ≡ get_or numbers n d → numbered d ≡ kind_at numbers n
unfolding kind_at
kind_read numbers n d low e = ap numbered (e ∙ get_or_default numbers n d 0 low)

fill : {X : Type 0} → (x : X) (k n : ℕ) → get_or (replicate k x) n x ≡ x
fill x k n = elim (cases_lt n k) [
  | inl lt ↦ get_or-replicate k n x x lt
  | inr ge ↦ get_or_past (replicate k x) n x (rw (length-replicate k x) ge)
]

all_zeros : (empty numbers : List ℕ) (k : ℕ) → empty ≡ [] → numbers ≡ take 256 empty ++ replicate k 0 → numbers ≡ replicate k 0
all_zeros empty numbers k e is =
    let none : length empty ≤ 256 = rw e (omega arith) in
    is ∙ rw (take_all 256 empty none, e) refl

-- zeros tell of no object
pub zeros : (empty numbers : List ℕ) (k n : ℕ) → empty ≡ [] → numbers ≡ take 256 empty ++ replicate k 0 → kind_at numbers n ≡ None
unfolding kind_at
zeros empty numbers k n e is = rw (all_zeros empty numbers k e is) (ap numbered (fill 0 k n))

pub zeros_long : (empty numbers : List ℕ) (k : ℕ) → empty ≡ [] → numbers ≡ take 256 empty ++ replicate k 0 → length numbers ≡ k
zeros_long empty numbers k e is = rw (all_zeros empty numbers k e is) (length-replicate k 0)

put : (numbers : List ℕ) (k number : ℕ) (n : ℕ) →
    k < length numbers → kind_at (set numbers k number) n ≡ cond (k == n) (numbered number) (kind_at numbers n)
unfolding kind_at
put numbers k number n low = by (k == n) refl
  where
    by : (b : Bool) → (k == n) ≡ b → numbered (get_or (set numbers k number) n 0) ≡ cond b (numbered number) (numbered (get_or numbers n 0))
    by true e = let same : n ≡ k = grind (arith, nat_tests) in rw same (ap numbered (get_or-set_same numbers k number 0 low))
    by false e = let apart : n ≢ k = grind (arith, nat_tests) in ap numbered (get_or-set_other numbers k n number 0 apart)

-- ---- objects by rising slot

behind : (floor : ℕ) (p : ObjectRec) (os : List ObjectRec) → Up floor (p ∷ os) → floor + 1 ≤ next_slot (p ∷ os)
behind floor p [] rise = let h = rise.0 in omega arith
behind floor p (q ∷ os) rise = let h = behind (p.slot + 1) q os rise.1 in let g = rise.0 in omega arith

absent : (floor : ℕ) (os : List ObjectRec) (slot : ℕ) → Up floor os → next_slot os ≤ slot → kind_in os slot ≡ None
unfolding kind_in
absent floor [] slot rise last = refl
absent floor (o ∷ []) slot rise last = rw (ne_eqb o.slot slot (λ same. omega arith)) refl
absent floor (o ∷ p ∷ os) slot rise last =
    let h = behind (o.slot + 1) p os rise.1 in
    rw (ne_eqb o.slot slot (λ same. omega arith)) (absent (o.slot + 1) (p ∷ os) slot rise.1 last)

-- one more object, in a slot that had none
joined : (os : List ObjectRec) (o : ObjectRec) (n : ℕ) → kind_in os o.slot ≡ None →
    kind_in (os ++ o ∷ []) n ≡ cond (o.slot == n) (Some (kind_of_rec o.body)) (kind_in os n)
unfolding kind_in
joined [] o n none = refl
joined (p ∷ os) o n none = by (λ e. joined os o n e) (p.slot == o.slot) refl (p.slot == n) refl (o.slot == n) refl none
  where
    by : (kind_in os o.slot ≡ None → kind_in (os ++ o ∷ []) n ≡ cond (o.slot == n) (Some (kind_of_rec o.body)) (kind_in os n)) →
        (a : Bool) → (p.slot == o.slot) ≡ a → (b : Bool) → (p.slot == n) ≡ b → (c : Bool) → (o.slot == n) ≡ c →
        cond a (Some (kind_of_rec p.body)) (kind_in os o.slot) ≡ None →
        cond b (Some (kind_of_rec p.body)) (kind_in (os ++ o ∷ []) n) ≡ cond c (Some (kind_of_rec o.body)) (cond b (Some (kind_of_rec p.body)) (kind_in os n))
    by rest true d b e c f h = absurd (cc)
    by rest false d true e true f h = absurd (grind (arith, nat_tests))
    by rest false d true e false f h = refl
    by rest false d false e c f h = rest h ∙ rw f refl

pub kinds_more : (os : List ObjectRec) (o : ObjectRec) (numbers : List ℕ) (number : ℕ) → rises 0 os ≡ true → next_slot os ≤ o.slot →
    Tells numbers os → (length numbers ≡ 0) ⊎ (o.slot < length numbers) → numbered number ≡ Some (kind_of_rec o.body) →
    Tells (set numbers o.slot number) (os ++ o ∷ [])
kinds_more os o numbers number rise last told ready is some n = by ready
  where
    len : length (set numbers o.slot number) ≡ length numbers
    len = length-set numbers o.slot number

    by : (length numbers ≡ 0) ⊎ (o.slot < length numbers) → kind_in (os ++ o ∷ []) n ≡ kind_at (set numbers o.slot number) n
    by (inl none) = absurd (omega (arith, len, none, some))
    by (inr low) = let first : 0 < length numbers = omega (arith, low) in
        joined os o n (absent 0 os o.slot (up 0 os rise) last)
        ∙ ap (λ (kind : Option Kind). cond (o.slot == n) kind (kind_in os n)) (sym is)
        ∙ ap (cond (o.slot == n) (numbered number)) (told first n)
        ∙ sym (put numbers o.slot number n low)

-- the table made from the last object on
pub kinds_last : (os : List ObjectRec) (n : ℕ) → kind_in (drop (length os) os) n ≡ None
unfolding kind_in
kinds_last os n = ap (λ (xs : List ObjectRec). kind_in xs n) (drop-length os)

pub kinds_before : (os : List ObjectRec) (at before : ℕ) (o : ObjectRec) (numbers : List ℕ) (number : ℕ) →
    at ≡ before + 1 → before < length os → o ≡ get_or os before o →
    ((n : ℕ) → kind_at numbers n ≡ kind_in (drop at os) n) → o.slot < length numbers → numbered number ≡ Some (kind_of_rec o.body) →
    (n : ℕ) → kind_at (set numbers o.slot number) n ≡ kind_in (drop before os) n
unfolding kind_in
kinds_before os at before o numbers number next lt is told low same n =
    put numbers o.slot number n low
    ∙ ap (λ (kind : Option Kind). cond (o.slot == n) kind (kind_at numbers n)) same
    ∙ ap (cond (o.slot == n) (Some (kind_of_rec o.body))) (told n)
    ∙ sym (ap (λ (xs : List ObjectRec). kind_in xs n) front)
  where
    one : suc before ≡ at
    one = omega (arith, next)

    front : drop before os ≡ o ∷ drop at os
    front = drop-cons os before o lt ∙ ap (λ (x : ObjectRec). x ∷ drop (suc before) os) (sym is) ∙ ap (λ (k : ℕ). o ∷ drop k os) one
