-- Pieces give their bytes again.
use Rattle.std.proofs.Common.{◌≡◌, ℕ, zero, suc, ◌+◌, ◌-◌, ◌≤◌, Bool, true, false, cond, ◌==◌, eqb-true, eq-eqb, Option, Some, None}
use Rattle.std.proofs.Common.{List, [], ◌∷◌, ◌++◌, length, take, drop, replicate}
use Rattle.std.proofs.Common.{inl, inr, refl, sym, ap, subst, arith, ◌∙◌}
use Rattle.std.specs.List.{slice_get}
use Rattle.laws_handover.specs.Laws.{IsIn}
use Rattle.laws_handover.specs.Pieces.{Piece, SIZE, blocks_by, blocks, piece, numbered, pieces}
use Rattle.laws_handover.specs.Pieces.{content, found, behind, joined_from, joined, read_from, PiecesAreExact}

-- ---- lists

take_all : (xs ys : List ℕ) → take (length xs) (xs ++ ys) ≡ xs
take_all [] [] = refl
take_all [] (y ∷ ys) = refl
take_all (x ∷ xs) ys = ap (λ (zs : List ℕ). x ∷ zs) (take_all xs ys)

both_parts : (n : ℕ) (xs : List ℕ) → take n xs ++ drop n xs ≡ xs
both_parts zero xs = refl
both_parts (suc n) [] = refl
both_parts (suc n) (x ∷ xs) = ap (λ (zs : List ℕ). x ∷ zs) (both_parts n xs)

fewer_dropped : (n : ℕ) (xs : List ℕ) → length (drop n xs) ≤ length xs
fewer_dropped zero xs = omega arith
fewer_dropped (suc n) [] = omega arith
fewer_dropped (suc n) (x ∷ xs) = let rest = fewer_dropped n xs in omega (arith, rest)

abbrev together : List (List ℕ) → List ℕ
together [] = []
together (b ∷ bs) = b ++ together bs

blocks_together : (n : ℕ) (bytes : List ℕ) → length bytes ≤ n → together (blocks_by n bytes) ≡ bytes
unfolding blocks_by
blocks_together zero [] h = refl
blocks_together zero (b ∷ bytes) h = absurd (omega (arith, h))
blocks_together (suc n) [] h = refl
blocks_together (suc n) (b ∷ bytes) h =
    let few : length (drop SIZE (b ∷ bytes)) ≤ n = let rest = fewer_dropped 511 bytes in omega (arith, rest, h) in
    ap (λ (zs : List ℕ). take SIZE (b ∷ bytes) ++ zs) (blocks_together n (drop SIZE (b ∷ bytes)) few) ∙ both_parts SIZE (b ∷ bytes)

-- ---- a piece of these blocks

content_is : (number total : ℕ) (block : List ℕ) → content (piece number total block) ≡ block
content_is number total block = take_all block (replicate (SIZE - length block) 0)

record IsPiece (number total : ℕ) (bs : List (List ℕ)) (p : Piece) : Type 0 where
  at : ℕ
  block : List ℕ
  there : slice_get bs at ≡ Some block
  is : p ≡ piece (number + at) total block

in_numbered : (number total : ℕ) (bs : List (List ℕ)) (p : Piece) → IsIn p (numbered number total bs) → IsPiece number total bs p
in_numbered number total [] p h = absurd h
in_numbered number total (b ∷ bs) p (inl e) =
    record { at = 0; block = b; there = refl; is = sym e ∙ ap (λ (n : ℕ). piece n total b) (let same : number ≡ number + 0 = omega arith in same) }
in_numbered number total (b ∷ bs) p (inr h) =
    let rest = in_numbered (suc number) total bs p h in
    record {
      at = suc rest.at;
      block = rest.block;
      there = rest.there;
      is = rest.is ∙ ap (λ (n : ℕ). piece n total rest.block) (let same : suc number + rest.at ≡ number + suc rest.at = omega arith in same);
    }

numbered_in : (number total : ℕ) (bs : List (List ℕ)) (at : ℕ) (block : List ℕ) → slice_get bs at ≡ Some block
    → IsIn (piece (number + at) total block) (numbered number total bs)
numbered_in number total [] at block e = cc
numbered_in number total (b ∷ bs) zero block e =
    inl (ap (λ (x : List ℕ). piece number total x) (let same : b ≡ block = cc in same)
    ∙ ap (λ (n : ℕ). piece n total block) (let same : number ≡ number + 0 = omega arith in same))
numbered_in number total (b ∷ bs) (suc at) block e =
    inr (subst (λ (n : ℕ). IsIn (piece n total block) (numbered (suc number) total bs)) (let same : suc number + at ≡ number + suc at = omega arith in same)
    (numbered_in (suc number) total bs at block e))

-- ---- the first with a number

abbrev IsFoundIn : ℕ → List Piece → Piece → Type 0
IsFoundIn number got p = IsIn p got × (p.number ≡ number)

found_in : (number : ℕ) (got : List Piece) (p : Piece) → found number got ≡ Some p → IsFoundIn number got p
found_in number [] p e = cc
found_in number (q ∷ got) p e = by (q.number == number) refl e (found_in number got p)
  where
    by : (t : Bool) → (q.number == number) ≡ t → cond t (Some q) (found number got) ≡ Some p → (found number got ≡ Some p → IsFoundIn number got p)
        → IsFoundIn number (q ∷ got) p
    by true h e rest = let same : q ≡ p = cc in (inl same, ap (λ (x : Piece). x.number) (sym same) ∙ eqb-true q.number number h)
    by false h e rest = let its = rest e in (inr its.0, its.1)

found_there : (number : ℕ) (got : List Piece) (p : Piece) → IsIn p got → p.number ≡ number → found number got ≡ None → ⊥
found_there number [] p h is none = absurd h
found_there number (q ∷ got) p h is none = by (q.number == number) refl h none (λ h. found_there number got p h is)
  where
    by : (t : Bool) → (q.number == number) ≡ t → IsIn p (q ∷ got) → cond t (Some q) (found number got) ≡ None → (IsIn p got → found number got ≡ None → ⊥) → ⊥
    by true e h none rest = cc
    by false e (inl same) none rest = let on = eq-eqb q.number number (ap (λ (x : Piece). x.number) same ∙ is) in let both = sym on ∙ e in cc
    by false e (inr h) none rest = rest h none

module _ (bytes : List ℕ) (got : List Piece) (of : (p : Piece) → IsIn p got → IsIn p (pieces bytes)) where
  abbrev bs : List (List ℕ)
  bs = blocks bytes

  abbrev Behind : ℕ → List (List ℕ) → Type 0
  Behind number after = (j : ℕ) → slice_get bs (number + j) ≡ slice_get after j

  behind_next : (number : ℕ) (b : List ℕ) (after : List (List ℕ)) → Behind number (b ∷ after) → Behind (suc number) after
  behind_next number b after h j = ap (slice_get bs) (let same : suc number + j ≡ number + suc j = omega arith in same) ∙ h (suc j)

  first_block : (number : ℕ) (b : List ℕ) (after : List (List ℕ)) → Behind number (b ∷ after) → slice_get bs number ≡ Some b
  first_block number b after h = ap (slice_get bs) (let same : number ≡ number + 0 = omega arith in same) ∙ h 0

  abbrev a_block : List ℕ → Option (List ℕ)
  a_block b = Some b

  content_there : (number : ℕ) (b : List ℕ) (p : Piece) → slice_get bs number ≡ Some b → found number got ≡ Some p → content p ≡ b
  content_there number b p e f =
      let its = found_in number got p f in
      let here = in_numbered 0 (length bs) bs p (of p its.0) in
      let at : 0 + here.at ≡ number = ap (λ (x : Piece). x.number) (sym here.is) ∙ its.1 in
      let same : a_block here.block ≡ a_block b = sym here.there ∙ ap (slice_get bs) (let plain : here.at ≡ number = omega (arith, at) in plain) ∙ e in
      ap content here.is ∙ content_is (0 + here.at) (length bs) here.block ∙ (let block : here.block ≡ b = cc in block)

  joined_is : (count number : ℕ) (after : List (List ℕ)) (xs : List ℕ) → length after ≡ count → Behind number after → joined_from count number got ≡ Some xs
      → xs ≡ together after
  joined_is zero number [] xs long h e = (let same : [] ≡ xs = cc in sym same)
  joined_is zero number (b ∷ after) xs long h e = absurd (omega (arith, long))
  joined_is (suc count) number [] xs long h e = absurd (omega (arith, long))
  joined_is (suc count) number (b ∷ after) xs long h e =
      by (found number got) refl (joined_from count (suc number) got) refl e
      (λ ys f. joined_is count (suc number) after ys (let rest : length after ≡ count = omega (arith, long) in rest) (behind_next number b after h) f)
    where
      by : (o : Option Piece) → found number got ≡ o → (r : Option (List ℕ)) → joined_from count (suc number) got ≡ r → behind o r ≡ Some xs
          → ((ys : List ℕ) → joined_from count (suc number) got ≡ Some ys → ys ≡ together after) → xs ≡ b ++ together after
      by None f r g e rest = cc
      by (Some p) f None g e rest = cc
      by (Some p) f (Some ys) g e rest =
          let whole : content p ++ ys ≡ xs = cc in
          sym whole ∙ ap (λ (zs : List ℕ). zs ++ ys) (content_there number b p (first_block number b after h) f) ∙ ap (λ (zs : List ℕ). b ++ zs) (rest ys g)

  module _ (all : (p : Piece) → IsIn p (pieces bytes) → IsIn p got) where
    joined_there : (count number : ℕ) (after : List (List ℕ)) → length after ≡ count → Behind number after
        → joined_from count number got ≡ Some (together after)
    joined_there zero number [] long h = refl
    joined_there zero number (b ∷ after) long h = absurd (omega (arith, long))
    joined_there (suc count) number [] long h = absurd (omega (arith, long))
    joined_there (suc count) number (b ∷ after) long h =
        by (found number got) refl
        (joined_there count (suc number) after (let rest : length after ≡ count = omega (arith, long) in rest) (behind_next number b after h))
      where
        here : IsIn (piece (0 + number) (length bs) b) got
        here = all (piece (0 + number) (length bs) b) (numbered_in 0 (length bs) bs number b (first_block number b after h))

        by : (o : Option Piece) → found number got ≡ o → joined_from count (suc number) got ≡ Some (together after)
            → behind o (joined_from count (suc number) got) ≡ Some (b ++ together after)
        by None f rest = absurd (found_there number got (piece (0 + number) (length bs) b) here (omega arith) f)
        by (Some p) f rest = rw (rest, content_there number b p (first_block number b after h) f) refl

  total_is : (p : Piece) → IsIn p got → p.total ≡ length bs
  total_is p is = ap (λ (x : Piece). x.total) (in_numbered 0 (length bs) bs p (of p is)).is

  all_behind : Behind 0 bs
  all_behind j = ap (slice_get bs) (let same : 0 + j ≡ j = omega arith in same)

  back_whole : together bs ≡ bytes
  back_whole = blocks_together (length bytes) bytes (omega arith)

some_block : (bytes : List ℕ) → (bytes ≡ [] → ⊥) → (b : List ℕ) × (slice_get (blocks bytes) 0 ≡ Some b)
unfolding blocks_by
some_block [] full = absurd (full refl)
some_block (b ∷ bytes) full = (take SIZE (b ∷ bytes), refl)

module _ {I : Type 0} (spell : I → List ℕ) (read : List ℕ → Option I) (i : I) (back : read (spell i) ≡ Some i) (full : spell i ≡ [] → ⊥) where
  abbrev bytes : List ℕ
  bytes = spell i

  abbrev an_image : I → Option I
  an_image j = Some j

  same_image : (got : List Piece) (j : I) → ((p : Piece) → IsIn p got → IsIn p (pieces bytes)) → read_from read (joined got) ≡ Some j → j ≡ i
  same_image [] j of e = cc
  same_image (p ∷ ps) j of e = by (joined_from p.total 0 (p ∷ ps)) refl e
    where
      by : (o : Option (List ℕ)) → joined_from p.total 0 (p ∷ ps) ≡ o → read_from read o ≡ Some j → j ≡ i
      by None f e = cc
      by (Some xs) f e =
          let total = total_is bytes (p ∷ ps) of p (inl refl) in
          let is = joined_is bytes (p ∷ ps) of p.total 0 (blocks bytes) xs (sym total) (all_behind bytes (p ∷ ps) of) f ∙ back_whole bytes (p ∷ ps) of in
          let both : an_image i ≡ an_image j = sym back ∙ ap read (sym is) ∙ e in
          (let same : i ≡ j = cc in sym same)

  whole_image : (got : List Piece) → ((p : Piece) → IsIn p got → IsIn p (pieces bytes)) → ((p : Piece) → IsIn p (pieces bytes) → IsIn p got)
      → read_from read (joined got) ≡ Some i
  whole_image [] of all =
      let b = some_block bytes full in
      absurd (all (piece (0 + 0) (length (blocks bytes)) b.0) (numbered_in 0 (length (blocks bytes)) (blocks bytes) 0 b.0 b.1))
  whole_image (p ∷ ps) of all =
      let total = total_is bytes (p ∷ ps) of p (inl refl) in
      let there = joined_there bytes (p ∷ ps) of all p.total 0 (blocks bytes) (sym total) (all_behind bytes (p ∷ ps) of) in
      ap (read_from read) (there ∙ ap a_list (back_whole bytes (p ∷ ps) of)) ∙ back
    where
      a_list : List ℕ → Option (List ℕ)
      a_list xs = Some xs

pub pieces_are_exact : {I : Type 0} → PiecesAreExact I
pieces_are_exact spell read i back full = record {
  same = λ got j of e. same_image spell read i back full got j of e;
  whole = λ got of all. whole_image spell read i back full got of all;
}
