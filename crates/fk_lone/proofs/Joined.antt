-- Pages one after the other.
use Rattle.std.proofs.Common.{◌≡◌, ℕ, zero, suc, ◌+◌, ◌-◌, ◌*◌, ◌/◌, ◌%◌, ◌<◌, ◌≤◌, Bool, true, false, cond, ◌==◌, List, ◌++◌, length, take, drop}
use Rattle.std.proofs.Common.{slice_index, slice_set, refl, sym, ap, ◌∙◌, arith, eqb-true, if◌then◌else◌}
use Rattle.std.proofs.Math.Seq.{take-add, get_or-append_right}
use Rattle.std.proofs.lemmas.Bool.{eqb-false, ne_eqb}
use Rattle.std.proofs.lemmas.List.{get_or_append_left, set-append_left, set-append_right, length-append, length-take, length-drop, take_all}
use Rattle.fk_lone.specs.LoneThread.{joined, page_of}

-- the first n pages have so many words
pub joined-length : (n : ℕ) (words : ℕ → List ℕ) → ((page : ℕ) → page < n → length (words page) ≡ 64) → length (joined n words) ≡ n * 64
unfolding joined
joined-length zero words long = refl
joined-length (suc n) words long =
    let before = joined-length n words (λ page low. long page (omega (arith, low))) in
    let here = long n (omega arith) in
    let both = length-append (joined n words) (words n) in
    omega (arith, before, here, both)

-- the same pages
pub joined-same : (n : ℕ) (a b : ℕ → List ℕ) → ((page : ℕ) → page < n → a page ≡ b page) → joined n a ≡ joined n b
unfolding joined
joined-same zero a b same = refl
joined-same (suc n) a b same = rw (joined-same n a b (λ page low. same page (omega (arith, low))), same n (omega arith)) refl

-- a word of a page
pub joined-index : (n : ℕ) (words : ℕ → List ℕ) (page at : ℕ) →
    ((page : ℕ) → page < n → length (words page) ≡ 64) → page < n → at < 64 → slice_index (joined n words) (page * 64 + at) ≡ slice_index (words page) at
unfolding joined
joined-index zero words page at long low within = absurd (omega (arith, low))
joined-index (suc n) words page at long low within = by (page == n) refl (joined-index n words page at (λ other less. long other (omega (arith, less))))
  where
    before : length (joined n words) ≡ n * 64
    before = joined-length n words (λ other less. long other (omega (arith, less)))

    by : (t : Bool) → page == n ≡ t → (page < n → at < 64 → slice_index (joined n words) (page * 64 + at) ≡ slice_index (words page) at) →
        slice_index (joined n words ++ words n) (page * 64 + at) ≡ slice_index (words page) at
    by true e ih =
        let same : page ≡ n = eqb-true page n e in
        get_or-append_right (joined n words) (words n) (page * 64 + at) 0 (omega (arith, before, same)) ∙
        ap (slice_index (words n)) (let e : page * 64 + at - length (joined n words) ≡ at = omega (arith, before, same) in e) ∙
        ap (λ k. slice_index (words k) at) (sym same)
    by false e ih =
        let less : page < n = omega (arith, low, eqb-false page n e) in
        get_or_append_left (joined n words) (words n) 0 (page * 64 + at) (omega (arith, before, less, within)) ∙ ih less within

-- another word in a page
pub joined-set : (n : ℕ) (words : ℕ → List ℕ) (page at value : ℕ) → ((page : ℕ) → page < n → length (words page) ≡ 64) → page < n → at < 64 →
    slice_set (joined n words) (page * 64 + at) value ≡ joined n (λ other. if other == page then slice_set (words page) at value else words other)
unfolding joined
joined-set zero words page at value long low within = absurd (omega (arith, low))
joined-set (suc n) words page at value long low within = by (n == page) refl (joined-set n words page at value (λ other less. long other (omega (arith, less))))
  where
    before : length (joined n words) ≡ n * 64
    before = joined-length n words (λ other less. long other (omega (arith, less)))

    changed : ℕ → List ℕ
    changed other = if other == page then slice_set (words page) at value else words other

    by : (t : Bool) → n == page ≡ t → (page < n → at < 64 → slice_set (joined n words) (page * 64 + at) value ≡ joined n changed) →
        slice_set (joined n words ++ words n) (page * 64 + at) value ≡ joined n changed ++ cond t (slice_set (words page) at value) (words n)
    by true e ih =
        let same : n ≡ page = eqb-true n page e in
        let start : n * 64 ≤ page * 64 + at = omega (arith, same) in
        let left : page * 64 + at - n * 64 ≡ at = omega (arith, same) in
        let kept : joined n words ≡ joined n
        changed = joined-same n words changed (λ other less. let apart = ne_eqb other page (λ f. absurd (omega (arith, less, f, same))) in rw apart refl) in
        set-append_right (joined n words) (words n) (n * 64) (page * 64 + at) value before start ∙
        rw (left, kept, same) refl
    by false e ih =
        let less : page < n = omega (arith, low, λ (f : page ≡ n). eqb-false n page e (sym f)) in
        set-append_left (joined n words) (words n) (page * 64 + at) value (omega (arith, before, less, within)) ∙ ap (λ xs. xs ++ words n) (ih less within)

-- a list is its pages, one after the other
pub joined-pages : (n : ℕ) (words : List ℕ) → joined n (page_of words) ≡ take (n * 64) words
unfolding joined
joined-pages zero words = refl
joined-pages (suc n) words =
    ap (λ xs. xs ++ page_of words n) (joined-pages n words) ∙
    sym (take-add (n * 64) 64 words) ∙
    ap (λ k. take k words) (let e : n * 64 + 64 ≡ suc n * 64 = omega arith in e)

pub joined-all : (words : List ℕ) → length words ≡ 16384 → joined 256 (page_of words) ≡ words
joined-all words long = joined-pages 256 words ∙ take_all 16384 words (omega (arith, long))

-- each of them has 64 words
pub page_of-length : (words : List ℕ) (page : ℕ) → length words ≡ 16384 → page < 256 → length (page_of words page) ≡ 64
page_of-length words page long low = omega (arith, long, low, length-take 64 (drop (page * 64) words), length-drop (page * 64) words)

-- ---- by address

module _ (words : ℕ → List ℕ) (long : (page : ℕ) → page < 256 → length (words page) ≡ 64) (address : ℕ) (low : address < 16384) where
  pub page_low : address / 64 < 256
  page_low = omega (arith, low)

  place_in : address / 64 * 64 + address % 64 ≡ address
  place_in = omega arith

  pub word_of : slice_index (joined 256 words) address ≡ slice_index (words (address / 64)) (address % 64)
  word_of = ap (slice_index (joined 256 words)) (sym place_in) ∙ joined-index 256 words (address / 64) (address % 64) long page_low (omega arith)

  pub word_set : (value : ℕ) → slice_set (joined 256 words)
      address value ≡ joined 256 (λ other. if other == address / 64 then slice_set (words (address / 64)) (address % 64) value else words other)
  word_set value =
      ap (λ a. slice_set (joined 256 words) a value) (sym place_in) ∙ joined-set 256 words (address / 64) (address % 64) value long page_low (omega arith)
