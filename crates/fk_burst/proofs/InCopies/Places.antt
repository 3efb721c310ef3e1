-- Places: what a copy has for a page, and what a change of one page makes of the burst that it is.
use Rattle.std.proofs.Common.{◌≡◌, ℕ, zero, suc, ◌+◌, ◌-◌, ◌/◌, ◌<◌, ◌≤◌, ◌==◌, ◌||◌, ◌&&◌, nat_le, nat_lt, Bool, true, false, cond, List, [], ◌∷◌, length}
use Rattle.std.proofs.Common.{◌↔◌, IsTrue, Option, Some, None, is_some, unwrap_or, slice_index_or, slice_set, refl, sym, ap, subst, ◌∙◌, arith, eqb-true}
use Rattle.std.proofs.lemmas.Bool.{eqb-false, leb-true, leb-false, ltb-true, ltb-false, lt-ltb, le-ltb}
use Rattle.std.proofs.lemmas.List.{get_or-set_same, get_or-set_other, get_or_past}
use Rattle.std.specs.Bool.{OnTrue, OnFalse}
use Rattle.fk_model.specs.Instructions.{next}
use Rattle.fk_model.specs.Places.{Path, parent}
use Rattle.fk_model.specs.Valid.{IsPaged}
use Rattle.fk_model.specs.World.{World}
use Rattle.laws_bursts.specs.Bursts.{instructed, using, write}
use Rattle.laws_bursts.specs.Laws.{HasPages}
use Rattle.fk_burst.specs.declared.copies.copied.Copied.{Copied}
use Rattle.fk_burst.specs.Copies.Copies.{for_page, burst_of, begun, laid, IsSameAt}

-- ---- one place of a list that begins with a page

module _ {A : Type 0} (first : ℕ) (list : List A) (other : A) where
  pub for_place : (k page : ℕ) → first + k ≡ page → for_page first list other page ≡ slice_index_or list k other
  for_place k page at = by (nat_le first page) refl
    where
      by : (low : Bool) → nat_le first page ≡ low → cond low (slice_index_or list (page - first) other) other ≡ slice_index_or list k other
      by true low = let same : page - first ≡ k = omega (arith, at) in ap (λ n. slice_index_or list n other) same
      by false high = absurd (omega (arith, at, leb-false first page high))

  pub for_below : (page : ℕ) → page < first → for_page first list other page ≡ other
  for_below page low = by (nat_le first page) refl
    where
      by : (low : Bool) → nat_le first page ≡ low → cond low (slice_index_or list (page - first) other) other ≡ other
      by true e = absurd (omega (arith, low, leb-true first page e))
      by false e = refl

  -- one place gets another value
  pub for_set : (k : ℕ) (value : A) (page : ℕ) → k < length list →
      for_page first (slice_set list k value) other page ≡ cond (page == first + k) value (for_page first list other page)
  for_set k value page less = by (nat_le first page) refl (page == first + k) refl
    where
      by : (low : Bool) → nat_le first page ≡ low → (same : Bool) → page == first + k ≡ same →
          cond low (slice_index_or (slice_set list k value) (page - first) other) other
          ≡ cond same value (cond low (slice_index_or list (page - first) other) other)
      by true e true f =
          let here : page - first ≡ k = omega (arith, eqb-true page (first + k) f) in
          ap (λ n. slice_index_or (slice_set list k value) n other) here ∙ get_or-set_same list k value other less
      by true e false f = get_or-set_other list k (page - first) value other
          (λ here. eqb-false page (first + k) f (omega (arith, here, leb-true first page e)))
      by false e true f = absurd (omega (arith, leb-false first page e, eqb-true page (first + k) f))
      by false e false f = refl

-- ---- a copy

-- past the four places nothing is there
pub none_there : (there : List Bool) (k : ℕ) → length there ≡ 4 → 4 ≤ k → slice_index_or there k false ≡ false
none_there there k long high = get_or_past there k false (omega (arith, long, high))

module _ (c : Copied) where
  -- the page at a place that is there
  pub there_at : (k page : ℕ) → c.first + k ≡ page → slice_index_or c.there k false ≡ true → (burst_of c).page page ≡ Some (slice_index_or c.words k [])
  unfolding burst_of
  there_at k page at is =
      ap (λ t. cond t (Some (for_page c.first c.words [] page)) None) (for_place c.first c.there false k page at ∙ is)
      ∙ ap (λ w. Some w) (for_place c.first c.words [] k page at)

  pub none_at : (k page : ℕ) → c.first + k ≡ page → slice_index_or c.there k false ≡ false → (burst_of c).page page ≡ None
  unfolding burst_of
  none_at k page at is = ap (λ t. cond t (Some (for_page c.first c.words [] page)) None) (for_place c.first c.there false k page at ∙ is)

  pub none_below : (page : ℕ) → page < c.first → (burst_of c).page page ≡ None
  unfolding burst_of
  none_below page low = ap (λ t. cond t (Some (for_page c.first c.words [] page)) None) (for_below c.first c.there false page low)

  pub none_behind : (page : ℕ) → c.first ≤ page → slice_index_or c.there (page - c.first) false ≡ false → (burst_of c).page page ≡ None
  none_behind page low is = none_at (page - c.first) page (omega (arith, low)) is

  -- a page is used
  pub marked : (k : ℕ) → k < length c.used → burst_of (record c { used = slice_set c.used k true }) ≡ using (c.first + k) (burst_of c)
  unfolding burst_of
  marked k less = λ i. record (burst_of c) {
    used = λ page. (for_set c.first c.used false k true page less ∙ by (page == c.first + k) (for_page c.first c.used false page)) i;
  }
    where
      by : (t u : Bool) → cond t true u ≡ (t || u)
      by true u = refl
      by false u = refl

  -- a page that is there gets other words
  pub written : (k : ℕ) (words : List ℕ) → k < length c.words → is_some ((burst_of c).page (c.first + k)) ≡ true →
      burst_of (record c { words = slice_set c.words k words; counter = next c.counter }) ≡ write (c.first + k) words (burst_of c)
  unfolding burst_of
  written k words less there = λ i. record (burst_of c) { page = λ page. by page (page == c.first + k) refl i; counter = next c.counter }
    where
      is : (t : Bool) (w : List ℕ) → is_some (cond t (Some w) None) ≡ true → t ≡ true
      is true w h = refl
      is false w h = cc

      has : for_page c.first c.there false (c.first + k) ≡ true
      has = is (for_page c.first c.there false (c.first + k)) (for_page c.first c.words [] (c.first + k)) there

      by : (page : ℕ) (same : Bool) → page == c.first + k ≡ same →
          cond (for_page c.first c.there false page) (Some (for_page c.first (slice_set c.words k words) [] page)) None
          ≡ cond same (Some words) (cond (for_page c.first c.there false page) (Some (for_page c.first c.words [] page)) None)
      by page true e =
          ap (λ t. cond t (Some (for_page c.first (slice_set c.words k words) [] page)) None)
          (ap (λ (n : ℕ). for_page c.first c.there false n) (eqb-true page (c.first + k) e) ∙ has)
          ∙ ap (λ w. Some w) (for_set c.first c.words [] k words page less ∙ ap (λ t. cond t words (for_page c.first c.words [] page)) e)
      by page false e = ap (λ (w : List ℕ). cond (for_page c.first c.there false page) (Some w) None)
          (for_set c.first c.words [] k words page less ∙ ap (λ t. cond t words (for_page c.first c.words [] page)) e)

-- ---- the copy with which a lease begins

four-unused : (n : ℕ) → slice_index_or (false ∷ false ∷ false ∷ false ∷ []) n false ≡ false
four-unused zero = refl
four-unused (suc zero) = refl
four-unused (suc (suc zero)) = refl
four-unused (suc (suc (suc zero))) = refl
four-unused (suc (suc (suc (suc n)))) = refl

-- a copy of which no place is used has used no page
pub none-used : (registers : List ℕ) (counter first : ℕ) (there : List Bool) (words : List (List ℕ)) (page : ℕ) →
    (burst_of (record {
      registers = registers;
      counter = counter;
      first = first;
      there = there;
      used = false ∷ false ∷ false ∷ false ∷ [];
      words = words;
    })).used page ≡ false
unfolding burst_of
none-used registers counter first there words page = by (nat_le first page)
  where
    by : (low : Bool) → cond low (slice_index_or (false ∷ false ∷ false ∷ false ∷ []) (page - first) false) false ≡ false
    by true = four-unused (page - first)
    by false = refl

-- a page that is there, and its words
kept : {W : Type 0} (o : Option W) (zeros : W) → cond (is_some o) (Some (unwrap_or o zeros)) None ≡ o
kept None zeros = refl
kept (Some words) zeros = refl

module _ (w : World) (space : Path) (registers : List ℕ) (counter : ℕ) (za zb zc zd : List ℕ) where
  -- four pages and which of them are there
  abbrev copy_of : Option (List ℕ) → Option (List ℕ) → Option (List ℕ) → Option (List ℕ) → Copied
  copy_of a b c d = record {
    registers = registers;
    counter = counter;
    first = counter / 64;
    there = is_some a ∷ is_some b ∷ is_some c ∷ is_some d ∷ [];
    used = false ∷ false ∷ false ∷ false ∷ [];
    words = unwrap_or a za ∷ unwrap_or b zb ∷ unwrap_or c zc ∷ unwrap_or d zd ∷ [];
  }

  pub copied_near : (a b c d : Option (List ℕ)) →
      a ≡ w.page space (counter / 64) → b ≡ w.page space (counter / 64 + 1) →
      c ≡ w.page space (counter / 64 + 2) → d ≡ w.page space (counter / 64 + 3) →
      burst_of (copy_of a b c d) ≡ begun w space registers counter
  unfolding burst_of
  copied_near a b c d at_a at_b at_c at_d = λ i. record {
    registers = registers;
    counter = counter;
    page = λ page. on page (nat_le (counter / 64) page) refl i;
    used = λ page. unused page (nat_le (counter / 64) page) i;
  }
    where
      unused : (page : ℕ) (low : Bool) → cond low (slice_index_or (false ∷ false ∷ false ∷ false ∷ []) (page - counter / 64) false) false ≡ false
      unused page true = four-unused (page - counter / 64)
      unused page false = refl

      within : (page : ℕ) (o : Option (List ℕ)) (zeros : List ℕ) → page < counter / 64 + 4 → o ≡ w.page space page →
          cond (is_some o) (Some (unwrap_or o zeros)) None ≡ cond (nat_lt page (counter / 64 + 4)) (w.page space page) None
      within page o zeros less is = kept o zeros ∙ is ∙ sym (ap (λ t. cond t (w.page space page) None) (lt-ltb page (counter / 64 + 4) less))

      at : (n page : ℕ) → page ≡ counter / 64 + n →
          cond (slice_index_or (is_some a ∷ is_some b ∷ is_some c ∷ is_some d ∷ []) n false)
          (Some (slice_index_or (unwrap_or a za ∷ unwrap_or b zb ∷ unwrap_or c zc ∷ unwrap_or d zd ∷ []) n [])) None
          ≡ cond (nat_lt page (counter / 64 + 4)) (w.page space page) None
      at zero page is = let same : counter / 64 ≡ page = omega (arith, is) in within page a za (omega (arith, is)) (at_a ∙ ap (w.page space) same)
      at (suc zero) page is =
          let same : counter / 64 + 1 ≡ page = omega (arith, is) in
          within page b zb (omega (arith, is)) (at_b ∙ ap (w.page space) same)
      at (suc (suc zero)) page is =
          let same : counter / 64 + 2 ≡ page = omega (arith, is) in
          within page c zc (omega (arith, is)) (at_c ∙ ap (w.page space) same)
      at (suc (suc (suc zero))) page is =
          let same : counter / 64 + 3 ≡ page = omega (arith, is) in
          within page d zd (omega (arith, is)) (at_d ∙ ap (w.page space) same)
      at (suc (suc (suc (suc n)))) page is = sym (ap (λ t. cond t (w.page space page) None) (le-ltb page (counter / 64 + 4) (omega (arith, is))))

      on : (page : ℕ) (low : Bool) → nat_le (counter / 64) page ≡ low →
          cond (cond low (slice_index_or (is_some a ∷ is_some b ∷ is_some c ∷ is_some d ∷ []) (page - counter / 64) false) false)
          (Some (cond low
          (slice_index_or (unwrap_or a za ∷ unwrap_or b zb ∷ unwrap_or c zc ∷ unwrap_or d zd ∷ []) (page - counter / 64) []) [])) None
          ≡ cond (low && nat_lt page (counter / 64 + 4)) (w.page space page) None
      on page true e = at (page - counter / 64) page (omega (arith, leb-true (counter / 64) page e))
      on page false e = refl

-- the four places of a copy, each with its page where that is there
module _ (x y z t : List ℕ) where
  at-0 : (o : Option (List ℕ)) → laid 0 o (x ∷ y ∷ z ∷ t ∷ []) ≡ unwrap_or o x ∷ y ∷ z ∷ t ∷ []
  at-0 None = refl
  at-0 (Some page) = refl

  at-1 : (o : Option (List ℕ)) → laid 1 o (x ∷ y ∷ z ∷ t ∷ []) ≡ x ∷ unwrap_or o y ∷ z ∷ t ∷ []
  at-1 None = refl
  at-1 (Some page) = refl

  at-2 : (o : Option (List ℕ)) → laid 2 o (x ∷ y ∷ z ∷ t ∷ []) ≡ x ∷ y ∷ unwrap_or o z ∷ t ∷ []
  at-2 None = refl
  at-2 (Some page) = refl

  at-3 : (o : Option (List ℕ)) → laid 3 o (x ∷ y ∷ z ∷ t ∷ []) ≡ x ∷ y ∷ z ∷ unwrap_or o t ∷ []
  at-3 None = refl
  at-3 (Some page) = refl

all-laid : (x y z t : List ℕ) (a b c d : Option (List ℕ)) →
    laid 3 d (laid 2 c (laid 1 b (laid 0 a (x ∷ y ∷ z ∷ t ∷ [])))) ≡ unwrap_or a x ∷ unwrap_or b y ∷ unwrap_or c z ∷ unwrap_or d t ∷ []
all-laid x y z t a b c d = ap (λ ws. laid 3 d (laid 2 c (laid 1 b ws))) (at-0 x y z t a)
    ∙ ap (λ ws. laid 3 d (laid 2 c ws)) (at-1 (unwrap_or a x) y z t b)
    ∙ ap (laid 3 d) (at-2 (unwrap_or a x) (unwrap_or b y) z t c)
    ∙ at-3 (unwrap_or a x) (unwrap_or b y) (unwrap_or c z) t d

-- a copy that is filled with them
pub filled : (w : World) (space : Path) (registers : List ℕ) (counter : ℕ) (pages : List (List ℕ)) (a b c d : Option (List ℕ)) → length pages ≡ 4 →
    a ≡ w.page space (counter / 64) → b ≡ w.page space (counter / 64 + 1) → c ≡ w.page space (counter / 64 + 2) → d ≡ w.page space (counter / 64 + 3) →
    burst_of (record {
      registers = registers;
      counter = counter;
      first = counter / 64;
      there = is_some a ∷ is_some b ∷ is_some c ∷ is_some d ∷ [];
      used = false ∷ false ∷ false ∷ false ∷ [];
      words = laid 3 d (laid 2 c (laid 1 b (laid 0 a pages)));
    }) ≡ begun w space registers counter
filled w space registers counter (x ∷ y ∷ z ∷ t ∷ []) a b c d long at_a at_b at_c at_d =
    ap (λ words. burst_of (record (copy_of w space registers counter x y z t a b c d) { words = words })) (all-laid x y z t a b c d)
    ∙ copied_near w space registers counter x y z t a b c d at_a at_b at_c at_d
filled w space registers counter [] a b c d long at_a at_b at_c at_d = absurd (cc)
filled w space registers counter (x ∷ []) a b c d long at_a at_b at_c at_d = absurd (cc)
filled w space registers counter (x ∷ y ∷ []) a b c d long at_a at_b at_c at_d = absurd (cc)
filled w space registers counter (x ∷ y ∷ z ∷ []) a b c d long at_a at_b at_c at_d = absurd (cc)
filled w space registers counter (x ∷ y ∷ z ∷ t ∷ u ∷ rest) a b c d long at_a at_b at_c at_d = absurd (omega (arith, long))

-- ---- pages of a space

-- a page behind the last isn't there
pub unpaged : (w : World) (space : Path) (page : ℕ) → IsPaged w → 256 ≤ page → None ≡ w.page space page
unpaged w space page paged high = by (w.page space page) refl
  where
    by : (o : Option (List ℕ)) → w.page space page ≡ o → None ≡ o
    by None there = refl
    by (Some words) there = let low : page < 256 = (paged space page (ap is_some there)).number in absurd (omega (arith, low, high))

-- ---- what holds of all that is used

module _ (c : Copied) (P : ℕ → Type 0) where
  -- holds at each place that is
  pub at-places : ((page : ℕ) → (burst_of c).used page ≡ true → P page) → (k : ℕ) → slice_index_or c.used k false ≡ true → P (c.first + k)
  unfolding burst_of
  at-places all k is = all (c.first + k) (for_place c.first c.used false k (c.first + k) refl ∙ is)

  -- and the other way round
  pub by-places : length c.used ≡ 4 → ((k : ℕ) → k < 4 → slice_index_or c.used k false ≡ true → P (c.first + k)) →
      (page : ℕ) → (burst_of c).used page ≡ true → P page
  unfolding burst_of
  by-places long all page is = by (nat_le c.first page) refl is
    where
      in-four : (k : ℕ) (less : Bool) → nat_lt k 4 ≡ less → slice_index_or c.used k false ≡ true → k < 4
      in-four k true e is = ltb-true k 4 e
      in-four k false e is =
          let none = get_or_past c.used k false (omega (arith, long, ltb-false k 4 e)) in
          let not_so = sym none ∙ is in
          absurd (cc)

      by : (low : Bool) → nat_le c.first page ≡ low → cond low (slice_index_or c.used (page - c.first) false) false ≡ true → P page
      by false e is = absurd (cc)
      by true e is =
          let here : c.first + (page - c.first) ≡ page = omega (arith, leb-true c.first page e) in
          subst P here (all (page - c.first) (in-four (page - c.first) (nat_lt (page - c.first) 4) refl is) is)

-- ---- a copy against what is in a space

module _ (w : World) (now taken : Copied) where
  -- the page at a place, as another copy has it that begins with the same page
  page-at : (k : ℕ) → now.first ≡ taken.first →
      (burst_of taken).page (now.first + k) ≡ cond (slice_index_or taken.there k false) (Some (slice_index_or taken.words k [])) None
  unfolding burst_of
  page-at k first =
      let at : taken.first + k ≡ now.first + k = ap (λ n. n + k) (sym first) in
      (λ i. cond (for_place taken.first taken.there false k (now.first + k) at i) (Some (for_place taken.first taken.words [] k (now.first + k) at i)) None)

  pub same_at : (space : Path) (k : ℕ) (r : Bool) (page : Option (List ℕ)) → now.first ≡ taken.first → slice_index_or now.used k false ≡ true →
      page ≡ w.page space (now.first + k) →
      (IsTrue r ↔ (page ≡ cond (slice_index_or taken.there k false) (Some (slice_index_or taken.words k [])) None)) →
      IsTrue r ↔ IsSameAt w space now taken k
  same_at space k r page first used is iff = (
    (λ yes still. sym is ∙ iff.0 yes ∙ sym (page-at k first)),
    (λ same. iff.1 (is ∙ same used ∙ page-at k first)),
  )

  pub unused_at : (space : Path) (k : ℕ) → slice_index_or now.used k false ≡ false → IsTrue true ↔ IsSameAt w space now taken k
  unused_at space k unused = ((λ yes used. let not_so = sym unused ∙ used in absurd (cc)), (λ same. refl))

  -- pages that are the same are so at each place
  pub other_pages : (x : Path) (k : ℕ) (r : Bool) → r ≡ false → (IsTrue r ↔ IsSameAt w (parent x) now taken k) →
      HasPages w x (burst_of now) (burst_of taken) → ⊥
  other_pages x k r apart iff has =
      let same = iff.1 (λ used. at-places now (λ page. w.page (parent x) page ≡ (burst_of taken).page page) has k used) in
      let not_so = sym apart ∙ same in
      absurd (cc)

  pub all_pages : (x : Path) (n : ℕ) → length now.used ≡ 4 → 4 ≤ n → ((k : ℕ) → k < n → IsSameAt w (parent x) now taken k) →
      HasPages w x (burst_of now) (burst_of taken)
  all_pages x n long most same =
      by-places now (λ page. w.page (parent x) page ≡ (burst_of taken).page page) long (λ k less used. same k (omega (arith, less, most)) used)

-- one place more
pub one-more : (P : ℕ → Type 0) (k : ℕ) → ((j : ℕ) → j < k → P j) → P k → (j : ℕ) → j < k + 1 → P j
one-more P k so_far here j less = by (j == k) refl
  where
    by : (same : Bool) → j == k ≡ same → P j
    by true e = subst P (sym (eqb-true j k e)) here
    by false e = let apart = eqb-false j k e in so_far j (omega (arith, less, apart))

-- ---- what is said where a truth holds

pub on-true : (r : Bool) (P Q : Type 0) → (P → Q) → OnTrue r P → OnTrue r Q
on-true true P Q f h = f h
on-true false P Q f h = h

pub on-false : (r : Bool) (P Q : Type 0) → (P → Q) → OnFalse r P → OnFalse r Q
on-false true P Q f h = h
on-false false P Q f h = f h

-- where it has no page no instruction can be made
pub none_instructed : (registers : List ℕ) (used : List Bool) (words : List (List ℕ)) → instructed (burst_of (record {
  registers = registers;
  counter = 0;
  first = 0;
  there = false ∷ false ∷ false ∷ false ∷ [];
  used = used;
  words = words;
})) ≡ None
unfolding burst_of
none_instructed registers used words = refl
