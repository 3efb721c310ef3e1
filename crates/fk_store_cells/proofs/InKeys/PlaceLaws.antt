-- PlaceLaws: where the tables of all spaces stand.
use Rattle.std.proofs.Common.{◌≡◌, ◌≢◌, ℕ, zero, suc, ◌<◌, ◌≤◌, Bool, true, false, cond, ◌==◌, List, [], ◌∷◌, length, get_or, set, Option, Some, None}
use Rattle.std.proofs.Common.{IsSome, IsTrue, ◌↔◌, is_some, Box, refl, sym, ap, subst, ◌∙◌, arith, length-set}
use Rattle.std.specs.declared.alloc.Global.{Global}
use Rattle.std.proofs.lemmas.Bool.Decides.{nat_tests}
use Rattle.std.proofs.lemmas.List.{length-map}
use Rattle.slab.specs.Slab.{Slab, get, Updates}
use Rattle.fk_store_cells.specs.Slots.Cells.{cell_in, cell}
use Rattle.fk_store_cells.proofs.InSlots.CellLaws.{get_or_set}
use Rattle.fk_store_cells.specs.declared.keys.tables.Table.{Table}
use Rattle.fk_store_cells.specs.Keys.Tables.{nothing, all_keys, all_marks, keys_in, marks_in, table_of, key_at, marked_in, mark_at, AreTables, pair_in}
use Rattle.fk_store_cells.specs.Keys.Tables.{place_at, shown, ArePlaced, AreKept, IsPut, IsMoved, IsMarked, Alters, Adds}
use Rattle.fk_store_cells.proofs.InKeys.TableLaws.{key_seen, mark_seen, row_is, tables_same, tables_set, short_put, short_moved, cell-keys}

abbrev Pair : Type 0
Pair = List (Option ℕ) × List Bool

abbrev Tables : Type 0
Tables = Slab (Box Table Global)

-- the table of a space is what stands at its place
pub seen_at : (places : List ℕ) (s : Tables) → get s nothing ≡ None → (q : ℕ) → table_of (shown places s) q ≡ pair_in (get s (place_at places q))
seen_at [] s none q = sym (ap pair_in none)
seen_at (p ∷ places) s none zero = refl
seen_at (p ∷ places) s none (suc q) = seen_at places s none q

pub shown_long : (places : List ℕ) (s : Tables) → length (shown places s) ≡ length places
shown_long places s = length-map places (λ p. pair_in (get s p))

-- what is read at the place of a space
module _ (places : List ℕ) (s : Tables) (kept : AreKept places s) (space : ℕ) (o : Option (Box Table Global)) (is : o ≡ get s (place_at places space)) where
  pub table_read : pair_in o ≡ table_of (shown places s) space
  table_read = ap pair_in is ∙ sym (seen_at places s kept.placed.none space)

  pub key_read : (k : ℕ) → cell_in (keys_in o) k ≡ cell (all_keys (shown places s)) space k
  key_read k = key_seen (shown places s) space k (keys_in o) (ap (λ (t : Pair). t.0) table_read)

  pub mark_read : (m : ℕ) → marked_in (marks_in o) m ≡ mark_at (all_marks (shown places s)) space m
  mark_read m = mark_seen (shown places s) space m (marks_in o) (ap (λ (t : Pair). t.1) table_read)

  pub row_read : space < length places → keys_in o ≡ get_or (all_keys (shown places s)) space (keys_in o)
  row_read low = row_is (shown places s) space (keys_in o) (let long = shown_long places s in omega (arith, long, low)) (ap (λ (t : Pair). t.0) table_read)

some_there : {A : Type 0} (o : Option A) → is_some o ≡ true → IsSome o
some_there None h = absurd (cc)
some_there (Some a) h = refl

not_none : {A : Type 0} (o : Option A) → o ≡ None → IsSome o → ⊥
not_none None e h = absurd (cc)
not_none (Some a) e h = absurd (cc)

as_there : {A : Type 0} (o p : Option A) → is_some p ≡ is_some o → IsSome o → IsSome p
as_there {A = A} o p same there = some_there p (same ∙ by o there)
  where
    by : (o : Option A) → IsSome o → is_some o ≡ true
    by None h = absurd (cc)
    by (Some a) h = refl

as_none : {A : Type 0} (o p : Option A) → is_some p ≡ is_some o → o ≡ None → p ≡ None
as_none o None same none = refl
as_none None (Some a) same none = absurd (cc)
as_none (Some b) (Some a) same none = absurd (cc)

-- a place is within the list
pub place_low : (places : List ℕ) (space : ℕ) → place_at places space ≢ nothing → space < length places
place_low [] space apart = absurd (apart refl)
place_low (p ∷ places) zero apart = omega arith
place_low (p ∷ places) (suc space) apart = let low = place_low places space apart in omega (arith, low)

-- ---- more places

module _ (places more : List ℕ) (s : Tables) (none : get s nothing ≡ None) (same : (q : ℕ) → place_at more q ≡ place_at places q) where
  pub grown_same : (q : ℕ) → table_of (shown more s) q ≡ table_of (shown places s) q
  grown_same q = seen_at more s none q ∙ ap (λ p. pair_in (get s p)) (same q) ∙ sym (seen_at places s none q)

  pub grown_kept : length more ≤ 4294967296 → AreKept places s → AreKept more s
  grown_kept few kept = record {
    are = (let long = shown_long more s in tables_same (shown places s) (shown more s) (omega (arith, long, few)) grown_same kept.are);
    placed = record {
      none = none;
      there = λ q apart. subst (λ p. IsSome (get s p)) (sym (same q)) (kept.placed.there q (λ is. apart (same q ∙ is)));
      own = λ q r apart is. kept.placed.own q r (λ e. apart (same q ∙ e)) (sym (same q) ∙ is ∙ same r);
    };
  }

pub grown_all : (places more : List ℕ) (s : Tables) (kept : AreKept places s) → ((q : ℕ) → place_at more q ≡ place_at places q) →
    (length places ≤ 4294967296 → length more ≤ 4294967296) → AreKept more s
grown_all places more s kept same few = grown_kept places more s kept.placed.none same
    (few (let long = shown_long places s in let most = kept.are.few in omega (arith, long, most))) kept

-- no table is another
pub shown_alike : (s t : Tables) → ((p : ℕ) → get t p ≡ get s p) → (places : List ℕ) → shown places t ≡ shown places s
shown_alike s t same [] = refl
shown_alike s t same (p ∷ places) = λ i. pair_in (same p i) ∷ shown_alike s t same places i

pub alike_kept : (places : List ℕ) (s t : Tables) → ((p : ℕ) → get t p ≡ get s p) → AreKept places s → AreKept places t
alike_kept places s t same kept = record {
  are = subst AreTables (sym (shown_alike s t same places)) kept.are;
  placed = record {
    none = same nothing ∙ kept.placed.none;
    there = λ q apart. subst IsSome (sym (same (place_at places q))) (kept.placed.there q apart);
    own = kept.placed.own;
  };
}

-- a place that the slab doesn't have
pub vacant_of : {A : Type 0} (o : Option A) (b : Bool) → (IsTrue b ↔ IsSome o) → b ≡ false → o ≡ None
vacant_of None b iff off = refl
vacant_of (Some a) b iff off = absurd (not_both b (iff.1 refl) off)
  where
    not_both : (b : Bool) → IsTrue b → b ≡ false → ⊥
    not_both true h e = absurd (cc)
    not_both false h e = absurd (cc)

-- ---- one table changes

module _ (places : List ℕ) (s t : Tables) (placed : ArePlaced places s) (space : ℕ) (P : Pair → Pair → Type 0)
    (alters : Alters s t (place_at places space) P) where
  none_after : get t nothing ≡ None
  none_after = by (nothing == place_at places space) refl
    where
      by : (b : Bool) → (nothing == place_at places space) ≡ b → get t nothing ≡ None
      by true e =
          let same : nothing ≡ place_at places space = grind (arith, nat_tests) in
          ap (get t) same ∙ as_none (get s (place_at places space)) _ alters.there (ap (get s) (sym same) ∙ placed.none)
      by false e = alters.others nothing (grind (arith, nat_tests)) ∙ placed.none

  all_there : (p : ℕ) → IsSome (get s p) → IsSome (get t p)
  all_there p there = by (p == place_at places space) refl
    where
      by : (b : Bool) → (p == place_at places space) ≡ b → IsSome (get t p)
      by true e =
          let same : p ≡ place_at places space = grind (arith, nat_tests) in
          subst (λ p. IsSome (get t p)) (sym same) (as_there (get s (place_at places space)) _ alters.there (subst (λ p. IsSome (get s p)) same there))
      by false e = subst IsSome (sym (alters.others p (grind (arith, nat_tests)))) there

  pub altered_placed : ArePlaced places t
  altered_placed = record { none = none_after; there = λ q apart. all_there (place_at places q) (placed.there q apart); own = placed.own }

  pub altered_seen : (q : ℕ) → table_of (shown places t) q ≡ cond (q == space) (pair_in (get t (place_at places space))) (table_of (shown places s) q)
  altered_seen q = seen_at places t none_after q ∙ by (q == space) refl
    where
      other : q ≢ space → (b : Bool) → (place_at places q == place_at places space) ≡ b →
          pair_in (get t (place_at places q)) ≡ pair_in (get s (place_at places q))
      other apart true e =
          let same : place_at places q ≡ place_at places space = grind (arith, nat_tests) in
          nowhere (place_at places q == nothing) refl
        where
          nowhere : (b : Bool) → (place_at places q == nothing) ≡ b → pair_in (get t (place_at places q)) ≡ pair_in (get s (place_at places q))
          nowhere true g =
              let is : place_at places q ≡ nothing = grind (arith, nat_tests) in
              ap (λ p. pair_in (get t p)) is ∙ ap pair_in (none_after ∙ sym placed.none) ∙ sym (ap (λ p. pair_in (get s p)) is)
          nowhere false g = absurd (apart (placed.own q space (grind (arith, nat_tests)) (grind (arith, nat_tests))))
      other apart false e = ap pair_in (alters.others (place_at places q) (grind (arith, nat_tests)))

      by : (b : Bool) → (q == space) ≡ b → pair_in (get t (place_at places q)) ≡ cond b (pair_in (get t (place_at places space))) (table_of (shown places s) q)
      by true e = let same : q ≡ space = grind (arith, nat_tests) in ap (λ q. pair_in (get t (place_at places q))) same
      by false e = other (grind (arith, nat_tests)) (place_at places q == place_at places space) refl ∙ sym (seen_at places s placed.none q)

  -- what was there is the table of the space
  pub altered_here : P (table_of (shown places s) space) (pair_in (get t (place_at places space)))
  altered_here = subst (λ o. P o (pair_in (get t (place_at places space)))) (sym (seen_at places s placed.none space)) alters.here

  pub altered_kept : AreTables (shown places s) → ((k : ℕ) → IsSome (cell_in (keys_in (get t (place_at places space))) k) → k < 256) → AreKept places t
  altered_kept are short = record {
    are = (let long = shown_long places t in let was = shown_long places s in let few = are.few in
        tables_set (shown places s) (shown places t) space (pair_in (get t (place_at places space))) altered_seen (omega (arith, long, was, few)) short are);
    placed = altered_placed;
  }

module _ (places : List ℕ) (s t : Tables) (kept : AreKept places s) (space slot : ℕ) (low : slot < 256) (o : Option ℕ)
    (alters : Alters s t (place_at places space) (IsPut slot o)) where
  pub put_kept : AreKept places t
  put_kept =
      let here = altered_here places s t kept.placed space (IsPut slot o) alters in
      altered_kept places s t kept.placed space (IsPut slot o) alters kept.are
      (short_put slot o (λ k. key_at (shown places s) space k) (λ k. cell_in (keys_in (get t (place_at places space))) k) low (kept.are.short space) here.keys)

module _ (places : List ℕ) (s t : Tables) (kept : AreKept places s) (space from to : ℕ) (low : to < 256)
    (alters : Alters s t (place_at places space) (IsMoved from to)) where
  pub moved_kept : AreKept places t
  moved_kept =
      let here = altered_here places s t kept.placed space (IsMoved from to) alters in
      altered_kept places s t kept.placed space (IsMoved from to) alters kept.are
      (short_moved from to (λ k. key_at (shown places s) space k) (λ k. cell_in (keys_in (get t (place_at places space))) k) low
      (kept.are.short space) here.keys)

module _ (places : List ℕ) (s t : Tables) (kept : AreKept places s) (space mark : ℕ)
    (alters : Alters s t (place_at places space) (IsMarked mark)) where
  pub marked_kept : AreKept places t
  marked_kept =
      let here = altered_here places s t kept.placed space (IsMarked mark) alters in
      altered_kept places s t kept.placed space (IsMarked mark) alters kept.are
      (λ k there. kept.are.short space k (subst (λ row. IsSome (cell_in row k)) here.keys there))

-- keys, or marks, of which none is another
module _ (s t : Tables) where
  pub marks_alike : ((p : ℕ) → marks_in (get t p) ≡ marks_in (get s p)) → (places : List ℕ) → all_marks (shown places t) ≡ all_marks (shown places s)
  marks_alike same [] = refl
  marks_alike same (p ∷ places) = λ i. same p i ∷ marks_alike same places i

  pub keys_alike : ((p : ℕ) → keys_in (get t p) ≡ keys_in (get s p)) → (places : List ℕ) → all_keys (shown places t) ≡ all_keys (shown places s)
  keys_alike same [] = refl
  keys_alike same (p ∷ places) = λ i. same p i ∷ keys_alike same places i

pub alike : {A : Type 0} (f : Option (Box Table Global) → A) (s t : Tables) (place : ℕ) → f (get t place) ≡ f (get s place) →
    ((p : ℕ) → p ≢ place → get t p ≡ get s p) → (p : ℕ) → f (get t p) ≡ f (get s p)
alike f s t place here others p = by (p == place) refl
  where
    by : (b : Bool) → (p == place) ≡ b → f (get t p) ≡ f (get s p)
    by true e = let same : p ≡ place = grind (arith, nat_tests) in ap (λ p. f (get t p)) same ∙ here ∙ sym (ap (λ p. f (get s p)) same)
    by false e = ap f (others p (grind (arith, nat_tests)))

-- a space with a key has a table
pub has_table : (places : List ℕ) (s : Tables) → get s nothing ≡ None → (space slot : ℕ) → IsSome (cell (all_keys (shown places s)) space slot) →
    IsSome (get s (place_at places space))
has_table places s none space slot there = by (get s (place_at places space)) (subst IsSome (cell-keys (shown places s) space slot
    ∙ ap (λ (t : Pair). cell_in t.0 slot) (seen_at places s none space)) there)
  where
    by : (o : Option (Box Table Global)) → IsSome (cell_in (keys_in o) slot) → IsSome o
    by None h = absurd (cc)
    by (Some table) h = refl

-- ---- a table is given back

module _ (places : List ℕ) (s t : Tables) (kept : AreKept places s) (space place : ℕ) (low : space < length places) (is : place ≡ place_at places space)
    (gone : Updates s t place None) where
  after : (q : ℕ) → place_at (set places space nothing) q ≡ cond (q == space) nothing (place_at places q)
  after q = get_or_set places space q nothing nothing low

  none_left : get t nothing ≡ None
  none_left = by (nothing == place) refl
    where
      by : (b : Bool) → (nothing == place) ≡ b → get t nothing ≡ None
      by true e = let same : nothing ≡ place = grind (arith, nat_tests) in ap (get t) same ∙ gone.changed
      by false e = gone.others nothing (grind (arith, nat_tests)) ∙ kept.placed.none

  -- the place of another space is another
  apart_from : (q : ℕ) → q ≢ space → place_at places q ≢ nothing → place_at places q ≢ place
  apart_from q apart some same = apart (kept.placed.own q space some (same ∙ is))

  stays : (q : ℕ) → q ≢ space → get t (place_at places q) ≡ get s (place_at places q)
  stays q apart = by (place_at places q == nothing) refl
    where
      by : (b : Bool) → (place_at places q == nothing) ≡ b → get t (place_at places q) ≡ get s (place_at places q)
      by true e =
          let nowhere : place_at places q ≡ nothing = grind (arith, nat_tests) in
          ap (get t) nowhere ∙ none_left ∙ sym (ap (get s) nowhere ∙ kept.placed.none)
      by false e = gone.others (place_at places q) (apart_from q apart (grind (arith, nat_tests)))

  pub cleared_seen : (q : ℕ) → table_of (shown (set places space nothing) t) q ≡ cond (q == space) ([], []) (table_of (shown places s) q)
  cleared_seen q = seen_at (set places space nothing) t none_left q ∙ ap (λ p. pair_in (get t p)) (after q) ∙ by (q == space) refl
    where
      by : (b : Bool) → (q == space) ≡ b → pair_in (get t (cond b nothing (place_at places q))) ≡ cond b ([], []) (table_of (shown places s) q)
      by true e = ap pair_in none_left
      by false e = ap pair_in (stays q (grind (arith, nat_tests))) ∙ sym (seen_at places s kept.placed.none q)

  pub cleared_kept : AreKept (set places space nothing) t
  cleared_kept = record {
    are = (let long = shown_long (set places space nothing) t in let same = length-set places space nothing in let was = shown_long places s in
        let few = kept.are.few in
        tables_set (shown places s) (shown (set places space nothing) t) space ([], []) cleared_seen (omega (arith, long, same, was, few))
        (λ k h. absurd (cc)) kept.are);
    placed = record { none = none_left; there = there; own = own };
  }
    where
      there : (q : ℕ) → place_at (set places space nothing) q ≢ nothing → IsSome (get t (place_at (set places space nothing) q))
      there q some = by (q == space) refl (after q)
        where
          by : (b : Bool) → (q == space) ≡ b → place_at (set places space nothing) q ≡ cond b nothing (place_at places q) →
              IsSome (get t (place_at (set places space nothing) q))
          by true e g = absurd (some g)
          by false e g = subst (λ p. IsSome (get t p)) (sym g) (subst IsSome (sym (stays q (grind (arith, nat_tests))))
              (kept.placed.there q (λ h. some (g ∙ h))))

      own : (q r : ℕ) → place_at (set places space nothing) q ≢ nothing → place_at (set places space nothing) q ≡ place_at (set places space nothing) r → q ≡ r
      own q r some same = by (q == space) (r == space) (after q) (after r)
        where
          by : (b c : Bool) → place_at (set places space nothing) q ≡ cond b nothing (place_at places q) →
              place_at (set places space nothing) r ≡ cond c nothing (place_at places r) → q ≡ r
          by true c g h = absurd (some g)
          by false true g h = absurd (some (same ∙ h))
          by false false g h = kept.placed.own q r (λ e. some (g ∙ e)) (sym g ∙ same ∙ h)

-- ---- a table comes

module _ (places : List ℕ) (s t : Tables) (kept : AreKept places s) (space slot key place : ℕ) (low : space < length places)
    (free : get s (place_at places space) ≡ None) (adds : Adds s t slot key place) where
  placed_now : (q : ℕ) → place_at (set places space place) q ≡ cond (q == space) place (place_at places q)
  placed_now q = get_or_set places space q place nothing low

  none_still : get t nothing ≡ None
  none_still = let small = adds.low in adds.others nothing (λ is. absurd (omega (arith, small, is))) ∙ kept.placed.none

  -- where nothing was, no other space has its table
  other_place : (q : ℕ) → place_at places q ≢ place
  other_place q same = by (place_at places q == nothing) refl
    where
      by : (b : Bool) → (place_at places q == nothing) ≡ b → ⊥
      by true e = let nowhere : place_at places q ≡ nothing = grind (arith, nat_tests) in let small = adds.low in omega (arith, small, nowhere, same)
      by false e = not_none (get s place) adds.vacant (subst (λ p. IsSome (get s p)) same (kept.placed.there q (grind (arith, nat_tests))))

  pub added_seen : (q : ℕ) → table_of (shown (set places space place) t) q ≡ cond (q == space) (pair_in (get t place)) (table_of (shown places s) q)
  added_seen q = seen_at (set places space place) t none_still q ∙ ap (λ p. pair_in (get t p)) (placed_now q) ∙ by (q == space)
    where
      by : (b : Bool) → pair_in (get t (cond b place (place_at places q))) ≡ cond b (pair_in (get t place)) (table_of (shown places s) q)
      by true = refl
      by false = ap pair_in (adds.others (place_at places q) (other_place q)) ∙ sym (seen_at places s kept.placed.none q)

  none_was : table_of (shown places s) space ≡ ([], [])
  none_was = seen_at places s kept.placed.none space ∙ ap pair_in free

  pub added_keys : (k : ℕ) → cell_in (keys_in (get t place)) k ≡ cond (k == slot) (Some key) (cell_in (table_of (shown places s) space).0 k)
  added_keys k = adds.keys k ∙ sym (ap (λ (p : Pair). cond (k == slot) (Some key) (cell_in p.0 k)) none_was)

  pub added_marks : (m : ℕ) → marked_in (marks_in (get t place)) m ≡ marked_in (table_of (shown places s) space).1 m
  added_marks m = adds.marks m ∙ sym (ap (λ (p : Pair). marked_in p.1 m) none_was)

  pub added_kept : slot < 256 → AreKept (set places space place) t
  added_kept within = record {
    are = (let long = shown_long (set places space place) t in let same = length-set places space place in let was = shown_long places s in
        let few = kept.are.few in
        tables_set (shown places s) (shown (set places space place) t) space (pair_in (get t place)) added_seen (omega (arith, long, same, was, few))
        (short_put slot (Some key) (λ k. key_at (shown places s) space k) (λ k. cell_in (keys_in (get t place)) k) within
        (kept.are.short space) added_keys) kept.are);
    placed = record { none = none_still; there = there; own = own };
  }
    where
      there : (q : ℕ) → place_at (set places space place) q ≢ nothing → IsSome (get t (place_at (set places space place) q))
      there q some = by (q == space) (placed_now q)
        where
          by : (b : Bool) → place_at (set places space place) q ≡ cond b place (place_at places q) → IsSome (get t (place_at (set places space place) q))
          by true g = subst (λ p. IsSome (get t p)) (sym g) adds.there
          by false g = subst (λ p. IsSome (get t p)) (sym g) (subst IsSome (sym (adds.others (place_at places q) (other_place q)))
              (kept.placed.there q (λ h. some (g ∙ h))))

      own : (q r : ℕ) → place_at (set places space place) q ≢ nothing → place_at (set places space place) q ≡ place_at (set places space place) r → q ≡ r
      own q r some same = by (q == space) refl (r == space) refl (placed_now q) (placed_now r)
        where
          by : (b : Bool) → (q == space) ≡ b → (c : Bool) → (r == space) ≡ c → place_at (set places space place) q ≡ cond b place (place_at places q) →
              place_at (set places space place) r ≡ cond c place (place_at places r) → q ≡ r
          by true e true f g h = grind (arith, nat_tests)
          by true e false f g h = absurd (other_place r (sym h ∙ sym same ∙ g))
          by false e true f g h = absurd (other_place q (sym g ∙ same ∙ h))
          by false e false f g h = kept.placed.own q r (λ e. some (g ∙ e)) (sym g ∙ same ∙ h)
