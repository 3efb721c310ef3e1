-- Tabled: what the map of rows has under a name, and what a change of cells makes of it.
use Rattle.std.proofs.Common.{◌≡◌, ◌≢◌, ℕ, zero, suc, ◌+◌, ◌<◌, ◌≤◌, Bool, true, false, cond, ◌==◌, ◌&&◌, List, [], ◌∷◌, get_or, Option, Some, None, T, refl, sym, ap, subst, ◌∙◌, arith}
use Rattle.std.proofs.lemmas.Bool.Decides.{nat_tests}
use Rattle.std.proofs.lemmas.List.Sums.{sum_by-cons}
use Rattle.std.specs.List.{sum_by}
use Rattle.std.specs.declared.cmp.Ordering.{Ordering}
use Rattle.std.specs.declared.cmp.Ordering.TheVariants.{Less}
use Rattle.std.specs.Ordering.{is_lt, eq_by_cmp}
use Rattle.std.specs.FinMap as finmap
use Rattle.std.specs.FinMap.{FinMap, find, is_sorted, get, entries, entries-from_sorted, get-from_sorted, get-insert, get-remove, get-empty, same_map}
use Rattle.std.specs.FinMap.Entries.{below_all}
use Rattle.fk_store_cells.specs.Slots.Cells.{cell_in, cell}
use Rattle.fk_store_cells.specs.Slots.Tabled.{with_first, row_entries, all_entries, map_of_rows, of_cell, IsNaming}

both : (a b : Bool) → T a → T b → T (a && b)
both true b p q = q
both false b p q = p

abbrev or_next : {V : Type 0} → Option V → Option V → Option V
or_next None o = o
or_next (Some v) o = Some v

or_none : {V : Type 0} (o : Option V) → or_next o None ≡ o
or_none None = refl
or_none (Some v) = refl

other : {K : Type 0} {R : K → K → Ordering} {name : ℕ → ℕ → K} (naming : IsNaming R name) (s k t j : ℕ) →
    (s == t && k == j) ≡ false → eq_by_cmp R (name s k) (name t j) ≡ false
other naming s k t j off = naming.tied s k t j ∙ off

module _ {K V : Type 0} {R : K → K → Ordering} {name : ℕ → ℕ → K} (naming : IsNaming R name) where
  -- ---- what is found

  find_skip : (q k : K) (c : Option V) (es : List (K × V)) → eq_by_cmp R q k ≡ false → find R q (with_first k c es) ≡ find R q es
  find_skip q k None es off = refl
  find_skip q k (Some v) es off = rw off refl

  find_row_off : (s k t j : ℕ) (cells : List (Option V)) (rest : List (K × V)) → s ≢ t →
      find R (name s k) (row_entries name t j cells rest) ≡ find R (name s k) rest
  unfolding row_entries
  find_row_off s k t j [] rest apart = refl
  find_row_off s k t j (c ∷ cells) rest apart =
      find_skip (name s k) (name t j) c (row_entries name t (suc j) cells rest) (other naming s k t j (grind (arith, nat_tests, apart)))
      ∙ find_row_off s k t (suc j) cells rest apart

  find_row_low : (s k j : ℕ) (cells : List (Option V)) (rest : List (K × V)) → k < j →
      find R (name s k) (row_entries name s j cells rest) ≡ find R (name s k) rest
  unfolding row_entries
  find_row_low s k j [] rest low = refl
  find_row_low s k j (c ∷ cells) rest low =
      find_skip (name s k) (name s j) c (row_entries name s (suc j) cells rest) (other naming s k s j (grind (arith, nat_tests)))
      ∙ find_row_low s k (suc j) cells rest (omega arith)

  find_row_here : (s k j i : ℕ) (cells : List (Option V)) (rest : List (K × V)) → k ≡ j + i →
      find R (name s k) (row_entries name s j cells rest) ≡ or_next (get_or cells i None) (find R (name s k) rest)
  unfolding row_entries
  find_row_here s k j i [] rest is = refl
  find_row_here s k j zero (None ∷ cells) rest is = find_row_low s k (suc j) cells rest (omega arith)
  find_row_here s k j zero (Some v ∷ cells) rest is = rw (naming.tied s k s j) (rw same refl)
    where
      same : (s == s && k == j) ≡ true
      same = grind (arith, nat_tests)
  find_row_here s k j (suc i) (c ∷ cells) rest is =
      find_skip (name s k) (name s j) c (row_entries name s (suc j) cells rest) (other naming s k s j (grind (arith, nat_tests)))
      ∙ find_row_here s k (suc j) i cells rest (omega arith)

  find_late : (s k t : ℕ) (rows : List (List (Option V))) → s < t → find R (name s k) (all_entries name t rows) ≡ None
  unfolding all_entries
  find_late s k t [] low = refl
  find_late s k t (row ∷ rows) low =
      find_row_off s k t 0 row (all_entries name (suc t) rows) (λ same. absurd (omega (arith, same))) ∙ find_late s k (suc t) rows (omega arith)

  find_all : (s k t i : ℕ) (rows : List (List (Option V))) → s ≡ t + i → find R (name s k) (all_entries name t rows) ≡ cell_in (get_or rows i []) k
  unfolding all_entries
  find_all s k t i [] is = refl
  find_all s k t zero (row ∷ rows) is =
      let same : t ≡ s = omega arith in
      subst (λ t. find R (name s k) (all_entries name t (row ∷ rows)) ≡ cell_in row k) (sym same)
      (find_row_here s k 0 k row (all_entries name (suc s) rows) (omega arith)
      ∙ ap (or_next (get_or row k None)) (find_late s k (suc s) rows (omega arith)) ∙ or_none (get_or row k None))
  find_all s k t (suc i) (row ∷ rows) is =
      find_row_off s k t 0 row (all_entries name (suc t) rows) (λ same. absurd (omega (arith, same))) ∙ find_all s k (suc t) i rows (omega arith)

  -- ---- the order of names

  below_first : (x k : K) (c : Option V) (es : List (K × V)) → R x k ≡ Less → T (below_all R x es) → T (below_all R x (with_first k c es))
  below_first x k None es less below = below
  below_first x k (Some v) es less below = both _ _ (subst (λ r. T (is_lt r)) (sym less) tt) below

  below_row : (x : K) (t j : ℕ) (cells : List (Option V)) (rest : List (K × V)) → ((k : ℕ) → j ≤ k → R x (name t k) ≡ Less) → T (below_all R x rest) →
      T (below_all R x (row_entries name t j cells rest))
  unfolding row_entries
  below_row x t j [] rest less below = below
  below_row x t j (c ∷ cells) rest less below = below_first x (name t j) c (row_entries name t (suc j) cells rest) (less j (omega arith))
      (below_row x t (suc j) cells rest (λ k low. less k (omega arith)) below)

  below_rows : (x : K) (t : ℕ) (rows : List (List (Option V))) → ((s k : ℕ) → t ≤ s → R x (name s k) ≡ Less) → T (below_all R x (all_entries name t rows))
  unfolding all_entries
  below_rows x t [] less = tt
  below_rows x t (row ∷ rows) less = below_row x t 0 row (all_entries name (suc t) rows) (λ k low. less t k (omega arith))
      (below_rows x (suc t) rows (λ s k low. less s k (omega arith)))

  sorted_first : (k : K) (c : Option V) (es : List (K × V)) → T (below_all R k es) → T (is_sorted R es) → T (is_sorted R (with_first k c es))
  sorted_first k None es below sorted = sorted
  sorted_first k (Some v) es below sorted = both _ _ below sorted

  sorted_row : (t j : ℕ) (cells : List (Option V)) (rest : List (K × V)) → ((k : ℕ) → T (below_all R (name t k) rest)) → T (is_sorted R rest) →
      T (is_sorted R (row_entries name t j cells rest))
  unfolding row_entries
  sorted_row t j [] rest below sorted = sorted
  sorted_row t j (c ∷ cells) rest below sorted = sorted_first (name t j) c (row_entries name t (suc j) cells rest)
      (below_row (name t j) t (suc j) cells rest (λ k low. naming.slots t j k (omega arith)) (below j))
      (sorted_row t (suc j) cells rest below sorted)

  sorted_rows : (t : ℕ) (rows : List (List (Option V))) → T (is_sorted R (all_entries name t rows))
  unfolding all_entries
  sorted_rows t [] = tt
  sorted_rows t (row ∷ rows) = sorted_row t 0 row (all_entries name (suc t) rows)
      (λ k. below_rows (name t k) (suc t) rows (λ s j low. naming.spaces t k s j (omega arith))) (sorted_rows (suc t) rows)

  -- ---- sums

  sum_row : (f : V → ℕ) (t j : ℕ) (cells : List (Option V)) (rest : List (K × V)) →
      sum_by (λ e. f e.1) (row_entries name t j cells rest) ≡ sum_by (of_cell f) cells + sum_by (λ e. f e.1) rest
  unfolding row_entries
  sum_row f t j [] rest = omega arith
  sum_row f t j (None ∷ cells) rest = sum_row f t (suc j) cells rest
  sum_row f t j (Some v ∷ cells) rest =
      sum_by-cons (λ (e : K × V). f e.1) (name t j, v) (row_entries name t (suc j) cells rest)
      ∙ ap (λ n. f v + n) (sum_row f t (suc j) cells rest)
      ∙ by (f v) (sum_by (of_cell f) cells) (sum_by (λ e. f e.1) rest)
      ∙ ap (λ n. n + sum_by (λ e. f e.1) rest) (sym (sum_by-cons (of_cell f) (Some v) cells))
    where
      by : (a b c : ℕ) → a + (b + c) ≡ (a + b) + c
      by a b c = omega arith

  sum_rows : (f : V → ℕ) (t : ℕ) (rows : List (List (Option V))) →
      sum_by (λ e. f e.1) (all_entries name t rows) ≡ sum_by (λ row. sum_by (of_cell f) row) rows
  unfolding all_entries
  sum_rows f t [] = refl
  sum_rows f t (row ∷ rows) = sum_row f t 0 row (all_entries name (suc t) rows)
      ∙ ap (λ n. sum_by (of_cell f) row + n) (sum_rows f (suc t) rows) ∙ sym (sum_by-cons (λ row. sum_by (of_cell f) row) row rows)

  -- ---- the map

  pub get-rows : (rows : List (List (Option V))) (s k : ℕ) → get (map_of_rows R name rows) (name s k) ≡ cell rows s k
  unfolding map_of_rows cell
  get-rows rows s k = get-from_sorted R (all_entries name 0 rows) (name s k) (sorted_rows 0 rows) ∙ find_all s k 0 s rows (omega arith)

  pub get-named : (rows : List (List (Option V))) (q : K) → get (map_of_rows R name rows) q ≡ cell rows (naming.space q) (naming.slot q)
  get-named rows q = ap (get (map_of_rows R name rows)) (sym (naming.named q)) ∙ get-rows rows (naming.space q) (naming.slot q)

  pub entries-rows : (rows : List (List (Option V))) → entries (map_of_rows R name rows) ≡ all_entries name 0 rows
  unfolding map_of_rows
  entries-rows rows = entries-from_sorted R (all_entries name 0 rows) (sorted_rows 0 rows)

  -- a sum over all values
  pub sum-entries : (f : V → ℕ) (rows : List (List (Option V))) →
      sum_by (λ e. f e.1) (entries (map_of_rows R name rows)) ≡ sum_by (λ row. sum_by (of_cell f) row) rows
  sum-entries f rows = ap (sum_by (λ e. f e.1)) (entries-rows rows) ∙ sum_rows f 0 rows

  -- what agrees with the cells is the map
  pub is-rows : (rows : List (List (Option V))) (m : FinMap R V) → ((s k : ℕ) → cell rows s k ≡ get m (name s k)) → map_of_rows R name rows ≡ m
  is-rows rows m is = same_map naming.total naming.exact _ _
      (λ q. get-named rows q ∙ is (naming.space q) (naming.slot q) ∙ ap (get m) (naming.named q))

  pub rows_nil : map_of_rows {V = V} R name [] ≡ finmap.empty
  unfolding cell
  rows_nil = is-rows [] finmap.empty (λ s k. none s k ∙ sym (get-empty R (name s k)))
    where
      none : (s k : ℕ) → cell {V = V} [] s k ≡ None
      none s k = refl

  pub same_rows : (rows now : List (List (Option V))) → ((s k : ℕ) → cell now s k ≡ cell rows s k) → map_of_rows R name now ≡ map_of_rows R name rows
  same_rows rows now same = is-rows now (map_of_rows R name rows) (λ s k. same s k ∙ sym (get-rows rows s k))

  pub insert_rows : (rows now : List (List (Option V))) (space slot : ℕ) (v : V) →
      ((s k : ℕ) → cell now s k ≡ cond (s == space && k == slot) (Some v) (cell rows s k)) →
      map_of_rows R name now ≡ finmap.insert (map_of_rows R name rows) (name space slot) v
  insert_rows rows now space slot v put = is-rows now _ (λ s k. put s k ∙ sym (get-insert naming.total (map_of_rows R name rows) (name space slot) v (name s k)
      ∙ rw (naming.tied s k space slot, get-rows rows s k) refl))

  pub remove_rows : (rows now : List (List (Option V))) (space slot : ℕ) →
      ((s k : ℕ) → cell now s k ≡ cond (s == space && k == slot) None (cell rows s k)) →
      map_of_rows R name now ≡ finmap.remove (map_of_rows R name rows) (name space slot)
  remove_rows rows now space slot left = is-rows now _ (λ s k. left s k ∙ sym (get-remove naming.total (map_of_rows R name rows) (name space slot) (name s k)
      ∙ rw (naming.tied s k space slot, get-rows rows s k) refl))

  -- ---- what is taken, and laid again

  again : (b : Bool) (o p : Option V) → cond b o (cond b None p) ≡ cond b o p
  again true o p = refl
  again false o p = refl

  pub relaid_rows : (rows taken laid : List (List (Option V))) (space slot : ℕ) (v : V) →
      ((s k : ℕ) → cell taken s k ≡ cond (s == space && k == slot) None (cell rows s k)) →
      ((s k : ℕ) → cell laid s k ≡ cond (s == space && k == slot) (Some v) (cell taken s k)) →
      map_of_rows R name laid ≡ finmap.insert (map_of_rows R name rows) (name space slot) v
  relaid_rows rows taken laid space slot v left lays = insert_rows rows laid space slot v
      (λ s k. lays s k ∙ ap (cond (s == space && k == slot) (Some v)) (left s k) ∙ again (s == space && k == slot) (Some v) (cell rows s k))

  -- nothing was there to be taken
  pub untaken : (rows taken : List (List (Option V))) (space slot : ℕ) → cell rows space slot ≡ None →
      ((s k : ℕ) → cell taken s k ≡ cond (s == space && k == slot) None (cell rows s k)) → (s k : ℕ) → cell taken s k ≡ cell rows s k
  untaken rows taken space slot none left s k = left s k ∙ by (s == space) refl (k == slot) refl
    where
      by : (b : Bool) → (s == space) ≡ b → (c : Bool) → (k == slot) ≡ c → cond (b && c) None (cell rows s k) ≡ cell rows s k
      by false e c f = refl
      by true e false f = refl
      by true e true f =
          let a : s ≡ space = grind (arith, nat_tests) in
          let b : k ≡ slot = grind (arith, nat_tests) in
          sym (ap (λ s. cell rows s k) a ∙ ap (cell rows space) b ∙ none)
