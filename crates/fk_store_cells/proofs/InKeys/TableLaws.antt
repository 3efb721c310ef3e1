-- TableLaws: the tables of all spaces as they come and go.
use Rattle.std.proofs.Common.{◌≡◌, ℕ, zero, suc, ◌<◌, ◌≤◌, Bool, true, false, cond, ◌==◌, ◌&&◌, List, [], ◌∷◌, length, get_or, Option, Some, None}
use Rattle.std.proofs.Common.{IsSome, IfSome, refl, sym, ap, subst, ◌∙◌, arith}
use Rattle.std.proofs.lemmas.Bool.Decides.{nat_tests}
use Rattle.std.proofs.lemmas.List.{get_or_past, get_or_default, get_or-map, length-map}
use Rattle.fk_store_cells.specs.Slots.Cells.{cell_in, cell}
use Rattle.fk_store_cells.specs.Keys.Tables.{all_keys, all_marks, table_of, key_at, marked_in, marked_at, mark_at, AreTables}

abbrev Pair : Type 0
Pair = List (Option ℕ) × List Bool

pub cell-keys : (ts : List Pair) (s k : ℕ) → cell (all_keys ts) s k ≡ key_at ts s k
unfolding cell
cell-keys [] s k = refl
cell-keys (t ∷ ts) zero k = refl
cell-keys (t ∷ ts) (suc s) k = cell-keys ts s k

pub mark-marks : (ts : List Pair) (s m : ℕ) → mark_at (all_marks ts) s m ≡ marked_at ts s m
mark-marks [] s m = refl
mark-marks (t ∷ ts) zero m = refl
mark-marks (t ∷ ts) (suc s) m = mark-marks ts s m

-- ---- what is seen of a space's table

module _ (ts us : List Pair) (space : ℕ) (t : Pair) (now : (q : ℕ) → table_of us q ≡ cond (q == space) t (table_of ts q)) where
  -- one table is another, or none
  seen : {A : Type 0} (f : Pair → A) (q : ℕ) → f (table_of us q) ≡ cond (q == space) (f t) (f (table_of ts q))
  seen f q = ap f (now q) ∙ by (q == space)
    where
      by : (b : Bool) → f (cond b t (table_of ts q)) ≡ cond b (f t) (f (table_of ts q))
      by true = refl
      by false = refl

  -- one of what is seen by number is another
  seen_put : {A : Type 0} (f : Pair → ℕ → A) (at : ℕ) (o : A) → ((k : ℕ) → f t k ≡ cond (k == at) o (f (table_of ts space) k)) →
      (s k : ℕ) → f (table_of us s) k ≡ cond (s == space && k == at) o (f (table_of ts s) k)
  seen_put f at o put s k = seen (λ t. f t k) s ∙ by (s == space) refl (k == at) refl
    where
      by : (b : Bool) → (s == space) ≡ b → (c : Bool) → (k == at) ≡ c → cond b (f t k) (f (table_of ts s) k) ≡ cond (b && c) o (f (table_of ts s) k)
      by false e c g = refl
      by true e c g =
          let same : s ≡ space = grind (arith, nat_tests) in
          put k ∙ rw g (ap (cond c o) (sym (ap (λ s. f (table_of ts s) k) same)))

  pub keys_put : (slot : ℕ) (o : Option ℕ) → ((k : ℕ) → cell_in t.0 k ≡ cond (k == slot) o (cell_in (table_of ts space).0 k)) →
      (s k : ℕ) → cell (all_keys us) s k ≡ cond (s == space && k == slot) o (cell (all_keys ts) s k)
  keys_put slot o put s k = cell-keys us s k ∙ seen_put (λ t k. cell_in t.0 k) slot o put s k
      ∙ ap (cond (s == space && k == slot) o) (sym (cell-keys ts s k))

  pub marks_put : (mark : ℕ) → ((m : ℕ) → marked_in t.1 m ≡ cond (m == mark) true (marked_in (table_of ts space).1 m)) →
      (s m : ℕ) → mark_at (all_marks us) s m ≡ cond (s == space && m == mark) true (mark_at (all_marks ts) s m)
  marks_put mark put s m = mark-marks us s m ∙ seen_put (λ t m. marked_in t.1 m) mark true put s m
      ∙ ap (cond (s == space && m == mark) true) (sym (mark-marks ts s m))

  pub marks_same : ((m : ℕ) → marked_in t.1 m ≡ marked_in (table_of ts space).1 m) → (s m : ℕ) → mark_at (all_marks us) s m ≡ mark_at (all_marks ts) s m
  marks_same same s m = mark-marks us s m ∙ seen (λ t. marked_in t.1 m) s ∙ by (s == space) refl ∙ sym (mark-marks ts s m)
    where
      by : (b : Bool) → (s == space) ≡ b → cond b (marked_in t.1 m) (marked_at ts s m) ≡ marked_at ts s m
      by false e = refl
      by true e = let here : s ≡ space = grind (arith, nat_tests) in same m ∙ sym (ap (λ s. marked_at ts s m) here)

  -- a space's key goes to another of its slots
  pub keys_renamed : (from to : ℕ) →
      ((k : ℕ) → cell_in t.0 k ≡ cond (k == to) (cell_in (table_of ts space).0 from) (cond (k == from) None (cell_in (table_of ts space).0 k))) →
      (s k : ℕ) → cell (all_keys us) s k
      ≡ cond (s == space && k == to) (cell (all_keys ts) space from) (cond (s == space && k == from) None (cell (all_keys ts) s k))
  keys_renamed from to moved s k = cell-keys us s k ∙ seen (λ t. cell_in t.0 k) s ∙ by (s == space) refl
      ∙ sym (λ i. cond (s == space && k == to) (cell-keys ts space from i) (cond (s == space && k == from) None (cell-keys ts s k i)))
    where
      by : (b : Bool) → (s == space) ≡ b → cond b (cell_in t.0 k) (key_at ts s k)
          ≡ cond (b && k == to) (key_at ts space from) (cond (b && k == from) None (key_at ts s k))
      by false e = refl
      by true e =
          let same : s ≡ space = grind (arith, nat_tests) in
          moved k ∙ sym (ap (λ o. cond (k == to) (key_at ts space from) (cond (k == from) None o)) (ap (λ s. key_at ts s k) same))

  -- a table is given back
  pub keys_cleared : t ≡ ([], []) → (s k : ℕ) → cell (all_keys us) s k ≡ cond (s == space) None (cell (all_keys ts) s k)
  keys_cleared none s k = cell-keys us s k ∙ seen (λ t. cell_in t.0 k) s
      ∙ (λ i. cond (s == space) (cell_in (none i).0 k) (sym (cell-keys ts s k) i))

  pub marks_cleared : t ≡ ([], []) → (s m : ℕ) → mark_at (all_marks us) s m ≡ cond (s == space) false (mark_at (all_marks ts) s m)
  marks_cleared none s m = mark-marks us s m ∙ seen (λ t. marked_in t.1 m) s
      ∙ (λ i. cond (s == space) (marked_in (none i).1 m) (sym (mark-marks ts s m) i))

  -- a table with keys in its slots alone
  pub tables_set : length us ≤ 4294967296 → ((k : ℕ) → IsSome (cell_in t.0 k) → k < 256) → AreTables ts → AreTables us
  tables_set few short are = record { few = few; short = λ s k there. by s k (s == space) (subst IsSome (seen (λ t. cell_in t.0 k) s) there) }
    where
      by : (s k : ℕ) (b : Bool) → IsSome (cond b (cell_in t.0 k) (key_at ts s k)) → k < 256
      by s k true there = short k there
      by s k false there = are.short s k there

-- ---- what all tables show

pub key_seen : (ts : List Pair) (s k : ℕ) (row : List (Option ℕ)) → row ≡ (table_of ts s).0 → cell_in row k ≡ cell (all_keys ts) s k
key_seen ts s k row is = ap (λ r. cell_in r k) is ∙ sym (cell-keys ts s k)

pub mark_seen : (ts : List Pair) (s m : ℕ) (marks : List Bool) → marks ≡ (table_of ts s).1 → marked_in marks m ≡ mark_at (all_marks ts) s m
mark_seen ts s m marks is = ap (λ r. marked_in r m) is ∙ sym (mark-marks ts s m)

pub short_all : (ts : List Pair) → AreTables ts → (s k : ℕ) → IsSome (cell (all_keys ts) s k) → k < 256
short_all ts are s k there = are.short s k (subst IsSome (cell-keys ts s k) there)

pub same_keys : (ts us : List Pair) → ((s : ℕ) → table_of us s ≡ table_of ts s) → (s k : ℕ) → cell (all_keys us) s k ≡ cell (all_keys ts) s k
same_keys ts us same s k = cell-keys us s k ∙ ap (λ (t : Pair). cell_in t.0 k) (same s) ∙ sym (cell-keys ts s k)

pub same_marks : (ts us : List Pair) → ((s : ℕ) → table_of us s ≡ table_of ts s) → (s m : ℕ) → mark_at (all_marks us) s m ≡ mark_at (all_marks ts) s m
same_marks ts us same s m = mark-marks us s m ∙ ap (λ (t : Pair). marked_in t.1 m) (same s) ∙ sym (mark-marks ts s m)

pub tables_same : (ts us : List Pair) → length us ≤ 4294967296 → ((s : ℕ) → table_of us s ≡ table_of ts s) → AreTables ts → AreTables us
tables_same ts us few same are = record { few = few; short = λ s k there. are.short s k (subst IsSome (ap (λ (t : Pair). cell_in t.0 k) (same s)) there) }

-- nothing stands past the last table
module _ (ts : List Pair) (space : ℕ) (past : length ts ≤ space) where
  none_past : table_of ts space ≡ ([], [])
  none_past = get_or_past ts space ([], []) past

  pub keys_cleared_past : (s k : ℕ) → cell (all_keys ts) s k ≡ cond (s == space) None (cell (all_keys ts) s k)
  keys_cleared_past s k = by (s == space) refl
    where
      by : (b : Bool) → (s == space) ≡ b → cell (all_keys ts) s k ≡ cond b None (cell (all_keys ts) s k)
      by false e = refl
      by true e =
          let same : s ≡ space = grind (arith, nat_tests) in
          ap (λ s. cell (all_keys ts) s k) same ∙ cell-keys ts space k ∙ ap (λ (t : Pair). cell_in t.0 k) none_past

  pub marks_cleared_past : (s m : ℕ) → mark_at (all_marks ts) s m ≡ cond (s == space) false (mark_at (all_marks ts) s m)
  marks_cleared_past s m = by (s == space) refl
    where
      by : (b : Bool) → (s == space) ≡ b → mark_at (all_marks ts) s m ≡ cond b false (mark_at (all_marks ts) s m)
      by false e = refl
      by true e =
          let same : s ≡ space = grind (arith, nat_tests) in
          ap (λ s. mark_at (all_marks ts) s m) same ∙ mark-marks ts space m ∙ ap (λ (t : Pair). marked_in t.1 m) none_past

-- ---- what each change keeps

pub short_put : (slot : ℕ) (o : Option ℕ) (old now : ℕ → Option ℕ) → slot < 256 → ((k : ℕ) → IsSome (old k) → k < 256) →
    ((k : ℕ) → now k ≡ cond (k == slot) o (old k)) → (k : ℕ) → IsSome (now k) → k < 256
short_put slot o old now low short put k there = by (k == slot) refl (subst IsSome (put k) there)
  where
    by : (b : Bool) → (k == slot) ≡ b → IsSome (cond b o (old k)) → k < 256
    by true e h = let is : k ≡ slot = grind (arith, nat_tests) in omega (arith, is, low)
    by false e h = short k h

pub short_moved : (from to : ℕ) (old now : ℕ → Option ℕ) → to < 256 → ((k : ℕ) → IsSome (old k) → k < 256) →
    ((k : ℕ) → now k ≡ cond (k == to) (old from) (cond (k == from) None (old k))) → (k : ℕ) → IsSome (now k) → k < 256
short_moved from to old now low short put k there = by (k == to) refl (k == from) (subst IsSome (put k) there)
  where
    by : (b : Bool) → (k == to) ≡ b → (c : Bool) → IsSome (cond b (old from) (cond c None (old k))) → k < 256
    by true e c h = let is : k ≡ to = grind (arith, nat_tests) in omega (arith, is, low)
    by false e true h = absurd (cc)
    by false e false h = short k h

-- ---- rows, as scans of cells see them

pub row_is : (ts : List Pair) (at : ℕ) (row : List (Option ℕ)) → at < length ts → row ≡ (table_of ts at).0 → row ≡ get_or (all_keys ts) at row
row_is ts at row low is = is ∙ ap (λ (t : Pair). t.0) (get_or_default ts at ([], []) (row, []) low)
    ∙ sym (get_or-map (λ (t : Pair). t.0) ts at (row, []) row low)

pub rows_long : (ts : List Pair) → length (all_keys ts) ≡ length ts
rows_long ts = length-map ts (λ (t : Pair). t.0)

-- ---- the first taken slot of a space

module _ (o : Option ℕ) (slot : ℕ) (f g : ℕ → Option ℕ) (same : (k : ℕ) → f k ≡ g k) where
  pub first_seen : IfSome o (λ next. IsSome (f next) × (slot ≤ next) × ((k : ℕ) → IsSome (f k) → slot ≤ k → next ≤ k)) →
      IfSome o (λ next. IsSome (g next) × (slot ≤ next) × ((k : ℕ) → IsSome (g k) → slot ≤ k → next ≤ k))
  first_seen h = by o h
    where
      by : (o : Option ℕ) → IfSome o (λ next. IsSome (f next) × (slot ≤ next) × ((k : ℕ) → IsSome (f k) → slot ≤ k → next ≤ k)) →
          IfSome o (λ next. IsSome (g next) × (slot ≤ next) × ((k : ℕ) → IsSome (g k) → slot ≤ k → next ≤ k))
      by None h = tt
      by (Some next) h = (subst IsSome (same next) h.0, h.1, λ k some from. h.2 k (subst IsSome (sym (same k)) some) from)

  pub none_seen : (o ≡ None → (k : ℕ) → IsSome (f k) → k < slot) → o ≡ None → (k : ℕ) → IsSome (g k) → k < slot
  none_seen none is k some = none is k (subst IsSome (sym (same k)) some)
