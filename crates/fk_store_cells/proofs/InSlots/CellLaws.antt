-- Cells and rows as values come and go.
use Rattle.std.proofs.Common.{◌≡◌, ◌≢◌, ℕ, ◌<◌, ◌≤◌, Bool, true, false, cond, ◌==◌, ◌&&◌, ltb, List, [], ◌∷◌, ◌++◌, length, get_or, set, Option, None, refl, sym, ap, ◌∙◌, arith, length-append}
use Rattle.std.proofs.lemmas.Bool.Decides.{nat_tests}
use Rattle.std.proofs.lemmas.List.{get_or_past, get_or_default, get_or_append_left, get_or-set_same, get_or-set_other}
use Rattle.std.proofs.Math.Seq.{get_or-append_seam}
use Rattle.fk_store_cells.specs.Slots.Cells.{cell_in, cell, HasRoom}

-- a list with what it has past its end at its end
pub get_or_more : {A : Type 0} (xs : List A) (d : A) (k : ℕ) → get_or (xs ++ d ∷ []) k d ≡ get_or xs k d
get_or_more xs d k = by (ltb k (length xs)) refl (k == length xs) refl
  where
    by : (b : Bool) → ltb k (length xs) ≡ b → (c : Bool) → (k == length xs) ≡ c → get_or (xs ++ d ∷ []) k d ≡ get_or xs k d
    by true e c f = let low : k < length xs = grind (arith, nat_tests) in get_or_append_left xs (d ∷ []) d k low
    by false e true f = let same : k ≡ length xs = grind (arith, nat_tests) in
        rw (same, get_or-append_seam xs d [] d, get_or_past xs (length xs) d (omega arith)) refl
    by false e false f =
        let low : length xs ≤ k = grind (arith, nat_tests) in
        let past : length (xs ++ d ∷ []) ≤ k = simp length-append (grind (arith, nat_tests)) in
        rw (get_or_past (xs ++ d ∷ []) k d past, get_or_past xs k d low) refl

pub get_or_set : {A : Type 0} (xs : List A) (i k : ℕ) (x d : A) → i < length xs → get_or (set xs i x) k d ≡ cond (k == i) x (get_or xs k d)
get_or_set xs i k x d low = by (k == i) refl
  where
    by : (b : Bool) → (k == i) ≡ b → get_or (set xs i x) k d ≡ cond b x (get_or xs k d)
    by true e = let same : k ≡ i = grind (arith, nat_tests) in rw same (get_or-set_same xs i x d low)
    by false e = let apart : k ≢ i = grind (arith, nat_tests) in get_or-set_other xs i k x d apart

pub cell_more : {V : Type 0} (row : List (Option V)) (k : ℕ) → cell_in (row ++ None ∷ []) k ≡ cell_in row k
cell_more row k = get_or_more row None k

-- ---- rows

module _ {V : Type 0} (rows : List (List (Option V))) where
  pub cells_more : (s k : ℕ) → cell (rows ++ [] ∷ []) s k ≡ cell rows s k
  unfolding cell
  cells_more s k = ap (λ row. cell_in row k) (get_or_more rows [] s)

  pub cell_past : (s k : ℕ) → length rows ≤ s → cell rows s k ≡ None
  unfolding cell
  cell_past s k past = rw (get_or_past rows s [] past) refl

  pub cell_found : (s k : ℕ) (row : List (Option V)) → s < length rows → row ≡ get_or rows s row → cell rows s k ≡ cell_in row k
  unfolding cell
  cell_found s k row low is = ap (λ row. cell_in row k) (get_or_default rows s [] row low ∙ sym is)

  -- one row is another
  pub cells_set : (space : ℕ) (row : List (Option V)) → space < length rows →
      (s k : ℕ) → cell (set rows space row) s k ≡ cond (s == space) (cell_in row k) (cell rows s k)
  unfolding cell
  cells_set space row low s k = ap (λ r. cell_in r k) (get_or_set rows space s row [] low) ∙ by (s == space)
    where
      by : (b : Bool) → cell_in (cond b row (get_or rows s [])) k ≡ cond b (cell_in row k) (cell_in (get_or rows s []) k)
      by true = refl
      by false = refl

  -- one cell is another
  pub cells_put : (space slot : ℕ) (o : Option V) (old row : List (Option V)) → space < length rows → old ≡ get_or rows space old →
      ((k : ℕ) → cell_in row k ≡ cond (k == slot) o (cell_in old k)) →
      (s k : ℕ) → cell (set rows space row) s k ≡ cond (s == space && k == slot) o (cell rows s k)
  cells_put space slot o old row low is put s k = cells_set space row low s k ∙ by (s == space) refl (k == slot) refl
    where
      by : (b : Bool) → (s == space) ≡ b → (c : Bool) → (k == slot) ≡ c → cond b (cell_in row k) (cell rows s k) ≡ cond (b && c) o (cell rows s k)
      by false e c f = refl
      by true e c f =
          let same : s ≡ space = grind (arith, nat_tests) in
          put k ∙ rw f (ap (cond c o) (sym (ap (λ s. cell rows s k) same ∙ cell_found space k old low is)))

  -- nothing stands past the last row
  pub cells_past : (space slot s k : ℕ) → length rows ≤ space → cell rows s k ≡ cond (s == space && k == slot) None (cell rows s k)
  cells_past space slot s k past = by (s == space) refl (k == slot)
    where
      by : (b : Bool) → (s == space) ≡ b → (c : Bool) → cell rows s k ≡ cond (b && c) None (cell rows s k)
      by false e c = refl
      by true e false = refl
      by true e true = let same : s ≡ space = grind (arith, nat_tests) in cell_past s k (omega arith)

  pub row_past : (space s k : ℕ) → length rows ≤ space → cell rows s k ≡ cond (s == space) None (cell rows s k)
  row_past space s k past = by (s == space) refl
    where
      by : (b : Bool) → (s == space) ≡ b → cell rows s k ≡ cond b None (cell rows s k)
      by false e = refl
      by true e = let same : s ≡ space = grind (arith, nat_tests) in cell_past s k (omega arith)

  -- room
  pub room_low : (space : ℕ) → HasRoom rows space → space < length rows
  unfolding HasRoom
  room_low space room = by (ltb space (length rows)) refl
    where
      by : (b : Bool) → ltb space (length rows) ≡ b → space < length rows
      by true e = grind (arith, nat_tests)
      by false e =
          let past : length rows ≤ space = grind (arith, nat_tests) in
          let none = ap length (get_or_past rows space [] past) in
          absurd (omega (arith, room, none))

  pub room_long : (space : ℕ) (row : List (Option V)) → HasRoom rows space → row ≡ get_or rows space row → length row ≡ 256
  unfolding HasRoom
  room_long space row room is = ap length (is ∙ get_or_default rows space row [] (room_low space room)) ∙ room

  pub room_set : (space : ℕ) (row : List (Option V)) → space < length rows → length row ≡ 256 → HasRoom (set rows space row) space
  unfolding HasRoom
  room_set space row low long = ap length (get_or-set_same rows space row [] low) ∙ long

  pub room_found : (space : ℕ) (row : List (Option V)) → space < length rows → row ≡ get_or rows space row → length row ≡ 256 → HasRoom rows space
  unfolding HasRoom
  room_found space row low is long = ap length (get_or_default rows space [] row low ∙ sym is) ∙ long
