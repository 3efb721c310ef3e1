-- CountLaws: the number of held spaces, where names are the same.
use Rattle.std.proofs.Common.{◌≡◌, ℕ, zero, suc, ◌+◌, List, [], ◌∷◌, map, Option, Some, None, option_map, refl, sym, ap, subst, ◌∙◌, arith}
use Rattle.std.specs.List.{sum_by}
use Rattle.std.specs.FinMap.{get}
use Rattle.std.proofs.lemmas.List.Sums.{sum_by-cons}
use Rattle.fk_model.specs.declared.names.Who.{Who}
use Rattle.fk_model.specs.declared.body.Body.{Body}
use Rattle.fk_model.specs.Objects.{and_then}
use Rattle.fk_store_cells.specs.Slots.Cells.{cell, cell_in, row_of}
use Rattle.fk_store_cells.specs.Slots.Tabled.{of_cell, map_of_rows}
use Rattle.fk_store_cells.specs.Objects.Filed.{Filed, key_of}
use Rattle.fk_store_graph.specs.Linked.Bodied.{body_under, bodies, Maps}
use Rattle.fk_store_graph.specs.Leads.Held.{is_held, one_if, held_in, IsCount}
use Rattle.fk_store_graph.specs.Leads.Names.{at, who_cmp}
use Rattle.fk_store_graph.proofs.InLinked.BodyLaws.{get-bodies}
use Rattle.fk_store_cells.proofs.InSlots.TabledLaws.{get-rows, sum-entries}
use Rattle.fk_store_graph.proofs.InLeads.NameLaws.{who_naming}

-- what the map has under a name
pub get-who : (rows : List (List (Option Body))) (q : Who) → get (map_of_rows who_cmp at rows) q ≡ cell rows q.space q.slot
get-who rows q = get-rows who_naming rows q.space q.slot

-- a number of all is that of all cells
pub held-rows : (rows : List (List (Option Body))) →
    held_in (map_of_rows who_cmp at rows) ≡ sum_by (λ row. sum_by (of_cell (λ b. one_if (is_held b))) row) rows
unfolding held_in
held-rows rows = sum-entries who_naming (λ b. one_if (is_held b)) rows

pub none-empty : held_in (map_of_rows who_cmp at []) ≡ 0
none-empty = held-rows []

-- ---- sums of cells that weigh the same

module _ (f : Body → ℕ) where
  none_row : (ys : List (Option Body)) → ((k : ℕ) → of_cell f (cell_in ys k) ≡ 0) → sum_by (of_cell f) ys ≡ 0
  none_row [] none = refl
  none_row (y ∷ ys) none = sum_by-cons (of_cell f) y ys ∙ (let a = none zero in let b = none_row ys (λ k. none (suc k)) in omega (arith, a, b))

  same_row : (xs ys : List (Option Body)) → ((k : ℕ) → of_cell f (cell_in xs k) ≡ of_cell f (cell_in ys k)) →
      sum_by (of_cell f) xs ≡ sum_by (of_cell f) ys
  same_row [] ys same = sym (none_row ys (λ k. sym (same k)))
  same_row (x ∷ xs) [] same = none_row (x ∷ xs) same
  same_row (x ∷ xs) (y ∷ ys) same =
      sum_by-cons (of_cell f) x xs ∙ (λ i. same zero i + same_row xs ys (λ k. same (suc k)) i) ∙ sym (sum_by-cons (of_cell f) y ys)

  abbrev weight : List (List (Option Body)) → ℕ
  weight rows = sum_by (λ row. sum_by (of_cell f) row) rows

  none_rows : (rows : List (List (Option Body))) → ((s k : ℕ) → of_cell f (cell_in (row_of rows s) k) ≡ 0) → weight rows ≡ 0
  none_rows [] none = refl
  none_rows (row ∷ rows) none = sum_by-cons (λ row. sum_by (of_cell f) row) row rows
      ∙ (let a = none_row row (none zero) in let b = none_rows rows (λ s. none (suc s)) in omega (arith, a, b))

  pub same_rows : (rows new : List (List (Option Body))) → ((s k : ℕ) → of_cell f (cell_in (row_of rows s) k) ≡ of_cell f (cell_in (row_of new s) k)) →
      weight rows ≡ weight new
  same_rows [] new same = sym (none_rows new (λ s k. sym (same s k)))
  same_rows (row ∷ rows) [] same = none_rows (row ∷ rows) same
  same_rows (row ∷ rows) (other ∷ new) same =
      sum_by-cons (λ row. sum_by (of_cell f) row) row rows
      ∙ (λ i. same_row row other (same zero) i + same_rows rows new (λ s. same (suc s)) i)
      ∙ sym (sum_by-cons (λ row. sum_by (of_cell f) row) other new)

-- ---- the count

abbrev held_one : Option Body → ℕ
held_one = of_cell (λ b. one_if (is_held b))

abbrev rows_of : Filed → List (List (Option Body))
rows_of o = map (map (and_then (body_under o))) o.keys

-- the cells of the rows are what is found by name
cell-bodies : (o : Filed) (s k : ℕ) → cell (rows_of o) s k ≡ get (bodies o) (at s k)
unfolding bodies
cell-bodies o s k = sym (get-who (rows_of o) (at s k))

pub same-held : (o p : Filed) → ((q : Who) → held_one (get (bodies p) q) ≡ held_one (get (bodies o) q)) → held_in (bodies p) ≡ held_in (bodies o)
unfolding bodies cell
same-held o p same =
    held-rows (rows_of p)
    ∙ same_rows (λ b. one_if (is_held b)) (rows_of p) (rows_of o)
    (λ s k. ap held_one (cell-bodies p s k) ∙ same (at s k) ∙ sym (ap held_one (cell-bodies o s k)))
    ∙ sym (held-rows (rows_of o))

-- bodies that are held, or aren't, as they were
pub mapped-held : (o p : Filed) (f : ℕ → Body → Body) → Maps o p f → ((j : ℕ) (b : Body) → is_held (f j b) ≡ is_held b) →
    held_in (bodies p) ≡ held_in (bodies o)
mapped-held o p f maps same = same-held o p (λ q.
    ap held_one (get-bodies p q ∙ ap (and_then (body_under p)) (maps.alike.keys q)) ∙ by (key_of o q) ∙ sym (ap held_one (get-bodies o q)))
  where
    body : (j : ℕ) (x : Option Body) → held_one (option_map (f j) x) ≡ held_one x
    body j None = refl
    body j (Some b) = ap one_if (same j b)

    by : (x : Option ℕ) → held_one (and_then (body_under p) x) ≡ held_one (and_then (body_under o) x)
    by None = refl
    by (Some j) = ap held_one (maps.bodies j) ∙ body j (body_under o j)

pub mapped-count : (o p : Filed) (f : ℕ → Body → Body) (count : ℕ) → Maps o p f → ((j : ℕ) (b : Body) → is_held (f j b) ≡ is_held b) →
    IsCount (held_in (bodies o)) count → IsCount (held_in (bodies p)) count
mapped-count o p f count maps same enough = subst (λ n. IsCount n count) (sym (mapped-held o p f maps same)) enough
