-- Names: an object is named by the birth number of its space and its slot there, a page likewise. Their orders.
use Rattle.std.specs.Prelude.{ℕ, refl}
use Rattle.std.specs.declared.cmp.Ordering.{Ordering}
use Rattle.std.specs.Ordering.{nat_cmp, ordering_then}
use Rattle.std.specs.Coded.{Coded, code_by, coded×, coded_ℕ}
use Rattle.fk_model.specs.declared.names.Who.{Who}
pub use Rattle.fk_store_cells.specs.Objects.Edits.{same_who}

-- the object in a slot of a space
abbrev pub at : ℕ → ℕ → Who
at space slot = record { space = space; slot = slot }

-- by space, and then by slot
abbrev pub who_cmp : Who → Who → Ordering
who_cmp a b = ordering_then (nat_cmp a.space b.space) (nat_cmp a.slot b.slot)

-- by space, and then by page
abbrev pub page_cmp : ℕ × ℕ → ℕ × ℕ → Ordering
page_cmp a b = ordering_then (nat_cmp a.0 b.0) (nat_cmp a.1 b.1)

-- a page of a space
abbrev pub page_at : ℕ → ℕ → ℕ × ℕ
page_at space page = (space, page)

abbrev pub coded_who : Coded Who
coded_who = code_by (ℕ × ℕ) (coded× coded_ℕ coded_ℕ) (λ w. (w.space, w.slot)) (λ p. at p.0 p.1) (λ _. refl)
