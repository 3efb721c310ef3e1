-- The orders of names tell all names apart.
use Rattle.std.proofs.Common.{◌≡◌, ℕ, true, cond, Some, None, refl, ap, ◌∙◌, arith}
use Rattle.std.proofs.lemmas.Bool.Decides.{nat_tests}
use Rattle.std.specs.Ordering.{eq_by_cmp, nat_cmp}
use Rattle.std.specs.Cmp.{IsTotalOrder, Equal-is, nat_cmp_total}
use Rattle.std.specs.FinMap.{FinMap, get, insert, remove, get-insert, get-remove, IsAntisymmetric}
use Rattle.std.proofs.lemmas.Cmp.{on_total, then_total}
use Rattle.std.proofs.lemmas.Map.Lookups.{exact_pairs, exact_unsigned}
use Rattle.fk_model.specs.declared.names.Who.{Who}
use Rattle.fk_store_cells.specs.Slots.Tabled.{IsNaming}
use Rattle.fk_store_graph.specs.Leads.Names.{at, page_at, same_who, who_cmp, page_cmp}

pub who_total : IsTotalOrder who_cmp
who_total = then_total (on_total (λ (w : Who). w.space) nat_cmp_total) (on_total (λ (w : Who). w.slot) nat_cmp_total)

pub who_exact : IsAntisymmetric who_cmp
who_exact a b h = ap (λ (p : ℕ × ℕ). at p.0 p.1) (exact_pairs nat_cmp nat_cmp exact_unsigned exact_unsigned (a.space, a.slot) (b.space, b.slot) h)

pub who_tied : (a b : Who) → eq_by_cmp who_cmp a b ≡ true → a ≡ b
who_tied a b h = who_exact a b ((Equal-is (who_cmp a b)).0 h)

pub page_total : IsTotalOrder page_cmp
page_total = then_total (on_total (λ (p : ℕ × ℕ). p.0) nat_cmp_total) (on_total (λ (p : ℕ × ℕ). p.1) nat_cmp_total)

pub page_exact : IsAntisymmetric page_cmp
page_exact a b h = exact_pairs nat_cmp nat_cmp exact_unsigned exact_unsigned a b h

pub page_tied : (a b : ℕ × ℕ) → eq_by_cmp page_cmp a b ≡ true → a ≡ b
page_tied a b h = page_exact a b ((Equal-is (page_cmp a b)).0 h)

pub same_tied : (a b : Who) → eq_by_cmp who_cmp a b ≡ same_who a b
same_tied a b = grind (arith, nat_tests)

pub same_who_refl : (a : Who) → same_who a a ≡ true
same_who_refl a = grind (arith, nat_tests)

pub same_who_eq : (a b : Who) → same_who a b ≡ true → a ≡ b
same_who_eq a b h = who_tied a b (same_tied a b ∙ h)

pub same_who_back : (a b : Who) → same_who a b ≡ same_who b a
same_who_back a b = grind (arith, nat_tests)

-- a map in which a key's value goes to another key
pub get-renamed : {X : Type 0} (old left new : FinMap who_cmp X) (from to : Who) (x : X) →
    get old from ≡ Some x → left ≡ remove old from → new ≡ insert left to x →
    (q : Who) → get new q ≡ cond (same_who q to) (get old from) (cond (same_who q from) None (get old q))
get-renamed old left new from to x there removed inserted q =
    rw (inserted, get-insert who_total left to x q, removed, get-remove who_total old from q, same_tied q to, same_tied q from, there) refl

-- ---- the names of slots and pages

pub who_naming : IsNaming who_cmp at
who_naming = record {
  total = who_total;
  exact = who_exact;
  spaces = λ s j t k low. grind (arith, nat_tests);
  slots = λ s j k low. grind (arith, nat_tests);
  tied = λ s j t k. grind (arith, nat_tests);
  space = λ q. q.space;
  slot = λ q. q.slot;
  named = λ q. refl;
}

pub page_naming : IsNaming page_cmp page_at
page_naming = record {
  total = page_total;
  exact = page_exact;
  spaces = λ s j t k low. grind (arith, nat_tests);
  slots = λ s j k low. grind (arith, nat_tests);
  tied = λ s j t k. grind (arith, nat_tests);
  space = λ q. q.0;
  slot = λ q. q.1;
  named = λ q. refl;
}
