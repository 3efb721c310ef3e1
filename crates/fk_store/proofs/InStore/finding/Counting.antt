-- Counting: a sum over all objects, taken from each to the next.
use Rattle.std.proofs.Common.{◌≡◌, ℕ, ◌+◌, ◌-◌, ◌*◌, ◌≤◌, ◌<◌, Bool, true, false, cond, List, [], ◌∷◌, map, Option, Some, None, IfSome, is_some, refl}
use Rattle.std.proofs.Common.{sym, ap, subst, ◌∙◌, arith}
use Rattle.std.specs.List.{sum_by}
use Rattle.std.specs.declared.cmp.Ordering.{Ordering}
use Rattle.std.specs.declared.cmp.Ordering.TheVariants.{Less, Equal, Greater}
use Rattle.std.specs.Ordering.{is_lt, is_le, ordering_reverse}
use Rattle.std.specs.FinMap.{get, entries, entries_sorted, get-entries}
use Rattle.fk_model.specs.declared.names.Who.{Who}
use Rattle.fk_model.specs.declared.body.Body as bodies_of
use Rattle.fk_model.specs.Places.{Path}
use Rattle.fk_model.specs.Searches.{depth, objects}
use Rattle.fk_model.proofs.walks.Members.{IsIn}
use Rattle.std.proofs.lemmas.Cmp.{tied_itself}
use Rattle.fk_store.proofs.InFreezing.NameLaws.{who_total, who_exact, who_tied}
use Rattle.fk_store.proofs.InFreezing.Found.{found-member}
use Rattle.fk_store.specs.Store.Contents.{Contents}
use Rattle.fk_store.specs.Store.Names.{who_cmp, rank}
use Rattle.fk_store.specs.Store.Orders.{IsFirstAfter}
use Rattle.fk_store.specs.Store.Paths.{path, place}
use Rattle.fk_store.specs.Store.World.{world, IsLive}
use Rattle.fk_store.specs.Store.WellFormed.{IsWellFormed}
use Rattle.fk_store.proofs.InStore.finding.LookUps.{there-IsLive, IsLive-there}
use Rattle.fk_store.proofs.InFreezing.Lists.{Differ, sum_same, sum_none, sum_without, in_mapped, of_mapped, sum_mapped}
use Rattle.fk_store.proofs.InStore.finding.PointerLaws.{in_map, places-differ, sum-objects, there}

-- ---- names, and those that are yet to come

abbrev entry : Type 0
entry = Who × bodies_of.Body

abbrev name_of : entry → Who
name_of e = e.0

abbrev pub names : Contents → List Who
names m = map name_of (entries m.bodies)

abbrev pub is_to_come : Option Who → Who → Bool
is_to_come None q = false
is_to_come (Some a) q = is_le (who_cmp a q)

-- what is left of a sum
abbrev pub left : (Who → ℕ) → Option Who → Who → ℕ
left g at q = cond (is_to_come at q) (g q) 0

is_less : (o : Ordering) → is_lt o ≡ true → o ≡ Less
is_less Less h = refl
is_less Equal h = absurd (cc)
is_less Greater h = absurd (cc)

before_others : (a q : Who) → (a ≡ q → ⊥) → is_le (who_cmp a q) ≡ is_lt (who_cmp a q)
before_others a q other = by (who_cmp a q) refl
  where
    by : (o : Ordering) → who_cmp a q ≡ o → is_le o ≡ is_lt o
    by Less e = refl
    by Equal e = absurd (other (who_exact a q e))
    by Greater e = refl

module _ (P : Who → Type 0) (a : Who) (next : Option Who) (first : IsFirstAfter who_cmp P (Some a) next) where
  passed : is_to_come next a ≡ false
  passed = by next first
    where
      by : (o : Option Who) → IsFirstAfter who_cmp P (Some a) o → is_to_come o a ≡ false
      by None h = refl
      by (Some n) h = ap is_le (who_total.antisymm n a) ∙ ap (λ o. is_le (ordering_reverse o)) (is_less (who_cmp a n) h.1)

  goes_on : (q : Who) → P q → (a ≡ q → ⊥) → is_to_come (Some a) q ≡ is_to_come next q
  goes_on q there other = before_others a q other ∙ by next first (is_lt (who_cmp a q)) refl
    where
      not_before : (n : Who) → who_cmp a n ≡ Less → is_lt (who_cmp a q) ≡ false → (o : Ordering) → who_cmp n q ≡ o → false ≡ is_le o
      not_before n less past Less e = let yes = who_total.trans a n q less e in absurd (cc)
      not_before n less past Equal e = let same = who_exact n q e in let yes : who_cmp a q ≡ Less = subst (λ t. who_cmp a t ≡ Less) same less in absurd (cc)
      not_before n less past Greater e = refl

      by : (o : Option Who) → IsFirstAfter who_cmp P (Some a) o → (b : Bool) → is_lt (who_cmp a q) ≡ b → b ≡ is_to_come o q
      by None h true e = absurd (h q there e)
      by None h false e = refl
      by (Some n) h true e = sym (h.2 q there e)
      by (Some n) h false e = not_before n (is_less (who_cmp a n) h.1) e (who_cmp n q) refl

-- how many names are left to look at
abbrev pub left_from : Contents → Option Who → ℕ
left_from m None = 0
left_from m (Some who) = 1 + ((world m).next * 256 - rank (Some who))

-- ---- a sum over all objects

-- what was counted, and what is yet to come
pub record IsCounted (m : Contents) (g : Path → ℕ) (at : Option Who) (count : ℕ) : Type 0 where
  pub total : count + sum_by (left (λ q. g (place (path m) q)) at) (names m) ≡ sum_by g (objects (world m))
  pub live : IfSome at (IsLive m)
  pub low : IfSome at (λ who. count ≤ 4 * rank (Some who))
  pub ranked : IfSome at (λ who. rank (Some who) ≤ (world m).next * 256)

module _ (m : Contents) (kept : IsWellFormed m) where
  names_live : (q : Who) → IsIn q (names m) → IsLive m q
  names_live q h =
      let found = of_mapped name_of q (entries m.bodies) h in
      there-IsLive m kept q (ap is_some (subst (λ k. get m.bodies k ≡ Some found.0.1) found.2 (there m kept found.0 found.1)))

  live_named : (q : Who) → IsLive m q → IsIn q (names m)
  live_named q live = by (get m.bodies q) refl (IsLive-there m kept q live)
    where
      by : (o : Option bodies_of.Body) → get m.bodies q ≡ o → is_some o ≡ true → IsIn q (names m)
      by None e some = absurd (cc)
      by (Some b) e some =
          let member = found-member who_total (entries m.bodies) q b (sym (get-entries m.bodies q) ∙ e) in
          let same : q ≡ member.0.0 = who_tied q member.0.0 member.2 in
          subst (λ k. IsIn k (names m)) (sym same) (in_mapped name_of member.0 (entries m.bodies) member.1)

  names-differ : Differ (names m)
  names-differ = by (entries m.bodies) (places-differ m kept (entries m.bodies) (λ e h. ap is_some (there m kept e h)) (entries_sorted m.bodies))
    where
      by : (es : List entry) → Differ (map (λ (e : entry). place (path m) e.0) es) → Differ (map name_of es)
      by [] h = tt
      by (d ∷ es) h = (
        (λ g. let found = of_mapped name_of d.0 es g in
            h.0 (subst (λ y. IsIn y (map (λ (e : entry). place (path m) e.0) es)) (ap (place (path m)) found.2) (in_map m kept found.0 es found.1))),
        by es h.1,
      )

  sum_names : m.next ≤ depth → (g : Path → ℕ) → sum_by (λ q. g (place (path m) q)) (names m) ≡ sum_by g (objects (world m))
  sum_names few g =
      sum_mapped name_of (λ q. g (place (path m) q)) (entries m.bodies)
      ∙ sym (sum_mapped (λ (e : entry). place (path m) e.0) g (entries m.bodies)) ∙ sym (sum-objects m kept few g)

  module _ (g : Path → ℕ) where
    abbrev at_name : Who → ℕ
    at_name q = g (place (path m) q)

    pub begins : m.next ≤ depth → (at : Option Who) → IsFirstAfter who_cmp (IsLive m) None at →
        IfSome at (λ who. rank (Some who) ≤ (world m).next * 256) → IsCounted m g at 0
    begins few at first ranked =
        let all = sum_same (left at_name at) at_name (names m) (λ q h. by at first q (names_live q h)) ∙ sum_names few g in
        record {
          total = omega (arith, all);
          live = there_is at first;
          low = low_is at;
          ranked = ranked;
        }
      where
        by : (o : Option Who) → IsFirstAfter who_cmp (IsLive m) None o → (q : Who) → IsLive m q → left at_name o q ≡ at_name q
        by None h q live = absurd (h q live refl)
        by (Some n) h q live = ap (λ t. cond t (at_name q) 0) (h.2 q live refl)

        there_is : (o : Option Who) → IsFirstAfter who_cmp (IsLive m) None o → IfSome o (IsLive m)
        there_is None h = tt
        there_is (Some n) h = h.0

        low_is : (o : Option Who) → IfSome o (λ who. 0 ≤ 4 * rank (Some who))
        low_is None = tt
        low_is (Some n) = omega arith

    pub counts : (a : Who) (count : ℕ) → IsCounted m g (Some a) count → (next : Option Who) → IsFirstAfter who_cmp (IsLive m) (Some a) next →
        IfSome next (λ who. rank (Some a) < rank (Some who)) → IfSome next (λ who. rank (Some who) ≤ (world m).next * 256) →
        (more : ℕ) → more ≡ g (place (path m) a) → more ≤ 4 → IsCounted m g next (count + more)
    counts a count on next first rises ranked more is few =
        let less = sum_without (left at_name (Some a)) (left at_name next) a (names m) names-differ (live_named a on.live)
        (ap (λ t. cond t (at_name a) 0) (passed (IsLive m) a next first))
        (λ q h other. ap (λ t. cond t (at_name q) 0) (goes_on (IsLive m) a next first q (names_live q h) other)) in
        let here : left at_name (Some a) a ≡ at_name a = ap (λ o. cond (is_le o) (at_name a) 0) (tied_itself who_total a) in
        record {
          total = omega (arith, on.total, less, here, is);
          live = there_is next first;
          low = low_is next rises;
          ranked = ranked;
        }
      where
        there_is : (o : Option Who) → IsFirstAfter who_cmp (IsLive m) (Some a) o → IfSome o (IsLive m)
        there_is None h = tt
        there_is (Some n) h = h.0

        low_is : (o : Option Who) → IfSome o (λ who. rank (Some a) < rank (Some who)) → IfSome o (λ who. count + more ≤ 4 * rank (Some who))
        low_is None h = tt
        low_is (Some n) h = omega (arith, h, on.low, few)

    pub ends : (count : ℕ) → IsCounted m g None count → count ≡ sum_by g (objects (world m))
    ends count on = let none = sum_none (left at_name None) (names m) (λ q. refl) in omega (arith, on.total, none)
