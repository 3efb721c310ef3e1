-- ScanLaws: what a look at all slots tells of the map.
use Rattle.std.proofs.Common.{◌≡◌, ℕ, ◌+◌, ◌<◌, ◌≤◌, Bool, true, false, cond, ◌==◌, List, [], Option, Some, None, IsSome, is_some, IfSome, option_map}
use Rattle.std.proofs.Common.{refl, sym, ap, subst, ◌∙◌, arith}
use Rattle.std.proofs.lemmas.Bool.Decides.{nat_tests}
use Rattle.std.specs.Ordering.{is_lt, is_le}
use Rattle.std.specs.FinMap.{get}
use Rattle.fk_model.specs.declared.names.Who.{Who}
use Rattle.fk_model.specs.declared.body.Body.{Body}
use Rattle.fk_model.specs.Objects.{and_then}
use Rattle.fk_store_graph.specs.Linked.Cells.{cell, is_from}
use Rattle.fk_store_graph.specs.Linked.Tabled.{map_of_rows}
use Rattle.fk_store_graph.proofs.InLinked.TabledLaws.{get-rows}
use Rattle.fk_store_graph.specs.Linked.Shapes.{Entry}
use Rattle.fk_store_graph.specs.Linked.Filed.{Filed, IsFiled, entry_under, key_of, name_under}
use Rattle.fk_store_graph.specs.Linked.Bodied.{body_under, bodies}
use Rattle.fk_store_graph.specs.Linked.Names.{at, page_at, page_cmp, who_cmp}
use Rattle.fk_store_graph.specs.Bodies.Orders.{comes_after, IsFirstAfter}
use Rattle.fk_store_graph.proofs.InLinked.BodyLaws.{get-bodies}
use Rattle.fk_store_graph.proofs.InLinked.NameLaws.{page_naming}

-- ---- what is there

some_under : (o : Filed) (key : ℕ) (who : Who) → name_under o key ≡ Some who → IsSome (body_under o key)
unfolding name_under body_under
some_under o key who named = by (entry_under o key) named
  where
    by : (x : Option Entry) → option_map (λ (e : Entry). e.who) x ≡ Some who → IsSome (option_map (λ (e : Entry). e.body) x)
    by None h = absurd (cc)
    by (Some e) h = refl

module _ (o : Filed) (filed : IsFiled o) (q : Who) where
  pub keyed_there : IsSome (key_of o q) → IsSome (get (bodies o) q)
  keyed_there some = subst IsSome (sym (get-bodies o q)) (by (key_of o q) refl some)
    where
      by : (x : Option ℕ) → key_of o q ≡ x → IsSome x → IsSome (and_then (body_under o) x)
      by None e h = absurd (cc)
      by (Some key) e h = some_under o key q (filed.filed q key e)

  pub there_keyed : IsSome (get (bodies o) q) → IsSome (key_of o q)
  there_keyed some = by (key_of o q) (subst IsSome (get-bodies o q) some)
    where
      by : (x : Option ℕ) → IsSome (and_then (body_under o) x) → IsSome x
      by None h = absurd (cc)
      by (Some key) h = refl

  pub not_keyed : key_of o q ≡ None → get (bodies o) q ≡ None
  not_keyed none = get-bodies o q ∙ ap (and_then (body_under o)) none

-- ---- the next object

pub start_first : (s k : ℕ) → is_from 0 0 s k ≡ true
start_first s k = grind (arith, nat_tests)

pub start_next : (a b s k : ℕ) → is_from a (b + 1) s k ≡ is_lt (who_cmp (at a b) (at s k))
start_next a b s k = grind (arith, nat_tests)

from_le : (a b s k : ℕ) → is_from a b s k ≡ true → is_le (who_cmp (at a b) (at s k)) ≡ true
from_le a b s k h = grind (arith, nat_tests)

module _ (o : Filed) (filed : IsFiled o) (who : Option Who) (a b : ℕ) (starts : (s k : ℕ) → is_from a b s k ≡ comes_after who_cmp who (at s k)) where
  pub after-none : ((q : Who) → IsSome (key_of o q) → is_from a b q.space q.slot ≡ false) →
      IsFirstAfter who_cmp (λ q. IsSome (get (bodies o) q)) who None
  after-none none q some later =
      let no_more = none q (there_keyed o filed q some) in
      let starts_there = starts q.space q.slot in
      absurd (cc)

  pub after-some : (next : Who) → IsSome (key_of o next) → is_from a b next.space next.slot ≡ true →
      ((q : Who) → IsSome (key_of o q) → is_from a b q.space q.slot ≡ true → is_from next.space next.slot q.space q.slot ≡ true) →
      IsFirstAfter who_cmp (λ q. IsSome (get (bodies o) q)) who (Some next)
  after-some next some later lowest = (
    keyed_there o filed next some,
    sym (starts next.space next.slot) ∙ later,
    λ q there comes. from_le next.space next.slot q.space q.slot (lowest q (there_keyed o filed q there) (starts q.space q.slot ∙ comes)),
  )

  pub after-is : (r : Option Who) → IfSome r (λ next. IsSome (key_of o next) × (is_from a b next.space next.slot ≡ true)
      × ((q : Who) → IsSome (key_of o q) → is_from a b q.space q.slot ≡ true → is_from next.space next.slot q.space q.slot ≡ true)) →
      (r ≡ None → (q : Who) → IsSome (key_of o q) → is_from a b q.space q.slot ≡ false) →
      IsFirstAfter who_cmp (λ q. IsSome (get (bodies o) q)) who r
  after-is None some none = after-none (none refl)
  after-is (Some next) some none = after-some next some.0 some.1 some.2

-- ---- pages

none_some : {A : Type 0} (o : Option A) → None ≡ o → IsSome o → ⊥
none_some None e h = absurd (cc)
none_some (Some a) e h = absurd (cc)

pub page_not_gone : (rows : List (List (Option (List ℕ)))) (n g : ℕ) → None ≡ cell rows n g → IsSome (get (map_of_rows page_cmp page_at rows) (n, g)) → ⊥
page_not_gone rows n g none some = none_some (cell rows n g) none (subst IsSome (get-rows page_naming rows n g) some)

-- ---- all pages of a space

pub get-cleared : (rows left : List (List (Option (List ℕ)))) (space : ℕ) →
    ((s k : ℕ) → cell left s k ≡ cond (s == space) None (cell rows s k)) →
    (n g : ℕ) → get (map_of_rows page_cmp page_at left) (n, g) ≡ cond (space == n) None (get (map_of_rows page_cmp page_at rows) (n, g))
get-cleared rows left space gone n g =
    get-rows page_naming left n g ∙ gone n g
    ∙ (λ i. cond (turned i) None (sym (get-rows page_naming rows n g) i))
  where
    turned : (n == space) ≡ (space == n)
    turned = grind (arith, nat_tests)

-- ---- the first slot of a space

pub first_there : (o : Filed) → IsFiled o → (space : ℕ) (r : Option ℕ) →
    IfSome r (λ next. IsSome (cell o.keys space next) × (0 ≤ next) × ((k : ℕ) → IsSome (cell o.keys space k) → 0 ≤ k → next ≤ k)) →
    IfSome r (λ slot. IsSome (get (bodies o) (at space slot)) × ((k : ℕ) → IsSome (get (bodies o) (at space k)) → slot ≤ k))
unfolding key_of
first_there o filed space None h = tt
first_there o filed space (Some slot) h = (
  keyed_there o filed (at space slot) h.0,
  λ k there. h.2 k (there_keyed o filed (at space k) there) (omega arith),
)

pub none_there : (o : Filed) (space : ℕ) → ((k : ℕ) → IsSome (cell o.keys space k) → k < 0) → (k : ℕ) → get (bodies o) (at space k) ≡ None
unfolding key_of
none_there o space none k = get-bodies o (at space k) ∙ ap (and_then (body_under o)) (by (cell o.keys space k) refl)
  where
    by : (x : Option ℕ) → cell o.keys space k ≡ x → x ≡ None
    by None e = refl
    by (Some key) e = let low = none k (ap is_some e) in absurd (omega (arith, low))

-- and the next one

pub next_there : (o : Filed) → IsFiled o → (space slot : ℕ) (r : Option ℕ) →
    IfSome r (λ next. IsSome (cell o.keys space next) × (slot ≤ next) × ((k : ℕ) → IsSome (cell o.keys space k) → slot ≤ k → next ≤ k)) →
    IfSome r (λ next. IsSome (get (bodies o) (at space next)) × (slot ≤ next) × ((k : ℕ) → IsSome (get (bodies o) (at space k)) → slot ≤ k → next ≤ k))
unfolding key_of
next_there o filed space slot None h = tt
next_there o filed space slot (Some next) h = (
  keyed_there o filed (at space next) h.0,
  h.1,
  λ k there low. h.2 k (there_keyed o filed (at space k) there) low,
)

pub none_later : (o : Filed) → IsFiled o → (space slot : ℕ) → ((k : ℕ) → IsSome (cell o.keys space k) → k < slot) →
    (k : ℕ) → IsSome (get (bodies o) (at space k)) → k < slot
unfolding key_of
none_later o filed space slot none k there = none k (there_keyed o filed (at space k) there)
