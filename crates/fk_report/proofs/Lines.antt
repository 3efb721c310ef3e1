-- Lines: user threads in the order of their paths, each behind those before it.
use Rattle.std.proofs.Common.{◌≡◌, ℕ, true, IsTrue, List, [], ◌∷◌, ◌++◌, Contains, reverse, Some, Result, Ok, Err, Bool, false, IfOk, refl, ◌∙◌, zero, suc, arith}
use Rattle.std.proofs.lemmas.Cmp.{nat_list_cmp_total, tied_itself}
use Rattle.std.proofs.lemmas.List.Elements.{All-nil, All-push}
use Rattle.std.specs.Bool.{OnTrue}
use Rattle.std.specs.List.{AllByRecursion}
use Rattle.std.specs.List.Sorted.{IsStrictlySortedBy}
use Rattle.std.specs.Cmp.Lexicographic.{slice_cmp}
use Rattle.std.specs.Ordering.{is_le, nat_cmp}
use Rattle.std.specs.declared.cmp.Ordering.{Ordering}
use Rattle.std.specs.declared.cmp.Ordering.TheVariants.{Less, Equal, Greater}
use Rattle.fk_model.specs.World.{World}
use Rattle.fk_report.specs.declared.threads.ThreadState.{ThreadState}
use Rattle.fk_report.specs.Threads.{state_at, by_path, IsLine}

-- one more stands behind all
all-more : (P : ThreadState → Type 0) (xs : List ThreadState) (t : ThreadState) → AllByRecursion P xs → P t → AllByRecursion P (xs ++ t ∷ [])
all-more P [] t all here = (here, tt)
all-more P (x ∷ xs) t all here = (all.0, all-more P xs t all.1 here)

up-to : (x y z : List ℕ) → IsTrue (is_le (slice_cmp nat_cmp x y)) → slice_cmp nat_cmp y z ≡ Less → slice_cmp nat_cmp x z ≡ Less
up-to x y z le less = by (slice_cmp nat_cmp x y) refl le
  where
    by : (r : Ordering) → slice_cmp nat_cmp x y ≡ r → IsTrue (is_le r) → slice_cmp nat_cmp x z ≡ Less
    by Less e le = nat_list_cmp_total.trans x y z e less
    by Equal e le = nat_list_cmp_total.congr x y z e ∙ less
    by Greater e le = absurd (cc)

all-before : (last : List ℕ) (t : ThreadState) → slice_cmp nat_cmp last (reverse t.path) ≡ Less → (xs : List ThreadState) →
    AllByRecursion (λ (y : ThreadState). IsTrue (is_le (slice_cmp nat_cmp (reverse y.path) last))) xs → AllByRecursion (λ y. by_path y t ≡ Less) xs
all-before last t less [] all = tt
all-before last t less (x ∷ xs) all = (up-to (reverse x.path) last (reverse t.path) all.0 less, all-before last t less xs all.1)

none-past : (t : ThreadState) (xs : List ThreadState) → AllByRecursion (λ y. by_path y t ≡ Less) xs →
    AllByRecursion (λ (y : ThreadState). IsTrue (is_le (slice_cmp nat_cmp (reverse y.path) (reverse t.path)))) xs
none-past t [] all = tt
none-past t (x ∷ xs) all = (rw (all.0) refl, none-past t xs all.1)

in-order : (t : ThreadState) (xs : List ThreadState) → IsStrictlySortedBy by_path xs → AllByRecursion (λ y. by_path y t ≡ Less) xs →
    IsStrictlySortedBy by_path (xs ++ t ∷ [])
unfolding IsStrictlySortedBy
in-order t [] up all = (tt, tt)
in-order t (x ∷ xs) up all = (all-more (λ y. by_path x y ≡ Less) xs t up.0 all.0, in-order t xs up.1 all.1)

pub no-line : (w : World) → IsLine w [] []
unfolding IsStrictlySortedBy
no-line w = record { each = All-nil (λ (t : ThreadState). state_at w t.path ≡ Some t); ordered = tt; none_past = tt }

-- a thread whose path is later comes behind
pub line-more : (w : World) (threads : List ThreadState) (last : List ℕ) (t : ThreadState) → state_at w t.path ≡ Some t →
    slice_cmp nat_cmp last (reverse t.path) ≡ Less → IsLine w threads last → IsLine w (threads ++ t ∷ []) (reverse t.path)
line-more w threads last t is less line =
    let before = all-before last t less threads line.none_past in
    let itself : IsTrue (is_le (slice_cmp nat_cmp (reverse t.path) (reverse t.path))) = rw (tied_itself nat_list_cmp_total (reverse t.path)) refl in
    record {
      each = All-push (λ (t : ThreadState). state_at w t.path ≡ Some t) threads t line.each is;
      ordered = in-order t threads line.ordered before;
      none_past = all-more (λ (y : ThreadState). IsTrue (is_le (slice_cmp nat_cmp (reverse y.path) (reverse t.path)))) threads t
          (none-past t threads before) itself;
    }

-- ---- what a list contains

pub contains-last : (threads : List ThreadState) (t : ThreadState) → Contains (threads ++ t ∷ []) t
contains-last [] t = (0, omega arith, refl)
contains-last (x ∷ xs) t = let (k, low, is) = contains-last xs t in (suc k, omega (arith, low), is)

pub contains-more : (threads : List ThreadState) (t other : ThreadState) → Contains threads other → Contains (threads ++ t ∷ []) other
contains-more [] t other (k, low, is) = absurd (omega (arith, low))
contains-more (x ∷ xs) t other (zero, low, is) = (0, omega arith, is)
contains-more (x ∷ xs) t other (suc k, low, is) =
    let (j, under, same) = contains-more xs t other (k, omega (arith, low), is) in (suc j, omega (arith, under), same)

-- ---- of a thread that may have come behind

module _ {E : Type 0} where
  pub lined-up : (w : World) (threads : List ThreadState) (last : List ℕ) (t : ThreadState) (then : List ThreadState) (path : List ℕ) (r : Result Bool E) →
      state_at w t.path ≡ Some t → IfOk r (λ later. OnTrue later (slice_cmp nat_cmp last (reverse t.path) ≡ Less)) →
      IfOk r (λ later. OnTrue later (path ≡ reverse t.path)) → IfOk r (λ later. OnTrue later (then ≡ threads ++ t ∷ [])) →
      IsLine w threads last → IfOk r (λ later. OnTrue later (IsLine w then path))
  lined-up w threads last t then path (Ok true) is less at more line = rw (at, more) (line-more w threads last t is less line)
  lined-up w threads last t then path (Ok false) is less at more line = tt
  lined-up w threads last t then path (Err e) is less at more line = tt

  pub lined-others : (threads : List ThreadState) (t other : ThreadState) (then : List ThreadState) (r : Result Bool E) →
      IfOk r (λ later. OnTrue later (then ≡ threads ++ t ∷ [])) → Contains threads other → IfOk r (λ later. OnTrue later (Contains then other))
  lined-others threads t other then (Ok true) more there = rw more (contains-more threads t other there)
  lined-others threads t other then (Ok false) more there = tt
  lined-others threads t other then (Err e) more there = tt

  pub lined-itself : (threads : List ThreadState) (t other : ThreadState) (then : List ThreadState) (r : Result Bool E) →
      IfOk r (λ later. OnTrue later (then ≡ threads ++ t ∷ [])) → t ≡ other → IfOk r (λ later. OnTrue later (Contains then other))
  lined-itself threads t other then (Ok true) more same = rw (more, ← same) (contains-last threads t)
  lined-itself threads t other then (Ok false) more same = tt
  lined-itself threads t other then (Err e) more same = tt
