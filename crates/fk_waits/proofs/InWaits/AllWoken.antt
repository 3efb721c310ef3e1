-- AllWoken: threads that are woken one after another, each the first of all.
use Rattle.std.proofs.Common.{◌≡◌, ◌<◌, ◌≤◌, ◌+◌, ◌-◌, ◌||◌, ℕ, suc, Bool, true, List, [], ◌∷◌, ◌++◌, length, length-append, map, Option, Some, None}
use Rattle.std.proofs.Common.{if◌then◌else◌, refl, sym, ap, subst, ◌∙◌, arith}
use Rattle.std.proofs.lemmas.Bool.{or_left}
use Rattle.fk_model.specs.declared.names.Who.{Who}
use Rattle.fk_waits.specs.Causes.Names.{is_same}
use Rattle.fk_waits.specs.Causes.Causes.{front_of, Standing}
use Rattle.fk_waits.proofs.InCauses.Order.{same_self}
use Rattle.fk_waits.proofs.InCauses.Placed.{same_by}
use Rattle.fk_waits.specs.Waits.Lists.{stands}
use Rattle.fk_waits.specs.Waits.Threads.{all_ready, are_queued, besides, front_for, is_there, lists_of, pair_of, pairs_of, AreThere, Pairs, StandApart}
use Rattle.fk_waits.specs.declared.waits.threads.Threads.{Threads}
use Rattle.fk_waits.proofs.InWaits.Listed.{pairs_are, stands_there}
use Rattle.fk_waits.proofs.InWaits.There.{besides_none}

-- ---- the first of all

pub front_pairs : (l : List Standing) → front_of l ≡ front_for (map pair_of l)
front_pairs [] = refl
front_pairs (s ∷ l) = refl

pub front_there : (n : Who) (l : Pairs) → Some n ≡ front_for l → is_there n l ≡ true
front_there n [] is = absurd (cc)
front_there n (x ∷ l) is = or_left (is_same x.0 n) (is_there n l) (same_by x.0 n (sym (ap who_or is)))
  where
    who_or : Option Who → Who
    who_or None = n
    who_or (Some w) = w

-- it goes last
pub front_goes : (n : Who) (x : Who × Option Who) (l : Pairs) → StandApart (x ∷ l) → Some n ≡ front_for (x ∷ l) →
    besides n (x ∷ l) ++ (n, None) ∷ [] ≡ l ++ (x.0, None) ∷ []
front_goes n x l apart is =
    subst (λ (w : Who). besides w (x ∷ l) ++ (w, None) ∷ [] ≡ l ++ (x.0, None) ∷ []) (sym (ap who_or is))
    (ap (λ (k : Pairs). k ++ (x.0, None) ∷ []) (ap (λ (b : Bool). if b then besides x.0 l else x ∷ besides x.0 l) (same_self x.0)
    ∙ besides_none x.0 l apart.0))
  where
    who_or : Option Who → Who
    who_or None = n
    who_or (Some w) = w

-- ---- all

-- so many are woken, and the others stand before them
pub record AreTurned (t : Threads) (many : ℕ) (l : Pairs) : Type 0 where
  pub woken : Pairs
  pub rest : Pairs
  pub is : l ≡ woken ++ rest
  pub long : length woken ≡ many
  pub there : AreThere t (rest ++ all_ready woken)

none_more : (l : Pairs) → l ++ [] ≡ l
none_more [] = refl
none_more (x ∷ l) = ap (λ (k : Pairs). x ∷ k) (none_more l)

then_more : (a b c : Pairs) → (a ++ b) ++ c ≡ a ++ (b ++ c)
then_more [] b c = refl
then_more (x ∷ a) b c = ap (λ (k : Pairs). x ∷ k) (then_more a b c)

ready_more : (a : Pairs) (x : Who × Option Who) → all_ready (a ++ x ∷ []) ≡ all_ready a ++ (x.0, None) ∷ []
ready_more [] x = refl
ready_more (y ∷ a) x = ap (λ (k : Pairs). (y.0, None) ∷ k) (ready_more a x)

pub turned_first : (t : Threads) (l : Pairs) → AreThere t l → AreTurned t 0 l
turned_first t l there = record { woken = []; rest = l; is = refl; long = refl; there = subst (AreThere t) (sym (none_more l)) there }

pub turned_next : (t u : Threads) (many : ℕ) (l : Pairs) → many < length l → AreTurned t many l →
    ((x : Who × Option Who) (k : Pairs) → AreThere t (x ∷ k) → AreThere u (k ++ (x.0, None) ∷ [])) → AreTurned u (many + 1) l
turned_next t u many l less turned step = by turned.rest turned.is turned.there
  where
    by : (rest : Pairs) → l ≡ turned.woken ++ rest → AreThere t (rest ++ all_ready turned.woken) → AreTurned u (many + 1) l
    by [] is there =
        let all : length l ≡ length turned.woken = ap (λ (k : Pairs). length k) (is ∙ none_more turned.woken) in
        let never : many < many = omega (arith, less, all, turned.long) in
        absurd (omega (arith, never))
    by (x ∷ rest) is there = record {
      woken = turned.woken ++ x ∷ [];
      rest = rest;
      is = is ∙ sym (then_more turned.woken (x ∷ []) rest);
      long = let more = length-append turned.woken (x ∷ []) in let long = turned.long in omega (arith, more, long);
      there = subst (AreThere u)
          (then_more rest (all_ready turned.woken) ((x.0, None) ∷ []) ∙ ap (λ (k : Pairs). rest ++ k) (sym (ready_more turned.woken x)))
          (step x (rest ++ all_ready turned.woken) there);
    }

pub turned_all : (t : Threads) (many : ℕ) (l : Pairs) → length l ≤ many → AreTurned t many l → AreThere t (all_ready l)
turned_all t many l all turned = by turned.rest turned.is turned.there
  where
    by : (rest : Pairs) → l ≡ turned.woken ++ rest → AreThere t (rest ++ all_ready turned.woken) → AreThere t (all_ready l)
    by [] is there = subst (λ (k : Pairs). AreThere t (all_ready k)) (sym (is ∙ none_more turned.woken)) there
    by (x ∷ rest) is there =
        let whole = ap (λ (k : Pairs). length k) is in
        let more = length-append turned.woken (x ∷ rest) in
        let long = turned.long in
        absurd (omega (arith, whole, more, long, all))

-- ---- the lists

pub none_queued : (l : Pairs) → are_queued (all_ready l) ≡ []
none_queued [] = refl
none_queued (x ∷ l) = none_queued l

pub ready_there : (n : Who) (l : Pairs) → is_there n (all_ready l) ≡ is_there n l
ready_there n [] = refl
ready_there n (x ∷ l) = ap (λ (b : Bool). is_same x.0 n || b) (ready_there n l)

long_ready : (l : Pairs) → length (all_ready l) ≡ length l
long_ready [] = refl
long_ready (x ∷ l) = ap suc (long_ready l)

module _ (t u : Threads) (there : AreThere t (pairs_of t)) (now : AreThere u (all_ready (pairs_of t))) where
  pub woken_queued : (lists_of u).queued ≡ []
  woken_queued = ap are_queued (pairs_are u (all_ready (pairs_of t)) now) ∙ none_queued (pairs_of t)

  pub woken_stands : (n : Who) → stands n (lists_of u) ≡ stands n (lists_of t)
  woken_stands n =
      stands_there n (pairs_of u) ∙ ap (is_there n) (pairs_are u (all_ready (pairs_of t)) now) ∙ ready_there n (pairs_of t)
      ∙ sym (stands_there n (pairs_of t))

  pub woken_spare : u.causes.seats ≡ t.causes.seats → (lists_of u).spare ≡ (lists_of t).spare
  woken_spare seats =
      let long = long_ready (pairs_of t) in
      λ i. seats i - (now.many ∙ long ∙ sym there.many) i
