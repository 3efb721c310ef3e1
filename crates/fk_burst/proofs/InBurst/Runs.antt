-- Runs: how instructions go on and end.
use Rattle.std.proofs.Common.{◌≡◌, ℕ, zero, suc, ◌+◌, Option, Some, None, refl, sym, ap, ◌∙◌, arith}
use Rattle.fk_model.specs.Objects.{and_then}
use Rattle.laws_bursts.specs.Bursts.{Burst, instructed, made, going_on, run, counted, count}

-- n instructions are one and then k
pub run_more : (n k : ℕ) (b c : Burst) → n ≡ suc k → instructed b ≡ Some c → run k c ≡ run n b
unfolding run
run_more n k b c h e = sym (ap (λ m. run m b) h ∙ ap (going_on (run k) b) e)

pub run_ended : (n : ℕ) (b : Burst) → instructed b ≡ None → b ≡ run n b
unfolding run
run_ended zero b e = refl
run_ended (suc n) b e = sym (ap (going_on (run n) b) e)

pub run_none : (n : ℕ) (b : Burst) → n ≡ 0 → run n b ≡ b
unfolding run
run_none n b h = ap (λ m. run m b) h

pub count_more : (n k : ℕ) (b c : Burst) → n ≡ suc k → instructed b ≡ Some c → 1 + count k c ≡ count n b
unfolding count
count_more n k b c h e = sym (ap (λ m. count m b) h ∙ ap (counted (count k)) e)

pub count_ended : (n : ℕ) (b : Burst) → instructed b ≡ None → count n b ≡ 0
unfolding count
count_ended zero b e = refl
count_ended (suc n) b e = ap (counted (count n)) e

pub count_none : (n : ℕ) (b : Burst) → n ≡ 0 → count n b ≡ 0
unfolding count
count_none n b h = ap (λ m. count m b) h

-- exactly so many, and one more
pub made_none : (b : Burst) → made 0 b ≡ Some b
unfolding made
made_none b = refl

pub made_more : (n : ℕ) (b c d : Burst) → made n b ≡ Some c → instructed c ≡ Some d → made (n + 1) b ≡ Some d
unfolding made
made_more n b c d so_far next =
    let more : n + 1 ≡ suc n = omega arith in
    ap (λ m. made m b) more ∙ ap (and_then instructed) so_far ∙ next

-- and as many more as follow
pub made_all : (n m : ℕ) (a b c : Burst) → made n a ≡ Some b → made m b ≡ Some c → made (n + m) a ≡ Some c
unfolding made
made_all n zero a b c first rest =
    let none : n + 0 ≡ n = omega arith in
    ap (λ k. made k a) none ∙ first ∙ rest
made_all n (suc m) a b c first rest = by (made m b) refl rest (λ d so_far. made_all n m a b d first so_far)
  where
    by : (o : Option Burst) → made m b ≡ o → and_then instructed o ≡ Some c → ((d : Burst) → made m b ≡ Some d → made (n + m) a ≡ Some d) →
        made (n + suc m) a ≡ Some c
    by None is rest all = absurd (cc)
    by (Some d) is rest all =
        let more : n + suc m ≡ suc (n + m) = omega arith in
        ap (λ k. made k a) more ∙ ap (and_then instructed) (all d is) ∙ rest
