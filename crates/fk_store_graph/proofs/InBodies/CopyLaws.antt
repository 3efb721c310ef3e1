-- CopyLaws: what rows have under a name, where a page was taken out of them.
use Rattle.std.proofs.Common.{◌≡◌, ℕ, Bool, true, false, cond, ◌==◌, ◌&&◌, List, [], Option, Some, None, IsSome, unwrap_or, refl, sym, ap, ◌∙◌, arith}
use Rattle.std.proofs.lemmas.Bool.Decides.{nat_tests}
use Rattle.fk_store_graph.specs.Linked.Cells.{cell}

-- the page that is there still, or the taken one, is what was there before
pub words_left : (rows left : List (List (Option (List ℕ)))) (s k n g : ℕ) (words : List ℕ) → Some words ≡ cell rows s k →
    ((a b : ℕ) → cell left a b ≡ cond (a == s && b == k) None (cell rows a b)) → IsSome (cell rows n g) →
    unwrap_or (cell left n g) words ≡ unwrap_or (cell rows n g) []
words_left rows left s k n g words taken leaves some =
    ap (λ (o : Option (List ℕ)). unwrap_or o words) (leaves n g) ∙ by (n == s) refl (g == k) refl
  where
    there : (o : Option (List ℕ)) → IsSome o → unwrap_or o words ≡ unwrap_or o []
    there None h = absurd (cc)
    there (Some w) h = refl

    by : (b : Bool) → (n == s) ≡ b → (c : Bool) → (g == k) ≡ c → unwrap_or (cond (b && c) None (cell rows n g)) words ≡ unwrap_or (cell rows n g) []
    by false e c f = there (cell rows n g) some
    by true e false f = there (cell rows n g) some
    by true e true f =
        let a : n ≡ s = grind (arith, nat_tests) in
        let b : g ≡ k = grind (arith, nat_tests) in
        sym (ap (λ (o : Option (List ℕ)). unwrap_or o []) (ap (λ n. cell rows n g) a ∙ ap (cell rows s) b ∙ sym taken))
