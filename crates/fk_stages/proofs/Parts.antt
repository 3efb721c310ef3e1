-- Arguments written stage by stage are those written all at once.
use Rattle.std.proofs.Common.{◌≡◌, ℕ, List, [], ◌∷◌, ◌++◌, refl, sym, ◌∙◌, slice_set}
use Rattle.fk_model.specs.declared.stage.Stage.{Stage}
use Rattle.fk_model.specs.Calls.{words, code_of, arguments, with_values}

with_values-append : (xs ys : List (ℕ × ℕ)) (g : List ℕ) → with_values (xs ++ ys) g ≡ with_values ys (with_values xs g)
with_values-append [] ys g = refl
with_values-append (x ∷ xs) ys g = with_values-append xs ys (slice_set g x.0 x.1)

last : (a : Stage) (g : List ℕ) → with_values (arguments a ++ []) g ≡ with_values (arguments a) g
last a g = with_values-append (arguments a) [] g

pub words_one : (a : Stage) (rest : List ℕ) → with_values (arguments a) (slice_set rest 0 (code_of (a ∷ []))) ≡ words (a ∷ []) rest
unfolding words
words_one a rest = sym (last a (slice_set rest 0 (code_of (a ∷ []))))

pub words_two : (a b : Stage) (rest : List ℕ) →
    with_values (arguments b) (with_values (arguments a) (slice_set rest 0 (code_of (a ∷ b ∷ [])))) ≡ words (a ∷ b ∷ []) rest
unfolding words
words_two a b rest =
    let g = slice_set rest 0 (code_of (a ∷ b ∷ [])) in
    sym (with_values-append (arguments a) (arguments b ++ []) g ∙ last b (with_values (arguments a) g))

pub words_three : (a b c : Stage) (rest : List ℕ) → with_values (arguments c)
    (with_values (arguments b) (with_values (arguments a) (slice_set rest 0 (code_of (a ∷ b ∷ c ∷ []))))) ≡ words (a ∷ b ∷ c ∷ []) rest
unfolding words
words_three a b c rest =
    let g = slice_set rest 0 (code_of (a ∷ b ∷ c ∷ [])) in
    sym (with_values-append (arguments a) (arguments b ++ (arguments c ++ [])) g
    ∙ with_values-append (arguments b) (arguments c ++ []) (with_values (arguments a) g) ∙ last c (with_values (arguments b) (with_values (arguments a) g)))

pub words_four : (a b c d : Stage) (rest : List ℕ) → with_values (arguments d) (with_values (arguments c)
    (with_values (arguments b) (with_values (arguments a) (slice_set rest 0 (code_of (a ∷ b ∷ c ∷ d ∷ [])))))) ≡ words (a ∷ b ∷ c ∷ d ∷ []) rest
unfolding words
words_four a b c d rest =
    let g = slice_set rest 0 (code_of (a ∷ b ∷ c ∷ d ∷ [])) in
    let second = with_values (arguments a) g in
    let third = with_values (arguments b) second in
    sym (with_values-append (arguments a) (arguments b ++ (arguments c ++ (arguments d ++ []))) g ∙ with_values-append (arguments b)
    (arguments c ++ (arguments d ++ [])) second ∙ with_values-append (arguments c) (arguments d ++ []) third ∙ last d (with_values (arguments c) third))
