-- Codes: what holds of all registers, by the code of the call that they name: shown for a few codes, and for all others.
use Rattle.std.proofs.Common.{◌≡◌, ℕ, Bool, true, false, cond, eqb, ◌||◌, List, [], ◌∷◌, length, get_or, Some, unwrap_or, refl, sym, ap, subst, ◌∙◌}
use Rattle.std.specs.List.{list_any}
use Rattle.std.proofs.lemmas.Bool.{eqb-true}
use Rattle.fk_model.specs.declared.stage.Stage.{Stage}
use Rattle.fk_model.specs.Calls.{Call, calls, named_by, todo_of}
use Rattle.fk_model.proofs.calls.CallLaws.{registers, sixteen}

abbrev pub is_among : List ℕ → ℕ → Bool
is_among codes n = list_any (eqb n) codes

abbrev pub OfEach : (ℕ → Type 0) → List ℕ → Type 0
OfEach P [] = Unit {0}
OfEach P (code ∷ codes) = P code × OfEach P codes

-- a number is one of a few codes, or none of them
by_codes : (P : ℕ → Type 0) (n : ℕ) (few : List ℕ) → OfEach P few → (is_among few n ≡ false → P n) → P n
by_codes P n [] each other = other refl
by_codes P n (code ∷ codes) each other = by (eqb n code) refl (by_codes P n codes each.1)
  where
    by : (b : Bool) → eqb n code ≡ b → ((is_among codes n ≡ false → P n) → P n) → P n
    by true is later = subst P (sym (eqb-true _ _ is)) each.0
    by false is later = later (λ none. other (ap (λ b. b || is_among codes n) is ∙ none))

-- the fact Q for all calls but a few
abbrev pub OfOthers : List ℕ → (List ℕ → List Stage → Type 0) → List Call → Type 0
OfOthers few Q [] = Unit {0}
OfOthers few Q (c ∷ cs) = cond (is_among few c.code) (Unit {0}) ((r : ℕ → ℕ) → Q (registers c.code r) (c.todo (registers c.code r))) × OfOthers few Q cs

-- holds of the stages that other registers name, and of none
others : (few : List ℕ) (Q : List ℕ → List Stage → Type 0) → ((g : List ℕ) → Q g []) →
    (cs : List Call) → OfOthers few Q cs → (n : ℕ) (r : ℕ → ℕ) → is_among few n ≡ false → Q (registers n r) (unwrap_or (named_by cs n (registers n r)) [])
others few Q none [] each n r other = none _
others few Q none (c ∷ cs) each n r other = by (eqb n c.code) refl (others few Q none cs each.1 n r other)
  where
    g : List ℕ
    g = registers n r

    at : (b : Bool) → b ≡ false →
        cond b (Unit {0}) ((r : ℕ → ℕ) → Q (registers c.code r) (c.todo (registers c.code r))) → Q (registers c.code r) (c.todo (registers c.code r))
    at true off h = absurd (cc)
    at false off h = h r

    here : n ≡ c.code → Q g (c.todo g)
    here same = subst (λ m. Q (registers m r) (c.todo (registers m r))) (sym same) (at (is_among few c.code) (ap (is_among few) (sym same) ∙ other) each.0)

    by : (b : Bool) → eqb n c.code ≡ b → Q g (unwrap_or (named_by cs n g) []) → Q g (unwrap_or (cond b (Some (c.todo g)) (named_by cs n g)) [])
    by true is later = here (eqb-true _ _ is)
    by false is later = later

-- the fact P of registers follows from these
pub of_registers : (few : List ℕ) (P : List ℕ → Type 0) (Q : List ℕ → List Stage → Type 0) →
    ((r : ℕ → ℕ) → OfEach (λ n. P (registers n r)) few) → OfOthers few Q calls → ((g : List ℕ) → Q g []) →
    ((n : ℕ) (r : ℕ → ℕ) → is_among few n ≡ false → Q (registers n r) (unwrap_or (todo_of (registers n r)) []) → P (registers n r)) →
    (g : List ℕ) → length g ≡ 16 → P g
unfolding todo_of
of_registers few P Q each each_other none from g long = subst P (sixteen g long) (at (get_or g 0 0) (λ i. get_or g i 0))
  where
    at : (n : ℕ) (r : ℕ → ℕ) → P (registers n r)
    at n r = by_codes (λ m. P (registers m r)) n few (each r) (λ other. from n r other (others few Q none calls each_other n r other))
