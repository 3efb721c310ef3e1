-- CallCodes: whether registers name a call hangs on the first of them alone.
use Rattle.std.proofs.Common.{◌≡◌, ℕ, ◌+◌, ◌||◌, Bool, true, false, cond, eqb, List, [], ◌∷◌, length, get_or, Option, Some, None, is_some}
use Rattle.std.proofs.Common.{slice_index, slice_set, refl, sym, ap, subst, ◌∙◌}
use Rattle.std.proofs.lemmas.Option.{same_Some}
use Rattle.fk_model.specs.declared.thread.Mode.{Mode}
use Rattle.fk_model.specs.declared.thread.Mode.TheVariants as modes
use Rattle.fk_model.specs.Calls.{Call, calls, named_by, todo_of}
use Rattle.fk_model.proofs.calls.CallLaws.{registers, sixteen}
use Rattle.fk_store.specs.Store.WellFormed.{HasCall}
use Rattle.fk_changes.specs.Threads.Answers.{code_after}
use Rattle.fk_changes.specs.Threads.Shifted.{advanced, shifted_registers}
use Rattle.fk_changes.specs.Threads.Sleepers.{fallen}

abbrev is_code_in : List Call → ℕ → Bool
is_code_in [] n = false
is_code_in (c ∷ cs) n = cond (eqb n c.code) true (is_code_in cs n)

-- it is the code of a call
is_code : ℕ → Bool
is_code n = is_code_in calls n

named-code : (cs : List Call) (n : ℕ) (g : List ℕ) → is_some (named_by cs n g) ≡ is_code_in cs n
named-code [] n g = refl
named-code (c ∷ cs) n g = by (eqb n c.code) (named-code cs n g)
  where
    by : (b : Bool) → is_some (named_by cs n g) ≡ is_code_in cs n → is_some (cond b (Some (c.todo g)) (named_by cs n g)) ≡ cond b true (is_code_in cs n)
    by true later = refl
    by false later = later

code-named : (g : List ℕ) → is_some (todo_of g) ≡ is_code (slice_index g 0)
unfolding todo_of is_code
code-named g = named-code calls (slice_index g 0) g

-- registers that begin alike name a call, or none, alike
same_code : (g h : List ℕ) → slice_index h 0 ≡ slice_index g 0 → is_some (todo_of g) ≡ true → is_some (todo_of h) ≡ true
same_code g h same some = code-named h ∙ ap is_code same ∙ sym (code-named g) ∙ some

code_there : (g : List ℕ) (n : ℕ) → slice_index g 0 ≡ n → is_code n ≡ true → is_some (todo_of g) ≡ true
code_there g n is code = code-named g ∙ ap is_code is ∙ code

-- in any mode
pub with_code : (mode : Mode) (g : List ℕ) → is_some (todo_of g) ≡ true → HasCall mode g
with_code modes.Running g some = tt
with_code modes.Calling g some = some
with_code (modes.Halted code) g some = tt
with_code modes.Native g some = tt

-- ---- a first register that is set

begins : (g : List ℕ) (code : ℕ) → length g ≡ 16 → slice_index (slice_set g 0 code) 0 ≡ code
begins g code long = subst (λ g. slice_index (slice_set g 0 code) 0 ≡ code) (sixteen g long) refl

set-code : (g : List ℕ) (code : ℕ) → length g ≡ 16 → is_code code ≡ true → is_some (todo_of (slice_set g 0 code)) ≡ true
set-code g code long is = code_there (slice_set g 0 code) code (begins g code long) is

locks : is_code 21 ≡ true
unfolding is_code
locks = refl

-- who is awake locks a mutex
pub awake-code : (g : List ℕ) (mutex : ℕ) → length g ≡ 16 → is_some (todo_of (slice_set (slice_set g 0 21) 1 mutex)) ≡ true
awake-code g mutex long = code_there (slice_set (slice_set g 0 21) 1 mutex) 21
    (subst (λ g. slice_index (slice_set (slice_set g 0 21) 1 mutex) 0 ≡ 21) (sixteen g long) refl) locks

sleeps : is_code 25 ≡ true
unfolding is_code
sleeps = refl

-- the later stages of a call are a call's
after-code : (n code : ℕ) → Some code ≡ code_after n → is_code code ≡ true
unfolding is_code
after-code n code = by (eqb n 33) (eqb n 34) (eqb n 35) (eqb n 49) (eqb n 53) (eqb n 54)
  where
    of : (k : ℕ) → is_code k ≡ true → Some code ≡ Some k → is_code code ≡ true
    of k is same = ap is_code (same_Some _ _ same) ∙ is

    by : (a b c d e f : Bool) →
        Some code ≡ cond {A = Option ℕ} a (Some 34) (cond b (Some 35) (cond c (Some 36) (cond d (Some 50) (cond e (Some 54) (cond f (Some 50) None))))) →
        is_code code ≡ true
    by true b c d e f = of 34 refl
    by false true c d e f = of 35 refl
    by false false true d e f = of 36 refl
    by false false false true e f = of 50 refl
    by false false false false true f = of 54 refl
    by false false false false false true = of 50 refl
    by false false false false false false = λ is. absurd (cc)

pub next-code : (g : List ℕ) (n code : ℕ) → length g ≡ 16 → Some code ≡ code_after n → is_some (todo_of (slice_set g 0 code)) ≡ true
next-code g n code long after = set-code g code long (after-code n code after)

-- who falls asleep is in a call still
pub fallen-code : (g : List ℕ) → length g ≡ 16 → is_some (todo_of g) ≡ true → is_some (todo_of (fallen g)) ≡ true
fallen-code g long some = by (eqb (slice_index g 0) 24)
  where
    by : (b : Bool) → is_some (todo_of (cond b (slice_set g 0 25) g)) ≡ true
    by true = set-code g 25 long sleeps
    by false = some

-- words that are moved leave the first register
shifted-first : (k : ℕ) (g : List ℕ) → length g ≡ 16 → slice_index (shifted_registers k g) 0 ≡ slice_index g 0
shifted-first k g long = subst (λ g. slice_index (shifted_registers k g) 0 ≡ slice_index g 0) (sixteen g long) (on (get_or g 0 0) (λ i. get_or g i 0))
  where
    on : (n : ℕ) (r : ℕ → ℕ) → slice_index (shifted_registers k (registers n r)) 0 ≡ n
    on n r = by (((eqb n 34 || eqb n 37) || eqb n 51) || eqb n 53) (((eqb n 36 || eqb n 50) || eqb n 41) || eqb n 58)
      where
        by : (a b : Bool) → slice_index (advanced k (cond {A = Option ℕ} a (Some 2) (cond b (Some 4) None)) (registers n r)) 0 ≡ n
        by true b = refl
        by false true = refl
        by false false = refl

pub shifted-code : (k : ℕ) (g : List ℕ) → length g ≡ 16 → is_some (todo_of g) ≡ true → is_some (todo_of (shifted_registers k g)) ≡ true
shifted-code k g long some = same_code g (shifted_registers k g) (shifted-first k g long) some
