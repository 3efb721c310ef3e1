-- Outcomes that touch pointers once: how a row's parts make one.
use Rattle.std.proofs.Common.{◌≡◌, ℕ, Bool, true, false, if◌then◌else◌, List, [], ◌∷◌, ◌++◌, Option, Some, None, Result, Ok, Err, refl}
use Rattle.fk_model.specs.Places.{Path, Ptr}
use Rattle.fk_model.specs.World.{World, Change}
use Rattle.fk_model.specs.Reach.{Reach, reach_word}
use Rattle.fk_model.specs.Reach.Reach.{Home, Missing, Bad}
use Rattle.fk_model.specs.Outcomes.{Said, Outcome, ◌>>=◌, refuse, or_refuse, when, Caller, path_of, done_at, done, ended, stays, telling}
use Rattle.fk_model.specs.Outcomes.Said.{Nothing}
use Rattle.fk_model.specs.Outcomes.Outcome.{Refused, Waits, Goes}
use Rattle.fk_model.specs.Readers.{missed, accessed, own_page_at, own_page, their_page_at, their_page}
use Rattle.fk_model.specs.LinkRows.{end_all}
use Rattle.laws_moves.specs.Frozen.Once.{is_mild, AreMild, IsFaultless, MakesAnew, EitherOf, TouchOnce}

abbrev pub OnceIn : World → Outcome → Type 0
OnceIn w (Refused status) = Unit {0}
OnceIn w Waits = Unit {0}
OnceIn w (Goes changes said) = TouchOnce w changes

-- (a record, so that the world and the outcome are read off a goal)
pub record OnceOutcome (w : World) (o : Outcome) : Type 0 where
  pub once : OnceIn w o

pub refused : {w : World} {status : ℕ} → OnceOutcome w (Refused status)
refused = record { once = tt }

pub waits : {w : World} → OnceOutcome w Waits
waits = record { once = tt }

pub goes : {w : World} {cs : List Change} {said : Said} → TouchOnce w cs → OnceOutcome w (Goes cs said)
goes once = record { once = once }

-- ---- lists

pub mild-then : (cs ds : List Change) → AreMild cs → AreMild ds → AreMild (cs ++ ds)
mild-then [] ds mild after = after
mild-then (c ∷ cs) ds mild after = (mild.0, mild-then cs ds mild.1 after)

pub mild-end_all : (ends : List Path) → AreMild (end_all ends)
mild-end_all [] = tt
mild-end_all (x ∷ ends) = (refl, mild-end_all ends)

pub mild-once : (w : World) (cs : List Change) → AreMild cs → TouchOnce w cs
mild-once w [] mild = tt
mild-once w (c ∷ cs) mild = rw mild.0 (mild-once w cs mild.1)

pub once-then : (w : World) (cs ds : List Change) → TouchOnce w cs → AreMild ds → TouchOnce w (cs ++ ds)
once-then w [] ds once mild = mild-once w ds mild
once-then w (c ∷ cs) ds once mild = by (is_mild c) once (λ rest. once-then w cs ds rest mild)
  where
    by : (t : Bool) → EitherOf t (TouchOnce w cs) (MakesAnew w c × AreMild cs) → (TouchOnce w cs → TouchOnce w (cs ++ ds)) →
        EitherOf t (TouchOnce w (cs ++ ds)) (MakesAnew w c × AreMild (cs ++ ds))
    by true once rest = rest once
    by false once rest = (once.0, mild-then cs ds once.1 mild)

pub then-once : (w : World) (cs ds : List Change) → AreMild cs → TouchOnce w ds → TouchOnce w (cs ++ ds)
then-once w [] ds mild once = once
then-once w (c ∷ cs) ds mild once = rw mild.0 (then-once w cs ds mild.1 once)

-- ---- checks

pub once->>= : {A : Type 0} (w : World) (r : Result A ℕ) (go : A → Outcome) → ((a : A) → r ≡ Ok a → OnceOutcome w (go a)) → OnceOutcome w (r >>= go)
once->>= w (Ok a) go once = once a refl
once->>= w (Err status) go once = refused

pub once-refuse : (w : World) (status : ℕ) (test : Bool) (go : Unit {0} → Outcome) →
    (test ≡ false → OnceOutcome w (go tt)) → OnceOutcome w (refuse status test >>= go)
once-refuse w status true go once = refused
once-refuse w status false go once = once refl

pub once-or_refuse : {A : Type 0} (w : World) (status : ℕ) (o : Option A) (go : A → Outcome) →
    ((a : A) → o ≡ Some a → OnceOutcome w (go a)) → OnceOutcome w (or_refuse status o >>= go)
once-or_refuse w status (Some a) go once = once a refl
once-or_refuse w status None go once = refused

pub once-when : (w : World) (test : Bool) (o : Outcome) → (test ≡ true → OnceOutcome w o) → OnceOutcome w (when test o)
once-when w true o once = once refl
once-when w false o once = waits

pub once-if : (w : World) (t : Bool) (a b : Outcome) → OnceOutcome w a → OnceOutcome w b → OnceOutcome w (if t then a else b)
once-if w true a b first second = first
once-if w false a b first second = second

-- ---- ends of a stage

pub once-done_at : (w : World) (me : Path) (c : Caller) (cs : List Change) (answers : List ℕ) → TouchOnce w cs → OnceOutcome w (done_at me c cs answers)
once-done_at w me c cs answers once = by c.is_porter
  where
    by : (porter : Bool) → OnceOutcome w (done_at me (record c { is_porter = porter }) cs answers)
    by true = goes once
    by false = goes (once-then w cs _ once (refl, tt))

pub once-done : (w : World) (c : Caller) (cs : List Change) (answers : List ℕ) → TouchOnce w cs → OnceOutcome w (done c cs answers)
once-done w c cs answers once = once-done_at w _ c cs answers once

pub once-ended : (w : World) (c : Caller) (cs : List Change) (answers : List ℕ) → TouchOnce w cs → OnceOutcome w (ended c cs answers)
once-ended w c cs answers once = by c.is_porter
  where
    by : (porter : Bool) → OnceOutcome w (ended (record c { is_porter = porter }) cs answers)
    by true = goes once
    by false = goes (once-then w cs _ once (refl, tt))

pub once-stays : (w : World) (c : Caller) (cs : List Change) → TouchOnce w cs → OnceOutcome w (stays c cs)
once-stays w c cs once = goes once

pub once-telling : (w : World) (said : Said) (o : Outcome) → OnceOutcome w o → OnceOutcome w (telling said o)
once-telling w said (Goes cs Nothing) once = goes once.once
once-telling w said o once = once

-- a row is a walk through its checks
pub ruleset once_row = (once->>=, once-refuse, once-or_refuse, once-when, waits, refused)

-- ---- memory

missed-once : (w : World) (otherwise : Outcome) (me : Path) (page : ℕ) (write : Bool) (keeper : Option Ptr) →
    IsFaultless w me → OnceOutcome w otherwise → OnceOutcome w (missed otherwise me page write keeper)
missed-once w otherwise me page write None clean once = once
missed-once w otherwise me page write (Some keeper) clean once = goes ((clean, refl), tt)

pub accessed-once : (w : World) (me : Path) (write : Bool) (halts : ℕ → Outcome) (go : Path → ℕ → Outcome) (r : Reach) → IsFaultless w me →
    ((code : ℕ) → OnceOutcome w (halts code)) → ((s : Path) (page : ℕ) → OnceOutcome w (go s page)) → OnceOutcome w (accessed me write halts go r)
accessed-once w me write halts go (Home s page) clean halting going = going s page
accessed-once w me write halts go (Missing s page keeper) clean halting going = missed-once w _ me page write keeper clean (halting _)
accessed-once w me write halts go Bad clean halting going = halting _

own_page_at-once : (w : World) (me : Path) (write : Bool) (go : Path → ℕ → Outcome) (r : Reach) → IsFaultless w me →
    ((s : Path) (page : ℕ) → OnceOutcome w (go s page)) → OnceOutcome w (own_page_at me write go r)
own_page_at-once w me write go (Home s page) clean going = going s page
own_page_at-once w me write go (Missing s page keeper) clean going = missed-once w _ me page write keeper clean refused
own_page_at-once w me write go Bad clean going = refused

pub own_page-once : (w : World) (c : Caller) (address : ℕ) (write : Bool) (go : Path → ℕ → Outcome) → IsFaultless w (path_of c) →
    ((s : Path) (page : ℕ) → OnceOutcome w (go s page)) → OnceOutcome w (own_page w c address write go)
own_page-once w c address write go clean going = own_page_at-once w _ write go (reach_word w c.space address write) clean going

their_page_at-once : (w : World) (go : Path → ℕ → Outcome) (r : Reach) → ((s : Path) (page : ℕ) → OnceOutcome w (go s page)) →
    OnceOutcome w (their_page_at go r)
their_page_at-once w go (Home s page) going = going s page
their_page_at-once w go (Missing s page keeper) going = waits
their_page_at-once w go Bad going = waits

pub their_page-once : (w : World) (space : Path) (address : ℕ) (go : Path → ℕ → Outcome) →
    ((s : Path) (page : ℕ) → OnceOutcome w (go s page)) → OnceOutcome w (their_page w space address go)
their_page-once w space address go going = their_page_at-once w go (reach_word w space address true) going
