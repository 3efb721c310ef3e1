-- Finishing: what the end of a stage makes of the registers of its thread.
use Rattle.std.proofs.Common.{◌≡◌, ℕ, ◌+◌, ◌%◌, ◌^◌, Bool, true, false, cond, eqb, ◌||◌, List, [], ◌∷◌, length, Option, Some, None, unwrap_or}
use Rattle.std.proofs.Common.{slice_index, slice_set, refl, sym, ap, subst, ◌∙◌}
use Rattle.std.proofs.lemmas.Option.{same_Some}
use Rattle.fk_model.specs.declared.stage.Stage.{Stage}
use Rattle.fk_model.specs.declared.statuses.status.TheConstants.{OK}
use Rattle.fk_model.specs.declared.thread.Mode as modes_of
use Rattle.fk_model.specs.declared.thread.Mode.TheVariants as modes
use Rattle.fk_model.specs.declared.thread.Thread as threads_of
use Rattle.fk_model.specs.Places.{Path}
use Rattle.fk_model.specs.Calls.{calls, with_answers, words, todo_of, rest_of, code_of}
use Rattle.fk_model.specs.Objects.{Thread, Body}
use Rattle.fk_model.specs.Objects.Mode.{Running, Calling}
use Rattle.fk_model.specs.Objects.Body.{Thread_of}
use Rattle.fk_model.specs.World.{World, edited, at_mode, ended_in, finished_in, apply}
use Rattle.fk_model.specs.World.Edit.{End, Finish}
use Rattle.fk_model.specs.World.Change.{Alter}
use Rattle.fk_model.proofs.calls.CallLaws.{registers}
use Rattle.fk_store.specs.Store.Bodies.{calling_mode, mode_by, thread_by}
use Rattle.fk_store.specs.Store.Threads.{todo_of_mode, todo_at}
use Rattle.fk_store.proofs.InStore.changing.ThreadLaws.{alter-nobody, words-status}
use Rattle.fk_stages.proofs.Codes.{is_among, OfEach, OfOthers, of_registers}
use Rattle.fk_changes.specs.declared.threads.answers.Answers.{Answers}
use Rattle.fk_changes.specs.declared.threads.answers.Answers.TheVariants.{Nothing, One, Two, Three}
use Rattle.fk_changes.specs.Threads.Answers.{listed, code_after, LeaveArguments}
use Rattle.fk_model.specs.Searches.{thread_at}

-- ---- the calls of several stages

several : List ℕ
several = 33 ∷ 34 ∷ 35 ∷ 49 ∷ 53 ∷ 54 ∷ []

no_code_after : (n : ℕ) → is_among several n ≡ false → code_after n ≡ None
unfolding several
no_code_after n = by (eqb n 33) (eqb n 34) (eqb n 35) (eqb n 49) (eqb n 53) (eqb n 54)
  where
    by : (a b c d e f : Bool) → (a || (b || (c || (d || (e || (f || false)))))) ≡ false →
        cond {A = Option ℕ} a (Some 34) (cond b (Some 35) (cond c (Some 36) (cond d (Some 50) (cond e (Some 54) (cond f (Some 50) None))))) ≡ None
    by false false false false false false other = refl
    by true b c d e f other = absurd (cc)
    by false true c d e f other = absurd (cc)
    by false false true d e f other = absurd (cc)
    by false false false true e f other = absurd (cc)
    by false false false false true f other = absurd (cc)
    by false false false false false true other = absurd (cc)

-- such a call goes on, at the stages of this code
GoesOn : Answers → Thread → List ℕ → ℕ → Type 0
GoesOn answers t g code = LeaveArguments answers (unwrap_or (todo_of g) []) →
    finished_in (listed answers) t (calling_mode g) ≡ at_mode t (calling_mode (slice_set (with_answers (listed answers) g) 0 code)) t.counter

Goes : Answers → Thread → List ℕ → Type 0
Goes answers t g = (code : ℕ) → code_after (slice_index g 0) ≡ Some code → GoesOn answers t g code

abbrev EachGoesOn : Answers → Thread → (ℕ → ℕ) → List ℕ → List ℕ → Type 0
EachGoesOn answers t r [] after = Unit {0}
EachGoesOn answers t r (n ∷ ns) [] = Unit {0}
EachGoesOn answers t r (n ∷ ns) (code ∷ codes) = GoesOn answers t (registers n r) code × EachGoesOn answers t r ns codes

each_goes_on : (answers : Answers) (t : Thread) (r : ℕ → ℕ) → EachGoesOn answers t r several (34 ∷ 35 ∷ 36 ∷ 50 ∷ 54 ∷ 50 ∷ [])
unfolding several GoesOn todo_of words rest_of code_of
each_goes_on Nothing t r = ((λ apart. refl), ((λ apart. refl), ((λ apart. refl), ((λ apart. refl), ((λ apart. refl), ((λ apart. refl), tt))))))
each_goes_on (One a) t r = ((λ apart. refl), ((λ apart. refl), ((λ apart. refl), ((λ apart. refl), ((λ apart. refl), ((λ apart. refl), tt))))))
each_goes_on (Two a b) t r = ((λ apart. absurd apart), ((λ apart. refl), ((λ apart. refl), ((λ apart. refl), ((λ apart. refl), ((λ apart. refl), tt))))))
each_goes_on (Three a b c) t r = ((λ apart. absurd apart), ((λ apart. refl), ((λ apart. refl), ((λ apart. refl), ((λ apart. refl), ((λ apart. refl), tt))))))

each_goes : (answers : Answers) (t : Thread) (r : ℕ → ℕ) → OfEach (λ n. Goes answers t (registers n r)) several
unfolding several Goes
each_goes answers t r =
    let each = each_goes_on answers t r in (
      (λ code is. subst (GoesOn answers t (registers 33 r)) (same_Some _ _ is) each.0),
      (
        (λ code is. subst (GoesOn answers t (registers 34 r)) (same_Some _ _ is) each.1.0),
        (
          (λ code is. subst (GoesOn answers t (registers 35 r)) (same_Some _ _ is) each.1.1.0),
          (
            (λ code is. subst (GoesOn answers t (registers 49 r)) (same_Some _ _ is) each.1.1.1.0),
            (
              (λ code is. subst (GoesOn answers t (registers 53 r)) (same_Some _ _ is) each.1.1.1.1.0),
              (
                (λ code is. subst (GoesOn answers t (registers 54 r)) (same_Some _ _ is) each.1.1.1.1.1.0),
                tt,
              ),
            ),
          ),
        ),
      ),
    )

abbrev Anything : List ℕ → List Stage → Type 0
Anything g todo = Unit {0}

each_anything : OfOthers several Anything calls
unfolding several
each_anything = assumption

goes_on : (answers : Answers) (t : Thread) (g : List ℕ) → length g ≡ 16 → Goes answers t g
unfolding Goes
goes_on answers t = of_registers several (Goes answers t) Anything (each_goes answers t) each_anything (λ g. tt) other
  where
    other : (n : ℕ) (r : ℕ → ℕ) → is_among several n ≡ false → Unit {0} → Goes answers t (registers n r)
    other n r out nothing = λ code is. let none = no_code_after n out in absurd (cc)

-- ---- the calls that end

is_lone : List Stage → Bool
is_lone [] = true
is_lone (stage ∷ []) = true
is_lone (stage ∷ second ∷ todo) = false

Ends : List ℕ → Type 0
Ends g = code_after (slice_index g 0) ≡ None → is_lone (unwrap_or (todo_of g) []) ≡ true

each_ends : (r : ℕ → ℕ) → OfEach (λ n. Ends (registers n r)) several
unfolding several Ends
each_ends r =
    ((λ none. absurd (cc)), ((λ none. absurd (cc)), ((λ none. absurd (cc)), ((λ none. absurd (cc)), ((λ none. absurd (cc)), ((λ none. absurd (cc)), tt))))))

each_lone : OfOthers several (λ g todo. is_lone todo ≡ true) calls
unfolding several is_lone
each_lone = assumption

ends : (g : List ℕ) → length g ≡ 16 → Ends g
unfolding Ends is_lone
ends = of_registers several Ends (λ g todo. is_lone todo ≡ true) each_ends each_lone (λ g. refl) (λ n r other lone none. lone)

ends_lone : (answers : List ℕ) (t : Thread) (todo : List Stage) (rest : List ℕ) →
    is_lone todo ≡ true → ended_in OK answers t (Calling todo rest) ≡ finished_in answers t (Calling todo rest)
unfolding is_lone
ends_lone answers t [] rest lone = refl
ends_lone answers t (stage ∷ []) rest lone = refl
ends_lone answers t (stage ∷ second ∷ todo) rest lone = absurd (cc)

-- ---- of a thread

pub finish_on : (p : ℕ → Path) (t : threads_of.Thread) (answers : Answers) (code : ℕ) → length t.regs ≡ 16 →
    t.mode ≡ modes.Calling → Some code ≡ code_after (slice_index t.regs 0) → LeaveArguments answers (todo_of_mode (mode_by t.mode t.regs)) →
    edited (Finish (listed answers))
    (Thread_of (thread_by p t)) ≡ Thread_of (thread_by p (record t { regs = slice_set (with_answers (listed answers) t.regs) 0 code }))
unfolding edited Goes GoesOn
finish_on p t answers code long is after apart = rw is (ap Thread_of (goes_on answers (thread_by p t) t.regs long code (sym after) (rw is at apart)))

pub end_well : (p : ℕ → Path) (t : threads_of.Thread) (answers : List ℕ) → length t.regs ≡ 16 → t.mode ≡ modes.Calling →
    edited (End OK answers) (Thread_of (thread_by p t)) ≡ Thread_of
    (thread_by p (record t { regs = with_answers answers (slice_set t.regs 0 OK); pc = (t.pc + 1) % 2 ^ 64; mode = modes.Running }))
unfolding edited
end_well p t answers long is = rw is
    (ap (λ g. Thread_of (record (thread_by p t) { mode = Running (with_answers answers g); counter = (t.pc + 1) % 2 ^ 64 })) (words-status t.regs OK long))

pub finish_ends : (p : ℕ → Path) (t : threads_of.Thread) (answers : List ℕ) (b : Body) →
    length t.regs ≡ 16 → t.mode ≡ modes.Calling → None ≡ code_after (slice_index t.regs 0) → edited (End OK answers) (Thread_of (thread_by p t)) ≡ b →
    edited (Finish answers) (Thread_of (thread_by p t)) ≡ b
unfolding edited Ends
finish_ends p t answers b long is none end = by t.mode is end
  where
    by : (m : modes_of.Mode) → m ≡ modes.Calling → Thread_of (ended_in OK answers (record (thread_by p t) { mode = mode_by m t.regs }) (mode_by m t.regs)) ≡ b →
        Thread_of (finished_in answers (record (thread_by p t) { mode = mode_by m t.regs }) (mode_by m t.regs)) ≡ b
    by modes.Running is end = end
    by modes.Calling is end = ap Thread_of (sym (ends_lone answers (record (thread_by p t) { mode = calling_mode t.regs })
        (unwrap_or (todo_of t.regs) []) (rest_of (unwrap_or (todo_of t.regs) []) t.regs) (ends t.regs long (sym none)))) ∙ end
    by (modes.Halted code) is end = end
    by modes.Native is end = end

pub finish_not : (p : ℕ → Path) (t : threads_of.Thread) (answers : List ℕ) →
    (t.mode ≡ modes.Calling → ⊥) → edited (Finish answers) (Thread_of (thread_by p t)) ≡ Thread_of (thread_by p t)
unfolding edited
finish_not p t answers other = by t.mode refl
  where
    by : (m : modes_of.Mode) → t.mode ≡ m → edited (Finish answers)
        (Thread_of (record (thread_by p t) { mode = mode_by m t.regs })) ≡ Thread_of (record (thread_by p t) { mode = mode_by m t.regs })
    by modes.Running is = refl
    by modes.Calling is = absurd (other is)
    by (modes.Halted code) is = refl
    by modes.Native is = refl

pub end_not : (p : ℕ → Path) (t : threads_of.Thread) (answers : List ℕ) →
    (t.mode ≡ modes.Calling → ⊥) → edited (End OK answers) (Thread_of (thread_by p t)) ≡ Thread_of (thread_by p t)
unfolding edited
end_not p t answers other = by t.mode refl
  where
    by : (m : modes_of.Mode) → t.mode ≡ m → edited (End OK answers)
        (Thread_of (record (thread_by p t) { mode = mode_by m t.regs })) ≡ Thread_of (record (thread_by p t) { mode = mode_by m t.regs })
    by modes.Running is = refl
    by modes.Calling is = absurd (other is)
    by (modes.Halted code) is = refl
    by modes.Native is = refl

pub well_nobody : (w : World) (x : Path) (answers : List ℕ) → thread_at w x ≡ None → w ≡ apply (Alter x (End OK answers)) w
unfolding edited
well_nobody w x answers none = alter-nobody w x (End OK answers) _ (λ b. refl) none

pub finish_nobody : (w : World) (x : Path) (answers : List ℕ) → thread_at w x ≡ None → w ≡ apply (Alter x (Finish answers)) w
unfolding edited
finish_nobody w x answers none = alter-nobody w x (Finish answers) _ (λ b. refl) none

pub apart_there : (w : World) (x : Path) (p : ℕ → Path) (t : threads_of.Thread) (answers : Answers) →
    Some (thread_by p t) ≡ thread_at w x → LeaveArguments answers (todo_at w x) → LeaveArguments answers (todo_of_mode (mode_by t.mode t.regs))
unfolding todo_at
apart_there w x p t answers there apart = rw (← there) at apart
