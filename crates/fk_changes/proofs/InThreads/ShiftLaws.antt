-- Shifts: a moved block in registers, and the Receive that they name.
use Rattle.std.proofs.Common.{◌≡◌, ℕ, ◌+◌, ◌<◌, ◌^◌, Bool, true, false, cond, eqb, ◌||◌, List, [], ◌∷◌, length, Option, Some, None, unwrap_or}
use Rattle.std.proofs.Common.{slice_index, refl, sym, ap, subst, ◌∙◌}
use Rattle.std.proofs.lemmas.Bool.{eqb-true}
use Rattle.fk_model.specs.declared.stage.Stage.{Stage}
use Rattle.fk_model.specs.declared.thread.Mode as modes_of
use Rattle.fk_model.specs.declared.thread.Mode.TheVariants as modes
use Rattle.fk_model.specs.declared.thread.Thread as threads_of
use Rattle.fk_model.specs.declared.thread.Turn.{Turn}
use Rattle.fk_model.specs.declared.thread.Turn.TheVariants as turns
use Rattle.fk_model.specs.Places.{Path}
use Rattle.fk_model.specs.Calls.{calls, code_of, todo_of, rest_of}
use Rattle.fk_model.specs.Objects.Body.{Thread_of}
use Rattle.fk_model.specs.Objects.Mode.{Calling}
use Rattle.fk_model.specs.Objects.{Mode, and_then}
use Rattle.fk_model.specs.Talks.{first_stage, receive_on, awaited}
use Rattle.fk_model.specs.World.{World, edited, apply, shifted_in}
use Rattle.fk_model.specs.World.Change.{Alter}
use Rattle.fk_model.specs.World.Edit.{Shift}
use Rattle.fk_model.proofs.calls.CallLaws.{registers}
use Rattle.fk_stages.proofs.Codes.{is_among, OfEach, OfOthers, of_registers}
use Rattle.fk_store.specs.Store.Bodies.{calling_mode, mode_by, thread_by}
use Rattle.fk_store.specs.Store.Threads.{todo_of_mode, todo_at}
use Rattle.fk_changes.specs.Threads.Shifted.{moving, advanced, shifted_registers, receive_code, receive_ref_code, is_receive, receive_in, awaited_in, address_of, address_in, IsLow}
use Rattle.fk_store.proofs.InStore.changing.ThreadLaws.{alter-nobody}
use Rattle.fk_model.specs.Searches.{thread_at}

-- ---- the calls whose first stage moves words

senders_and_receivers : List ℕ
senders_and_receivers = 34 ∷ 37 ∷ 51 ∷ 53 ∷ 36 ∷ 50 ∷ 41 ∷ 58 ∷ []

not_moving : (n : ℕ) → is_among senders_and_receivers n ≡ false → moving n ≡ None
unfolding senders_and_receivers
not_moving n = by (eqb n 34) (eqb n 37) (eqb n 51) (eqb n 53) (eqb n 36) (eqb n 50) (eqb n 41) (eqb n 58)
  where
    by : (a b c d e f g h : Bool) → (a || (b || (c || (d || (e || (f || (g || (h || false)))))))) ≡ false →
        cond {A = Option ℕ} (((a || b) || c) || d) (Some 2) (cond (((e || f) || g) || h) (Some 4) None) ≡ None
    by false false false false false false false false other = refl
    by true b c d e f g h other = absurd (cc)
    by false true c d e f g h other = absurd (cc)
    by false false true d e f g h other = absurd (cc)
    by false false false true e f g h other = absurd (cc)
    by false false false false true f g h other = absurd (cc)
    by false false false false false true g h other = absurd (cc)
    by false false false false false false true h other = absurd (cc)
    by false false false false false false false true other = absurd (cc)

-- ---- the shift

Shifts : ℕ → List ℕ → Type 0
Shifts k g = shifted_in k (calling_mode g) ≡ calling_mode (shifted_registers k g)

Stays : ℕ → List ℕ → List Stage → Type 0
Stays k g todo = shifted_in k (Calling todo (rest_of todo g)) ≡ Calling todo (rest_of todo g)

each_shifts : (k : ℕ) (r : ℕ → ℕ) → OfEach (λ n. Shifts k (registers n r)) senders_and_receivers
unfolding senders_and_receivers Shifts todo_of rest_of code_of
each_shifts k r = (refl, (refl, (refl, (refl, (refl, (refl, (refl, (refl, tt))))))))

each_stays : (k : ℕ) → OfOthers senders_and_receivers (Stays k) calls
unfolding senders_and_receivers Stays
each_stays k = assumption

shifts : (k : ℕ) (g : List ℕ) → length g ≡ 16 → shifted_in k (calling_mode g) ≡ calling_mode (shifted_registers k g)
unfolding Shifts Stays
shifts k = of_registers senders_and_receivers (Shifts k) (Stays k) (each_shifts k) (each_stays k) (λ g. refl)
    (λ n r other stays. subst (λ m. shifted_in k (calling_mode (registers n r)) ≡ calling_mode (advanced k m (registers n r))) (sym (not_moving n other)) stays)

-- ---- the address

Addressed : List ℕ → Type 0
Addressed g = address_of (unwrap_or (todo_of g) []) ≡ address_in (moving (slice_index g 0)) g

Nowhere : List ℕ → List Stage → Type 0
Nowhere g todo = address_of todo ≡ 0

each_addressed : (r : ℕ → ℕ) → OfEach (λ n. Addressed (registers n r)) senders_and_receivers
unfolding senders_and_receivers Addressed todo_of
each_addressed r = (refl, (refl, (refl, (refl, (refl, (refl, (refl, (refl, tt))))))))

each_nowhere : OfOthers senders_and_receivers Nowhere calls
unfolding senders_and_receivers Nowhere
each_nowhere = assumption

addressed : (g : List ℕ) → length g ≡ 16 → address_of (unwrap_or (todo_of g) []) ≡ address_in (moving (slice_index g 0)) g
unfolding Addressed Nowhere
addressed = of_registers senders_and_receivers Addressed Nowhere each_addressed each_nowhere (λ g. refl)
    (λ n r other nowhere. subst (λ m. address_of (unwrap_or (todo_of (registers n r)) []) ≡ address_in m (registers n r)) (sym (not_moving n other)) nowhere)

-- ---- the Receive on a side

abbrev awaiting : Turn → Mode → Option (ℕ × ℕ)
awaiting side mode = and_then (receive_on side) (first_stage mode)

receivers : Turn → List ℕ
receivers side = receive_code side ∷ receive_ref_code side ∷ []

Receives : Turn → List ℕ → Type 0
Receives side g = awaiting side (calling_mode g) ≡ receive_in side g

NoReceive : Turn → List ℕ → List Stage → Type 0
NoReceive side g todo = awaiting side (Calling todo (rest_of todo g)) ≡ None

each_receives : (side : Turn) (r : ℕ → ℕ) → OfEach (λ n. Receives side (registers n r)) (receivers side)
unfolding receivers Receives todo_of
each_receives turns.Client r = (refl, (refl, tt))
each_receives turns.Server r = (refl, (refl, tt))

each_none : (side : Turn) → OfOthers (receivers side) (NoReceive side) calls
unfolding receivers NoReceive
each_none turns.Client = assumption
each_none turns.Server = assumption

receives : (side : Turn) (g : List ℕ) → length g ≡ 16 → awaiting side (calling_mode g) ≡ receive_in side g
unfolding receivers Receives NoReceive
receives side = of_registers (receivers side) (Receives side) (NoReceive side) (each_receives side) (each_none side) (λ g. refl) other
  where
    other : (n : ℕ) (r : ℕ → ℕ) → is_among (receivers side) n ≡ false →
        awaiting side (calling_mode (registers n r)) ≡ None → awaiting side (calling_mode (registers n r)) ≡ receive_in side (registers n r)
    other n r none is = by (eqb n (receive_code side)) (eqb n (receive_ref_code side)) none
      where
        by : (a b : Bool) → (a || (b || false)) ≡ false → awaiting side (calling_mode (registers n r)) ≡ cond {A = Option (ℕ × ℕ)} (a || b) (Some (r 4, r 5)) None
        by true b none = absurd (cc)
        by false true none = absurd (cc)
        by false false none = is

-- ---- the reference that is to take a pointer

takers : List ℕ
takers = 41 ∷ 58 ∷ []

Awaits : List ℕ → Type 0
Awaits g = awaited (calling_mode g) ≡ awaited_in g

AwaitsNone : List ℕ → List Stage → Type 0
AwaitsNone g todo = awaited (Calling todo (rest_of todo g)) ≡ None

each_awaits : (r : ℕ → ℕ) → OfEach (λ n. Awaits (registers n r)) takers
unfolding takers Awaits todo_of
each_awaits r = (refl, (refl, tt))

each_awaits_none : OfOthers takers AwaitsNone calls
unfolding takers AwaitsNone
each_awaits_none = assumption

awaits : (g : List ℕ) → length g ≡ 16 → awaited (calling_mode g) ≡ awaited_in g
unfolding takers Awaits AwaitsNone
awaits = of_registers takers Awaits AwaitsNone each_awaits each_awaits_none (λ g. refl) other
  where
    other : (n : ℕ) (r : ℕ → ℕ) → is_among takers n ≡ false → awaited (calling_mode (registers n r)) ≡ None →
        awaited (calling_mode (registers n r)) ≡ awaited_in (registers n r)
    other n r none is = by (eqb n 41) (eqb n 58) none
      where
        by : (a b : Bool) → (a || (b || false)) ≡ false → awaited (calling_mode (registers n r)) ≡ cond {A = Option ℕ} (a || b) (Some (r 6)) None
        by true b none = absurd (cc)
        by false true none = absurd (cc)
        by false false none = is

-- ---- of a thread

pub shift_calling : (p : ℕ → Path) (t : threads_of.Thread) (k : ℕ) → length t.regs ≡ 16 →
    t.mode ≡ modes.Calling → edited (Shift k) (Thread_of (thread_by p t)) ≡ Thread_of (thread_by p (record t { regs = shifted_registers k t.regs }))
unfolding edited
shift_calling p t k long is = rw is (ap (λ mode. Thread_of (record (thread_by p t) { mode = mode })) (shifts k t.regs long))

pub shift_other : (p : ℕ → Path) (t : threads_of.Thread) (k : ℕ) →
    (t.mode ≡ modes.Calling → ⊥) → edited (Shift k) (Thread_of (thread_by p t)) ≡ Thread_of (thread_by p t)
unfolding edited
shift_other p t k other = by t.mode refl
  where
    by : (m : modes_of.Mode) → t.mode ≡ m →
        edited (Shift k) (Thread_of (record (thread_by p t) { mode = mode_by m t.regs })) ≡ Thread_of (record (thread_by p t) { mode = mode_by m t.regs })
    by modes.Running is = refl
    by modes.Calling is = absurd (other is)
    by (modes.Halted code) is = refl
    by modes.Native is = refl

pub address_calling : (t : threads_of.Thread) →
    length t.regs ≡ 16 → t.mode ≡ modes.Calling → address_of (todo_of_mode (mode_by t.mode t.regs)) ≡ address_in (moving (slice_index t.regs 0)) t.regs
address_calling t long is = rw is (addressed t.regs long)

pub low_there : (w : World) (x : Path) (p : ℕ → Path) (t : threads_of.Thread) (k : ℕ) →
    Some (thread_by p t) ≡ thread_at w x → IsLow w x k → address_of (todo_of_mode (mode_by t.mode t.regs)) + k < 2 ^ 64
unfolding todo_at
low_there w x p t k there low = rw (← there) at low

pub shift_nobody : (w : World) (x : Path) (k : ℕ) → thread_at w x ≡ None → w ≡ apply (Alter x (Shift k)) w
unfolding edited
shift_nobody w x k none = alter-nobody w x (Shift k) _ (λ b. refl) none

pub receives_thread : (side : Turn) (p : ℕ → Path) (t : threads_of.Thread) →
    length t.regs ≡ 16 → t.mode ≡ modes.Calling → awaiting side (thread_by p t).mode ≡ receive_in side t.regs
receives_thread side p t long is = rw is (receives side t.regs long)

pub receives_some : (side : Turn) (p : ℕ → Path) (t : threads_of.Thread) → length t.regs ≡ 16 → t.mode ≡ modes.Calling →
    is_receive side (slice_index t.regs 0) ≡ true →
    Some (slice_index t.regs 4, slice_index t.regs 5) ≡ and_then (receive_on side) (first_stage (thread_by p t).mode)
receives_some side p t long is at = sym (receives_thread side p t long is ∙ rw at refl)

pub receives_none : (side : Turn) (p : ℕ → Path) (t : threads_of.Thread) → length t.regs ≡ 16 → t.mode ≡ modes.Calling →
    is_receive side (slice_index t.regs 0) ≡ false → None ≡ and_then (receive_on side) (first_stage (thread_by p t).mode)
receives_none side p t long is other = sym (receives_thread side p t long is ∙ rw other refl)

pub awaits_thread : (p : ℕ → Path) (t : threads_of.Thread) → length t.regs ≡ 16 → t.mode ≡ modes.Calling → awaited (thread_by p t).mode ≡ awaited_in t.regs
awaits_thread p t long is = rw is (awaits t.regs long)
