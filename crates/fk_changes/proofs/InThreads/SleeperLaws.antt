-- Sleepers: what their registers say, and what waking them makes of these.
use Rattle.std.proofs.Common.{◌≡◌, ℕ, ◌+◌, ◌<◌, zero, suc, is_some, ◌++◌, append-nil, add-one, arith, Bool, true, false, cond, eqb, ◌||◌, List, []}
use Rattle.std.proofs.Common.{◌∷◌, length, get_or, Option, Some, None, unwrap_or, slice_set, IfSome, refl, sym, ap, subst, ◌∙◌}
use Rattle.fk_model.specs.declared.stage.Stage.{Stage}
use Rattle.fk_model.specs.declared.stage.Stage.TheVariants.{CondAsleep, MutexLock}
use Rattle.fk_model.specs.declared.thread.Mode as modes_of
use Rattle.fk_model.specs.declared.thread.Mode.TheVariants as modes
use Rattle.fk_model.specs.declared.thread.Thread as threads_of
use Rattle.fk_model.specs.Places.{Path}
use Rattle.fk_model.specs.Calls.{calls, words, todo_of, rest_of, code_of}
use Rattle.fk_model.specs.Objects.{Body, and_then}
use Rattle.fk_model.specs.Objects.Mode.{Calling}
use Rattle.fk_model.specs.Objects.Body.{Thread_of}
use Rattle.fk_model.specs.World.{World, Change, edited, replaced_in, apply}
use Rattle.fk_model.specs.World.Edit.{Replace}
use Rattle.fk_model.specs.World.Change.{Alter}
use Rattle.std.proofs.lemmas.Bool.{eqb-true, eqb-false}
use Rattle.std.proofs.lemmas.Grind.{flat_map-append}
use Rattle.std.proofs.lemmas.Option.{same_Some}
use Rattle.std.specs.List.{flat_map}
use Rattle.fk_model.specs.Searches.{slots, thread_at}
use Rattle.fk_model.specs.SyncRows as rows
use Rattle.fk_model.specs.SyncRows.{mutex_after, woken}
use Rattle.fk_model.specs.Talks.{first_stage}
use Rattle.fk_model.proofs.calls.CallLaws.{registers, sixteen, todo_writes_back_lem}
use Rattle.fk_store.specs.Store.Bodies.{calling_mode, mode_by, thread_by}
use Rattle.fk_store.specs.Store.Threads.{todo_of_mode, todo_at}
use Rattle.fk_store.proofs.InStore.changing.ThreadLaws.{alter-nobody}
use Rattle.fk_stages.proofs.Codes.{is_among, OfEach, OfOthers, of_registers}
use Rattle.fk_changes.specs.Threads.Sleepers.{asleep_in, is_changed, IsAsleep}

-- ---- who sleeps

abbrev first_of : List Stage → Option Stage
first_of [] = None
first_of (stage ∷ todo) = Some stage

Asleep : ℕ → List ℕ → Type 0
Asleep c g = and_then (mutex_after c) (first_of (unwrap_or (todo_of g) [])) ≡ asleep_in c g

Awake : ℕ → List ℕ → List Stage → Type 0
Awake c g todo = and_then (mutex_after c) (first_of todo) ≡ None

sleepers : List ℕ
sleepers = 25 ∷ []

each_asleep : (c : ℕ) (r : ℕ → ℕ) → OfEach (λ n. Asleep c (registers n r)) sleepers
unfolding sleepers Asleep todo_of
each_asleep c r = (refl, tt)

each_awake : (c : ℕ) → OfOthers sleepers (Awake c) calls
unfolding sleepers Awake
each_awake c = assumption

asleep_named : (c : ℕ) (g : List ℕ) → length g ≡ 16 → Asleep c g
unfolding sleepers Asleep Awake
asleep_named c = of_registers sleepers (Asleep c) (Awake c) (each_asleep c) (each_awake c) (λ g. refl) other
  where
    other : (n : ℕ) (r : ℕ → ℕ) → is_among sleepers n ≡ false → and_then (mutex_after c) (first_of (unwrap_or (todo_of (registers n r)) [])) ≡ None →
        and_then (mutex_after c) (first_of (unwrap_or (todo_of (registers n r)) [])) ≡ asleep_in c (registers n r)
    other n r none awake = by (eqb n 25) none awake
      where
        by : (b : Bool) → (b || false) ≡ false → and_then (mutex_after c) (first_of (unwrap_or (todo_of (registers n r)) [])) ≡ None →
            and_then (mutex_after c) (first_of (unwrap_or (todo_of (registers n r)) [])) ≡ cond {A = Option ℕ} b (cond (eqb (r 1) c) (Some (r 2)) None) None
        by true none awake = absurd (cc)
        by false none awake = awake

first_is : (todo : List Stage) (rest : List ℕ) → first_stage (Calling todo rest) ≡ first_of todo
first_is [] rest = refl
first_is (stage ∷ todo) rest = refl

pub asleep_thread : (p : ℕ → Path) (t : threads_of.Thread) (c : ℕ) →
    length t.regs ≡ 16 → t.mode ≡ modes.Calling → and_then (mutex_after c) (first_stage (thread_by p t).mode) ≡ asleep_in c t.regs
unfolding Asleep
asleep_thread p t c long is = rw is (ap (and_then (mutex_after c)) (first_is (unwrap_or (todo_of t.regs) []) _) ∙ asleep_named c t.regs long)

-- the registers of a sleeper name nothing else
Sleeps : ℕ → List ℕ → Type 0
Sleeps c g = (m : ℕ) → asleep_in c g ≡ Some m → unwrap_or (todo_of g) [] ≡ CondAsleep c m ∷ []

each_sleeps : (c : ℕ) (r : ℕ → ℕ) → OfEach (λ n. Sleeps c (registers n r)) sleepers
unfolding sleepers Sleeps todo_of
each_sleeps c r = ((λ m. by (eqb (r 1) c) refl m), tt)
  where
    by : (b : Bool) → eqb (r 1) c ≡ b → (m : ℕ) → cond {A = Option ℕ} b (Some (r 2)) None ≡ Some m → CondAsleep (r 1) (r 2) ∷ [] ≡ CondAsleep c m ∷ []
    by true same m is = rw (eqb-true _ _ same, same_Some _ _ is) refl
    by false same m is = absurd (cc)

anything : OfOthers sleepers (λ g todo. Unit {0}) calls
unfolding sleepers
anything = assumption

sleeps : (c : ℕ) (g : List ℕ) → length g ≡ 16 → Sleeps c g
unfolding sleepers Sleeps
sleeps c = of_registers sleepers (Sleeps c) (λ g todo. Unit {0}) (each_sleeps c) anything (λ g. tt) other
  where
    other : (n : ℕ) (r : ℕ → ℕ) →
        is_among sleepers n ≡ false → Unit {0} → (m : ℕ) → asleep_in c (registers n r) ≡ Some m → unwrap_or (todo_of (registers n r)) [] ≡ CondAsleep c m ∷ []
    other n r none nothing m is = absurd (by (eqb n 25) none is)
      where
        by : (b : Bool) → (b || false) ≡ false → cond {A = Option ℕ} b (cond (eqb (r 1) c) (Some (r 2)) None) None ≡ Some m → ⊥
        by true none is = absurd (cc)
        by false none is = absurd (cc)

pub alone_if : (t : threads_of.Thread) (c : ℕ) (o : Option ℕ) →
    length t.regs ≡ 16 → t.mode ≡ modes.Calling → o ≡ asleep_in c t.regs → IfSome o (λ m. todo_of_mode (mode_by t.mode t.regs) ≡ CondAsleep c m ∷ [])
unfolding Sleeps
alone_if t c None long is at = tt
alone_if t c (Some m) long is at = rw is (sleeps c t.regs long m (sym at))

pub asleep_there : (w : World) (x : Path) (p : ℕ → Path) (t : threads_of.Thread) (c : ℕ) (o : Option ℕ) →
    Some (thread_by p t) ≡ thread_at w x → IfSome o (λ m. todo_of_mode (mode_by t.mode t.regs) ≡ CondAsleep c m ∷ []) → IfSome o (λ m. IsAsleep w x m)
unfolding todo_at
asleep_there w x p t c None there alone = tt
asleep_there w x p t c (Some m) there alone = (c, rw (← there) alone)

-- ---- whether somebody sleeps

abbrev pub wakes_at : World → Path → ℕ → ℕ → List Change
wakes_at w s c k = woken (k ∷ s) (rows.asleep_on c (w.body (k ∷ s)))

changed_append : (xs ys : List Change) → is_changed ys ≡ true → is_changed (xs ++ ys) ≡ true
changed_append [] ys some = some
changed_append (x ∷ xs) ys some = refl

changed_first : (xs ys : List Change) → is_changed xs ≡ true → is_changed (xs ++ ys) ≡ true
changed_first [] ys some = absurd (cc)
changed_first (x ∷ xs) ys some = refl

unchanged : (xs ys : List Change) → is_changed xs ≡ false → is_changed ys ≡ false → is_changed (xs ++ ys) ≡ false
unchanged [] ys none more = more
unchanged (x ∷ xs) ys none more = absurd (cc)

pub last_slot : (w : World) (s : Path) (c n : ℕ) → flat_map (wakes_at w s c) (slots (suc n)) ≡ flat_map (wakes_at w s c) (slots n) ++ (wakes_at w s c n ++ [])
unfolding slots
last_slot w s c n = flat_map-append (wakes_at w s c) (slots n) (n ∷ [])

pub no_slots : (w : World) (s : Path) (c : ℕ) → is_changed (flat_map (wakes_at w s c) (slots 0)) ≡ false
unfolding slots
no_slots w s c = refl

woken_some : (x : Path) (o : Option ℕ) → is_changed (woken x o) ≡ is_some o
woken_some x None = refl
woken_some x (Some m) = refl

pub none_more : (w : World) (s : Path) (c n : ℕ) (o : Option ℕ) → is_changed (flat_map (wakes_at w s c) (slots n)) ≡ false →
    o ≡ rows.asleep_on c (w.body (n ∷ s)) → is_some o ≡ false → is_changed (flat_map (wakes_at w s c) (slots (n + 1))) ≡ false
none_more w s c n o none is off =
    let here : is_changed (wakes_at w s c n) ≡ false = woken_some (n ∷ s) _ ∙ ap is_some (sym is) ∙ off in
    rw (add-one n, last_slot w s c n) (unchanged _ _ none (rw (append-nil (wakes_at w s c n)) here))

some_up_to : (w : World) (s : Path) (c k n : ℕ) → is_changed (wakes_at w s c k) ≡ true → k < n → is_changed (flat_map (wakes_at w s c) (slots n)) ≡ true
some_up_to w s c k zero some low = absurd (omega arith)
some_up_to w s c k (suc n) some low = rw (last_slot w s c n) (by (eqb k n) refl (some_up_to w s c k n some))
  where
    by : (b : Bool) → eqb k n ≡ b →
        (k < n → is_changed (flat_map (wakes_at w s c) (slots n)) ≡ true) → is_changed (flat_map (wakes_at w s c) (slots n) ++ (wakes_at w s c n ++ [])) ≡ true
    by true same later = changed_append (flat_map (wakes_at w s c) (slots n))
        _ (rw (append-nil (wakes_at w s c n)) (subst (λ j. is_changed (wakes_at w s c j) ≡ true) (eqb-true _ _ same) some))
    by false other later = changed_first _ _ (later (below (eqb-false k n other) low))
      where
        below : (k ≡ n → ⊥) → k < suc n → k < n
        below other low = grind arith

pub slept_at : (w : World) (s : Path) (c k : ℕ) (o : Option ℕ) →
    o ≡ rows.asleep_on c (w.body (k ∷ s)) → is_some o ≡ true → k < 256 → true ≡ is_changed (rows.sleepers w s c)
unfolding rows.sleepers
slept_at w s c k o is some low = sym (some_up_to w s c k 256 (woken_some (k ∷ s) _ ∙ ap is_some (sym is) ∙ some) low)

pub slept_nowhere : (w : World) (s : Path) (c n : ℕ) →
    is_changed (flat_map (wakes_at w s c) (slots n)) ≡ false → n ≡ 256 → false ≡ is_changed (rows.sleepers w s c)
unfolding rows.sleepers
slept_nowhere w s c n none end = sym (subst (λ n. is_changed (flat_map (wakes_at w s c) (slots n)) ≡ false) end none)

-- ---- who wakes up

awoken : ℕ → List ℕ → List ℕ
awoken m g = slice_set (slice_set g 0 21) 1 m

Wakes : ℕ → List ℕ → Type 0
Wakes m g = replaced_in (MutexLock m) (calling_mode g) ≡ calling_mode (awoken m g)

wakes_written : (c m : ℕ) (r : ℕ → ℕ) → Wakes m (words (CondAsleep c m ∷ []) (rest_of (CondAsleep c m ∷ []) (registers (r 0) r)))
unfolding Wakes awoken words rest_of todo_of code_of
wakes_written c m r = refl

-- registers that name a sleeper are those that it is written into
wakes : (c m : ℕ) (g : List ℕ) → length g ≡ 16 → unwrap_or (todo_of g) [] ≡ CondAsleep c m ∷ [] → Wakes m g
wakes c m g long is = by (todo_of g) refl is
  where
    by : (o : Option (List Stage)) → todo_of g ≡ o → unwrap_or o [] ≡ CondAsleep c m ∷ [] → Wakes m g
    by None named is = absurd (cc)
    by (Some todo) named is =
        let here : todo_of g ≡ Some (CondAsleep c m ∷ []) = named ∙ ap Some is in
        subst (Wakes m) (todo_writes_back_lem g (CondAsleep c m ∷ []) long here).2
        (subst (λ v. Wakes m (words (CondAsleep c m ∷ []) (rest_of (CondAsleep c m ∷ []) v))) (sixteen g long) (wakes_written c m (λ i. get_or g i 0)))

-- a thread at a stage is in a call
in_call : (t : threads_of.Thread) (stage : Stage) (m : modes_of.Mode) →
    todo_of_mode (mode_by m t.regs) ≡ stage ∷ [] → (m ≡ modes.Calling) × (unwrap_or (todo_of t.regs) [] ≡ stage ∷ [])
in_call t stage modes.Running h = absurd (cc)
in_call t stage modes.Calling h = (refl, h)
in_call t stage (modes.Halted code) h = absurd (cc)
in_call t stage modes.Native h = absurd (cc)

pub wake_edit : (p : ℕ → Path) (t : threads_of.Thread) (c m : ℕ) → length t.regs ≡ 16 → todo_of_mode (mode_by t.mode t.regs) ≡ CondAsleep c m ∷ [] →
    edited (Replace (MutexLock m)) (Thread_of (thread_by p t)) ≡ Thread_of (thread_by p (record t { regs = slice_set (slice_set t.regs 0 21) 1 m }))
unfolding edited Wakes awoken
wake_edit p t c m long at =
    let is = in_call t (CondAsleep c m) t.mode at in
    rw is.0 (ap (λ mode. Thread_of (record (thread_by p t) { mode = mode })) (wakes c m t.regs long is.1))

-- so it is at a path
pub wake_there : (w : World) (x : Path) (p : ℕ → Path) (t : threads_of.Thread) (c m : ℕ) (b : Body) →
    Some (thread_by p t) ≡ thread_at w x → todo_at w x ≡ CondAsleep c m ∷ [] →
    (todo_of_mode (mode_by t.mode t.regs) ≡ CondAsleep c m ∷ [] → edited (Replace (MutexLock m)) (Thread_of (thread_by p t)) ≡ b) →
    edited (Replace (MutexLock m)) (Thread_of (thread_by p t)) ≡ b
unfolding todo_at
wake_there w x p t c m b there at edit = edit (rw (← there) at at)

pub wake_nobody : (w : World) (x : Path) (m : ℕ) → thread_at w x ≡ None → w ≡ apply (Alter x (Replace (MutexLock m))) w
unfolding edited
wake_nobody w x m none = alter-nobody w x (Replace (MutexLock m)) _ (λ b. refl) none
