-- Changes of the thread at a path.
use Rattle.std.proofs.Common.{◌≡◌, ℕ, ◌+◌, ◌%◌, ◌^◌, Bool, true, false, cond, List, [], length, Option, Some, None, option_map, unwrap_or, slice_set}
use Rattle.std.proofs.Common.{refl, sym, ap, subst, ◌∙◌}
use Rattle.std.proofs.lemmas.List.{set-set}
use Rattle.fk_model.specs.declared.names.Kind.TheVariants as kinds
use Rattle.fk_model.specs.declared.stage.Stage.{Stage}
use Rattle.fk_model.specs.declared.thread.Mode as modes_of
use Rattle.fk_model.specs.declared.thread.Mode.TheVariants as modes
use Rattle.fk_model.specs.declared.thread.Thread as threads_of
use Rattle.fk_model.specs.Places.{Path, same_path}
use Rattle.fk_model.specs.Calls.{words, todo_of, rest_of, code_of}
use Rattle.fk_model.specs.Objects.{Thread, Body, kind_of}
use Rattle.fk_model.specs.Objects.Mode.{Running}
use Rattle.fk_model.specs.Objects.Body.{Mutex, Cond, Mapping, Region, Port, Portset, Space, Thread_of, Reference}
use Rattle.fk_model.specs.World.{World, Edit, edited, on_thread, apply}
use Rattle.fk_model.specs.World.Edit.{End}
use Rattle.fk_model.specs.World.Change.{Alter}
use Rattle.fk_model.specs.Valid.{kind_there}
use Rattle.fk_model.proofs.calls.CallLaws.{todo_writes_back_lem}
use Rattle.fk_store.specs.Store.Bodies.{mode_by, thread_by}
use Rattle.fk_store.proofs.InStore.finding.Walks.{same_path_true}
use Rattle.fk_model.specs.Searches.{thread_at}

-- what is a thread has its kind
pub kind_thread : (w : World) (x : Path) (t : Thread) → thread_at w x ≡ Some t → kind_there w x ≡ Some kinds.Thread
unfolding kind_there
kind_thread w x t is = by (w.body x) is
  where
    by : (b : Option Body) → thread_at (record { body = λ q. b; page = w.page; next = w.next }) x ≡ Some t → option_map kind_of b ≡ Some kinds.Thread
    by None is = absurd (cc)
    by (Some (Mutex locked)) is = absurd (cc)
    by (Some Cond) is = absurd (cc)
    by (Some (Mapping window)) is = absurd (cc)
    by (Some (Region extent)) is = absurd (cc)
    by (Some (Port set served)) is = absurd (cc)
    by (Some Portset) is = absurd (cc)
    by (Some (Space birth holder)) is = absurd (cc)
    by (Some (Thread_of thread)) is = refl
    by (Some (Reference to)) is = absurd (cc)

-- an edit that leaves what is there as it is
pub alter-same : (w : World) (x : Path) (e : Edit) → option_map (edited e) (w.body x) ≡ w.body x → w ≡ apply (Alter x e) w
unfolding apply
alter-same w x e same = λ i. record { body = λ q. at q i; page = w.page; next = w.next }
  where
    at : (q : Path) → w.body q ≡ cond (same_path q x) (option_map (edited e) (w.body q)) (w.body q)
    at q = by (same_path q x) refl
      where
        by : (t : Bool) → same_path q x ≡ t → w.body q ≡ cond t (option_map (edited e) (w.body q)) (w.body q)
        by false there = refl
        by true there = subst (λ y. w.body y ≡ option_map (edited e) (w.body y)) (sym (same_path_true q x there)) (sym same)

-- an edit of a thread where no thread is
pub alter-nobody : (w : World) (x : Path) (e : Edit) (f : Thread → Thread) →
    ((b : Body) → edited e b ≡ on_thread f b) → thread_at w x ≡ None → w ≡ apply (Alter x e) w
alter-nobody w x e f edits none = alter-same w x e (by (w.body x) none)
  where
    by : (b : Option Body) → thread_at (record { body = λ q. b; page = w.page; next = w.next }) x ≡ None → option_map (edited e) b ≡ b
    by None none = refl
    by (Some (Mutex locked)) none = ap Some (edits (Mutex locked))
    by (Some Cond) none = ap Some (edits Cond)
    by (Some (Mapping window)) none = ap Some (edits (Mapping window))
    by (Some (Region extent)) none = ap Some (edits (Region extent))
    by (Some (Port set served)) none = ap Some (edits (Port set served))
    by (Some Portset) none = ap Some (edits Portset)
    by (Some (Space birth holder)) none = ap Some (edits (Space birth holder))
    by (Some (Thread_of thread)) none = absurd (cc)
    by (Some (Reference to)) none = ap Some (edits (Reference to))

-- the end of a call changes the first register alone
pub words-status : (g : List ℕ) (status : ℕ) →
    length g ≡ 16 → let todo = unwrap_or (todo_of g) [] in slice_set (words todo (rest_of todo g)) 0 status ≡ slice_set g 0 status
unfolding words rest_of code_of
words-status g status long = by (todo_of g) refl
  where
    none : slice_set (words [] (rest_of [] g)) 0 status ≡ slice_set g 0 status
    none = set-set _ 0 0 status ∙ set-set g 0 0 status

    by : (o : Option (List Stage)) → todo_of g ≡ o → slice_set (words (unwrap_or o []) (rest_of (unwrap_or o []) g)) 0 status ≡ slice_set g 0 status
    by None named = none
    by (Some todo) named = ap (λ g. slice_set g 0 status) (todo_writes_back_lem g todo long named).2

-- ---- the end of a call

pub ended-calling : (p : ℕ → Path) (t : threads_of.Thread) (status : ℕ) → length t.regs ≡ 16 → t.mode ≡ modes.Calling →
    edited (End status [])
    (Thread_of (thread_by p t)) ≡ Thread_of (thread_by p (record t { regs = slice_set t.regs 0 status; pc = (t.pc + 1) % 2 ^ 64; mode = modes.Running }))
unfolding edited
ended-calling p t status long is =
    rw is (ap (λ g. Thread_of (record (thread_by p t) { mode = Running g; counter = (t.pc + 1) % 2 ^ 64 })) (words-status t.regs status long))

pub ended-other : (p : ℕ → Path) (t : threads_of.Thread) (status : ℕ) →
    (t.mode ≡ modes.Calling → ⊥) → edited (End status []) (Thread_of (thread_by p t)) ≡ Thread_of (thread_by p t)
unfolding edited
ended-other p t status other = by t.mode refl
  where
    by : (m : modes_of.Mode) → t.mode ≡ m →
        edited (End status []) (Thread_of (record (thread_by p t) { mode = mode_by m t.regs })) ≡ Thread_of (record (thread_by p t) { mode = mode_by m t.regs })
    by modes.Running is = refl
    by modes.Calling is = absurd (other is)
    by (modes.Halted code) is = refl
    by modes.Native is = refl

pub end_nobody : (w : World) (x : Path) (status : ℕ) → thread_at w x ≡ None → w ≡ apply (Alter x (End status [])) w
unfolding edited
end_nobody w x status none = alter-nobody w x (End status []) _ (λ b. refl) none
