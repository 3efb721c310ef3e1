-- Nudges: a thread or a mutex that changes a little where it stands.
use Rattle.std.proofs.Common.{◌≡◌, ℕ, Option, Some, None, ◌+◌, min, option_map, refl, ap}
use Rattle.std.specs.FinMap.{FinMap, get, insert}
use Rattle.fk_model.specs.declared.limits.TheConstants.{MOST_MOVED}
use Rattle.fk_model.specs.declared.names.Who.{Who}
use Rattle.fk_model.specs.declared.body.Body.{Body}
use Rattle.fk_model.specs.declared.body.Body.TheVariants.{Mutex, Cond, Mapping, Region, Port, Portset, Space, Thread, Reference}
use Rattle.fk_model.specs.declared.thread.Talk.{Talk as StoredTalk}
use Rattle.fk_model.specs.declared.thread.Thread.{Thread as State}
use Rattle.fk_model.specs.Objects.{Talk}
use Rattle.fk_model.specs.Objects.Body.{Thread_of}
use Rattle.fk_model.specs.Places.{Path}
use Rattle.fk_model.specs.World.{edited}
use Rattle.fk_store.specs.Freezing.Nudges.{counted, passed, nudged, nudged_thread}
use Rattle.fk_store_graph.specs.declared.leads.nudges.Nudge.{Nudge}
use Rattle.fk_store_graph.specs.declared.leads.nudges.Nudge.TheVariants.{Counts, Locks, Passes, Stops}
use Rattle.fk_store.specs.Store.Names.{who_cmp}
use Rattle.fk_store.specs.Store.Contents.{Contents}
use Rattle.fk_store.specs.Store.Bodies.{talk_by, thread_by, body_by}
use Rattle.fk_store.specs.Store.Named.{Each, OnTalk, OnNamed}
use Rattle.fk_store.specs.Store.Nudges.{edit_of}
use Rattle.fk_store.specs.Store.WellFormed.{IsSized, IsWellFormed}
use Rattle.fk_store.proofs.InStore.changing.InPlace.{Stays, Changes, changes}

-- what is done to a talk
talk_edits : (p : ℕ → Path) (f : StoredTalk → StoredTalk) (g : Talk → Talk) → ((talk : StoredTalk) → g (talk_by p talk) ≡ talk_by p (f talk)) →
    (o : Option StoredTalk) → option_map g (option_map (talk_by p) o) ≡ option_map (talk_by p) (option_map f o)
talk_edits p f g same None = refl
talk_edits p f g same (Some talk) = rw (same talk) refl

thread_edits : (change : Nudge) (p : ℕ → Path) (t : State) →
    edited (edit_of change) (Thread_of (thread_by p t)) ≡ Thread_of (thread_by p (nudged_thread change t))
unfolding edited
thread_edits (Counts count) p t = ap (λ o. Thread_of (record (thread_by p t) { talk = o }))
    (talk_edits p (counted count) (λ talk. record talk { moved = min MOST_MOVED (talk.moved + count) }) (λ talk. refl) t.talk)
thread_edits (Passes turn) p t = ap (λ o. Thread_of (record (thread_by p t) { talk = o }))
    (talk_edits p (passed turn) (λ talk. record talk { turn = turn; moved = 0 }) (λ talk. refl) t.talk)
thread_edits (Stops stops) p t = refl
thread_edits (Locks locked) p t = refl

talk_named : (P : Who → Type 0) (f : StoredTalk → StoredTalk) → ((talk : StoredTalk) → OnTalk P talk → OnTalk P (f talk)) →
    (o : Option StoredTalk) → Each (OnTalk P) o → Each (OnTalk P) (option_map f o)
talk_named P f same None on = on
talk_named P f same (Some talk) on = same talk on

thread_named : (change : Nudge) (P : Who → Type 0) (t : State) → OnNamed P (Thread t) → OnNamed P (Thread (nudged_thread change t))
thread_named (Counts count) P t on = (talk_named P (counted count) (λ talk h. h) t.talk on.0, on.1)
thread_named (Passes turn) P t on = (talk_named P (passed turn) (λ talk h. h) t.talk on.0, on.1)
thread_named (Stops stops) P t on = on
thread_named (Locks locked) P t on = on

thread_sized : (change : Nudge) (t : State) → IsSized (Thread t) → IsSized (Thread (nudged_thread change t))
thread_sized (Counts count) t h = h
thread_sized (Passes turn) t h = h
thread_sized (Stops stops) t h = h
thread_sized (Locks locked) t h = h

edits : (change : Nudge) (p : ℕ → Path) (b : Body) → edited (edit_of change) (body_by p b) ≡ body_by p (nudged change b)
unfolding edited
edits change p (Thread thread) = thread_edits change p thread
edits (Counts count) p (Mutex locked) = refl
edits (Counts count) p Cond = refl
edits (Counts count) p (Mapping first count2 offset write region) = refl
edits (Counts count) p (Region first count2 write keeper) = refl
edits (Counts count) p (Port set served) = refl
edits (Counts count) p Portset = refl
edits (Counts count) p (Space birth holder) = refl
edits (Counts count) p (Reference to) = refl
edits (Passes turn) p (Mutex locked) = refl
edits (Passes turn) p Cond = refl
edits (Passes turn) p (Mapping first count offset write region) = refl
edits (Passes turn) p (Region first count write keeper) = refl
edits (Passes turn) p (Port set served) = refl
edits (Passes turn) p Portset = refl
edits (Passes turn) p (Space birth holder) = refl
edits (Passes turn) p (Reference to) = refl
edits (Stops stops) p (Mutex locked) = refl
edits (Stops stops) p Cond = refl
edits (Stops stops) p (Mapping first count offset write region) = refl
edits (Stops stops) p (Region first count write keeper) = refl
edits (Stops stops) p (Port set served) = refl
edits (Stops stops) p Portset = refl
edits (Stops stops) p (Space birth holder) = refl
edits (Stops stops) p (Reference to) = refl
edits (Locks set) p (Mutex locked) = refl
edits (Locks set) p Cond = refl
edits (Locks set) p (Mapping first count offset write region) = refl
edits (Locks set) p (Region first count write keeper) = refl
edits (Locks set) p (Port set2 served) = refl
edits (Locks set) p Portset = refl
edits (Locks set) p (Space birth holder) = refl
edits (Locks set) p (Reference to) = refl

module _ (change : Nudge) where
  stays : (p : ℕ → Path) (who : Who) (P : Who → Type 0) (b : Body) → Stays (nudged change) p who P b
  stays p who P (Mutex locked) = record { kind = refl; home = λ h. h; named = λ h. h; sized = λ h. h }
  stays p who P Cond = record { kind = refl; home = λ h. h; named = λ h. h; sized = λ h. h }
  stays p who P (Mapping first count offset write region) = record { kind = refl; home = λ h. h; named = λ h. h; sized = λ h. h }
  stays p who P (Region first count write keeper) = record { kind = refl; home = λ h. h; named = λ h. h; sized = λ h. h }
  stays p who P (Port set served) = record { kind = refl; home = λ h. h; named = λ h. h; sized = λ h. h }
  stays p who P Portset = record { kind = refl; home = λ h. h; named = λ h. h; sized = λ h. h }
  stays p who P (Space birth holder) = record { kind = refl; home = λ h. h; named = λ h. h; sized = λ h. h }
  stays p who P (Thread thread) = record { kind = refl; home = λ h. h; named = thread_named change P thread; sized = thread_sized change thread }
  stays p who P (Reference to) = record { kind = refl; home = λ h. h; named = λ h. h; sized = λ h. h }

  pub small_change : (m : Contents) → IsWellFormed m → (who : Who) (bodies2 : FinMap who_cmp Body) →
      ((b : Body) → get m.bodies who ≡ Some b → bodies2 ≡ insert m.bodies who (nudged change b)) →
      (get m.bodies who ≡ None → bodies2 ≡ m.bodies) → Changes m (record m { bodies = bodies2 }) who (edit_of change)
  small_change = changes (nudged change) (edit_of change) (edits change) stays
