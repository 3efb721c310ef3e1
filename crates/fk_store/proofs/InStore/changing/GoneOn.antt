-- GoneOn: an edit that makes of a thread what another makes of it.
use Rattle.std.proofs.Common.{◌≡◌, ℕ, Bool, true, false, cond, List, Option, Some, None, option_map, refl, sym, ap, subst, ◌∙◌}
use Rattle.fk_model.specs.declared.thread.Mode as modes_of
use Rattle.fk_model.specs.declared.thread.Thread as threads_of
use Rattle.fk_model.specs.Places.{Path, same_path}
use Rattle.fk_model.specs.Objects.{Thread, Body}
use Rattle.fk_model.specs.Objects.Body.{Mutex, Cond, Mapping, Region, Port, Portset, Space, Thread_of, Reference}
use Rattle.fk_model.specs.Searches.{thread_at}
use Rattle.fk_model.specs.World.{World, Edit, edited, apply}
use Rattle.fk_model.specs.World.Change.{Alter}
use Rattle.fk_model.specs.World.Edit.{Proceed}
use Rattle.fk_store.specs.Store.Bodies.{mode_by, thread_by}
use Rattle.fk_store.proofs.InStore.changing.ThreadLaws.{alter-same}
use Rattle.fk_store.proofs.InStore.finding.Walks.{same_path_true}

-- two edits that make the same of a thread make the same world
edits_alike : (w : World) (x : Path) (t : Thread) (d e : Edit) →
    Some t ≡ thread_at w x → edited d (Thread_of t) ≡ edited e (Thread_of t) → apply (Alter x d) w ≡ apply (Alter x e) w
unfolding apply
edits_alike w x t d e there same = λ i. record { body = λ q. at q i; page = w.page; next = w.next }
  where
    here : option_map (edited d) (w.body x) ≡ option_map (edited e) (w.body x)
    here = by (w.body x) there
      where
        by : (b : Option Body) → Some t ≡ thread_at (record { body = λ q. b; page = w.page; next = w.next }) x →
            option_map (edited d) b ≡ option_map (edited e) b
        by None there = refl
        by (Some (Mutex locked)) there = absurd (cc)
        by (Some Cond) there = absurd (cc)
        by (Some (Mapping window)) there = absurd (cc)
        by (Some (Region extent)) there = absurd (cc)
        by (Some (Port set served)) there = absurd (cc)
        by (Some Portset) there = absurd (cc)
        by (Some (Space birth holder)) there = absurd (cc)
        by (Some (Thread_of thread)) there = let is : t ≡ thread = cc in ap Some (subst (λ t. edited d (Thread_of t) ≡ edited e (Thread_of t)) is same)
        by (Some (Reference to)) there = absurd (cc)

    at : (q : Path) → cond (same_path q x) (option_map (edited d) (w.body q)) (w.body q) ≡ cond (same_path q x) (option_map (edited e) (w.body q)) (w.body q)
    at q = by (same_path q x) refl
      where
        by : (b : Bool) → same_path q x ≡ b → cond b (option_map (edited d) (w.body q)) (w.body q) ≡ cond b (option_map (edited e) (w.body q)) (w.body q)
        by false there = refl
        by true there = subst (λ y. option_map (edited d) (w.body y) ≡ option_map (edited e) (w.body y)) (sym (same_path_true q x there)) here

-- a thread that goes on is what an edit makes of it
pub gone_on : (v w : World) (x : Path) (p : ℕ → Path) (was t : threads_of.Thread) (e : Edit) → Some (thread_by p was) ≡ thread_at w x →
    t.talk ≡ was.talk → t.fault ≡ was.fault → t.stops ≡ was.stops → v ≡ apply (Alter x (Proceed (mode_by t.mode t.regs) t.pc)) w →
    edited e (Thread_of (thread_by p was)) ≡ Thread_of (thread_by p t) → v ≡ apply (Alter x e) w
unfolding edited
gone_on v w x p was t e there talk fault stops goes is =
    let same : Thread_of (record (thread_by p was) { mode = mode_by t.mode t.regs; counter = t.pc }) ≡ Thread_of (thread_by p t) =
    rw (talk, fault, stops) refl in
    goes ∙ edits_alike w x (thread_by p was) (Proceed (mode_by t.mode t.regs) t.pc) e there (same ∙ sym is)

-- the same, by what it goes on with
pub went_on : (v w : World) (x : Path) (p : ℕ → Path) (t : threads_of.Thread) (g : List ℕ) (c : ℕ) (mode : modes_of.Mode) (e : Edit) →
    Some (thread_by p t) ≡ thread_at w x → v ≡ apply (Alter x (Proceed (mode_by mode g) c)) w →
    edited e (Thread_of (thread_by p t)) ≡ Thread_of (thread_by p (record t { regs = g; pc = c; mode = mode })) → v ≡ apply (Alter x e) w
went_on v w x p t g c mode e there goes is = gone_on v w x p t (record t { regs = g; pc = c; mode = mode }) e there refl refl refl goes is

-- a thread of which an edit makes the same
pub stayed : (w : World) (x : Path) (p : ℕ → Path) (t : threads_of.Thread) (e : Edit) →
    Some (thread_by p t) ≡ thread_at w x → edited e (Thread_of (thread_by p t)) ≡ Thread_of (thread_by p t) → w ≡ apply (Alter x e) w
stayed w x p t e there is = alter-same w x e (by (w.body x) there)
  where
    by : (b : Option Body) → Some (thread_by p t) ≡ thread_at (record { body = λ q. b; page = w.page; next = w.next }) x → option_map (edited e) b ≡ b
    by None there = absurd (cc)
    by (Some (Mutex locked)) there = absurd (cc)
    by (Some Cond) there = absurd (cc)
    by (Some (Mapping window)) there = absurd (cc)
    by (Some (Region extent)) there = absurd (cc)
    by (Some (Port set served)) there = absurd (cc)
    by (Some Portset) there = absurd (cc)
    by (Some (Space birth holder)) there = absurd (cc)
    by (Some (Thread_of thread)) there =
        let same : thread_by p t ≡ thread = cc in ap Some (subst (λ t. edited e (Thread_of t) ≡ Thread_of t) same is)
    by (Some (Reference to)) there = absurd (cc)
