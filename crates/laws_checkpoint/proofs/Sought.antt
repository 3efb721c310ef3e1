-- Sought: a seeker goes over the tasks of a subtree from the hold on, and comes to the first place at which it isn't closed.
use Rattle.std.proofs.Common.{◌≡◌, ℕ, zero, suc, IsSome, is_some, List, [], ◌∷◌, map, Option}
use Rattle.std.proofs.Common.{Some, None, option_map, refl, sym, ap, subst, ◌∙◌, ◌⊎◌, inl, inr}
use Rattle.fk_model.specs.declared.limits.TheConstants.{SLOTS}
use Rattle.fk_model.specs.declared.names.Kind.TheVariants as kinds
use Rattle.fk_model.specs.Places.{Path}
use Rattle.fk_model.specs.Objects.{Body, kind_of}
use Rattle.fk_model.specs.Objects.Body.{Mutex, Cond, Mapping, Region, Port, Portset, Space, Thread_of, Reference}
use Rattle.fk_model.specs.World.{World}
use Rattle.fk_model.specs.Searches.{slots, residents, beneath_by, beneath, objects, depth}
use Rattle.fk_model.specs.Outcomes.Said.{Answered}
use Rattle.fk_model.specs.Runs.{Event}
use Rattle.fk_model.specs.Valid.{IsValid, kind_there}
use Rattle.fk_model.specs.Closed.{Place, far_field, first_place, open_field, open_place}
use Rattle.fk_model.specs.Cut.{cut, cutting, ports_of, seen_by, unheld}
use Rattle.fk_model.proofs.walks.Members.{IsIn, of_filter, of_flat_map}
use Rattle.laws_moves.specs.Frozen.Holding.{IsHolding}
use Rattle.laws_moves.specs.Savable.Savable.{IsSound}
use Rattle.laws_jobs.specs.Machines.{no_words, call_of, IsReadyAt, Interleaved}
use Rattle.laws_checkpoint.specs.Foreign.{Task, task_of, State, begin}
use Rattle.laws_checkpoint.specs.Foreign.{seeker, IsScratched, ForeignIsExact, SeekerIsReady, SeekingKeepsOpenPlace}
use Rattle.laws_jobs.proofs.LeadLaws.{open_same}
use Rattle.laws_jobs.proofs.Weaving.{last_sound}
use Rattle.laws_jobs.proofs.Ready.{unheld_call_ready}
use Rattle.laws_checkpoint.proofs.Same.{inside-itself}
use Rattle.laws_checkpoint.proofs.Tells.{root_kind}
use Rattle.laws_checkpoint.proofs.Seeks.{Base, rests, led, AllTasks, Stands, begins, arrives, finds, comes_next}

-- ---- the tasks of a subtree

paths-back : (c : World) (qs : List Path) → map (λ (t : Task). t.path) (map (task_of c) qs) ≡ qs
paths-back c [] = refl
paths-back c ([] ∷ qs) = ap (λ (ps : List Path). [] ∷ ps) (paths-back c qs)
paths-back c ((k ∷ q) ∷ qs) = ap (λ (ps : List Path). (k ∷ q) ∷ ps) (paths-back c qs)

pub task_path : (c : World) (q : Path) → (task_of c q).path ≡ q
task_path c [] = refl
task_path c (k ∷ q) = refl

-- what a walk comes to is there
of_residents : (w : World) (k : ℕ) (s : Path) → IsIn k (residents w s) → IsSome (w.body (k ∷ s))
unfolding residents
of_residents w k s h = (of_filter (λ k. is_some (w.body (k ∷ s))) k (slots SLOTS) h).1

of_walk : (n : ℕ) (w : World) (s x : Path) → IsIn x (beneath_by n w s) → IsSome (w.body x)
unfolding beneath_by
of_walk zero w s x h = absurd h
of_walk (suc n) w s x h = let found = of_flat_map (λ j. (j ∷ s) ∷ beneath_by n w (j ∷ s)) x (residents w s) h in
    by found.0 (of_residents w found.0 s found.1) found.2 (of_walk n w (found.0 ∷ s) x)
  where
    by : (j : ℕ) →
        IsSome (w.body (j ∷ s)) → (j ∷ s ≡ x) ⊎ IsIn x (beneath_by n w (j ∷ s)) → (IsIn x (beneath_by n w (j ∷ s)) → IsSome (w.body x)) → IsSome (w.body x)
    by j live (inl e) rest = subst (λ (y : Path). IsSome (w.body y)) e live
    by j live (inr g) rest = rest g

pub of_objects : (w : World) (x : Path) → IsIn x (objects w) → IsSome (w.body x)
unfolding beneath
of_objects w x h = of_walk depth w [] x h

module _ (nester : Path) (slot : ℕ) (start : World) (near : far_field ((cut start nester slot).body []) ≡ None) where
  pub all_tasks : (qs : List Path) → ((q : Path) → IsIn q qs → IsSome ((cut start nester slot).body q))
      → AllTasks nester slot start near (map (task_of (cut start nester slot)) qs)
  all_tasks [] h = tt
  all_tasks (q ∷ qs) h = (
    record {
      is = ap (task_of (cut start nester slot)) (sym (task_path (cut start nester slot) q));
      live = subst (λ (q : Path). IsSome ((cut start nester slot).body q)) (sym (task_path (cut start nester slot) q)) (h q (inl refl));
    },
    all_tasks qs (λ x its. h x (inr its)),
  )

pub root_body : (nester : Path) (slot : ℕ) (w : World) → option_map kind_of (w.body (slot ∷ nester)) ≡ Some kinds.Space
    → (far_field ((cut w nester slot).body []) ≡ None) × IsSome ((cut w nester slot).body [])
unfolding cut seen_by
root_body nester slot w h = by (w.body (slot ∷ nester)) h
  where
    seen : Option Body → Option Body
    seen o = option_map (λ b. unheld [] (seen_by (cutting (ports_of w nester slot) nester slot) b)) o

    by : (o : Option Body) → option_map kind_of o ≡ Some kinds.Space → (far_field (seen o) ≡ None) × IsSome (seen o)
    by (Some (Space birth holder)) h = (refl, refl)
    by (Some (Mutex locked)) h = cc
    by (Some Cond) h = cc
    by (Some (Mapping m)) h = cc
    by (Some (Region r)) h = cc
    by (Some (Port set served)) h = cc
    by (Some Portset) h = cc
    by (Some (Thread_of t)) h = cc
    by (Some (Reference to)) h = cc
    by None h = cc

-- ---- it begins in the world at the hold

abbrev pub preorder : World → Path → ℕ → List Path
preorder w nester slot = [] ∷ objects (cut w nester slot)

pub preorder_live : (w : World) (nester : Path) (slot : ℕ) → IsSome ((cut w nester slot).body []) → (q : Path) → IsIn q (preorder w nester slot)
    → IsSome ((cut w nester slot).body q)
preorder_live w nester slot live q (inl e) = subst (λ (q : Path). IsSome ((cut w nester slot).body q)) e live
preorder_live w nester slot live q (inr h) = of_objects (cut w nester slot) q h

pub root_is : (nester : Path) (slot : ℕ) (w : World) → IsHolding nester slot w → IsValid w
    → (far_field ((cut w nester slot).body []) ≡ None) × IsSome ((cut w nester slot).body [])
unfolding kind_there
root_is nester slot w holding valid = root_body nester slot w (root_kind nester slot w holding valid)

pub first_base : (nester : Path) (slot : ℕ) (w : World) → IsHolding nester slot w → (near : far_field ((cut w nester slot).body []) ≡ None)
    → IsScratched nester w → Base nester slot w near w
unfolding led
first_base nester slot w holding near scratched = record {
  holding = holding;
  inside = inside-itself (slot ∷ nester) w;
  same = refl;
  leads = λ q. refl;
  scratched = scratched;
}

-- what is left of all tasks is the first place
pub rests_are : (nester : Path) (slot : ℕ) (start : World) (near : far_field ((cut start nester slot).body []) ≡ None) →
    rests nester slot start near (map (task_of (cut start nester slot)) (preorder start nester slot)) ≡ open_place start nester slot
unfolding open_place led
rests_are nester slot start near = ap (first_place (open_field start nester slot) slot) (paths-back (cut start nester slot) (preorder start nester slot))

module _ (nester : Path) (slot : ℕ) (w : World) (holding : IsHolding nester slot w) (sound : IsSound w) (scratched : IsScratched nester w) where
  its_root : (far_field ((cut w nester slot).body []) ≡ None) × IsSome ((cut w nester slot).body [])
  its_root = root_is nester slot w holding sound.whole.valid

  abbrev tasks : List Task
  tasks = map (task_of (cut w nester slot)) (preorder w nester slot)

  abbrev verdict : Option Place
  verdict = rests nester slot w its_root.0 tasks

  begun_here : Stands nester slot w its_root.0 w (begin slot tasks) verdict
  begun_here =
      begins nester slot w its_root.0 w tasks (first_base nester slot w holding its_root.0 scratched)
      (all_tasks nester slot w its_root.0 (preorder w nester slot) (preorder_live w nester slot its_root.1))

  later : (v : World) (t : State) (es : List Event) → Interleaved (seeker slot) nester w (begin slot tasks) es v t → Stands nester slot w its_root.0 v t verdict
  later v t es run = arrives nester slot w its_root.0 w v (begin slot tasks) t es verdict begun_here run

  verdict_is : verdict ≡ open_place w nester slot
  unfolding open_place led
  verdict_is = ap (first_place (open_field w nester slot) slot) (paths-back (cut w nester slot) (preorder w nester slot))

pub foreign_is_exact : ForeignIsExact
foreign_is_exact nester slot w v t es end holding sound scratched run stops =
    let root_near = its_root nester slot w holding sound scratched in
    finds nester slot w root_near.0 v t end (verdict nester slot w holding sound scratched) (later nester slot w holding sound scratched v t es run) stops
    ∙ verdict_is nester slot w holding sound scratched

pub seeker_is_ready : SeekerIsReady
seeker_is_ready nester slot w v t es stage words holding sound scratched run asks calm =
    let root_near = its_root nester slot w holding sound scratched in
    let stands = later nester slot w holding sound scratched v t es run in
    let valid = last_sound (seeker slot) nester w (begin slot (tasks nester slot w holding sound scratched)) es v t run in
    let comes = comes_next nester slot w root_near.0 v stands.base valid.whole.valid valid.whole.few t stage words stands.position stands.tasks asks in
    subst (λ (ws : List ℕ). IsReadyAt v (call_of nester stage ws)) (sym comes.0)
    (unheld_call_ready nester slot v stage no_words comes.1.changes (Answered comes.1.status comes.1.given) stands.base.holding calm comes.1.row)

pub seeking_keeps_open_place : SeekingKeepsOpenPlace
unfolding led
seeking_keeps_open_place nester slot w v t es holding sound scratched run =
    let stands = later nester slot w holding sound scratched v t es run in
    open_same w v nester slot stands.base.same stands.base.leads
