-- Gathered: what a gatherer has of the tasks of a subtree.
use Rattle.std.proofs.Common.{◌≡◌, ℕ, IsSome, List, [], ◌∷◌, map, None, refl}
use Rattle.std.proofs.Common.{sym, ap, subst, inl, inr}
use Rattle.fk_model.specs.Places.{Path, Ptr}
use Rattle.fk_model.specs.World.{World}
use Rattle.fk_model.specs.Closed.{far_field}
use Rattle.fk_model.specs.Cut.{cut}
use Rattle.fk_model.proofs.walks.Members.{IsIn}
use Rattle.laws_checkpoint.specs.Foreign.{Task}
use Rattle.laws_checkpoint.specs.Gather.{pointer_task, shown_at, begin}
use Rattle.laws_checkpoint.specs.Gather.{all_pointers, PointersAreGathered}
use Rattle.laws_checkpoint.proofs.Sought.{first_base, root_is}
use Rattle.laws_checkpoint.proofs.Gathers.{Tasks_ok, begins, arrives, finds}

module _ (nester : Path) (slot : ℕ) (start : World) (near : far_field ((cut start nester slot).body []) ≡ None) where
  pub tasks_ok : (qs : List Path) → ((q : Path) → IsIn q qs → IsSome ((cut start nester slot).body q))
      → Tasks_ok nester slot start near (map (pointer_task (cut start nester slot)) qs)
  tasks_ok [] h = tt
  tasks_ok (q ∷ qs) h = (
    record {
      is = ap (pointer_task (cut start nester slot)) (sym (its q));
      live = subst (λ (q : Path). IsSome ((cut start nester slot).body q)) (sym (its q)) (h q (inl refl));
    },
    tasks_ok qs (λ x in_qs. h x (inr in_qs)),
  )
    where
      its : (q : Path) → (pointer_task (cut start nester slot) q).path ≡ q
      its [] = refl
      its (k ∷ q) = refl

pub pointers_are_gathered : PointersAreGathered
pointers_are_gathered nester slot w v t es got qs holding sound scratched live run stops =
    let near = (root_is nester slot w holding sound.whole.valid).0 in
    let tasks : List Task = map (pointer_task (cut w nester slot)) qs in
    let found : List Ptr = all_pointers (shown_at w nester slot) tasks in
    let first = begins nester slot w near w tasks [] (first_base nester slot w holding near scratched) scratched.steps (tasks_ok nester slot w near qs live) in
    finds nester slot w near v t got found (arrives nester slot w near w v (begin slot tasks []) t es found first run) stops
