-- The near porter's calls are few.
use Rattle.std.proofs.Common.{◌≡◌, ℕ, ◌+◌, ◌*◌, ◌≤◌, inl, [], ◌∷◌, Option, Some, refl, sym, subst, arith}
use Rattle.fk_model.specs.declared.limits.TheConstants.{LAST_USER_SLOT}
use Rattle.fk_model.specs.Cut.{cut}
use Rattle.fk_model.specs.Searches.{objects as all_objects}
use Rattle.fk_model.specs.World.{World}
use Rattle.fk_image.specs.declared.image.image.Image.{Image}
use Rattle.laws_jobs.specs.Machines.{LiesWithin}
use Rattle.laws_checkpoint.specs.Checkpoint as checks
use Rattle.laws_checkpoint.specs.Bounded.{count_of}
use Rattle.laws_checkpoint.proofs.Bounds.{checkpoint_is_bounded}
use Rattle.laws_restore.specs.Restore.Bounded.{count_of as count_in}
use Rattle.laws_restore.specs.Restore.Restore.{objects}
use Rattle.laws_restore.specs.Restore.Roomed.{IsRoomed}
use Rattle.laws_restore.specs.Rooms.Rooms.{rooms_of}
use Rattle.laws_restore.specs.Rooms.Restoring.{bound_by}
use Rattle.laws_restore.proofs.InRooms.Restored.{roomed}
use Rattle.laws_handover.specs.NearSide.{Near}
use Rattle.laws_handover.specs.Handover.{run, first}
use Rattle.laws_migrate.specs.Migration.{Why, top, kernels, is_near_own, counted_from}
use Rattle.laws_migrate.specs.Bounded.{NearIsBounded}
use Rattle.laws_migrate.proofs.Listed.{count_few, stages_few}
use Rattle.laws_migrate.proofs.Nears.{NearAt, Began, IsImageOf, Worked, image_job}
use Rattle.laws_migrate.proofs.Migrates.{stands_here}

sums : (n m stages bound count : ℕ) → m ≤ 100 * bound → n ≤ m + stages + 1 → stages + 1 ≤ count → count ≤ bound → n ≤ 101 * bound
sums n m stages bound count few spends least most = omega (arith, few, spends, least, most)

under : (count d : ℕ) → count ≤ (count + 1) * (d + 1)
under count d = omega arith

hundred : (n bound : ℕ) → n ≤ 100 * bound → n ≤ 101 * bound
hundred n bound few = omega (arith, few)

module _ (slot : ℕ) (low : slot ≤ LAST_USER_SLOT) where
  -- the image lists no more than the subtree has, and the stages of destroying are no more than its bodies
  pub count_least : (w : World) (image : Image) → IsImageOf slot low w image → count_in (rooms_of image) ≤ count_of (cut w top slot)
  count_least w image of =
      count_few (bound_by []) (cut w top slot) image
      (subst (λ (c : World). IsRoomed (bound_by []) c (rooms_of image)) of.pictured (roomed slot image [] (image_job slot low image of.valid)))
      ([] ∷ all_objects (cut w top slot)) (inl refl) of.listed

  few_stages : (w : World) (image : Image) → IsImageOf slot low w image → objects (rooms_of image) + 1 ≤ count_of (cut w top slot)
  few_stages w image of =
      stages_few (bound_by []) (cut w top slot) image
      (subst (λ (c : World). IsRoomed (bound_by []) c (rooms_of image)) of.pictured (roomed slot image [] (image_job slot low image of.valid)))
      ([] ∷ all_objects (cut w top slot)) (inl refl) of.listed

  worked_bound : (n : ℕ) (w h v : World) (s : checks.State) (d : ℕ) → Began slot low w → Worked slot low w v s n → w ≡ h → LiesWithin (cut h top slot) d
      → n ≤ 101 * ((count_of (cut h top slot) + 1) * (d + 1))
  worked_bound n w h v s d began work same deep =
      let few = checkpoint_is_bounded slot began.birth w v top s d low began.may (subst (λ (x : World). LiesWithin (cut x top slot) d)
      (sym same) deep) work.work in
      subst (λ (x : World). n ≤ 101 * ((count_of (cut x top slot) + 1) * (d + 1))) same
      (hundred n ((count_of (cut w top slot) + 1) * (d + 1)) (subst (λ (m : ℕ). m ≤ 100 * ((count_of (cut w top slot) + 1) * (d + 1))) work.count few))

  stages_bound : (n m more : ℕ) (w h u : World) (image : Image) (d : ℕ) → Began slot low w → IsImageOf slot low w image
      → Worked slot low w u (checks.Releases (checks.Done image)) m
      → n ≤ m + objects (rooms_of image) + 1 → w ≡ h → LiesWithin (cut h top slot) d → n ≤ 101 * ((count_of (cut h top slot) + 1) * (d + 1))
  stages_bound n m more w h u image d began of before spends same deep =
      let few = checkpoint_is_bounded slot began.birth w u top (checks.Releases (checks.Done image)) d low began.may
      (subst (λ (x : World). LiesWithin (cut x top slot) d) (sym same) deep) before.work in
      let made_few = subst (λ (c : ℕ). c ≤ 100 * ((count_of (cut w top slot) + 1) * (d + 1))) before.count few in
      subst (λ (x : World). n ≤ 101 * ((count_of (cut x top slot) + 1) * (d + 1))) same
      (sums n m (objects (rooms_of image)) ((count_of (cut w top slot) + 1) * (d + 1)) (count_of (cut w top slot)) made_few spends
      (few_stages w image of) (under (count_of (cut w top slot)) d))

  near_bound : (n : ℕ) (o : Option World) (h v : World) (side : Near checks.State Image Why) (d : ℕ) → NearAt slot low n o v side → o ≡ Some h
      → LiesWithin (cut h top slot) d → n ≤ 101 * ((count_of (cut h top slot) + 1) * (d + 1))
  near_bound _ _ h _ _ d (NearAt.Fresh v fresh) e deep = cc
  near_bound _ _ h _ _ d (NearAt.Saving m w v s began work going works) e deep = worked_bound m w h v s d began work (let same : w ≡ h = cc in same) deep
  near_bound _ _ h _ _ d (NearAt.Waiting m w v image began work) e deep = worked_bound m w h v _ d began work (let same : w ≡ h = cc in same) deep
  near_bound _ _ h _ _ d (NearAt.Cancelling m w v image why began work) e deep = worked_bound m w h v _ d began work (let same : w ≡ h = cc in same) deep
  near_bound _ _ h _ _ d (NearAt.Cancelled m w u v image why began of work sound) e deep = worked_bound m w h u _ d began work
      (let same : w ≡ h = cc in same) deep
  near_bound _ _ h _ _ d (NearAt.Failed m w u v end why began work is sound) e deep = worked_bound m w h u _ d began work (let same : w ≡ h = cc in same) deep
  near_bound _ _ h _ _ d (NearAt.Clearing c w v image more number m u began of named sound left before spends) e deep =
      stages_bound c m more w h u image d began of before (omega (arith, spends)) (let same : w ≡ h = cc in same) deep
  near_bound _ _ h _ _ d (NearAt.Cleared c w v image number m u began of named sound spent before spends) e deep =
      stages_bound c m 0 w h u image d began of before (omega (arith, spends)) (let same : w ≡ h = cc in same) deep

pub near_is_bounded : {P : Type 0} → NearIsBounded P
near_is_bounded codec slot w v es h d its deep =
    let p = run (kernels codec slot) (first (kernels codec slot) w v) es in
    near_bound slot its.may.low (counted_from is_near_own 0 es) (Some h) h p.near_world p.near d
    (stands_here codec slot its.may.low its.good w v es h its).near refl deep
