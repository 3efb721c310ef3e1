-- The far porter's calls are few.
use Rattle.std.proofs.Common.{◌≡◌, ℕ, ◌+◌, ◌-◌, ◌*◌, ◌≤◌, true, false, List, [], ◌∷◌, Option, Some, None, refl, sym, subst, arith, ◌∙◌}
use Rattle.fk_model.specs.declared.limits.TheConstants.{LAST_USER_SLOT}
use Rattle.fk_model.specs.Places.{Path}
use Rattle.fk_model.specs.Cut.{cut}
use Rattle.fk_model.specs.World.{World}
use Rattle.fk_image.specs.declared.image.image.Image.{Image}
use Rattle.fk_image.specs.Image.Picture.{picture}
use Rattle.fk_image.specs.Image.Valid.{is_valid}
use Rattle.laws_jobs.specs.Machines.{LiesWithin}
use Rattle.laws_checkpoint.specs.Bounded.{count_of}
use Rattle.laws_restore.specs.Restore.Bounded.{count_of as count_in}
use Rattle.laws_restore.specs.Restore.Restore as restores
use Rattle.laws_restore.specs.Restore.Restore.{objects, beneath}
use Rattle.laws_restore.specs.Restore.Rooms.{Room}
use Rattle.laws_restore.specs.Rooms.Rooms.{rooms_of}
use Rattle.laws_restore.proofs.InRooms.Restored.{image_restore_is_bounded}
use Rattle.laws_handover.specs.FarSide as far
use Rattle.laws_handover.specs.FarSide.{Far}
use Rattle.laws_handover.specs.Packets.{Codec}
use Rattle.laws_handover.specs.Handover.{run, first}
use Rattle.laws_handover.specs.Laws.{far_image}
use Rattle.laws_handover.proofs.Meets.{same_image}
use Rattle.laws_migrate.specs.Migration.{Why, Job, top, kernels, Both, Step, make_from, is_near_own, is_far_own, counted_from}
use Rattle.laws_migrate.specs.Bounded.{FarIsBounded, BothAreBounded}
use Rattle.laws_migrate.specs.Laws.{Happens}
use Rattle.laws_migrate.proofs.Bounded.{count_least, near_is_bounded}
use Rattle.laws_migrate.proofs.Nears.{image_job, image_is_of}
use Rattle.laws_migrate.proofs.Fars as fars
use Rattle.laws_migrate.proofs.Fars.{FarAt, MakesAt}
use Rattle.laws_migrate.proofs.Migrates.{Stands, stands_here, exactly}

-- a stage of destroying is a body
one_beneath : (q : Path) → beneath q ≤ 1
one_beneath [] = omega arith
one_beneath (k ∷ q) = omega arith

few_stages : (rs : List Room) → objects rs ≤ count_in rs
few_stages [] = omega arith
few_stages (r ∷ rs) =
    let rest = few_stages rs in
    let one = one_beneath r.path in
    omega (arith, rest, one)

working : (n bound : ℕ) → n ≤ 40 * bound → n ≤ 41 * bound
working n bound few = omega (arith, few)

clearing : (n calls stages count bound : ℕ) → calls ≤ 40 * bound → n ≤ calls + stages + 1 → stages ≤ count → count + 1 ≤ bound → n ≤ 41 * bound
clearing n calls stages count bound few spends least most = omega (arith, few, spends, least, most)

under : (count d : ℕ) → count + 1 ≤ (count + 1) * (d + 1)
under count d = omega arith

module _ (P : Type 0) (slot : ℕ) (low : slot ≤ LAST_USER_SLOT) where
  abbrev FarSide : Type 0
  FarSide = Far Job Image P Why

  abbrev Few : ℕ → Image → Type 0
  Few n image = (d : ℕ) → LiesWithin (picture image) d → n ≤ 41 * ((count_in (rooms_of image) + 1) * (d + 1))

  abbrev has_image : Image → Option Image
  has_image i = Some i

  record IsFew (n : ℕ) (f : FarSide) : Type 0 where
    none : far_image f ≡ None → n ≡ 0
    some : (image : Image) → far_image f ≡ Some image → Few n image

  made_few : (image : Image) (n : ℕ) (w v : World) (t : restores.State) (d : ℕ) → is_valid image ≡ true → fars.Worked P slot low image w v t n
      → LiesWithin (picture image) d → n ≤ 40 * ((count_in (rooms_of image) + 1) * (d + 1))
  made_few image n w v t d valid work deep =
      subst (λ (m : ℕ). m ≤ 40 * ((count_in (rooms_of image) + 1) * (d + 1))) work.count
      (image_restore_is_bounded slot image [] d w v top t (image_job slot low image valid) deep work.work)

  work_few : (image : Image) (n : ℕ) (w v : World) (t : restores.State) → is_valid image ≡ true → fars.Worked P slot low image w v t n → Few n image
  work_few image n w v t valid work d deep =
      working n ((count_in (rooms_of image) + 1) * (d + 1)) (made_few image n w v t d valid work deep)

  clear_few : (image : Image) (n calls : ℕ) (w v : World) (t : restores.State) → is_valid image ≡ true → fars.Worked P slot low image w v t calls
      → n ≤ calls + objects (rooms_of image) + 1 → Few n image
  clear_few image n calls w v t valid work spends d deep =
      clearing n calls (objects (rooms_of image)) (count_in (rooms_of image)) ((count_in (rooms_of image) + 1) * (d + 1))
      (made_few image calls w v t d valid work deep) spends (few_stages (rooms_of image)) (under (count_in (rooms_of image)) d)

  of_image : (n : ℕ) (f : FarSide) (image : Image) → far_image f ≡ Some image → Few n image → IsFew n f
  of_image n f image is few = record { none = λ e. none (far_image f) is e; some = λ i e. some i (sym is ∙ e) }
    where
      none : (o : Option Image) → o ≡ Some image → o ≡ None → n ≡ 0
      none None is e = cc
      none (Some i) is e = cc

      some : (i : Image) → has_image image ≡ has_image i → Few n i
      some i e = let same : image ≡ i = cc in subst (λ (j : Image). Few n j) same few

  before : (f : FarSide) → far_image f ≡ None → IsFew 0 f
  before f none_yet = record { none = λ e. refl; some = λ i e. absurd (never (far_image f) i none_yet e) }
    where
      never : (o : Option Image) (i : Image) → o ≡ None → o ≡ Some i → ⊥
      never None i none_yet e = cc
      never (Some j) i none_yet e = cc

  makes_few : (image : Image) (n : ℕ) (o : Option World) (v : World) (s : restores.State) → MakesAt P slot low image n o v s → Few n image
  makes_few image _ _ _ _ (MakesAt.Begins v valid empty) = λ d deep. omega arith
  makes_few image _ _ _ _ (MakesAt.Goes_on n w v s valid began work going works copy) = work_few image n w v s valid work

  is_few : (n : ℕ) (o : Option World) (v : World) (f : FarSide) → FarAt P slot low n o v f → IsFew n f
  is_few _ _ _ _ (FarAt.Listening v got empty) = before (far.Listens got) refl
  is_few _ _ _ _ (FarAt.Never v sound) = before (far.Ended None false) refl
  is_few _ _ _ _ (FarAt.Making n o v image s makes) = of_image n _ image refl (makes_few image n o v s makes)
  is_few _ _ _ _ (FarAt.Undoing n o v image s makes) = of_image n _ image refl (makes_few image n o v s makes)
  is_few _ _ _ _ (FarAt.Standing n w v image stands) =
      of_image n (far.Built image) image refl (work_few image n w v (restores.Works []) stands.valid stands.work)
  is_few _ _ _ _ (FarAt.Releasing n w v image stands) =
      of_image n (far.Releases image) image refl (work_few image n w v (restores.Works []) stands.valid stands.work)
  is_few _ _ _ _ (FarAt.Moved n w u v image valid began work sound) =
      of_image n (far.Moved image) image refl (work_few image n w u (restores.Over restores.Done) valid work)
  is_few _ _ _ _ (FarAt.Refused n w v image end why ended says sound spent) =
      of_image n (far.Refuses image why) image refl (work_few image n w ended.last (restores.Over end) ended.valid ended.work)
  is_few _ _ _ _ (FarAt.Clearing n w v image more told its sound) =
      of_image n (far.Clears image more told) image refl
      (clear_few image n its.calls w its.last (restores.Works []) its.valid its.work (let spends = its.spends in omega (arith, spends)))
  is_few _ _ _ _ (FarAt.Undone n w v image end ended sound spent) =
      of_image n (far.Ended (Some image) false) image refl (work_few image n w ended.last (restores.Over end) ended.valid ended.work)
  is_few _ _ _ _ (FarAt.Cleared n w v image told cleared sound spent) =
      of_image n (far.Ended (Some image) told) image refl
      (clear_few image n cleared.calls w cleared.last (restores.Works []) cleared.valid cleared.work (let spends = cleared.spends in omega (arith, spends)))

wider : (a b d : ℕ) → a ≤ b → (a + 1) * (d + 1) ≤ (b + 1) * (d + 1)
wider a b d less =
    let more : b ≡ a + (b - a) = omega (arith, less) in
    subst (λ (m : ℕ). (a + 1) * (d + 1) ≤ (m + 1) * (d + 1)) (sym more) (omega arith)

within : (n small big : ℕ) → n ≤ 41 * small → small ≤ big → n ≤ 41 * big
within n small big few less = omega (arith, few, less)

none_more : (n bound : ℕ) → n ≡ 0 → n ≤ bound
none_more n bound none = omega (arith, none)

together : (near far bound : ℕ) → near ≤ 101 * bound → far ≤ 41 * bound → near + far ≤ 142 * bound
together near far bound one two = omega (arith, one, two)

module _ {P : Type 0} (codec : Codec Image P) (slot : ℕ) (w v : World) (es : List (Step codec slot)) (h : World) (its : Happens codec slot w v es h) where
  abbrev q : Both codec slot
  q = run (kernels codec slot) (first (kernels codec slot) w v) es

  abbrev made : Option World
  made = make_from codec slot None (first (kernels codec slot) w v) es

  abbrev calls : ℕ
  calls = counted_from is_far_own 0 es

  stands : Stands codec slot its.may.low its.good (counted_from is_near_own 0 es) calls (Some h) made q
  stands = stands_here codec slot its.may.low its.good w v es h its

  few : IsFew P slot its.may.low calls q.far
  few = is_few P slot its.may.low calls made q.far_world q.far stands.far

  few_by : (d : ℕ) → LiesWithin (cut h top slot) d → (o : Option Image) → far_image q.far ≡ o → calls ≤ 41 * ((count_of (cut h top slot) + 1) * (d + 1))
  few_by d deep None e = none_more calls (41 * ((count_of (cut h top slot) + 1) * (d + 1))) (few.none e)
  few_by d deep (Some image) e =
      let gathered = same_image (kernels codec slot) its.good.nothing w v es image (exactly codec slot its.may.low its.good w v es h its) e in
      let of = image_is_of slot its.may.low (counted_from is_near_own 0 es) (Some h) h q.near_world q.near image stands.near refl gathered in
      within calls ((count_in (rooms_of image) + 1) * (d + 1)) ((count_of (cut h top slot) + 1) * (d + 1))
      (few.some image e d (subst (λ (c : World). LiesWithin c d) (sym of.pictured) deep))
      (wider (count_in (rooms_of image)) (count_of (cut h top slot)) d (count_least slot its.may.low h image of))

pub far_is_bounded : {P : Type 0} → FarIsBounded P
far_is_bounded codec slot w v es h d its deep =
    few_by codec slot w v es h its d deep (far_image (run (kernels codec slot) (first (kernels codec slot) w v) es).far) refl

pub both_are_bounded : {P : Type 0} → BothAreBounded P
both_are_bounded codec slot w v es h d its deep =
    together (counted_from is_near_own 0 es) (counted_from is_far_own 0 es) ((count_of (cut h top slot) + 1) * (d + 1))
    (near_is_bounded codec slot w v es h d its deep) (far_is_bounded codec slot w v es h d its deep)
