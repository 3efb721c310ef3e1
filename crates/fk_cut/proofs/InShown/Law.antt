-- Equal lists are those of equal cuts.
use Rattle.std.proofs.Common.{◌≡◌, ℕ, zero, ◌<◌, Bool, true, false, if◌then◌else◌, ◌&&◌, IsSome, List, [], ◌∷◌, ◌++◌, map, Option, Some, None}
use Rattle.std.proofs.Common.{option_map, inl, inr, refl, sym, ap, subst, ◌∙◌, arith}
use Rattle.std.specs.List.{flat_map}
use Rattle.std.proofs.lemmas.List.{length-append}
use Rattle.fk_model.specs.declared.limits.TheConstants.{PAGES}
use Rattle.fk_model.specs.declared.names.Kind.{Kind}
use Rattle.fk_model.specs.declared.names.Kind.TheVariants as kinds
use Rattle.fk_model.specs.Places.{Path, same_path, strip, Ptr}
use Rattle.fk_model.specs.Places.Ptr.{Null, Dead, At, Out, Outside, Far}
use Rattle.fk_model.specs.Objects.{Body, kind_of, and_then}
use Rattle.fk_model.specs.Objects.Body.{Mutex, Cond, Mapping, Region, Port, Portset, Space, Thread_of, Reference}
use Rattle.fk_model.specs.World.{World}
use Rattle.fk_model.specs.Searches.{objects}
use Rattle.fk_model.specs.Shapes.{IsShaped}
use Rattle.fk_model.specs.Valid.{IsRooted, kind_there, leads_there, all_in, is_good}
use Rattle.fk_model.specs.Whole.{IsWhole, IsSavable}
use Rattle.fk_model.specs.Cut.{ports_of, cut_out, cut_to, cut_ptr, cutting, seen_by, unheld, cut}
use Rattle.fk_model.proofs.walks.Members.{IsIn}
use Rattle.fk_model.proofs.walks.WalkLaws.{live_above, short, walked}
use Rattle.fk_cut.specs.declared.cuts.cutting.CutObject.{CutObject}
use Rattle.fk_cut.specs.declared.cuts.cutting.CutWorld.{CutWorld}
use Rattle.fk_cut.specs.Cuts.Shown.{object_there, pages_there}
use Rattle.fk_cut.specs.Shown.Determined.{IsSavedAs, EqualListsAreEqualCuts}
use Rattle.fk_cut.proofs.InShown.Told.{IsSeen, IsSeenThere, same-told}
use Rattle.fk_cut.proofs.InShown.Lists.{same-paths, same-objects, page-in, page-of}

-- ---- bodies that are seen

some-mapped : {A B : Type 0} (f : A → B) (o : Option A) → IsSome o → IsSome (option_map f o)
some-mapped f (Some a) h = refl
some-mapped f None h = cc

some-before : {A B : Type 0} (f : A → B) (o : Option A) → IsSome (option_map f o) → IsSome o
some-before f (Some a) h = refl
some-before f None h = cc

module _ (ports : ℕ → Bool) (nester : Path) (slot : ℕ) where
  -- what leads to a thread is seen as something
  leads-somewhere : (there : Path → Option Kind) (holder : Option Ptr) → all_in (leads_there there (kinds.Thread ∷ [])) holder ≡ true →
      and_then (λ p. Some (cut_ptr ports nester slot p)) holder ≡ Some Null → ⊥
  leads-somewhere there None good h = cc
  leads-somewhere there (Some Null) good h = cc
  leads-somewhere there (Some Dead) good h = cc
  leads-somewhere there (Some (At x)) good h = by (strip (slot ∷ nester) x) h
    where
      out : (x : Path) → Some (cut_out ports nester x) ≡ Some Null → ⊥
      out [] h = cc
      out (i ∷ x) h = test (same_path x nester && ports i) h
        where
          test : (t : Bool) → Some (if t then Out i else Far) ≡ Some Null → ⊥
          test true h = cc
          test false h = cc

      by : (o : Option Path) → Some (cut_to ports nester x o) ≡ Some Null → ⊥
      by (Some q) h = cc
      by None h = out x h
  leads-somewhere there (Some (Out i)) good h = cc
  leads-somewhere there (Some Outside) good h = cc
  leads-somewhere there (Some Far) good h = cc

  seen-well : (there : Path → Option Kind) (x : Path) (b : Body) → IsShaped b → is_good there x b ≡ true →
      IsShaped (seen_by (cutting ports nester slot) b) × IsSeen (seen_by (cutting ports nester slot) b)
  unfolding seen_by
  seen-well there x (Thread_of t) shaped good = (shaped, tt)
  seen-well there x (Space birth holder) shaped good = (tt, (refl, leads-somewhere there holder good))
  seen-well there x (Port set served) shaped good = (tt, refl)
  seen-well there x (Mutex locked) shaped good = (tt, tt)
  seen-well there x Cond shaped good = (tt, tt)
  seen-well there x (Mapping m) shaped good = (tt, tt)
  seen-well there x (Region r) shaped good = (tt, tt)
  seen-well there x Portset shaped good = (tt, tt)
  seen-well there x (Reference to) shaped good = (tt, tt)

-- also without the holder of the root
unheld-well : (q : Path) (b : Body) → IsShaped b × IsSeen b → IsShaped (unheld q b) × IsSeen (unheld q b)
unheld-well [] (Space birth holder) well = (tt, (well.1.0, λ e. cc))
unheld-well [] (Mutex locked) well = well
unheld-well [] b well = well
unheld-well (k ∷ q) b well = well

shaped-body : (w : World) → IsSavable w → (x : Path) (b : Body) → w.body x ≡ Some b → IsShaped b
shaped-body w savable x (Thread_of t) there = savable.shaped x t (rw there refl)
shaped-body w savable x (Mutex locked) there = tt
shaped-body w savable x b there = tt

module _ (w : World) (nester : Path) (slot : ℕ) (whole : IsWhole w) (savable : IsSavable w) where
  seen-there : (q : Path) → IsSeenThere ((cut w nester slot).body q)
  unfolding cut
  seen-there q = by (w.body (q ++ slot ∷ nester)) refl
    where
      by : (o : Option Body) → w.body (q ++ slot ∷ nester) ≡ o →
          IsSeenThere (option_map (λ b. unheld q (seen_by (cutting (ports_of w nester slot) nester slot) b)) o)
      by None e = tt
      by (Some b) e =
          let good = whole.valid.consistent.good (q ++ slot ∷ nester) in
          unheld-well q (seen_by (cutting (ports_of w nester slot) nester slot) b)
          (seen-well (ports_of w nester slot) nester slot (kind_there w) (q ++ slot ∷ nester) b (shaped-body w savable (q ++ slot ∷ nester) b e) (rw e at good))

  -- ---- the walk comes to all that is there

  live-before : (q : Path) → IsSome ((cut w nester slot).body q) → IsSome (w.body (q ++ slot ∷ nester))
  unfolding cut
  live-before q h = some-before _ (w.body (q ++ slot ∷ nester)) h

  live-seen : (q : Path) → IsSome (w.body (q ++ slot ∷ nester)) → IsSome ((cut w nester slot).body q)
  unfolding cut
  live-seen q h = some-mapped _ (w.body (q ++ slot ∷ nester)) h

  above : (k : ℕ) (x : Path) → IsSome ((cut w nester slot).body (k ∷ x)) → IsSome ((cut w nester slot).body x)
  above k x h = live-seen x (live_above w whole.valid.consistent k (x ++ slot ∷ nester) (live-before (k ∷ x) h))

  -- what has something in it is a space
  root-space : (k : ℕ) (x : Path) → IsSome (w.body (k ∷ (x ++ slot ∷ nester))) → kind_there w (slot ∷ nester) ≡ Some kinds.Space
  root-space k [] h = whole.valid.consistent.parents k (slot ∷ nester) h
  root-space k (j ∷ x) h = root-space j x (live_above w whole.valid.consistent k (j ∷ (x ++ slot ∷ nester)) h)

  seen-kind : (b : Body) → kind_of b ≡ kinds.Space →
      kind_of (unheld [] (seen_by (cutting (ports_of w nester slot) nester slot) b)) ≡ kinds.Space
  unfolding seen_by
  seen-kind (Space birth holder) h = refl
  seen-kind (Mutex locked) h = cc
  seen-kind b h = cc

  rooted : kind_there w (slot ∷ nester) ≡ Some kinds.Space → IsRooted (cut w nester slot)
  unfolding cut kind_there
  rooted space = record { root = root (w.body (slot ∷ nester)) space; slots = λ k x h. whole.valid.rooted.slots k (x ++ slot ∷ nester) (some-before _ _ h) }
    where
      root : (o : Option Body) → option_map kind_of o ≡ Some kinds.Space →
          option_map kind_of (option_map (λ b. unheld [] (seen_by (cutting (ports_of w nester slot) nester slot) b)) o) ≡ Some kinds.Space
      root (Some b) h = let kind : kind_of b ≡ kinds.Space = cc in ap (λ k. Some k) (seen-kind b kind)
      root None h = cc

  pub walk-all : (q : Path) → IsSome ((cut w nester slot).body q) → IsIn q ([] ∷ objects (cut w nester slot))
  walk-all [] h = inl refl
  walk-all (k ∷ x) h =
      let live = live-before (k ∷ x) h in
      let long = short w whole.valid.consistent (k ∷ (x ++ slot ∷ nester)) live in
      let few = whole.few in
      let all = length-append x (slot ∷ nester) in
      inr (walked (cut w nester slot) above (rooted (root-space k x live)) k x h (omega (arith, long, few, all)))

  -- a page lies in a space of the cut
  pub page-place : (q : Path) (page : ℕ) → IsSome ((cut w nester slot).page q page) → IsIn q ([] ∷ objects (cut w nester slot)) × (page < PAGES)
  unfolding cut kind_there
  page-place q page h =
      let place = whole.valid.paged (q ++ slot ∷ nester) page h in
      (walk-all q (live-seen q (live (w.body (q ++ slot ∷ nester)) place.space)), place.number)
    where
      live : (o : Option Body) → option_map kind_of o ≡ Some kinds.Space → IsSome o
      live (Some b) h = refl
      live None h = cc

-- ---- the law

module _ (w v : World) (n m : Path) (i j : ℕ) (lists : CutWorld) (first : IsSavedAs w n i lists) (second : IsSavedAs v m j lists) where
  objects-same : map (object_there (cut w n i)) ([] ∷ objects (cut w n i)) ≡ map (object_there (cut v m j)) ([] ∷ objects (cut v m j))
  objects-same = sym first.shown.objects ∙ second.shown.objects

  walks-same : [] ∷ objects (cut w n i) ≡ [] ∷ objects (cut v m j)
  walks-same = same-paths (cut w n i) (cut v m j) _ _ objects-same

  told-same : (q : Path) → IsIn q ([] ∷ objects (cut w n i)) → (cut w n i).body q ≡ (cut v m j).body q
  told-same q is =
      let same = objects-same ∙ ap (map (object_there (cut v m j))) (sym walks-same) in
      let both = same-objects (cut w n i) (cut v m j) ([] ∷ objects (cut w n i)) same q is in
      same-told ((cut w n i).body q) ((cut v m j).body q) (seen-there w n i first.whole first.savable q) (seen-there v m j second.whole second.savable q)
      (ap (λ (o : CutObject). o.words) both) (ap (λ (o : CutObject). o.ptrs) both)

  bodies-same : (q : Path) → (cut w n i).body q ≡ (cut v m j).body q
  bodies-same q = by ((cut w n i).body q) ((cut v m j).body q) refl refl
    where
      by : (a b : Option Body) → (cut w n i).body q ≡ a → (cut v m j).body q ≡ b → a ≡ b
      by None None e f = refl
      by (Some a) b e f = sym e ∙ told-same q (walk-all w n i first.whole first.savable q (rw e refl)) ∙ f
      by None (Some b) e f = sym e
          ∙ told-same q (subst (λ (xs : List Path). IsIn q xs) (sym walks-same) (walk-all v m j second.whole second.savable q (rw f refl))) ∙ f

  pages-listed : flat_map (pages_there (cut w n i)) ([] ∷ objects (cut w n i)) ≡ flat_map (pages_there (cut v m j)) ([] ∷ objects (cut v m j))
  pages-listed = sym first.shown.pages ∙ second.shown.pages

  pages-same : (q : Path) (page : ℕ) → (cut w n i).page q page ≡ (cut v m j).page q page
  pages-same q page = by ((cut w n i).page q page) ((cut v m j).page q page) refl refl
    where
      by : (a b : Option (List ℕ)) → (cut w n i).page q page ≡ a → (cut v m j).page q page ≡ b → a ≡ b
      by None None e f = refl
      by (Some a) b e f =
          let place = page-place w n i first.whole first.savable q page (rw e refl) in
          let is = page-in (cut w n i) ([] ∷ objects (cut w n i)) q page a place.0 place.1 e in
          sym (page-of (cut v m j) ([] ∷ objects (cut v m j)) q page a (rw pages-listed at is)) ∙ f
      by None (Some b) e f =
          let place = page-place v m j second.whole second.savable q page (rw f refl) in
          let is = page-in (cut v m j) ([] ∷ objects (cut v m j)) q page b place.0 place.1 f in
          sym e ∙ page-of (cut w n i) ([] ∷ objects (cut w n i)) q page b (rw (← pages-listed) at is)

  cuts-same : cut w n i ≡ cut v m j
  unfolding cut
  cuts-same = λ t. record { body = λ q. bodies-same q t; page = λ q page. pages-same q page t; next = zero }

pub equal_cuts : EqualListsAreEqualCuts
equal_cuts w v n m i j lists first second = cuts-same w v n m i j lists first second
