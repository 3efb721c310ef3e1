-- A restorer begins: its space is made, or its slot is taken.
use Rattle.std.proofs.Common.{◌≡◌, ℕ, ◌≤◌, ◌<◌, Bool, true, false, cond, ◌&&◌, nat_le, IsSome, is_some, IfSome, List, [], ◌∷◌, ◌++◌, length, Option, Some, None}
use Rattle.std.proofs.Common.{option_map, refl, sym, ap, subst, arith, length-append, ◌∙◌, ◌⊎◌, inl, inr}
use Rattle.std.proofs.lemmas.Bool.{and_parts, leb-true, le-leb}
use Rattle.fk_model.specs.declared.limits.TheConstants.{LAST_USER_SLOT, FIRST_SCRATCH_SLOT, LAST_SCRATCH_SLOT, LAST_PORTER_SLOT}
use Rattle.fk_model.specs.declared.stage.Stage.{Stage}
use Rattle.fk_model.specs.declared.stage.Stage.TheVariants.{SpaceMakeHeld}
use Rattle.fk_model.specs.declared.statuses.status.TheConstants.{OK, OCCUPIED}
use Rattle.fk_model.specs.Places.{Path, same_path}
use Rattle.fk_model.specs.Places.Ptr.{At}
use Rattle.fk_model.specs.Objects.{Body, kind_of}
use Rattle.fk_model.specs.World.{World, apply, apply_all}
use Rattle.fk_model.specs.World.Change.{MakeSpace}
use Rattle.fk_model.specs.Holds.{decider}
use Rattle.fk_model.specs.Outcomes.{Outcome, ◌>>=◌, refuse, done}
use Rattle.fk_model.specs.Outcomes.Outcome.{Goes}
use Rattle.fk_model.specs.Outcomes.Said.{Answered}
use Rattle.fk_model.specs.SpaceRows.{space_make_held}
use Rattle.fk_model.specs.ObjectRows.{is_scratch}
use Rattle.fk_model.specs.Moves.{closed, with_pick, call_row}
use Rattle.fk_model.specs.Runs.{after}
use Rattle.fk_model.specs.Valid.{IsValid, kind_there}
use Rattle.fk_model.specs.Cut.{seen_by, unheld}
use Rattle.fk_model.proofs.walks.PlaceLaws.{same_path_refl, same_path_ne, strip-append}
use Rattle.laws_subtrees.specs.Cut.Likeness.{seeing, IsLikeness}
use Rattle.laws_moves.proofs.InFrozen.Holding.{holder_none, none_above, decider_none}
use Rattle.laws_jobs.specs.Machines.{no_words, porter, call_of}
use Rattle.laws_jobs.specs.Machines.{Reply, IsAnswered}
use Rattle.laws_restore.specs.Sites.Orders.{pin_of, eye, bare, Shows}
use Rattle.laws_restore.specs.Sites.Orders.{alone}
use Rattle.laws_restore.specs.Sites.Begun.{first, Begins}
use Rattle.laws_jobs.proofs.Goings.{Called, called, goes_by}

module _ (nester : Path) (slot : ℕ) (w : World) (reply : Reply) (low : slot ≤ LAST_USER_SLOT)
    (answered : IsAnswered nester w (SpaceMakeHeld slot) no_words reply) where
  abbrev root : Path
  root = slot ∷ nester

  abbrev me : Path
  me = LAST_PORTER_SLOT ∷ nester

  abbrev stage : Stage
  stage = SpaceMakeHeld slot

  abbrev IsFreePorter : Type 0
  IsFreePorter = Called nester w stage no_words

  free_porter : IsFreePorter
  free_porter = called nester w stage no_words answered.ready

  abbrev pub made_as : Option Body → Outcome
  made_as None = Goes (MakeSpace root (Some (At me)) ∷ []) (Answered OK [])
  made_as (Some b) = Goes [] (Answered OCCUPIED [])

  abbrev call_on : Option Body → Outcome
  call_on o = closed (porter nester no_words) (with_pick false None (refuse OCCUPIED (is_some o)
      >>= (λ u. done (porter nester no_words) (MakeSpace root (Some (At me)) ∷ []) [])))

  call_made : (o : Option Body) → call_on o ≡ made_as o
  call_made None = refl
  call_made (Some b) = refl

  pub make-row : call_row w (porter nester no_words) None stage ≡ made_as (w.body root)
  unfolding call_row space_make_held
  make-row = rw (le-leb slot LAST_PORTER_SLOT (omega (arith, low))) (call_made (w.body root))

  -- ---- the new space, with nothing in it

  module _ (valid : IsValid w) (empty : w.body root ≡ None) where
    abbrev made : World
    made = apply (MakeSpace root (Some (At me))) w

    pub none_beneath : (q : Path) → w.body (q ++ root) ≡ None
    unfolding kind_there
    none_beneath [] = empty
    none_beneath (k ∷ q) = by (w.body (k ∷ (q ++ root))) refl (none_beneath q)
      where
        by : (o : Option Body) → w.body (k ∷ (q ++ root)) ≡ o → w.body (q ++ root) ≡ None → o ≡ None
        by None e none = refl
        by (Some b) e none =
            let live : IsSome (w.body (k ∷ (q ++ root))) = rw e refl in
            let space = valid.consistent.parents k (q ++ root) live in
            let off : option_map kind_of (w.body (q ++ root)) ≡ None = rw none refl in
            cc

    no_pages : (q : Path) (page : ℕ) → w.page (q ++ root) page ≡ None
    unfolding kind_there
    no_pages q page = by (w.page (q ++ root) page) refl
      where
        by : (o : Option (List ℕ)) → w.page (q ++ root) page ≡ o → o ≡ None
        by None e = refl
        by (Some words) e =
            let live : IsSome (w.page (q ++ root) page) = rw e refl in
            let place = valid.paged (q ++ root) page live in
            let space = place.space in
            let off : option_map kind_of (w.body (q ++ root)) ≡ None = rw (none_beneath q) refl in
            cc

    beneath : (k : ℕ) (q : Path) → same_path (k ∷ (q ++ root)) root ≡ false
    beneath k q = same_path_ne (k ∷ (q ++ root)) root (λ e. omega (arith, ap length e, length-append q root))

    high : (k : ℕ) → is_scratch nester (k ∷ nester) ≡ true → LAST_USER_SLOT < k
    high k h =
        let both = and_parts (same_path nester nester && nat_le FIRST_SCRATCH_SLOT k) (nat_le k LAST_SCRATCH_SLOT) h in
        let first = and_parts (same_path nester nester) (nat_le FIRST_SCRATCH_SLOT k) both.0 in
        let least = leb-true FIRST_SCRATCH_SLOT k first.1 in
        omega (arith, least)

    slot_apart : (k : ℕ) → LAST_USER_SLOT < k → same_path (k ∷ nester) root ≡ false
    slot_apart k far = same_path_ne (k ∷ nester) root (λ e. let same : k ≡ slot = cc in omega (arith, same, far, low))

    made_alone : IsLikeness root (eye nester slot) alone (bare root made)
    unfolding apply kind_there seen_by
    made_alone = record {
      bodies = λ q. its q;
      pages = λ q page. sym (no_pages q page);
      unborn = refl;
      top = rw (same_path_ne root (pin_of root) (λ e. omega (arith, ap length e)), same_path_refl root) refl;
      plain = λ k q. rw (beneath k q, none_beneath (k ∷ q)) (nothing _ (same_path (k ∷ (q ++ root)) (pin_of root)));
      within = λ x. rw (strip-append root x) refl;
      null = refl;
      dead = refl;
    }
      where
        nothing : (P : Body → Type 0) (t : Bool) → IfSome (cond {A = Option Body} t None None) P
        nothing P true = tt
        nothing P false = tt

        both_none : (t : Bool) → None ≡ cond {A = Option Body} t None None
        both_none true = refl
        both_none false = refl

        its : (q : Path) → alone.body q ≡ option_map (λ b. unheld q (seen_by (seeing (eye nester slot)) b)) ((bare root made).body (q ++ root))
        its [] = rw (same_path_ne root (pin_of root) (λ e. omega (arith, ap length e)), same_path_refl root) refl
        its (k ∷ q) = rw (beneath k q, none_beneath (k ∷ q), ← both_none (same_path (k ∷ (q ++ root)) (pin_of root))) refl

    made_shows : IsFreePorter → ((k : ℕ) → is_scratch nester (k ∷ nester) ≡ true → w.body (k ∷ nester) ≡ None) → Shows nester slot first made
    unfolding apply
    made_shows is scratch = record {
      low = low;
      holder = rw (same_path_refl root) refl;
      above = decider_none made nester (λ p a e. rw (same_path_ne a root (λ same. omega (arith, ap length e, ap length same, length-append p a)))
          (holder_none w a (none_above w p a (subst (λ (y : Path). decider w y ≡ None) e is.free))));
      porter = rw (slot_apart LAST_PORTER_SLOT (omega arith)) is.native;
      like = made_alone;
      pin = rw (beneath FIRST_SCRATCH_SLOT []) (none_beneath (FIRST_SCRATCH_SLOT ∷ []));
      spots = λ k its. rw (slot_apart k (high k its)) (scratch k its);
    }

pub begins : Begins
unfolding apply_all
begins nester slot w reply low scratch answered = by (w.body (slot ∷ nester)) refl
  where
    by : (o : Option Body) → w.body (slot ∷ nester) ≡ o →
        ((w.body (slot ∷ nester) ≡ None) × (reply.status ≡ OK) × Shows nester slot first (after w (call_of nester (SpaceMakeHeld slot) no_words))) ⊎
        (IsSome (w.body (slot ∷ nester)) × (reply.status ≡ OCCUPIED) × (after w (call_of nester (SpaceMakeHeld slot) no_words) ≡ w))
    by None e =
        let made = MakeSpace (slot ∷ nester) (Some (At (LAST_PORTER_SLOT ∷ nester))) in
        let goes = goes_by nester w (SpaceMakeHeld slot) no_words reply answered (made ∷ []) OK [] (make-row nester slot w reply low answered
        ∙ ap (made_as nester slot w reply low answered) e) in
        inl (e, goes.1.0, rw goes.0 (made_shows nester slot w reply low answered answered.valid e (free_porter nester slot w reply low answered) scratch))
    by (Some b) e =
        let goes = goes_by nester w (SpaceMakeHeld slot) no_words reply answered [] OCCUPIED [] (make-row nester slot w reply low answered
        ∙ ap (made_as nester slot w reply low answered) e) in
        inr (rw e refl, goes.1.0, goes.0)
