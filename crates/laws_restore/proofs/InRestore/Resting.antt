-- A restore's calls leave what is neither in its new space nor its nester's scratch.
use Rattle.std.proofs.Common.{◌≡◌, ℕ, ◌≤◌, Bool, true, false, not, ◌||◌, ◌⊎◌, inl, inr, IsSome, is_some, List, [], ◌∷◌, ◌++◌, length, Option, Some, None}
use Rattle.std.proofs.Common.{option_map, refl, sym, ap, subst, arith, length-append, ◌∙◌}
use Rattle.std.specs.List.{list_any}
use Rattle.std.proofs.lemmas.Bool.{and_parts, or_cases}
use Rattle.fk_model.specs.declared.limits.TheConstants.{OWN_SPACE, LAST_USER_SLOT, LAST_PORTER_SLOT}
use Rattle.fk_model.specs.declared.names.Kind.{Kind}
use Rattle.fk_model.specs.declared.names.Kind.TheVariants as kinds
use Rattle.fk_model.specs.declared.stage.Stage.{Stage}
use Rattle.fk_model.specs.declared.stage.Stage.TheVariants.{Destroy, SpaceMakeHeld, SpaceRelease}
use Rattle.fk_model.specs.declared.statuses.status.TheConstants.{OK, OCCUPIED}
use Rattle.fk_model.specs.Places.{Path, same_path, strip, is_within, parent, Ptr, leads_to}
use Rattle.fk_model.specs.Places.Ptr.{At}
use Rattle.fk_model.specs.Objects.{Body, kind_of}
use Rattle.fk_model.specs.Objects.Body.{Mutex, Cond, Mapping, Region, Port, Portset, Space, Thread_of, Reference}
use Rattle.fk_model.specs.World.{World, Change, set_at, apply, apply_all}
use Rattle.fk_model.specs.World.Change.{Alter, Make, MakeSpace, Kill, Move, PutPage, DropPage}
use Rattle.fk_model.specs.Holds.{holder_of}
use Rattle.fk_model.specs.Freezing.{body_pointers, is_swept}
use Rattle.fk_model.specs.ObjectRows.{is_scratch, kills}
use Rattle.fk_model.specs.Runs.{after}
use Rattle.fk_model.specs.Valid.{IsValid, kind_there, is_one_of, all_in, is_good}
use Rattle.fk_model.proofs.walks.PlaceLaws.{same_path_eq, strip-append, strip_some}
use Rattle.laws_moves.proofs.InMachine.Frame.{apply-body}
use Rattle.laws_moves.specs.Frozen.Holding.{IsHolding, only_reference}
use Rattle.laws_moves.proofs.InFrozen.Frozen.{there_live}
use Rattle.laws_moves.specs.Savable.Savable.{IsSound}
use Rattle.laws_jobs.specs.Machines.{Reply, IsAnswered, no_words, call_of, said_of, reply_of, IsReadyAt}
use Rattle.laws_jobs.specs.Machines.Head.{Asks}
use Rattle.laws_jobs.specs.Jobs.{MayBegin}
use Rattle.laws_jobs.proofs.Dropped.{there_live as ref_live}
use Rattle.laws_jobs.proofs.Goings.{goes_by}
use Rattle.laws_jobs.proofs.Holds.{release_comes_to}
use Rattle.laws_jobs.proofs.Weaving.{now_sound}
use Rattle.laws_restore.specs.Sites.Orders.{Site, Shows, Order, stage_of, words_of, May}
use Rattle.laws_restore.specs.Sites.Begun.{first}
use Rattle.laws_restore.specs.Sites.Fit.{IsUnled}
use Rattle.laws_restore.specs.Sites.Near.{is_near, IsNearChange, AreNear}
use Rattle.laws_restore.proofs.InSites.Near.{own_calls_are_near, not_there}
use Rattle.laws_restore.proofs.InSites.Nearby.{inside_near}
use Rattle.laws_restore.proofs.InSites.Others.{holding}
use Rattle.laws_restore.proofs.InSites.Begun.{begins, make-row, made_as}
use Rattle.laws_restore.proofs.InSites.Restored.{own_call}
use Rattle.laws_restore.specs.Restore.Rooms.{Room}
use Rattle.laws_restore.specs.Restore.Roomed.{IsRoomed}
use Rattle.laws_restore.specs.Restore.Restore.{State, head, restore}
use Rattle.laws_restore.specs.Restore.Restore.State.{Makes as Begins}
use Rattle.laws_restore.specs.Restore.Rest.{IsSameFar, RestoreLeavesFar}
use Rattle.laws_restore.proofs.InRestore.Emptying.{IsEmptied, world, gone, gone_inside}
use Rattle.laws_restore.proofs.InRestore.Secluded.{IsSecluded, scratch_of, kills_near}
use Rattle.laws_restore.proofs.InRestore.Coming.{Came, came}
use Rattle.laws_restore.proofs.InRestore.Coming.Came.{Working, Dropping, Clearing, Finished, Missing, Taken}

neither : (a b : Bool) → (a || b) ≡ false → (a ≡ false) × (b ≡ false)
neither false false h = (refl, refl)
neither false true h = cc
neither true b h = cc

-- a set of ports that nothing but a set may be
no_set : (there : Path → Option Kind) (x y : Path) (o : Option Body) → all_in (is_good there y) o ≡ true → is_one_of (kinds.Portset ∷ []) (there x) ≡ false
    → list_any (leads_to x) (body_pointers o) ≡ false → is_swept x y o ≡ false
no_set there x y None good off unled = refl
no_set there x y (Some (Port None served)) good off unled = refl
no_set there x y (Some (Port (Some set) served)) good off unled = by (same_path (set_at y set) x) refl
  where
    by : (t : Bool) → same_path (set_at y set) x ≡ t → t ≡ false
    by false e = refl
    by true e =
        let here = same_path_eq (set_at y set) x e in
        let parts = and_parts (not served) (is_one_of (kinds.Portset ∷ []) (there (set_at y set))) good in
        let on : is_one_of (kinds.Portset ∷ []) (there x) ≡ true = subst (λ (z : Path). is_one_of (kinds.Portset ∷ []) (there z) ≡ true) here parts.1 in
        let both = sym on ∙ off in cc
no_set there x y (Some (Mutex locked)) good off unled = refl
no_set there x y (Some Cond) good off unled = refl
no_set there x y (Some (Mapping m)) good off unled = rw unled refl
no_set there x y (Some (Region r)) good off unled = rw unled refl
no_set there x y (Some Portset) good off unled = refl
no_set there x y (Some (Space birth holder)) good off unled = rw unled refl
no_set there x y (Some (Thread_of t)) good off unled = rw unled refl
no_set there x y (Some (Reference to)) good off unled = rw unled refl

-- a set lies beside its port
beside_set : (x y : Path) (k : ℕ) (o : Option Body) → list_any (leads_to x) (body_pointers o) ≡ false → ((set : ℕ) → x ≡ set ∷ parent y → ⊥)
    → is_swept x y o ≡ false
beside_set x y k None unled apart = refl
beside_set x y k (Some (Port None served)) unled apart = refl
beside_set x y k (Some (Port (Some set) served)) unled apart = by (same_path (set_at y set) x) refl
  where
    by : (t : Bool) → same_path (set_at y set) x ≡ t → t ≡ false
    by false e = refl
    by true e = absurd (apart set (sym (same_path_eq (set_at y set) x e)))
beside_set x y k (Some (Mutex locked)) unled apart = refl
beside_set x y k (Some Cond) unled apart = refl
beside_set x y k (Some (Mapping m)) unled apart = rw unled refl
beside_set x y k (Some (Region r)) unled apart = rw unled refl
beside_set x y k (Some Portset) unled apart = refl
beside_set x y k (Some (Space birth holder)) unled apart = rw unled refl
beside_set x y k (Some (Thread_of t)) unled apart = rw unled refl
beside_set x y k (Some (Reference to)) unled apart = rw unled refl

module _ (nester : Path) (slot : ℕ) where
  abbrev root : Path
  root = slot ∷ nester

  -- nothing far leads to what is near, or is a port whose set that is
  abbrev pub IsApart : World → Type 0
  IsApart v = (x y : Path) → is_near nester slot x ≡ true → is_near nester slot y ≡ false → is_swept x y (v.body y) ≡ false

  -- ---- a world in which a porter holds a space to which nobody leads

  module _ (v : World) (valid : IsValid v) (held : IsHolding nester slot v) (unled : IsUnled nester slot v) where
    space_kind : (o : Option Body) → holder_of o ≡ Some (At (LAST_PORTER_SLOT ∷ nester)) → is_one_of (kinds.Portset ∷ []) (option_map kind_of o) ≡ false
    space_kind (Some (Space birth holder)) h = refl
    space_kind (Some (Mutex locked)) h = cc
    space_kind (Some Cond) h = cc
    space_kind (Some (Mapping m)) h = cc
    space_kind (Some (Region r)) h = cc
    space_kind (Some (Port set served)) h = cc
    space_kind (Some Portset) h = cc
    space_kind (Some (Thread_of t)) h = cc
    space_kind (Some (Reference to)) h = cc
    space_kind None h = cc

    ref_kind : (o : Option Body) → only_reference o ≡ true → is_one_of (kinds.Portset ∷ []) (option_map kind_of o) ≡ false
    ref_kind (Some (Reference to)) h = refl
    ref_kind None h = refl
    ref_kind (Some (Space birth holder)) h = cc
    ref_kind (Some (Mutex locked)) h = cc
    ref_kind (Some Cond) h = cc
    ref_kind (Some (Mapping m)) h = cc
    ref_kind (Some (Region r)) h = cc
    ref_kind (Some (Port set served)) h = cc
    ref_kind (Some Portset) h = cc
    ref_kind (Some (Thread_of t)) h = cc

    from_inside : (q y : Path) → is_within root y ≡ false → is_scratch nester y ≡ false → is_swept (q ++ root) y (v.body y) ≡ false
    unfolding kind_there
    from_inside [] y out off = no_set (kind_there v) root y (v.body y) (valid.consistent.good y) (space_kind (v.body root) held.holder) (unled [] y out off)
    from_inside (k ∷ q) y out off = beside_set (k ∷ (q ++ root)) y k (v.body y) (unled (k ∷ q) y out off) (λ set e. by y out set e)
      where
        by : (y : Path) → is_within root y ≡ false → (set : ℕ) → k ∷ (q ++ root) ≡ set ∷ parent y → ⊥
        by [] out set e = let above : q ++ root ≡ [] = cc in omega (arith, ap length above, length-append q root)
        by (j ∷ y) out set e =
            let above : q ++ root ≡ y = cc in
            let on : is_within root (j ∷ y) ≡ true = subst (λ (z : Path). is_within root (j ∷ z) ≡ true) above (rw (strip-append root (j ∷ q)) refl) in
            let both = sym on ∙ out in cc

    nothing_leads : (x y : Path) → only_reference (v.body x) ≡ true → list_any (leads_to x) (body_pointers (v.body y)) ≡ false
    unfolding kind_there
    nothing_leads x y ref = by (v.body x) refl ref
      where
        live_off : (t : Bool) → list_any (leads_to x) (body_pointers (v.body y)) ≡ t → v.body x ≡ None → t ≡ false
        live_off false e none = refl
        live_off true e none =
            let live = there_live (kind_there v) x y (v.body y) (valid.consistent.good y) e in
            let off : is_some (option_map kind_of (v.body x)) ≡ false = rw none refl in
            let both = sym live ∙ off in cc

        ref_off : (to : Ptr) (t : Bool) → list_any (leads_to x) (body_pointers (v.body y)) ≡ t → v.body x ≡ Some (Reference to) → t ≡ false
        ref_off to false e there = refl
        ref_off to true e there = absurd (ref_live (kind_there v) x (ap (option_map kind_of) there) y (v.body y) (valid.consistent.good y) e)

        by : (o : Option Body) → v.body x ≡ o → only_reference o ≡ true → list_any (leads_to x) (body_pointers (v.body y)) ≡ false
        by None e h = live_off (list_any (leads_to x) (body_pointers (v.body y))) refl e
        by (Some (Reference to)) e h = ref_off to (list_any (leads_to x) (body_pointers (v.body y))) refl e
        by (Some (Space birth holder)) e h = cc
        by (Some (Mutex locked)) e h = cc
        by (Some Cond) e h = cc
        by (Some (Mapping m)) e h = cc
        by (Some (Region r)) e h = cc
        by (Some (Port set served)) e h = cc
        by (Some Portset) e h = cc
        by (Some (Thread_of t)) e h = cc

    pub apart_now : IsApart v
    unfolding kind_there
    apart_now x y near far = by (or_cases (is_within root x) (is_scratch nester x) near)
      where
        off : (is_within root y ≡ false) × (is_scratch nester y ≡ false)
        off = neither (is_within root y) (is_scratch nester y) far

        way : (o : Option Path) → strip root x ≡ o → is_some o ≡ true → is_swept x y (v.body y) ≡ false
        way None e h = cc
        way (Some q) e h = let here = strip_some root x q e in subst (λ (z : Path). is_swept z y (v.body y) ≡ false) (sym here) (from_inside q y off.0 off.1)

        by : (is_within root x ≡ true) ⊎ (is_scratch nester x ≡ true) → is_swept x y (v.body y) ≡ false
        by (inl h) = way (strip root x) refl h
        by (inr h) = no_set (kind_there v) x y (v.body y) (valid.consistent.good y) (ref_kind (v.body x) (scratch_of nester slot v held x h))
            (nothing_leads x y (scratch_of nester slot v held x h))

  -- ---- near changes leave what is far

  same_far : (v : World) → IsSameFar nester slot v v
  same_far v = record { bodies = λ y far. refl; pages = λ y page far. refl }

  far_apart : (x y : Path) → is_near nester slot x ≡ true → is_near nester slot y ≡ false → same_path y x ≡ false
  far_apart x y near far = let off = neither (is_within root y) (is_scratch nester y) far in not_there nester slot x y near off.0 off.1

  change_far : (c : Change) (v : World) → IsNearChange nester slot c → IsApart v → IsSameFar nester slot v (apply c v)
  unfolding apply
  change_far (Alter x edit) v near apart = record { bodies = λ y far. rw (far_apart x y near.0 far) refl; pages = λ y page far. refl }
  change_far (Make x body) v near apart = record { bodies = λ y far. rw (far_apart x y near.0 far) refl; pages = λ y page far. refl }
  change_far (MakeSpace x holder) v near apart = record { bodies = λ y far. rw (far_apart x y near far) refl; pages = λ y page far. refl }
  change_far (Kill x) v near apart = record {
    bodies = λ y far. apply-body (Kill x) v y (rw (far_apart x y near far, apart x y near far) refl);
    pages = λ y page far. rw (far_apart x y near far) refl;
  }
  change_far (PutPage space page words) v near apart = record { bodies = λ y far. refl; pages = λ y n far. rw (far_apart space y (inside near) far) refl }
    where
      inside : is_within root space ≡ true → is_near nester slot space ≡ true
      inside h = rw h refl
  change_far (DropPage space page) v near apart = absurd near
  change_far (Move x k) v near apart = absurd near

  far_on : (v u : World) → IsSameFar nester slot v u → IsApart v → IsApart u
  far_on v u same apart x y near far = rw (same.bodies y far) (apart x y near far)

  far_then : (v u x : World) → IsSameFar nester slot v u → IsSameFar nester slot u x → IsSameFar nester slot v x
  far_then v u x first then = record {
    bodies = λ y far. then.bodies y far ∙ first.bodies y far;
    pages = λ y page far. then.pages y page far
        ∙ first.pages y page far;
  }

  changes_far : (cs : List Change) (v : World) → AreNear nester slot cs → IsApart v → IsSameFar nester slot v (apply_all cs v)
  unfolding apply_all
  changes_far [] v near apart = same_far v
  changes_far (c ∷ cs) v near apart =
      let one = change_far c v near.0 apart in
      far_then v (apply c v) (apply_all cs (apply c v)) one (changes_far cs (apply c v) near.1 (far_on v (apply c v) one apart))

  call_far : (v : World) (g : Site) (o : Order) → Shows nester slot g v → IsUnled nester slot v → May slot o g → IsSound v
      → IsReadyAt v (call_of nester (stage_of slot o) (words_of o)) →
      IsSameFar nester slot v (after v (call_of nester (stage_of slot o) (words_of o)))
  call_far v g o shows unled may sound ready =
      let call = own_call nester slot g v o shows may sound ready in
      let answered : IsAnswered nester v (stage_of slot o)
      (words_of o) call.reply = record { valid = sound.whole.valid; few = sound.whole.few; ready = ready; said = ap reply_of call.said } in
      let near = own_calls_are_near nester slot g v o call.reply shows may answered in
      subst (IsSameFar nester slot v) (sym near.world)
      (changes_far near.changes v near.near (apart_now v sound.whole.valid (holding nester slot g v shows) unled))

  release_far : (v : World) (g : Site) → Shows nester slot g v → IsReadyAt v (call_of nester (SpaceRelease OWN_SPACE slot) no_words)
      → IsSameFar nester slot v (after v (call_of nester (SpaceRelease OWN_SPACE slot) no_words))
  unfolding apply
  release_far v g shows ready =
      let comes = release_comes_to nester slot v (holding nester slot g v shows) ready in
      subst (IsSameFar nester slot v) (sym comes.world)
      (record { bodies = λ y far. rw (far_apart root y (inside_near nester slot []) far) refl; pages = λ y page far. refl })

  destroy_far : (v : World) (xs : List Path) → IsValid v → IsEmptied nester slot v xs → IsSecluded nester slot v
      → IsReadyAt v (call_of nester (Destroy OWN_SPACE slot) no_words) →
      IsSameFar nester slot v (after v (call_of nester (Destroy OWN_SPACE slot) no_words))
  destroy_far v xs valid emptied alone ready =
      let dies = gone nester slot v valid xs emptied in
      let near = kills_near nester slot v emptied.holding alone dies (gone_inside nester slot v valid xs emptied) in
      subst (IsSameFar nester slot v) (sym (world nester slot v valid xs emptied ready))
      (changes_far (kills v dies) v near (apart_now v valid emptied.holding alone.unled))

-- a call that is known
known : (v : World) (nester : Path) (slot : ℕ) (stage other : Stage) (given words : List ℕ) → stage ≡ other → given ≡ words
    → (IsReadyAt v (call_of nester stage given) → IsSameFar nester slot v (after v (call_of nester stage given))) →
    IsReadyAt v (call_of nester other words) → IsSameFar nester slot v (after v (call_of nester other words))
known v nester slot stage other given words one two far =
    subst (λ (ws : List ℕ). IsReadyAt v (call_of nester other ws) → IsSameFar nester slot v (after v (call_of nester other ws))) two
    (subst (λ (st : Stage). IsReadyAt v (call_of nester st given) → IsSameFar nester slot v (after v (call_of nester st given))) one far)

module _ (slot birth : ℕ) (bind : ℕ → ℕ) (c : World) (rooms : List Room) (w : World) (nester : Path) (low : slot ≤ LAST_USER_SLOT) (its : IsRoomed bind c rooms)
    (may_begin : MayBegin w nester birth) where
  later_far : (v : World) (t : State) → IsSound v → Came slot birth bind c rooms w nester low its may_begin v t → (stage : Stage) (words : List ℕ)
      → head slot t ≡ Asks stage words →
      IsReadyAt v (call_of nester stage words) → IsSameFar nester slot v (after v (call_of nester stage words))
  later_far _ _ sound (Working [] g v empty shows alone may suits safe tidied is history) stage words e =
      known v nester slot (SpaceRelease OWN_SPACE slot) stage no_words words (let one : SpaceRelease OWN_SPACE slot ≡ stage = cc in one) (let two : no_words
      ≡ words = cc in two) (release_far nester slot v g shows)
  later_far _ _ sound (Working (o ∷ os) g v empty shows alone may suits safe tidied is history) stage words e =
      known v nester slot (stage_of slot o) stage (words_of o) words (let one : stage_of slot o ≡ stage = cc in one) (let two : words_of o ≡ words = cc in
      two) (call_far nester slot v g o shows alone.unled may.0 sound)
  later_far _ _ sound (Dropping o os port g v empty shows alone left tidied) stage words e =
      known v nester slot (stage_of slot o) stage (words_of o) words (let one : stage_of slot o ≡ stage = cc in one) (let two : words_of o ≡ words = cc in
      two) (call_far nester slot v g o shows alone.unled left.may.0 sound)
  later_far _ _ sound (Clearing xs more port v empty emptied many alone tidied) stage words e =
      known v nester slot (Destroy OWN_SPACE slot) stage no_words words (let one : Destroy OWN_SPACE slot ≡ stage = cc in one) (let two : no_words
      ≡ words = cc in two)
      (destroy_far nester slot v xs sound.whole.valid emptied alone)
  later_far _ _ sound (Finished v empty plain same unheld clean) stage words e = cc
  later_far _ _ sound (Missing port v empty none clean) stage words e = cc
  later_far _ _ sound (Taken v there same) stage words e = cc

  first_far : IsReadyAt w (call_of nester (SpaceMakeHeld slot) no_words) → IsSameFar nester slot w (after w (call_of nester (SpaceMakeHeld slot) no_words))
  unfolding apply_all apply
  first_far ready = by (begins nester slot w reply low (λ k scratch. may_begin.clean nester k scratch) answered)
    where
      reply : Reply
      reply = reply_of (said_of w (call_of nester (SpaceMakeHeld slot) no_words))

      answered : IsAnswered nester w (SpaceMakeHeld slot) no_words reply
      answered = record { valid = may_begin.sound.whole.valid; few = may_begin.sound.whole.few; ready = ready; said = refl }

      made : w.body (slot ∷ nester) ≡ None → IsSameFar nester slot w (after w (call_of nester (SpaceMakeHeld slot) no_words))
      made empty =
          let goes = goes_by nester w (SpaceMakeHeld slot) no_words reply answered (MakeSpace (slot ∷ nester) (Some (At (LAST_PORTER_SLOT ∷ nester)))
          ∷ []) OK [] (make-row nester slot w reply low answered ∙ ap (made_as nester slot w reply low answered) empty) in
          subst (IsSameFar nester slot w) (sym goes.0)
          (record { bodies = λ y far. rw (far_apart nester slot (slot ∷ nester) y (inside_near nester slot []) far) refl; pages = λ y page far. refl })

      by : ((w.body (slot ∷ nester) ≡ None) × (reply.status ≡ OK) × Shows nester slot first (after w (call_of nester (SpaceMakeHeld slot) no_words)))
          ⊎ (IsSome (w.body (slot ∷ nester)) × (reply.status ≡ OCCUPIED) × (after w (call_of nester (SpaceMakeHeld slot) no_words) ≡ w)) →
          IsSameFar nester slot w (after w (call_of nester (SpaceMakeHeld slot) no_words))
      by (inl its) = made its.0
      by (inr its) = subst (IsSameFar nester slot w) (sym its.2) (same_far nester slot w)

pub leaves_far : RestoreLeavesFar
leaves_far slot birth bind c rooms w nester low its may = record {
  first = first_far slot birth bind c rooms w nester low its may;
  later = λ v t stage words work e ready. later_far slot birth bind c rooms w nester low its may v t
      (now_sound (restore slot bind rooms) nester w Begins v t work) (came slot birth bind c rooms w nester low its may v t work) stage words e ready;
}
