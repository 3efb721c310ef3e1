-- A held space is destroyed object by object: one stage takes one object of it, others leave it, and none more is left at the end.
use Rattle.std.proofs.Common.{◌≡◌, ℕ, zero, suc, ◌≤◌, Bool, true, false, cond, not, ◌&&◌, ◌||◌, nat_le, is_some, List, [], ◌∷◌, ◌++◌, length, Option, Some}
use Rattle.std.proofs.Common.{None, option_map, refl, sym, ap, subst, arith, length-append, ◌∙◌}
use Rattle.std.proofs.lemmas.Bool.{le-leb, leb-true, and_parts}
use Rattle.fk_model.specs.declared.limits.TheConstants.{OWN_SPACE, SLOTS, FIRST_SCRATCH_SLOT, LAST_SCRATCH_SLOT, LAST_PORTER_SLOT}
use Rattle.fk_model.specs.declared.names.Kind.TheVariants as kinds
use Rattle.fk_model.specs.declared.stage.Stage.TheVariants.{Destroy}
use Rattle.fk_model.specs.declared.statuses.status.TheConstants.{OK, ENDED}
use Rattle.std.specs.List.{list_any}
use Rattle.fk_model.specs.Places.{Path, same_path, is_within, strip, leads_to}
use Rattle.fk_model.specs.Places.Ptr.{At}
use Rattle.fk_model.specs.Objects.{Mode, Body, and_then, holds, kind_of}
use Rattle.fk_model.specs.Objects.Body.{Mutex, Cond, Mapping, Region, Port, Portset, Space, Thread_of, Reference}
use Rattle.fk_model.specs.Objects.Mode.{Running, Calling, Halted, Native}
use Rattle.fk_model.specs.World.{World, edited, through, death_sweep, apply, apply_all}
use Rattle.fk_model.specs.World.Change.{Alter, Kill}
use Rattle.fk_model.specs.World.Edit.{End}
use Rattle.fk_model.specs.Searches.{depth, first_resident, leaf_from, leaf_by, leaf}
use Rattle.fk_model.specs.Holds.{holder_of, decider, is_frozen_for}
use Rattle.fk_model.specs.Freezing.{body_pointers}
use Rattle.fk_model.specs.Outcomes.Outcome.{Goes}
use Rattle.fk_model.specs.Outcomes.{done, stays, telling}
use Rattle.fk_model.specs.Outcomes.Said.{Answered}
use Rattle.fk_model.specs.Readers.{anything}
use Rattle.fk_model.specs.StateRows.{is_native}
use Rattle.fk_model.specs.LinkRows.{end_all}
use Rattle.fk_model.specs.ObjectRows.{is_scratch, ends_with, kills, destroy, told_with}
use Rattle.fk_model.specs.Moves.{closed, with_pick, call_row}
use Rattle.fk_model.specs.Runs.{Event, after}
use Rattle.fk_model.specs.Valid.{IsValid, kind_there, birth_of, birth_at}
use Rattle.fk_model.proofs.walks.PlaceLaws.{same_path_eq, same_path_refl, same_path_ne, same_path_cancel, strip_some, strip-append}
use Rattle.fk_model.proofs.walks.Lowest.{lowest-found}
use Rattle.laws_moves.specs.Frozen.Holding.{IsHolding, IsUsersMove}
use Rattle.laws_moves.proofs.InFrozen.Holding.{holder_none, none_above, decider_none, others_keep_hold}
use Rattle.laws_jobs.specs.Machines.{no_words, porter, call_of, IsReadyAt}
use Rattle.laws_jobs.specs.Calls.{IsUnheldOutside}
use Rattle.laws_jobs.proofs.Goings.{call_is_its_row}
use Rattle.laws_jobs.proofs.Ready.{unheld_call_ready}
use Rattle.laws_jobs.proofs.Rows.{own-place, object-there}
use Rattle.laws_restore.specs.Restore.Stages.{is_among}

-- ---- lists of paths without doubles

unfoldable pub AreApart : List Path → Type 0
AreApart [] = Unit {0}
AreApart (x ∷ xs) = (is_among x xs ≡ false) × AreApart xs

unfoldable pub without : Path → List Path → List Path
without x [] = []
without x (y ∷ ys) = cond (same_path y x) (without x ys) (y ∷ without x ys)

without_among : (x q : Path) (xs : List Path) → is_among q (without x xs) ≡ (is_among q xs && not (same_path q x))
unfolding without
without_among x q [] = refl
without_among x q (y ∷ ys) = by (same_path y x) refl (without_among x q ys)
  where
    by : (t : Bool) → same_path y x ≡ t → is_among q (without x ys) ≡ (is_among q ys && not (same_path q x)) →
        is_among q (cond t (without x ys) (y ∷ without x ys)) ≡ ((same_path q y || is_among q ys) && not (same_path q x))
    by true e rest = at (same_path q y) refl
      where
        at : (s : Bool) → same_path q y ≡ s → is_among q (without x ys) ≡ ((s || is_among q ys) && not (same_path q x))
        at false f = rest
        at true f =
            let one = same_path_eq q y f in
            let two = same_path_eq y x e in
            let both : same_path q x ≡ true = rw (one, two) (same_path_refl x) in
            rest ∙ rw both (none (is_among q ys))
          where
            none : (b : Bool) → (b && false) ≡ (true && false)
            none true = refl
            none false = refl
    by false e rest = at (same_path q y) refl
      where
        at : (s : Bool) → same_path q y ≡ s → (s || is_among q (without x ys)) ≡ ((s || is_among q ys) && not (same_path q x))
        at false f = rest
        at true f = let one = same_path_eq q y f in let off : same_path q x ≡ false = rw one e in rw off refl

without_none : (x : Path) (xs : List Path) → is_among x xs ≡ false → without x xs ≡ xs
unfolding without
without_none x [] h = refl
without_none x (y ∷ ys) h = by (same_path x y) (same_path y x) refl refl h (without_none x ys)
  where
    by : (s t : Bool) → same_path x y ≡ s → same_path y x ≡ t → (s || is_among x ys) ≡ false → (is_among x ys ≡ false → without x ys ≡ ys)
        → cond t (without x ys) (y ∷ without x ys) ≡ y ∷ ys
    by true t e f h rest = cc
    by false true e f h rest = let one = same_path_eq y x f in let on : same_path x y ≡ true = rw one (same_path_refl x) in let clash = sym on ∙ e in cc
    by false false e f h rest = ap (λ (zs : List Path). y ∷ zs) (rest h)

without_length : (x : Path) (xs : List Path) → AreApart xs → is_among x xs ≡ true → suc (length (without x xs)) ≡ length xs
unfolding without AreApart
without_length x [] apart h = cc
without_length x (y ∷ ys) apart h = by (same_path x y) (same_path y x) refl refl h (without_length x ys apart.1)
  where
    by : (s t : Bool) → same_path x y ≡ s → same_path y x ≡ t → (s || is_among x ys) ≡ true → (is_among x ys ≡ true → suc (length (without x ys)) ≡ length ys)
        → suc (length (cond t (without x ys) (y ∷ without x ys))) ≡ suc (length ys)
    by true true e f h rest = let one = same_path_eq y x f in
        ap (λ (zs : List Path). suc (length zs)) (without_none x ys (subst (λ (z : Path). is_among z ys ≡ false) one apart.0))
    by true false e f h rest = let one = same_path_eq x y e in let on : same_path y x ≡ true = rw one (same_path_refl y) in let clash = sym on ∙ f in cc
    by false true e f h rest = let one = same_path_eq y x f in let on : same_path x y ≡ true = rw one (same_path_refl x) in let clash = sym on ∙ e in cc
    by false false e f h rest = ap suc (rest h)

without_apart : (x : Path) (xs : List Path) → AreApart xs → AreApart (without x xs)
unfolding without AreApart
without_apart x [] apart = tt
without_apart x (y ∷ ys) apart = by (same_path y x) (without_apart x ys apart.1)
  where
    off : is_among y (without x ys) ≡ false
    off = without_among x y ys ∙ rw apart.0 refl

    by : (t : Bool) → AreApart (without x ys) → AreApart (cond t (without x ys) (y ∷ without x ys))
    by true rest = rest
    by false rest = (off, rest)

-- ---- what one object's death leaves of another

module _ (w : World) (gone : Path) where
  abbrev after_kill : World
  after_kill = apply_all (kills w gone) w

  -- what a sweep keeps, and the end of a call
  ends_keep : (Q : Option Body → Type 0) (y : Path) → ((o : Option Body) → Q o → Q (option_map (edited (End ENDED [])) o)) → (ends : List Path) (v : World)
      → Q (v.body y) → Q ((apply_all (end_all ends) v).body y)
  unfolding apply_all apply
  ends_keep Q y keep [] v h = h
  ends_keep Q y keep (x ∷ ends) v h = ends_keep Q y keep ends (apply (Alter x (End ENDED [])) v) (at (same_path y x) refl)
    where
      at : (t : Bool) → same_path y x ≡ t → Q ((apply (Alter x (End ENDED [])) v).body y)
      at true e = rw e (keep (v.body y) h)
      at false e = rw e h

  keeps : (Q : Option Body → Type 0) (y : Path) → same_path y gone ≡ false → ((o : Option Body) → Q o → Q (option_map (through (death_sweep gone) y) o))
      → ((o : Option Body) → Q o → Q (option_map (edited (End ENDED [])) o)) →
      Q (w.body y) → Q (after_kill.body y)
  unfolding apply_all apply
  keeps Q y apart sweep keep h = ends_keep Q y keep (ends_with w gone (w.body gone)) (apply (Kill gone) w) (rw apart (sweep (w.body y) h))

  abbrev IsThere : Bool → Option Body → Type 0
  IsThere t o = is_some o ≡ t

  mapped : (f : Body → Body) (t : Bool) (o : Option Body) → IsThere t o → IsThere t (option_map f o)
  mapped f t None h = h
  mapped f t (Some b) h = h

  pub still_there : (y : Path) → same_path y gone ≡ false → is_some (after_kill.body y) ≡ is_some (w.body y)
  still_there y apart = keeps (IsThere (is_some (w.body y))) y apart (mapped (through (death_sweep gone) y) (is_some (w.body y)))
      (mapped (edited (End ENDED [])) (is_some (w.body y))) refl

  pub is_gone : is_some (after_kill.body gone) ≡ false
  unfolding apply_all apply
  is_gone = ends_keep (IsThere false) gone (mapped (edited (End ENDED [])) false) (ends_with w gone (w.body gone)) (apply (Kill gone) w)
      (rw (same_path_refl gone) refl)

  pub native_stays : (y : Path) → same_path y gone ≡ false → holds is_native (w.body y) ≡ true → holds is_native (after_kill.body y) ≡ true
  unfolding edited
  native_stays y apart h = keeps (λ o. holds is_native o ≡ true) y apart sweep end h
    where
      sweep : (o : Option Body) → holds is_native o ≡ true → holds is_native (option_map (through (death_sweep gone) y) o) ≡ true
      sweep (Some (Thread_of t)) h = h
      sweep (Some (Mutex locked)) h = cc
      sweep (Some Cond) h = cc
      sweep (Some (Mapping m)) h = cc
      sweep (Some (Region r)) h = cc
      sweep (Some (Port set served)) h = cc
      sweep (Some Portset) h = cc
      sweep (Some (Space birth holder)) h = cc
      sweep (Some (Reference to)) h = cc
      sweep None h = cc

      end : (o : Option Body) → holds is_native o ≡ true → holds is_native (option_map (edited (End ENDED [])) o) ≡ true
      end (Some (Thread_of t)) h = by t.mode h
        where
          by : (m : Mode) → is_native (Thread_of (record t { mode = m })) ≡ true → is_native (edited (End ENDED []) (Thread_of (record t { mode = m }))) ≡ true
          by (Native g) h = refl
          by (Running g) h = cc
          by (Calling todo rest) h = cc
          by (Halted g code) h = cc
      end (Some (Mutex locked)) h = cc
      end (Some Cond) h = cc
      end (Some (Mapping m)) h = cc
      end (Some (Region r)) h = cc
      end (Some (Port set served)) h = cc
      end (Some Portset) h = cc
      end (Some (Space birth holder)) h = cc
      end (Some (Reference to)) h = cc
      end None h = cc

  pub birth_stays : (y : Path) (birth : ℕ) → same_path y gone ≡ false → birth_at w y ≡ Some birth → birth_at after_kill y ≡ Some birth
  unfolding edited
  birth_stays y birth apart h = keeps (λ o. and_then birth_of o ≡ Some birth) y apart sweep end h
    where
      sweep : (o : Option Body) → and_then birth_of o ≡ Some birth → and_then birth_of (option_map (through (death_sweep gone) y) o) ≡ Some birth
      sweep (Some (Space number holder)) h = h
      sweep (Some (Thread_of t)) h = cc
      sweep (Some (Mutex locked)) h = cc
      sweep (Some Cond) h = cc
      sweep (Some (Mapping m)) h = cc
      sweep (Some (Region r)) h = cc
      sweep (Some (Port set served)) h = cc
      sweep (Some Portset) h = cc
      sweep (Some (Reference to)) h = cc
      sweep None h = cc

      end : (o : Option Body) → and_then birth_of o ≡ Some birth → and_then birth_of (option_map (edited (End ENDED [])) o) ≡ Some birth
      end (Some (Space number holder)) h = h
      end (Some (Thread_of t)) h = cc
      end (Some (Mutex locked)) h = cc
      end (Some Cond) h = cc
      end (Some (Mapping m)) h = cc
      end (Some (Region r)) h = cc
      end (Some (Port set served)) h = cc
      end (Some Portset) h = cc
      end (Some (Reference to)) h = cc
      end None h = cc

  pub unheld_stays : (y : Path) → same_path y gone ≡ false → holder_of (w.body y) ≡ None → holder_of (after_kill.body y) ≡ None
  unfolding edited
  unheld_stays y apart h = keeps (λ o. holder_of o ≡ None) y apart sweep end h
    where
      sweep : (o : Option Body) → holder_of o ≡ None → holder_of (option_map (through (death_sweep gone) y) o) ≡ None
      sweep (Some (Space number None)) h = refl
      sweep (Some (Space number (Some holder))) h = cc
      sweep (Some (Thread_of t)) h = refl
      sweep (Some (Mutex locked)) h = refl
      sweep (Some Cond) h = refl
      sweep (Some (Mapping m)) h = refl
      sweep (Some (Region r)) h = refl
      sweep (Some (Port set served)) h = refl
      sweep (Some Portset) h = refl
      sweep (Some (Reference to)) h = refl
      sweep None h = refl

      end : (o : Option Body) → holder_of o ≡ None → holder_of (option_map (edited (End ENDED [])) o) ≡ None
      end (Some (Space number holder)) h = h
      end (Some (Thread_of t)) h = refl
      end (Some (Mutex locked)) h = refl
      end (Some Cond) h = refl
      end (Some (Mapping m)) h = refl
      end (Some (Region r)) h = refl
      end (Some (Port set served)) h = refl
      end (Some Portset) h = refl
      end (Some (Reference to)) h = refl
      end None h = refl

  pub holder_stays : (y holder : Path) → same_path y gone ≡ false → same_path holder gone ≡ false → holder_of (w.body y) ≡ Some (At holder)
      → holder_of (after_kill.body y) ≡ Some (At holder)
  unfolding edited
  holder_stays y holder apart off h = keeps (λ o. holder_of o ≡ Some (At holder)) y apart sweep end h
    where
      sweep : (o : Option Body) → holder_of o ≡ Some (At holder) → holder_of (option_map (through (death_sweep gone) y) o) ≡ Some (At holder)
      sweep (Some (Space number (Some p))) h = let is : p ≡ At holder = cc in rw is (rw off refl)
      sweep (Some (Space number None)) h = cc
      sweep (Some (Thread_of t)) h = cc
      sweep (Some (Mutex locked)) h = cc
      sweep (Some Cond) h = cc
      sweep (Some (Mapping m)) h = cc
      sweep (Some (Region r)) h = cc
      sweep (Some (Port set served)) h = cc
      sweep (Some Portset) h = cc
      sweep (Some (Reference to)) h = cc
      sweep None h = cc

      end : (o : Option Body) → holder_of o ≡ Some (At holder) → holder_of (option_map (edited (End ENDED [])) o) ≡ Some (At holder)
      end (Some (Space number p)) h = h
      end (Some (Thread_of t)) h = cc
      end (Some (Mutex locked)) h = cc
      end (Some Cond) h = cc
      end (Some (Mapping m)) h = cc
      end (Some (Region r)) h = cc
      end (Some (Port set served)) h = cc
      end (Some Portset) h = cc
      end (Some (Reference to)) h = cc
      end None h = cc

-- ---- the first leaf lies within, and is there

resident_there : (w : World) (x : Path) (k : ℕ) → first_resident w x ≡ Some k → is_some (w.body (k ∷ x)) ≡ true
resident_there w x k e = let found = lowest-found SLOTS (λ k. option_map (λ (b : Body). k) (w.body (k ∷ x))) k e in
    by found.0 (w.body (found.0 ∷ x)) refl found.1
  where
    by : (j : ℕ) (o : Option Body) → w.body (j ∷ x) ≡ o → option_map (λ (b : Body). j) o ≡ Some k → is_some (w.body (k ∷ x)) ≡ true
    by j None at h = cc
    by j (Some b) at h = let same : j ≡ k = cc in ap (λ j. is_some (w.body (j ∷ x))) (sym same) ∙ ap is_some at

pub record IsInside (w : World) (x z : Path) : Type 0 where
  pub way : Path
  pub is : z ≡ way ++ x
  pub there : is_some (w.body z) ≡ true

leaf_inside : (n : ℕ) (w : World) (x : Path) → is_some (w.body x) ≡ true → IsInside w x (leaf_by n w x)
unfolding leaf_by
leaf_inside zero w x there = record { way = []; is = refl; there = there }
leaf_inside (suc n) w x there = by (first_resident w x) refl (λ k. leaf_inside n w (k ∷ x))
  where
    over : (q : Path) (k : ℕ) → q ++ (k ∷ x) ≡ (q ++ k ∷ []) ++ x
    over [] k = refl
    over (j ∷ q) k = ap (λ (z : Path). j ∷ z) (over q k)

    by : (o : Option ℕ) → first_resident w x ≡ o → ((k : ℕ) → is_some (w.body (k ∷ x)) ≡ true → IsInside w (k ∷ x) (leaf_by n w (k ∷ x)))
        → IsInside w x (leaf_from (λ k. leaf_by n w (k ∷ x)) x o)
    by None e deeper = record { way = []; is = refl; there = there }
    by (Some k) e deeper =
        let rest = deeper k (resident_there w x k e) in
        record { way = rest.way ++ k ∷ []; is = rest.is ∙ over rest.way k; there = rest.there }

-- ---- a held space with so many objects in it

module _ (nester : Path) (slot : ℕ) where
  abbrev root : Path
  root = slot ∷ nester

  abbrev me : Path
  me = LAST_PORTER_SLOT ∷ nester

  -- these stand in it, no scratch does, and the porter holds it
  pub record IsEmptied (v : World) (xs : List Path) : Type 0 where
    pub holding : IsHolding nester slot v
    pub apart : AreApart xs
    pub listed : (q : Path) → is_some (v.body (q ++ root)) ≡ is_among q xs
    pub scratch : (k : ℕ) → is_scratch nester (k ∷ nester) ≡ true → v.body (k ∷ nester) ≡ None

  outside : (q y : Path) → length y ≤ length nester → same_path y (q ++ root) ≡ false
  outside q y short = same_path_ne y (q ++ root) (λ e. omega (arith, short, ap length e, length-append q root))

  beside : (q : Path) (k : ℕ) → (k ≡ slot → ⊥) → same_path (k ∷ nester) (q ++ root) ≡ false
  beside [] k off = same_path_ne (k ∷ nester) root (λ e. let same : k ≡ slot = cc in off same)
  beside (j ∷ q) k off = same_path_ne (k ∷ nester) (j ∷ (q ++ root)) (λ e. omega (arith, ap length e, length-append q root))

  pub emptied_others : (v : World) (e : Event) (xs : List Path) → IsEmptied v xs → IsUsersMove nester v e → IsEmptied (after v e) xs
  emptied_others v e xs its moves =
      let kept = others_keep_hold nester slot v e its.holding moves in
      record {
        holding = kept.holding;
        apart = its.apart;
        listed = λ q. ap is_some (kept.inside.bodies q) ∙ its.listed q;
        scratch = λ k is. kept.around.scratch k is ∙ its.scratch k is;
      }

  module _ (v : World) (valid : IsValid v) (xs : List Path) (its : IsEmptied v xs) where
    root_there : is_some (v.body root) ≡ true
    root_there = by (v.body root) its.holding.holder
      where
        by : (o : Option Body) → holder_of o ≡ Some (At me) → is_some o ≡ true
        by (Some b) h = refl
        by None h = cc

    abbrev pub gone : Path
    gone = leaf v root

    pub found : IsInside v root gone
    unfolding leaf
    found = leaf_inside depth v root root_there

    pub gone_inside : is_within root gone ≡ true
    gone_inside = subst (λ (z : Path). is_within root z ≡ true) (sym found.is) (rw (strip-append root found.way) refl)

    decided : (q : Path) → decider v (q ++ root) ≡ Some (At me)
    unfolding decider
    decided [] = let above = its.holding.above in let holder = its.holding.holder in rw (above, holder) refl
    decided (k ∷ q) = rw (decided q) refl

    unfrozen : (q : Path) → is_frozen_for v me (q ++ root) ≡ false
    unfrozen q = rw (decided q, same_path_refl me) refl

    gone_unfrozen : is_frozen_for v me gone ≡ false
    gone_unfrozen = subst (λ (z : Path). is_frozen_for v me z ≡ false) (sym found.is) (unfrozen found.way)

    not_above : is_within root nester ≡ false
    not_above = by (strip root nester) refl
      where
        by : (o : Option Path) → strip root nester ≡ o → is_some o ≡ false
        by None e = refl
        by (Some q) e = let at = strip_some root nester q e in absurd (omega (arith, ap length at, length-append q root))

    -- the row of one stage
    pub row : call_row v (porter nester no_words) None (Destroy OWN_SPACE slot) ≡ Goes (kills v gone) (Answered OK [])
    unfolding call_row destroy
    row = by (v.body root) refl root_there
      where
        ends : (t : Bool) → closed (porter nester no_words)
            (with_pick false None (telling (told_with v gone (v.body gone))
            (cond t (done (porter nester no_words) (kills v gone) []) (stays (porter nester no_words) (kills v gone))))) ≡
            Goes (kills v gone) (Answered OK [])
        ends true = refl
        ends false = refl

        named : slot ≤ LAST_PORTER_SLOT
        named = let low = its.holding.low in omega (arith, low)

        by : (o : Option Body) → v.body root ≡ o → is_some o ≡ true
            → call_row v (porter nester no_words) None (Destroy OWN_SPACE slot) ≡ Goes (kills v gone) (Answered OK [])
        by None e h = cc
        by (Some b) e h =
            rw (
              own-place nester no_words v,
              object-there nester no_words v anything nester slot b b (le-leb slot LAST_PORTER_SLOT named) e refl,
              unfrozen [],
              not_above,
              gone_unfrozen,
            ) (ends (same_path gone root))

    pub world : IsReadyAt v (call_of nester (Destroy OWN_SPACE slot) no_words)
        → after v (call_of nester (Destroy OWN_SPACE slot) no_words) ≡ apply_all (kills v gone) v
    world ready = (call_is_its_row nester v (Destroy OWN_SPACE slot) no_words (kills v gone) (Answered OK []) row ready).0

    pub calm_ready : IsUnheldOutside root v → IsReadyAt v (call_of nester (Destroy OWN_SPACE slot) no_words)
    calm_ready calm = unheld_call_ready nester slot v (Destroy OWN_SPACE slot) no_words (kills v gone) (Answered OK []) its.holding calm row

    abbrev pub left_world : World
    left_world = apply_all (kills v gone) v

    -- ---- one object goes

    apart_slot : (k : ℕ) → is_scratch nester (k ∷ nester) ≡ true → k ≡ slot → ⊥
    apart_slot k is same =
        let both = and_parts (same_path nester nester && nat_le FIRST_SCRATCH_SLOT k) (nat_le k LAST_SCRATCH_SLOT) is in
        let first = and_parts (same_path nester nester) (nat_le FIRST_SCRATCH_SLOT k) both.0 in
        let least = leb-true FIRST_SCRATCH_SLOT k first.1 in
        let low = its.holding.low in
        omega (arith, least, low, same)

    apart_outside : (y : Path) → ((q : Path) → same_path y (q ++ root) ≡ false) → same_path y gone ≡ false
    apart_outside y off = subst (λ (z : Path). same_path y z ≡ false) (sym found.is) (off found.way)

    there_now : (q : Path) → is_some (left_world.body (q ++ root)) ≡ is_among q (without found.way xs)
    there_now q = by (same_path q found.way) refl
      where
        whether : same_path (q ++ root) gone ≡ same_path q found.way
        whether = ap (same_path (q ++ root)) found.is ∙ same_path_cancel q found.way root

        none : (b : Bool) → false ≡ (b && false)
        none true = refl
        none false = refl

        all : (b : Bool) → b ≡ (b && true)
        all true = refl
        all false = refl

        by : (t : Bool) → same_path q found.way ≡ t → is_some (left_world.body (q ++ root)) ≡ is_among q (without found.way xs)
        by true e =
            let here : q ++ root ≡ gone = same_path_eq (q ++ root) gone (whether ∙ e) in
            ap (λ (z : Path). is_some (left_world.body z)) here ∙ is_gone v gone ∙ none (is_among q xs) ∙ sym (without_among found.way q xs ∙ rw e refl)
        by false e = still_there v gone (q ++ root) (whether ∙ e) ∙ its.listed q ∙ all (is_among q xs) ∙ sym (without_among found.way q xs ∙ rw e refl)

    pub fewer : suc (length (without found.way xs)) ≡ length xs
    fewer = without_length found.way xs its.apart (sym (its.listed found.way) ∙ subst (λ (z : Path). is_some (v.body z) ≡ true) found.is found.there)

    pub no_scratch : (k : ℕ) → is_scratch nester (k ∷ nester) ≡ true → left_world.body (k ∷ nester) ≡ None
    no_scratch k is = by (left_world.body (k ∷ nester)) refl (still_there v gone (k ∷ nester) (apart_outside (k ∷ nester) (λ q. beside q k (apart_slot k is)))
        ∙ ap is_some (its.scratch k is))
      where
        by : (o : Option Body) → left_world.body (k ∷ nester) ≡ o → is_some o ≡ false → o ≡ None
        by None e h = refl
        by (Some b) e h = cc

    pub was_there : (y : Path) → is_some (left_world.body y) ≡ true → is_some (v.body y) ≡ true
    was_there y live = by (same_path y gone) refl
      where
        by : (t : Bool) → same_path y gone ≡ t → is_some (v.body y) ≡ true
        by false e = sym (still_there v gone y e) ∙ live
        by true e = let here = same_path_eq y gone e in let both = sym live ∙ ap (λ (z : Path). is_some (left_world.body z)) here ∙ is_gone v gone in cc

    pub nester_named : (birth : ℕ) → birth_at v nester ≡ Some birth → birth_at left_world nester ≡ Some birth
    nester_named birth named = birth_stays v gone nester birth (apart_outside nester (λ q. outside q nester (omega arith))) named

    not_me : same_path me gone ≡ false
    not_me = apart_outside me (λ q. beside q LAST_PORTER_SLOT (λ same. let low = its.holding.low in omega (arith, low, same)))

    pub porter_stays : holds is_native (left_world.body me) ≡ true
    porter_stays = native_stays v gone me not_me its.holding.porter

    -- the space itself is the last to go
    pub next_emptied : IsValid left_world → (n : ℕ) → length xs ≡ suc (suc n) → IsEmptied left_world (without found.way xs)
    unfolding kind_there
    next_emptied valid_after n many = by (without found.way xs) refl (λ e. let few = fewer in omega (arith, few, many, ap length e))
      where
        below : (q : Path) → is_some (left_world.body (q ++ root)) ≡ true → is_some (left_world.body root) ≡ true
        below [] live = live
        below (k ∷ q) live = below q (by (left_world.body (q ++ root)) (valid_after.consistent.parents k (q ++ root) live))
          where
            by : (o : Option Body) → option_map kind_of o ≡ Some kinds.Space → is_some o ≡ true
            by (Some b) h = refl
            by None h = cc

        emptied : is_some (left_world.body root) ≡ true → IsEmptied left_world (without found.way xs)
        emptied live = record {
          holding = record {
            low = its.holding.low;
            holder = holder_stays v gone root me not_root not_me its.holding.holder;
            above = decider_none left_world nester (λ p a e.
                unheld_stays v gone a (apart_outside a (λ q. outside q a (omega (arith, ap length e, length-append p a))))
                (holder_none v a (none_above v p a (subst (λ (y : Path). decider v y ≡ None) e its.holding.above))));
            porter = porter_stays;
            scratch = λ k is. rw (no_scratch k is) refl;
            near = λ k x is led. let none = no_scratch k is in
                let off : list_any (leads_to x) (body_pointers (left_world.body (k ∷ nester))) ≡ false = rw none refl in let both = sym led ∙ off in cc;
          };
          apart = without_apart found.way xs its.apart;
          listed = there_now;
          scratch = no_scratch;
        }
          where
            not_root : same_path root gone ≡ false
            not_root = by (same_path root gone) refl
              where
                by : (t : Bool) → same_path root gone ≡ t → t ≡ false
                by false e = refl
                by true e = let here = same_path_eq root gone e in
                    let both = sym live ∙ ap (λ (z : Path). is_some (left_world.body z)) here ∙ is_gone v gone in cc

        by : (ys : List Path) → without found.way xs ≡ ys → (ys ≡ [] → ⊥) → IsEmptied left_world (without found.way xs)
        by [] e some = absurd (some refl)
        by (y ∷ ys) e some = emptied (below y (there_now y ∙ ap (is_among y) e ∙ rw (same_path_refl y) refl))

    pub all_gone : length xs ≡ 1 → (q : Path) → left_world.body (q ++ root) ≡ None
    all_gone last q = by (left_world.body (q ++ root)) refl (there_now q
        ∙ ap (is_among q) (none (without found.way xs) (let few = fewer in omega (arith, few, last))))
      where
        none : (ys : List Path) → length ys ≡ 0 → ys ≡ []
        none [] h = refl
        none (y ∷ ys) h = cc

        by : (o : Option Body) → left_world.body (q ++ root) ≡ o → is_some o ≡ false → o ≡ None
        by None e h = refl
        by (Some b) e h = cc
