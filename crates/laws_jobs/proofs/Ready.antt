-- A call that comes to something is ready where nothing outside the subtree is held.
use Rattle.std.proofs.Common.{◌≡◌, ℕ, Bool, true, false, cond, not, ◌&&◌, ◌||◌, is_some, List, [], ◌∷◌, ◌++◌, Option, Some, None, refl, sym, ap, ◌∙◌}
use Rattle.std.specs.List.{list_any}
use Rattle.fk_model.specs.declared.limits.TheConstants.{LAST_PORTER_SLOT}
use Rattle.fk_model.specs.declared.moves.Ask.TheVariants as asks
use Rattle.fk_model.specs.declared.stage.Stage.{Stage}
use Rattle.fk_model.specs.Places.{Path, strip, is_within, Ptr}
use Rattle.fk_model.specs.Places.Ptr.{Null, Dead, At, Out, Outside, Far}
use Rattle.fk_model.specs.Objects.{Body, thread_of, and_then, holds}
use Rattle.fk_model.specs.Objects.Body.{Mutex, Cond, Mapping, Region, Port, Portset, Space, Thread_of, Reference}
use Rattle.fk_model.specs.World.{World, Change}
use Rattle.fk_model.specs.World.Change.{Alter, Make, MakeSpace, Kill, Move, PutPage, DropPage}
use Rattle.fk_model.specs.Searches.{pointers, option_list}
use Rattle.fk_model.specs.Holds.{decider, is_frozen_for, leads_to_frozen, is_porter}
use Rattle.fk_model.specs.Freezing.{body_pointers, changed_pointers, made_pointers, are_unfrozen, is_swept, lost_with, IsAllowed, AreAllowed}
use Rattle.fk_model.specs.StateRows.{is_native}
use Rattle.fk_model.specs.Outcomes.{Said}
use Rattle.fk_model.specs.Outcomes.Outcome.{Waits, Goes}
use Rattle.fk_model.specs.Moves.{call_row, porter_move, outcome, GoesAllowed, IsReady}
use Rattle.fk_model.proofs.walks.PlaceLaws.{same_path_refl, strip_some, strip-append}
use Rattle.laws_moves.specs.Frozen.Holding.{IsHolding}
use Rattle.laws_moves.proofs.InFrozen.Holding.{decider_none}
use Rattle.laws_jobs.specs.Machines.{porter}
use Rattle.laws_jobs.specs.Calls.{IsUnheldOutside, UnheldCallIsReady}

module _ (nester : Path) (slot : ℕ) (w : World) (holding : IsHolding nester slot w) (calm : IsUnheldOutside (slot ∷ nester) w) where
  abbrev root : Path
  root = slot ∷ nester

  abbrev me : Path
  me = LAST_PORTER_SLOT ∷ nester

  decided_inside : (q : Path) → decider w (q ++ root) ≡ Some (At me)
  unfolding decider
  decided_inside [] = rw (holding.above, holding.holder) refl
  decided_inside (k ∷ q) = rw (decided_inside q) refl

  -- whatever is frozen is frozen by the porter itself
  free_all : (y : Path) → is_frozen_for w me y ≡ false
  free_all y = by (strip root y) refl
    where
      outside : (p a : Path) → y ≡ p ++ a → strip root y ≡ None → is_within root a ≡ false
      outside p a e none = within (strip root a) refl
        where
          within : (o : Option Path) → strip root a ≡ o → is_some o ≡ false
          within None h = refl
          within (Some q) h =
              let at = strip_some root a q h in
              let whole : y ≡ (p ++ q) ++ root = e ∙ ap (λ (a : Path). p ++ a) at ∙ assoc p q in
              let there : strip root y ≡ Some (p ++ q) = ap (strip root) whole ∙ strip-append root (p ++ q) in
              let both = sym none ∙ there in
              cc
            where
              assoc : (p q : Path) → p ++ (q ++ root) ≡ (p ++ q) ++ root
              assoc [] q = refl
              assoc (k ∷ p) q = ap (λ (x : Path). k ∷ x) (assoc p q)

      by : (o : Option Path) → strip root y ≡ o → is_frozen_for w me y ≡ false
      by (Some q) e = rw (strip_some root y q e, decided_inside q, same_path_refl me) refl
      by None e = rw (decider_none w y (λ p a is. calm a (outside p a is e))) refl

  none_frozen : (ps : List Ptr) → list_any (leads_to_frozen w me) ps ≡ false
  none_frozen [] = refl
  none_frozen (At x ∷ ps) = rw (free_all x) (none_frozen ps)
  none_frozen (Null ∷ ps) = none_frozen ps
  none_frozen (Dead ∷ ps) = none_frozen ps
  none_frozen (Out i ∷ ps) = none_frozen ps
  none_frozen (Outside ∷ ps) = none_frozen ps
  none_frozen (Far ∷ ps) = none_frozen ps

  unfrozen_all : (ps : List Ptr) → are_unfrozen w me ps ≡ true
  unfrozen_all ps = rw (none_frozen ps) refl

  or_true : (a : Bool) → (a || true) ≡ true
  or_true true = refl
  or_true false = refl

  allowed : (c : Change) → IsAllowed w me c
  allowed (Alter x edit) = record {
    object = free_all x;
    changed = unfrozen_all (option_list (changed_pointers edit) (w.body x));
    made = unfrozen_all (made_pointers edit);
  }
  allowed (Make x body) = record { object = free_all x; made = unfrozen_all (pointers body) }
  allowed (MakeSpace x holder) = record { object = free_all x; made = unfrozen_all (option_list (λ p. p ∷ []) holder) }
  allowed (Kill x) = record {
    object = free_all x;
    changed = unfrozen_all (body_pointers (w.body x));
    others = λ q. rw (free_all q, unfrozen_all (lost_with x (w.body q))) (or_true (not (is_swept x q (w.body q))));
  }
  allowed (Move x slot) = record { object = free_all x; others = λ q. rw (free_all q) (or_true (not (is_swept x q (w.body q)))) }
  allowed (PutPage space page words) = free_all space
  allowed (DropPage space page) = free_all space

  all_allowed : (cs : List Change) → AreAllowed w me cs
  all_allowed [] = tt
  all_allowed (c ∷ cs) = (allowed c, all_allowed cs)

  -- a call that comes to something is ready
  ready : (stage : Stage) (words : List ℕ) (changes : List Change) (said : Said) → call_row w (porter nester words) None stage ≡ Goes changes said →
      IsReady w me None (asks.Call stage words)
  unfolding outcome
  ready stage words changes said row = by (w.body me) holding.porter
    where
      by_native : (t : Bool) → t ≡ true → GoesAllowed w me (cond (t && not (is_some (decider w nester))) (call_row w (porter nester words) None stage) Waits)
      by_native t h = rw (h, holding.above, row) (all_allowed changes)

      by : (body : Option Body) → holds is_native body ≡ true → GoesAllowed w me (porter_move w me None stage words (and_then thread_of body))
      by (Some (Thread_of t)) h = by_native (is_porter t.mode) h
      by (Some (Mutex locked)) h = cc
      by (Some Cond) h = cc
      by (Some (Mapping m)) h = cc
      by (Some (Region r)) h = cc
      by (Some (Port set served)) h = cc
      by (Some Portset) h = cc
      by (Some (Space birth holder)) h = cc
      by (Some (Reference to)) h = cc
      by None h = cc

pub unheld_call_ready : UnheldCallIsReady
unheld_call_ready nester slot w stage words changes said holding calm row = ready nester slot w holding calm stage words changes said row
