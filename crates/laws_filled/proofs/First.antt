-- A pager from its first state on.
use Rattle.std.proofs.Common.{◌≡◌, ℕ, ◌<◌, ◌≤◌, Bool, true, false, cond, ◌&&◌, nat_le, nat_lt, is_some, if◌then◌else◌, List, [], ◌∷◌, length, Option, Some}
use Rattle.std.proofs.Common.{None, option_map, refl, sym, ap, subst, ◌∙◌, arith, ◌⊎◌, inl, inr}
use Rattle.std.proofs.lemmas.Bool.{ltb-true, cases_lt, cases_Bool}
use Rattle.fk_model.specs.declared.limits.TheConstants.{LAST_PORTER_SLOT, LAST_USER_SLOT}
use Rattle.fk_model.specs.declared.moves.Ask.TheVariants as asks
use Rattle.fk_model.specs.Places.{Path, same_path, leads_to}
use Rattle.fk_model.specs.Objects.{Fault, Body, and_then, or_else}
use Rattle.fk_model.specs.Objects.Body.{Thread_of}
use Rattle.fk_model.specs.World.{World, apply_all}
use Rattle.fk_model.specs.Outcomes.{Outcome}
use Rattle.fk_model.specs.Moves.{outcome, IsReady, stepped, step}
use Rattle.fk_model.specs.Runs.{after, run, IsLegal}
use Rattle.fk_model.proofs.walks.PlaceLaws.{same_path_refl}
use Rattle.laws_filled.specs.Filled.{kept_fault, unfaulted, filled}
use Rattle.laws_filled.specs.Pager.{stage_of, is_opening, IsPick, call_of, said_of, struck, Desk, Phase, State, at_phase, paging, words_of, next, hears}
use Rattle.laws_filled.specs.Pager.{no_words, AreWithin, IsAt, IsGood, IsFirst, PagersAreHidden, IsOpening, HasAll, OpeningTakesAll, first}
use Rattle.laws_filled.specs.Pager.Phase.{Seeking, Taking, Waiting, Looking, Evicting, Giving, Ending}
use Rattle.laws_filled.specs.Pager.IsOpening.{Opened, Opens}
use Rattle.laws_filled.proofs.Own.{next_none, own, pagers_are_unseen_lem}
use Rattle.laws_filled.proofs.Results.{is_call, next_result, take_result, NextResult, TakeResult}
use Rattle.laws_filled.proofs.Results.NextResult.{NoneLeft, Found}
use Rattle.laws_filled.proofs.Results.TakeResult.{TakeHeld, TakeBad, TakeGone, TookPage}

and-false : (b : Bool) → (b && false) ≡ false
and-false true = refl
and-false false = refl

module _ (d : Desk) (w : World) (is : IsFirst d w) where
  pub first-good : IsGood d w first
  unfolding first
  first-good = record {
    paging = record {
      root = is.root;
      there = is.there;
      mapless = is.mapless;
      kept = is.kept;
      few = λ page listed. cc;
      taken = λ y fault has paged. let none = is.clear y in cc;
      ours = λ y fault has serving. let none = is.clear y in cc;
    };
    phase = (is.clear, refl, λ page less. absurd (omega (arith, less)));
  }

  first-fault : (o : Option Fault) → and_then (kept_fault (paging d first)) o ≡ o
  unfolding first
  first-fault None = refl
  first-fault (Some fault) = ap (λ (b : Bool). if b then None else Some fault) (and-false (leads_to (d.port ∷ d.nester) fault.port))

  first-body : (o : Option Body) → option_map (unfaulted (paging d first)) o ≡ o
  first-body None = refl
  first-body (Some (Thread_of t)) = λ i. Some (Thread_of (record t { fault = first-fault t.fault i }))
  first-body (Some b) = refl

  first-filled : filled (paging d first) w ≡ w
  unfolding first
  first-filled = λ i. record { body = λ q. first-body (w.body q) i; page = λ s page. by (w.page s page) (same_path s (d.slot ∷ d.nester)) i; next = w.next }
    where
      by : (o : Option (List ℕ)) (m : Bool) → or_else o (cond {A = Option (List ℕ)} m None None) ≡ o
      by None true = refl
      by None false = refl
      by (Some words) m = refl

within-at : (d : Desk) (w : World) (s : State) (ph : Phase) → is_opening ph ≡ false → IsAt d w s ph → AreWithin d w s × (length s.inside ≤ d.room)
within-at d w s (Seeking from) opened at = cc
within-at d w s (Taking page) opened at = cc
within-at d w s Waiting opened at = (at.1, at.2)
within-at d w s (Looking page) opened at = (at.1, at.2)
within-at d w s (Evicting old page) opened at = (at.1, at.2)
within-at d w s (Giving page) opened at = (at.1, omega (arith, at.2))
within-at d w s (Ending page) opened at = (at.1, at.2)

pub pagers_are_hidden_lem : PagersAreHidden
pagers_are_hidden_lem d w es v t low room is moves =
    let unseen = pagers_are_unseen_lem d w first es v t low room (first-good d w is) moves in
    record {
      legal = subst (λ x. IsLegal x (struck moves)) (first-filled d w is) unseen.legal;
      world = subst (λ x. run x (struck moves) ≡ filled (paging d t) v) (first-filled d w is) unseen.world;
      within = λ opened. within-at d v t t.phase opened unseen.good.phase;
    }

-- ---- the opening

module _ (d : Desk) (low : nat_le d.slot LAST_USER_SLOT ≡ true) (room : 1 ≤ d.room) where
  abbrev P : Path
  P = d.slot ∷ d.nester

  -- the opening goes on, or is done
  data Turns (v : World) (t : State) : Type 0 where
    GoesOn : is_opening t.phase ≡ true → Turns v t
    IsDone : t.phase ≡ Waiting → t.inside ≡ [] → ((page : ℕ) → page < 256 → v.page P page ≡ None) → Turns v t

  abbrev TurnsBy : World → State → Phase → Outcome → Type 0
  TurnsBy w s ph o = Turns (stepped w o).world (hears d (at_phase s ph) (stepped w o).said)

  module _ (w : World) (s : State) where
    turns-seeking : (from : ℕ) (good : IsGood d w (at_phase s (Seeking from))) (o : Outcome) →
        NextResult d.nester d.slot low w no_words good.paging.there from o → TurnsBy w s (Seeking from) o
    unfolding next apply_all
    turns-seeking from good _ (NoneLeft none) = IsDone refl good.phase.1 (λ page less. by page less (cases_lt page from))
      where
        by : (page : ℕ) → page < 256 → (page < from) ⊎ (from ≤ page) → w.page P page ≡ None
        by page less (inl below) = good.phase.2 page below
        by page less (inr above) = next_none w P from page none above less
    turns-seeking from good _ (Found page e) = GoesOn refl

    turns-taking : (page : ℕ) (good : IsGood d w (at_phase s (Taking page))) (o : Outcome) →
        TakeResult d.nester d.slot low w no_words good.paging.there page o → TurnsBy w s (Taking page) o
    unfolding next apply_all
    turns-taking page good _ TakeHeld = GoesOn refl
    turns-taking page good _ (TakeBad e) = GoesOn refl
    turns-taking page good _ (TakeGone none) = GoesOn refl
    turns-taking page good _ (TookPage words home) = GoesOn refl

    abbrev me : Path
    me = LAST_PORTER_SLOT ∷ d.nester

    turns : (ph : Phase) (pick : Option Path) → IsGood d w (at_phase s ph) → is_opening ph ≡ true → IsPick d s w ph pick →
        IsReady w me pick (asks.Call (stage_of d ph) (words_of s ph)) → TurnsBy w s ph (outcome w me pick (asks.Call (stage_of d ph) (words_of s ph)))
    turns (Seeking from) (Some y) good opening picks ready = cc
    turns (Taking page) (Some y) good opening picks ready = cc
    turns (Seeking from) None good opening picks ready =
        subst (TurnsBy w s (Seeking from)) (sym (is_call d.nester d.slot low w no_words None (stage_of d (Seeking from)) ready))
        (turns-seeking from good _ (next_result d.nester d.slot low w no_words good.paging.there from))
    turns (Taking page) None good opening picks ready =
        subst (TurnsBy w s (Taking page)) (sym (is_call d.nester d.slot low w no_words None (stage_of d (Taking page)) ready))
        (turns-taking page good _ (take_result d.nester d.slot low w no_words good.paging.there page 0))
    turns Waiting pick good opening picks ready = cc
    turns (Looking page) pick good opening picks ready = cc
    turns (Evicting old page) pick good opening picks ready = cc
    turns (Giving page) pick good opening picks ready = cc
    turns (Ending page) pick good opening picks ready = cc

  -- what has been come to, of which the first world was w
  module _ (w : World) (is : IsFirst d w) where
    done : (v : World) (t : State) → is_opening t.phase ≡ false → Turns v t → filled (paging d t) v ≡ w → HasAll d w v t
    done v t opened (GoesOn opening) same = cc
    done v t opened (IsDone waits empty away) same = record { waits = waits; empty = empty; list = λ page. (ends page).0; away = λ page. (ends page).1 }
      where
        at : (page : ℕ) → or_else (v.page P page) (t.backing page) ≡ w.page P page
        at page = sym (ap (λ (m : Bool). or_else (v.page P page) (cond m (t.backing page) None)) (same_path_refl P)) ∙ ap (λ (x : World). x.page P page) same

        low-page : (page : ℕ) → v.page P page ≡ None → (t.backing page ≡ w.page P page) × (v.page P page ≡ None)
        low-page page none = (sym (ap (λ o. or_else o (t.backing page)) none) ∙ at page, none)

        neither : (a b : Option (List ℕ)) → or_else a b ≡ None → (a ≡ None) × (b ≡ None)
        neither None b e = (refl, e)
        neither (Some words) b e = cc

        absent : (page : ℕ) → nat_lt page 256 ≡ false → (o : Option (List ℕ)) → w.page P page ≡ o → o ≡ None
        absent page high None e = refl
        absent page high (Some words) e = let low : nat_lt page 256 ≡ true = is.few page (ap is_some e) in cc

        high-page : (page : ℕ) → nat_lt page 256 ≡ false → (t.backing page ≡ w.page P page) × (v.page P page ≡ None)
        high-page page high =
            let none = absent page high (w.page P page) refl in
            let both = neither (v.page P page) (t.backing page) (at page ∙ none) in (both.1 ∙ sym none, both.0)

        ends : (page : ℕ) → (t.backing page ≡ w.page P page) × (v.page P page ≡ None)
        ends page = by (cases_Bool (nat_lt page 256))
          where
            by : (nat_lt page 256 ≡ true) ⊎ (nat_lt page 256 ≡ false) → (t.backing page ≡ w.page P page) × (v.page P page ≡ None)
            by (inl is_low) = low-page page (away page (ltb-true page 256 is_low))
            by (inr is_high) = high-page page is_high

    goes : (v : World) (s : State) (u : World) (t : State) → IsGood d v s → Turns v s → filled (paging d s) v ≡ w → IsOpening d v s u t → HasAll d w u t
    unfolding step
    goes v s _ _ good turned same (Opened _ _ opened) = done v s opened turned same
    goes v s u t good turned same (Opens _ _ pick _ _ opening own_move rest) =
        let comes = own d low room v s s.phase pick good own_move.picks own_move.ready in
        goes (after v (call_of d s pick)) (hears d s (said_of v (call_of d s pick))) u t comes.1
        (turns v s s.phase pick good opening own_move.picks own_move.ready) (comes.0 ∙ same) rest

pub opening_takes_all_lem : OpeningTakesAll
unfolding first
opening_takes_all_lem d w v t low room is moves =
    goes d low room w is w first v t (first-good d w is) (GoesOn refl) (first-filled d w is) moves
