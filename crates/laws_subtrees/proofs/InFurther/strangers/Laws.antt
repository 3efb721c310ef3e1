-- A move of a stranger isn't seen.
use Rattle.std.proofs.Common.{◌≡◌, inr, ℕ, Bool, true, false, if◌then◌else◌, is_some, List, [], ◌∷◌, Option, Some, None, option_map, Result, Ok, Err, refl}
use Rattle.std.proofs.Common.{append-nil}
use Rattle.fk_model.specs.declared.moves.Ask.{Ask}
use Rattle.fk_model.specs.declared.moves.Ask.TheVariants as asks
use Rattle.fk_model.specs.declared.names.Kind.TheVariants as kinds
use Rattle.fk_model.specs.declared.stage.Stage.{Stage}
use Rattle.fk_model.specs.declared.stage.Stage.TheVariants.{Search, Wait, ServerSend, ServerOver, ServerEnd, PageGive, PageTake, ServerOverRef}
use Rattle.fk_model.specs.declared.stage.Stage.TheVariants as stages
use Rattle.fk_model.specs.Places.{Path, strip, is_within}
use Rattle.fk_model.specs.Objects.{kind_of, and_then, reference_of}
use Rattle.fk_model.specs.NativeRows.{accept_row}
use Rattle.fk_model.specs.World.{World, Change, apply_all}
use Rattle.fk_model.specs.Searches.{client_of, faulter_of, client_at}
use Rattle.fk_model.specs.Outcomes.{Outcome, Caller, path_of, listed}
use Rattle.fk_model.specs.Outcomes.Outcome.{Refused, Waits, Goes}
use Rattle.fk_model.specs.Readers.{space_argument}
use Rattle.fk_model.specs.LinkRows.{Candidate, candidate, user_at}
use Rattle.fk_model.specs.Moves.{GoesAllowed, IsReady, porter_at, outcome, step, stepped}
use Rattle.fk_model.specs.Valid.{IsConsistent, is_fit, kind_there}
use Rattle.fk_model.specs.Cut.{cut, IsPlain}
use Rattle.fk_model.specs.Further.{Touch}
use Rattle.fk_model.specs.Further.Touch.{Handed, Left, FaultDone, PageTaken}
use Rattle.fk_model.specs.Further.Onward.{ByOthers}
use Rattle.fk_model.specs.Seen.{accepted, outcome_said, page_put, drops_page, passes_turn, ends_talk, serves_outside, given_of, on_inner, taken_as, page_given}
use Rattle.fk_model.specs.Seen.{handed_by}
use Rattle.fk_model.specs.Seen.{on_place, stage_touch, caller_stage, outer_touch, IsSeen, IsStranger}
use Rattle.fk_model.specs.Seen.Seen.{Unseen}
use Rattle.laws_moves.proofs.InMachine.safety.Outcomes.{SafeOutcome}
use Rattle.laws_moves.proofs.InMachine.safety.Moves.{outcome-safe}
use Rattle.laws_moves.proofs.InMachine.validity.Steps.{facts_of}
use Rattle.laws_subtrees.specs.Further.Strangers.{HasNoWindow, is_of_thread, StrangersMoveUnseen, IsStrangersPort, is_of_server, StrangersActUnseen}
use Rattle.laws_subtrees.proofs.InFurther.strangers.Places.{IsAwayObject, away_object, outside_up, within-append}
use Rattle.laws_subtrees.proofs.InFurther.strangers.Reads.{IsApart, place-away}
use Rattle.laws_subtrees.proofs.InFurther.strangers.Away.{away-serves, changes-below}
use Rattle.laws_subtrees.proofs.InFurther.strangers.Same.{same-below-cut}
use Rattle.laws_subtrees.proofs.InFurther.strangers.Talks.{client-out, faulter-out, candidate-out}
use Rattle.laws_subtrees.proofs.InFurther.strangers.Rows.{AwayOutcome, outcome-away}
use Rattle.laws_subtrees.proofs.InFurther.strangers.Natives.{IfGoes, act-away, guest-out, picked-out}

none_of : {A : Type 0} (o : Option A) → is_some o ≡ false → o ≡ None
none_of None h = refl
none_of (Some a) h = cc

module _ (w : World) (nester : Path) (slot : ℕ) (valid : IsConsistent w) (plain : IsPlain w nester slot) where
  abbrev root : Path
  root = slot ∷ nester

  -- ---- no touch

  -- of nobody who is outside
  untouched : (touch : Path → Path → Option Touch) (o : Option Path) → ((x : Path) → o ≡ Some x → is_within root x ≡ false) → on_inner root touch o ≡ None
  untouched touch None out = refl
  untouched touch (Some x) out = rw (none_of (strip root x) (out x refl)) refl

  module _ (c : Caller) (its : IsApart w nester slot c.space) where
    -- nor of somebody inside who is picked, since that is no candidate
    wait-none : (set : ℕ) (x : Path) (o : Option Path) → strip root x ≡ o → and_then (λ q. taken_as q (candidate w c.space set x)) o ≡ None
    wait-none set x None e = refl
    wait-none set x (Some q) e = by (candidate w c.space set x) refl
      where
        by : (o : Option Candidate) → candidate w c.space set x ≡ o → taken_as q o ≡ None
        by (Some d) found =
            let out = candidate-out w nester slot valid plain c.space set its.away x d found in
            let inside : is_within root x ≡ true = rw e refl in
            cc
        by None found = refl

    picked-none : (set : ℕ) (pick : Option Path) → on_inner root (λ x q. taken_as q (candidate w c.space set x)) pick ≡ None
    picked-none set None = refl
    picked-none set (Some x) = wait-none set x (strip root x) refl

    me_client : (x : Path) → client_of w (path_of c) ≡ Some x → is_within root x ≡ false
    me_client x found = client-out w nester slot valid plain (path_of c) x (away_object nester slot c.slot c.space its.away) found

    me_faulter : (x : Path) → faulter_of w (path_of c) ≡ Some x → is_within root x ≡ false
    me_faulter x found = faulter-out w nester slot valid plain (path_of c) x (away_object nester slot c.slot c.space its.away) found

    if_none : (t : Bool) (o : Option Touch) → o ≡ None → (if t then o else None) ≡ None
    if_none true o h = h
    if_none false o h = refl

    place-none : (touch : Path → Option Touch) (s : ℕ) → on_place root touch (space_argument w c s) ≡ None
    place-none touch s = by (space_argument w c s) refl
      where
        by : (r : Result Path ℕ) → space_argument w c s ≡ r → on_place root touch r ≡ None
        by (Ok space) e = rw (none_of (strip root space) (place-away w nester slot c s space its e).outside) refl
        by (Err status) e = refl

    stage-none : (pick : Option Path) (cs : List Change) (stage : Stage) → stage_touch w root c pick cs stage ≡ None
    stage-none pick cs (Wait set) = picked-none set pick
    stage-none pick cs (ServerSend address count) = untouched (given_of w cs) (client_of w (path_of c)) me_client
    stage-none pick cs ServerOver = if_none (passes_turn cs) _ (untouched (handed_by w root None) (client_of w (path_of c)) me_client)
    stage-none pick cs (ServerOverRef reference) = if_none (passes_turn cs) _
        (untouched (handed_by w root (and_then reference_of (w.body (reference ∷ c.space)))) (client_of w (path_of c)) me_client)
    stage-none pick cs ServerEnd = if_none (ends_talk cs) _ (untouched (λ x q. Some (Left q)) (client_of w (path_of c)) me_client)
    stage-none pick cs stages.FaultDone = untouched (λ x q. Some (FaultDone q)) (faulter_of w (path_of c)) me_faulter
    stage-none pick cs (PageGive s page address) = place-none (λ q. page_given q page (page_put cs)) s
    stage-none pick cs (PageTake s page address) = if_none (drops_page cs) _ (place-none (λ q. Some (PageTaken q page)) s)
    stage-none pick cs (Search s from) = refl
    stage-none pick cs stage = refl

  outer-none : (k : ℕ) (s : Path) (pick : Option Path) (ask : Ask) (o : Outcome) → IsApart w nester slot s → is_of_thread ask ≡ true →
      outer_touch w root (k ∷ s) pick ask o ≡ None
  outer-none k s pick asks.Run o its is = by (caller_stage w (k ∷ s))
    where
      by : (stage : Option Stage) → and_then (stage_touch w root (user_at (k ∷ s)) pick (listed o)) stage ≡ None
      by (Some stage) = stage-none (user_at (k ∷ s)) its pick (listed o) stage
      by None = refl
  outer-none k s pick (asks.Call stage words) o its is = stage-none (porter_at (k ∷ s) words) its pick (listed o) stage
  outer-none k s pick asks.Accept o its is = cc
  outer-none k s pick (asks.Give words len) o its is = cc
  outer-none k s pick asks.Over o its is = cc

  -- ---- the cut

  stepped-cut : (o : Outcome) → kind_there w root ≡ Some kinds.Space → (windows : HasNoWindow w nester slot) → SafeOutcome w o →
      AwayOutcome w nester slot valid plain windows o → cut (stepped w o).world nester slot ≡ cut w nester slot
  stepped-cut (Goes cs said) space windows safe away = same-below-cut w (apply_all cs w) nester slot
      (changes-below w nester slot valid plain cs away.aways safe.safe) space
  stepped-cut (Refused status) space windows safe away = refl
  stepped-cut Waits space windows safe away = refl

  listed-serves : (o : Outcome) (windows : HasNoWindow w nester slot) → AwayOutcome w nester slot valid plain windows o → serves_outside root (listed o) ≡ false
  listed-serves (Goes cs said) windows away = away-serves nester slot cs away.aways
  listed-serves (Refused status) windows away = refl
  listed-serves Waits windows away = refl

-- the space of a stranger
stranger-apart : (w : World) (nester : Path) (slot k : ℕ) (s : Path) → IsStranger w nester slot (k ∷ s) → IsApart w nester slot s
stranger-apart w nester slot k s stranger = record {
  away = record { below = stranger.aside; outside = outside_up nester slot k s stranger.outside };
  apart = stranger.apart;
}

pub strangers_move_unseen : StrangersMoveUnseen
unfolding step kind_there
strangers_move_unseen w nester slot e whole plain windows stranger is fit = by e.mover stranger
    (outcome-safe w e.mover e.pick e.ask (facts_of w whole.valid whole.few) fit)
  where
    space : option_map kind_of (w.body (slot ∷ nester)) ≡ Some kinds.Space
    space = rw (plain.root) refl

    by : (x : Path) → IsStranger w nester slot x → SafeOutcome w (outcome w x e.pick e.ask) → IsSeen w nester slot (record e { mover = x }) Unseen
    by [] stranger safe =
        let top : is_within [] (slot ∷ nester) ≡ true = rw (append-nil (slot ∷ nester)) at (within-append [] (slot ∷ nester)) in
        let off = stranger.aside in
        cc
    by (k ∷ s) stranger safe =
        let its = stranger-apart w nester slot k s stranger in
        let away = outcome-away w nester slot whole.valid.consistent plain windows k s e.pick e.ask its is in
        let row : option_map ByOthers (outer_touch w (slot ∷ nester) (k ∷ s) e.pick e.ask (outcome w (k ∷ s) e.pick e.ask)) ≡ None =
        rw (outer-none w nester slot whole.valid.consistent plain k s e.pick e.ask (outcome w (k ∷ s) e.pick e.ask) its is) refl in (
          inr (rw (none_of (strip (slot ∷ nester) (k ∷ s)) stranger.outside) row),
          (
            stepped-cut w nester slot whole.valid.consistent plain (outcome w (k ∷ s) e.pick e.ask) space windows safe away,
            listed-serves w nester slot whole.valid.consistent plain (outcome w (k ∷ s) e.pick e.ask) windows away,
          ),
        )

-- ---- native servers

module _ (w : World) (nester : Path) (slot : ℕ) (valid : IsConsistent w) (plain : IsPlain w nester slot) (port : Path)
    (away : IsAwayObject nester slot port) where
  -- who is accepted is nobody inside
  accept-none : (o : Outcome) (x : Path) → IfGoes (is_within (slot ∷ nester) x ≡ false) o → GoesAllowed w port o →
      on_inner (slot ∷ nester) (accepted (outcome_said o)) (Some x) ≡ None
  accept-none (Goes cs said) x out ready = rw (none_of (strip (slot ∷ nester) x) out) refl
  accept-none (Refused status) x out ready = absurd ready
  accept-none Waits x out ready = absurd ready

  act-none : (pick : Option Path) (ask : Ask) → is_of_server ask ≡ true → IsReady w port pick ask →
      outer_touch w (slot ∷ nester) port pick ask (outcome w port pick ask) ≡ None
  unfolding outcome
  act-none (Some x) asks.Accept is ready = accept-none (accept_row w port (Some x)) x (picked-out w nester slot valid plain port away x) ready
  act-none None asks.Accept is ready = refl
  act-none pick (asks.Give words len) is ready =
      untouched w nester slot valid plain _ (client_at w port) (λ x found. guest-out w nester slot valid plain port away x found)
  act-none pick asks.Over is ready =
      untouched w nester slot valid plain _ (client_at w port) (λ x found. guest-out w nester slot valid plain port away x found)
  act-none pick asks.Run is ready = cc
  act-none pick (asks.Call stage words) is ready = cc

-- such an act is fit always
fit_act : (w : World) (x : Path) (ask : Ask) → is_of_server ask ≡ true → is_fit w x ask ≡ true
unfolding is_fit
fit_act w x asks.Accept is = refl
fit_act w x (asks.Give words len) is = refl
fit_act w x asks.Over is = refl
fit_act w x asks.Run is = refl
fit_act w x (asks.Call stage words) is = cc

pub strangers_act_unseen : StrangersActUnseen
unfolding step kind_there
strangers_act_unseen w nester slot e whole plain windows stranger is ready = by e.mover stranger ready
    (outcome-safe w e.mover e.pick e.ask (facts_of w whole.valid whole.few) (fit_act w e.mover e.ask is))
  where
    space : option_map kind_of (w.body (slot ∷ nester)) ≡ Some kinds.Space
    space = rw (plain.root) refl

    by : (x : Path) → IsStrangersPort w nester slot x → IsReady w x e.pick e.ask → SafeOutcome w (outcome w x e.pick e.ask) →
        IsSeen w nester slot (record e { mover = x }) Unseen
    by [] stranger ready safe =
        let top : is_within [] (slot ∷ nester) ≡ true = rw (append-nil (slot ∷ nester)) at (within-append [] (slot ∷ nester)) in
        let off = stranger.aside in
        cc
    by (k ∷ s) stranger ready safe =
        let away = away_object nester slot k s (record { below = stranger.aside; outside = outside_up nester slot k s stranger.outside }) in
        let its = act-away w nester slot whole.valid.consistent plain windows (k ∷ s) away e.pick e.ask is in
        let row : option_map ByOthers (outer_touch w (slot ∷ nester) (k ∷ s) e.pick e.ask (outcome w (k ∷ s) e.pick e.ask)) ≡ None =
        rw (act-none w nester slot whole.valid.consistent plain (k ∷ s) away e.pick e.ask is ready) refl in (
          inr (rw (none_of (strip (slot ∷ nester) (k ∷ s)) stranger.outside) row),
          (
            stepped-cut w nester slot whole.valid.consistent plain (outcome w (k ∷ s) e.pick e.ask) space windows safe its,
            listed-serves w nester slot whole.valid.consistent plain (outcome w (k ∷ s) e.pick e.ask) windows its,
          ),
        )
