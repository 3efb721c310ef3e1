-- Talking: a thread's Send to a thread that receives, or its Over to one.
use Rattle.std.proofs.Common.{◌≡◌, ◌≤◌, ◌++◌, ℕ, Bool, true, false, List, [], ◌∷◌, length, Option, Some, None, is_some, IfSome, if◌then◌else◌, unwrap_or}
use Rattle.std.proofs.Common.{refl, sym, ap, subst, ◌∙◌}
use Rattle.std.specs.Bool.{OnTrue}
use Rattle.fk_model.specs.declared.moves.Ask.TheVariants as asks
use Rattle.fk_model.specs.declared.moves.Said.TheVariants as says
use Rattle.fk_model.specs.declared.names.Who.{Who}
use Rattle.fk_model.specs.declared.stage.Stage.{Stage}
use Rattle.fk_model.specs.declared.thread.Mode.TheVariants as modes
use Rattle.fk_model.specs.declared.thread.Thread as threads_of
use Rattle.fk_model.specs.declared.thread.Turn.{Turn}
use Rattle.fk_model.specs.declared.thread.Turn.TheVariants as turns
use Rattle.fk_model.specs.Calls.{calls, todo_of}
use Rattle.fk_model.specs.Freezing.{are_unfrozen, AreAllowed}
use Rattle.fk_model.specs.Holds.{decider, is_frozen_for}
use Rattle.fk_model.specs.LinkRows.{user_at}
use Rattle.fk_model.specs.Moves.{allowed_row, call_row, chooses, closed, outcome, stepped, GoesAllowed}
use Rattle.fk_model.specs.Objects.{Body}
use Rattle.fk_model.specs.Outcomes as outcomes
use Rattle.fk_model.specs.Outcomes.{Outcome, listed}
use Rattle.fk_model.specs.Outcomes.Outcome.{Goes, Waits}
use Rattle.fk_model.specs.Outcomes.Said.{Nothing}
use Rattle.fk_model.specs.Places.{Path}
use Rattle.fk_model.specs.Searches.{depth, option_list, thread_at}
use Rattle.fk_model.specs.Talks.{other_side}
use Rattle.fk_model.specs.TransferRows.{over, receive, send}
use Rattle.fk_model.specs.Valid.{IsValid}
use Rattle.fk_model.specs.World.{World, Change, apply, apply_all}
use Rattle.fk_model.specs.World.Change.{Alter, PutPage}
use Rattle.fk_model.specs.World.Edit.{CountMoved, Finish, PassTurn, Shift}
use Rattle.fk_changes.specs.Threads.Answers.{came_answers}
use Rattle.fk_plans.specs.declared.plans.plan.Moving.{Moving}
use Rattle.fk_plans.specs.declared.plans.plan.Verdict.{Verdict}
use Rattle.fk_plans.specs.declared.wakes.touching.Touched.TheVariants.{Few}
use Rattle.fk_plans.specs.Plans.Blocks.{block_page}
use Rattle.fk_plans.specs.Plans.Movings.{done_if, plan_of, verdict_of}
use Rattle.fk_plans.specs.Plans.Plans.{caller_by, changes_by}
use Rattle.fk_plans.specs.Plans.Verdicts.{move_by, outcome_by, IsVerdict}
use Rattle.fk_plans.proofs.InPlans.Moved.{each, fits_plan, sure_moving}
use Rattle.fk_stages.proofs.Codes.{OfOthers, of_registers}
use Rattle.fk_store.specs.Store.Bodies.{thread_by}
use Rattle.fk_store.specs.Store.Contents.{Contents}
use Rattle.fk_store.specs.Store.Paths.{path, place}
use Rattle.fk_store.specs.Store.Threads.{is_free_at, todo_at}
use Rattle.fk_store.specs.Store.World.{world}
use Rattle.fk_transfer.specs.declared.passing.Passage.{Passage}
use Rattle.fk_transfer.specs.Lines.{over_on, passed_of, sending, IsReceiver, Meets}
use Rattle.fk_calls.specs.Acts.Endings.{IsLeft}
use Rattle.fk_calls.specs.declared.calls.going.Talked.TheVariants as talkeds
use Rattle.fk_calls.specs.declared.calls.judging.Judgement.{Judgement}
use Rattle.fk_calls.specs.Calls.Doings.{first_of, IsAtStage}
use Rattle.fk_calls.specs.Calls.Goings.{is_lock, is_orderly, receive_on, run_of, HasSent, HasTalked, IsAnyReady, IsAtOrderly}
use Rattle.fk_calls.specs.Calls.Judgements.{IsJudged, IsMoving, IsReadyMove, IsStepTo}
use Rattle.fk_calls.proofs.InCalls.Judged.{quiet_judged, stage_judged, staged_user, step_judged, user}
use Rattle.fk_calls.proofs.InCalls.Locking.{named_alone}
use Rattle.fk_calls.proofs.InCalls.Touches as touches
use Rattle.fk_calls.proofs.InCalls.Touches.{touching, touching_by}

-- ---- what is behind a stage

Orderly : List ℕ → Type 0
Orderly g = is_orderly (unwrap_or (todo_of g) []) ≡ true

OrderlyIn : List ℕ → List Stage → Type 0
OrderlyIn g todo = is_orderly todo ≡ true

each_orderly : OfOthers [] OrderlyIn calls
unfolding OrderlyIn
each_orderly = assumption

orderly : (g : List ℕ) → length g ≡ 16 → is_orderly (unwrap_or (todo_of g) []) ≡ true
unfolding Orderly OrderlyIn
orderly = of_registers [] Orderly OrderlyIn (λ r. tt) each_orderly (λ g. refl) (λ n r other is. is)

module _ (w : World) (x : Path) (p : ℕ → Path) (t : threads_of.Thread) (there : Some (thread_by p t) ≡ thread_at w x) (calling : t.mode ≡ modes.Calling) where
  at_orderly : (stage : Stage) → length t.regs ≡ 16 → first_of (todo_of t.regs) ≡ Some stage → IsAtOrderly w x stage
  unfolding todo_at
  at_orderly stage long first = by (todo_of t.regs) refl first (orderly t.regs long)
    where
      by : (o : Option (List Stage)) → todo_of t.regs ≡ o → first_of o ≡ Some stage → is_orderly (unwrap_or (todo_of t.regs) []) ≡ true → IsAtOrderly w x stage
      by None e first is = absurd (cc)
      by (Some []) e first is = absurd (cc)
      by (Some (other ∷ later)) e first is =
          let same : other ≡ stage = cc in
          record { later = later; todo = rw (← there, calling, e, ← same) refl; orderly = rw (← same) (rw e at is) }

  pub orderly_if : (o : Option Stage) → length t.regs ≡ 16 → IfSome o (λ stage. first_of (todo_of t.regs) ≡ Some stage) → IfSome o (IsAtOrderly w x)
  orderly_if None long first = tt
  orderly_if (Some stage) long first = at_orderly stage long first

  pub lone_if : (o : Option Stage) → IfSome o (λ stage. is_lock stage ≡ true → todo_of t.regs ≡ Some (stage ∷ [])) →
      IfSome o (λ stage. is_lock stage ≡ true → todo_at w x ≡ stage ∷ [])
  lone_if None named = tt
  lone_if (Some stage) named = λ lock. named_alone w x p t stage there calling (named lock)

pub at_stage : (w : World) (x : Path) (stage : Stage) → IsAtOrderly w x stage → IsAtStage w x stage
at_stage w x stage at = record { later = at.later; todo = at.todo }

-- ---- the rows

plain_send : (side : Turn) (address count : ℕ) → chooses (sending side address count) ≡ false
plain_send turns.Client address count = refl
plain_send turns.Server address count = refl

plain_over : (side : Turn) → chooses (over_on side) ≡ false
plain_over turns.Client = refl
plain_over turns.Server = refl

send_row : (w : World) (x : Path) (side : Turn) (address count : ℕ) → allowed_row w (user_at x) None (sending side address count) ≡ send w (user_at x) side address count
send_row w x turns.Client address count = refl
send_row w x turns.Server address count = refl

over_row : (w : World) (x : Path) (side : Turn) → allowed_row w (user_at x) None (over_on side) ≡ over w (user_at x) side None
over_row w x turns.Client = refl
over_row w x turns.Server = refl

receive_row : (w : World) (x : Path) (pick : Option Path) (side : Turn) (into room : ℕ) →
    allowed_row w (user_at x) pick (receive_on side into room) ≡ receive w (user_at x) side into room
receive_row w x pick turns.Client into room = refl
receive_row w x pick turns.Server into room = refl

-- who receives waits, whomever it picks, where its row does
waits_so : (m : Contents) (who : Who) (side : Turn) (into room : ℕ) → is_free_at (world m) (place (path m) who) ≡ true →
    IsAtStage (world m) (place (path m) who) (receive_on side into room) → receive (world m) (user_at (place (path m) who)) side into room ≡ Waits →
    (pick : Option Path) → outcome (world m) (place (path m) who) pick asks.Run ≡ Waits
unfolding call_row
waits_so m who side into room free at waits pick =
    let x = place (path m) who in
    let row = receive_row (world m) x pick side into room ∙ waits in
    staged_user (world m) who.slot (path m who.space) pick (receive_on side into room) free at ∙ rw row refl

pub has_waited : (m : Contents) (who : Who) (side : Turn) (into room : ℕ) → is_free_at (world m) (place (path m) who) ≡ true →
    IsAtOrderly (world m) (place (path m) who) (receive_on side into room) → receive (world m) (user_at (place (path m) who)) side into room ≡ Waits →
    IsAnyReady (world m) (place (path m) who) → ⊥
has_waited m who side into room free at waits any =
    let out = waits_so m who side into room free (at_stage (world m) (place (path m) who) (receive_on side into room) at) waits any.0 in
    rw out at any.1

-- ---- the moves, where nothing is held

module _ (m : Contents) (who : Who) (unheld : (q : Path) → decider (world m) q ≡ None) (free : is_free_at (world m) (place (path m) who) ≡ true) where
  abbrev w : World
  w = world m

  abbrev me : Path
  me = place (path m) who

  pub unfrozen : (x : Path) → is_frozen_for w me x ≡ false
  unfrozen x = rw (unheld x) refl

  -- what sets no pointers leads to nothing frozen
  pub none_led : (o : Option Body) → are_unfrozen w me (option_list (λ (b : Body). []) o) ≡ true
  none_led None = refl
  none_led (Some b) = refl

  -- ---- words

  module _ (words : Moving) where
    abbrev sent : Judgement
    sent = record { caller = user who; chooses = false; verdict = verdict_of words }

    -- its changes, with the last one where the stage is done
    abbrev all : Bool → List Change
    all last = changes_by (path m) [] (plan_of words) w ++ (if last then Alter me (Finish []) ∷ [] else [])

    goes : move_by m (user who) [] false None (verdict_of words) ≡ Goes (all words.last) Nothing
    goes = by words.last
      where
        by : (last : Bool) → move_by m (user who) [] false None (done_if last (plan_of words)) ≡ Goes (all last) Nothing
        by true = refl
        by false = refl

    allowed : (last : Bool) → AreAllowed w me (all last)
    allowed last = (
      unfrozen (path m words.block.to.0),
      (
        record { object = unfrozen (place (path m) words.client); changed = none_led (w.body (place (path m) words.client)); made = refl },
        (
          record { object = unfrozen (place (path m) words.receiver); changed = none_led (w.body (place (path m) words.receiver)); made = refl },
          (record { object = unfrozen (place (path m) words.sender); changed = none_led (w.body (place (path m) words.sender)); made = refl }, by last),
        ),
      ),
    )
      where
        by : (last : Bool) → AreAllowed w me (if last then Alter me (Finish []) ∷ [] else [])
        by true = (record { object = unfrozen me; changed = none_led (w.body me); made = refl }, tt)
        by false = tt

    sent_judged : (side : Turn) (address count : ℕ) → IsAtStage w me (sending side address count) →
        outcome_by w (path m) (caller_by (path m) (user who) []) (verdict_of words) ≡ send w (user_at me) side address count →
        IsVerdict m (user who) (verdict_of words) → IsMoving m (run_of who) asks.Run words
    sent_judged side address count at row fits =
        subst (λ (chosen : Bool). IsJudged m (run_of who) asks.Run (record { caller = user who; chooses = chosen; verdict = verdict_of words }))
        (plain_send side address count)
        (stage_judged m (run_of who) (sending side address count) (verdict_of words) free at (row ∙ sym (send_row w me side address count)) fits
        (λ none. sure_moving words))

    has_row : (side : Turn) (address count : ℕ) → IsAtOrderly w me (sending side address count) → IsVerdict m (user who) (verdict_of words) →
        words.sender ≡ who → Meets w me (place (path m) words.client) (place (path m) words.receiver) side →
        IsReceiver w (place (path m) words.receiver) (other_side side) → IsMoving m (run_of who) asks.Run words → HasSent m who words.client words.receiver
    has_row side address count at fits sender meets receives is = record {
      side = side;
      address = address;
      count = count;
      at = at;
      meets = meets;
      receiving = receives;
      sends = record {
        space = path m words.block.to.0;
        page = words.block.to.1;
        words = block_page (path m) w words.block;
        count = words.block.count;
        last = words.last;
        there = (fits_plan m (user who) words.last (plan_of words) fits).0.4;
        changes = ap listed (is.outcome ∙ goes)
            ∙ ap (λ (q : Who). PutPage (path m words.block.to.0) words.block.to.1 (block_page (path m) w words.block)
            ∷ Alter (place (path m) words.client) (CountMoved words.block.count) ∷ Alter (place (path m) words.receiver) (Shift words.block.count)
            ∷ Alter (place (path m) q) (Shift words.block.count) ∷ (if words.last then Alter me (Finish []) ∷ [] else [])) sender;
      };
    }

    sent_ready : IsMoving m (run_of who) asks.Run words → IsReadyMove m (run_of who) asks.Run
    sent_ready is = subst (λ (o : Outcome). GoesAllowed w me o) (sym (is.outcome ∙ goes)) (allowed words.last)

    pub has_sent : (n : Contents) (side : Turn) (address count : ℕ) → IsValid w → w.next ≤ depth → IsAtOrderly w me (sending side address count) →
        outcome_by w (path m) (caller_by (path m) (user who) []) (verdict_of words) ≡ send w (user_at me) side address count →
        IsVerdict m (user who) (verdict_of words) → words.sender ≡ who → Meets w me (place (path m) words.client) (place (path m) words.receiver) side →
        IsReceiver w (place (path m) words.receiver) (other_side side) →
        stepped w (closed (user_at me) (outcome_by w (path m) (caller_by (path m) (user who) []) (verdict_of words))) ≡ record { world = world n; said = Nothing } →
        HasTalked m n who (talkeds.Sends words.client words.receiver words.sender)
    has_sent n side address count valid few at row fits sender meets receives made =
        let is = sent_judged side address count (at_stage w me (sending side address count) at) row fits in
        let ready = sent_ready is in
        let step : IsStepTo m (run_of who) asks.Run n says.Nothing = step_judged m (run_of who) asks.Run sent is ready ∙ made in
        record {
          ready = ready;
          step = step;
          ended = quiet_judged m n (run_of who) asks.Run sent says.Nothing valid few
              (each (λ (v : Verdict). IsLeft w (path m) v None) words.last (plan_of words) refl refl) is (ready, step);
          touched = touching_by m (run_of who) asks.Run sent (Few (Some words.client) (Some words.receiver) (Some words.sender))
              (sym (touches.moving_judged words)) is;
          row = has_row side address count at fits sender meets receives is;
        }

  -- ---- a turn

  module _ (to : Passage) where
    abbrev passed : Judgement
    passed = record { caller = user who; chooses = false; verdict = passed_of to }

    abbrev turned : List Change
    turned = Alter (place (path m) to.receiver) (Finish (came_answers to.came)) ∷ Alter (place (path m) to.client) (PassTurn to.turn) ∷ Alter me (Finish []) ∷ []

    may_turn : AreAllowed w me turned
    may_turn = (
      record { object = unfrozen (place (path m) to.receiver); changed = none_led (w.body (place (path m) to.receiver)); made = refl },
      (
        record { object = unfrozen (place (path m) to.client); changed = none_led (w.body (place (path m) to.client)); made = refl },
        (record { object = unfrozen me; changed = none_led (w.body me); made = refl }, tt),
      ),
    )

    passed_judged : (side : Turn) → IsAtStage w me (over_on side) →
        outcome_by w (path m) (caller_by (path m) (user who) []) (passed_of to) ≡ over w (user_at me) side None →
        IsVerdict m (user who) (passed_of to) → IsJudged m (run_of who) asks.Run passed
    passed_judged side at row fits =
        subst (λ (chosen : Bool). IsJudged m (run_of who) asks.Run (record { caller = user who; chooses = chosen; verdict = passed_of to })) (plain_over side)
        (stage_judged m (run_of who) (over_on side) (passed_of to) free at (row ∙ sym (over_row w me side)) fits (λ none. tt))

    passed_ready : IsJudged m (run_of who) asks.Run passed → IsReadyMove m (run_of who) asks.Run
    passed_ready is = subst (λ (o : Outcome). GoesAllowed w me o) (sym is.outcome) may_turn

    pub has_passed : (n : Contents) (side : Turn) → IsValid w → w.next ≤ depth → IsAtOrderly w me (over_on side) →
        outcome_by w (path m) (caller_by (path m) (user who) []) (passed_of to) ≡ over w (user_at me) side None →
        IsVerdict m (user who) (passed_of to) → to.turn ≡ other_side side → Meets w me (place (path m) to.client) (place (path m) to.receiver) side →
        IsReceiver w (place (path m) to.receiver) (other_side side) →
        world n ≡ apply (Alter me (Finish [])) (apply (Alter (place (path m) to.client) (PassTurn to.turn))
        (apply (Alter (place (path m) to.receiver) (Finish (came_answers to.came))) w)) → HasTalked m n who (talkeds.Passes to.client to.receiver)
    unfolding apply_all
    has_passed n side valid few at row fits turn meets receives world_is =
        let is = passed_judged side (at_stage w me (over_on side) at) row fits in
        let ready = passed_ready is in
        let step : IsStepTo m (run_of who) asks.Run n says.Nothing =
        step_judged m (run_of who) asks.Run passed is ready ∙ ap (λ (u : World). record { world = u; said = outcomes.Said.Nothing }) (sym world_is) in
        record {
          ready = ready;
          step = step;
          ended = quiet_judged m n (run_of who) asks.Run passed says.Nothing valid few refl is (ready, step);
          touched = touching m (run_of who) asks.Run passed is;
          row = record {
            side = side;
            at = at;
            meets = meets;
            receiving = receives;
            answers = came_answers to.came;
            changes = ap listed is.outcome
                ∙ ap (λ (t : Turn). Alter (place (path m) to.receiver) (Finish (came_answers to.came)) ∷ Alter (place (path m) to.client) (PassTurn t)
                ∷ Alter me (Finish []) ∷ []) turn;
          };
        }

  -- ---- whether they are ready

  pub may_send : (side : Turn) (address count : ℕ) → IsAtOrderly w me (sending side address count) → (o : Option Moving) →
      IfSome o (λ words. outcome_by w (path m) (caller_by (path m) (user who) []) (verdict_of words) ≡ send w (user_at me) side address count) →
      IfSome o (λ words. IsVerdict m (user who) (verdict_of words)) → OnTrue (is_some o) (IsReadyMove m (run_of who) asks.Run)
  may_send side address count at None row fits = tt
  may_send side address count at (Some words) row fits =
      sent_ready words (sent_judged words side address count (at_stage w me (sending side address count) at) row fits)

  pub may_pass : (side : Turn) → IsAtOrderly w me (over_on side) → (o : Option Passage) →
      IfSome o (λ to. outcome_by w (path m) (caller_by (path m) (user who) []) (passed_of to) ≡ over w (user_at me) side None) →
      IfSome o (λ to. IsVerdict m (user who) (passed_of to)) → OnTrue (is_some o) (IsReadyMove m (run_of who) asks.Run)
  may_pass side at None row fits = tt
  may_pass side at (Some to) row fits = passed_ready to (passed_judged to side (at_stage w me (over_on side) at) row fits)
