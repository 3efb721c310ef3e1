-- Speaking: a client's Send or Over to a native server, clause by clause.
use Rattle.std.proofs.Common.{◌≡◌, ◌≤◌, ◌+◌, ℕ, Bool, true, false, List, [], ◌∷◌, drop, take, Option, Some, None, IsSome, IfSome, IfNone, if◌then◌else◌, unwrap_or}
use Rattle.std.proofs.Common.{refl, sym, ap, subst, ◌∙◌}
use Rattle.fk_model.specs.declared.moves.Ask.TheVariants as asks
use Rattle.fk_model.specs.declared.names.Who.{Who}
use Rattle.fk_model.specs.declared.stage.Stage.TheVariants.{ClientOver, ClientSend}
use Rattle.fk_model.specs.declared.thread.Turn.TheVariants as turns
use Rattle.fk_model.specs.Freezing.{AreAllowed}
use Rattle.fk_model.specs.Holds.{decider}
use Rattle.fk_model.specs.LinkRows.{user_at}
use Rattle.fk_model.specs.Moves.{closed, step, stepped, GoesAllowed, Step}
use Rattle.fk_model.specs.Outcomes as outcomes
use Rattle.fk_model.specs.Outcomes.{Outcome, listed}
use Rattle.fk_model.specs.Outcomes.Outcome.{Goes}
use Rattle.fk_model.specs.Places.{Path}
use Rattle.fk_model.specs.Places.Ptr.{At}
use Rattle.fk_model.specs.Reach.{words_at}
use Rattle.fk_model.specs.Searches.{depth}
use Rattle.fk_model.specs.TransferRows.{over, send}
use Rattle.fk_model.specs.Valid.{IsValid}
use Rattle.fk_model.specs.World.{World, Change, apply, apply_all}
use Rattle.fk_model.specs.World.Change.{Alter}
use Rattle.fk_model.specs.World.Edit.{CountMoved, Finish, PassTurn, Shift}
use Rattle.fk_plans.specs.declared.plans.plan.Verdict.{Verdict}
use Rattle.fk_plans.specs.declared.plans.plan.Words.{Words}
use Rattle.fk_plans.specs.Plans.Hearers.{IsHeard}
use Rattle.fk_plans.specs.Plans.Plans.{caller_by}
use Rattle.fk_plans.specs.Plans.Verdicts.{move_by, outcome_by, words_told, AreWords, IsVerdict}
use Rattle.fk_plans.proofs.InPlans.Hearers.{own-heard}
use Rattle.fk_store.specs.Store.Contents.{Contents}
use Rattle.fk_store.specs.Store.Moves.{said_by}
use Rattle.fk_store.specs.Store.Paths.{path, place, HasOwnPath}
use Rattle.fk_store.specs.Store.Threads.{is_free_at}
use Rattle.fk_store.specs.Store.World.{world}
use Rattle.fk_transfer.specs.declared.sending.Telling.{Telling}
use Rattle.fk_transfer.specs.Lines.{over_on, sending, telling_of, yielded_of}
use Rattle.fk_calls.specs.declared.calls.judging.Judgement.{Judgement}
use Rattle.fk_calls.specs.declared.calls.speaking.Spoken.{Spoken}
use Rattle.fk_calls.specs.declared.calls.speaking.Spoken.TheVariants as spokens
use Rattle.fk_calls.specs.Calls.Goings.{run_of, IsAtOrderly}
use Rattle.fk_calls.specs.Calls.Judgements.{IsEnded, IsHeardBy, IsJudged, IsReadyMove, IsStepTo, TellsTouched}
use Rattle.fk_calls.specs.Calls.Speaking.{said_of, told_changes, touched_by, yielded_changes, HasSpeech, HasSpoken, HasSpokenWords, IsServed, SpokeTo}
use Rattle.fk_calls.proofs.InCalls.Judged.{quiet_judged, stage_judged, step_judged, user}
use Rattle.fk_calls.proofs.InCalls.Talking.{at_stage, none_led, unfrozen}
use Rattle.fk_calls.proofs.InCalls.Touches.{touching}

-- ---- clause by clause

module _ (m n : Contents) (who : Who) where
  pub spoke_made : (o : Option Spoken) → SpokeTo m n who o →
      IfSome o (λ spoken. IsReadyMove m (run_of who) asks.Run × IsStepTo m (run_of who) asks.Run n (said_of n spoken))
  spoke_made None to = tt
  spoke_made (Some spoken) to = (to.ready, to.step)

  pub spoke_ended : (o : Option Spoken) → SpokeTo m n who o → IsSome o → IsEnded m n None
  spoke_ended None to some = absurd (cc)
  spoke_ended (Some spoken) to some = to.ended

  pub spoke_heard : (o : Option Spoken) → SpokeTo m n who o → IfSome o (λ spoken. IsHeardBy m n (said_of n spoken))
  spoke_heard None to = tt
  spoke_heard (Some spoken) to = to.heard

  pub spoke_there : (o : Option Spoken) → SpokeTo m n who o → IfSome o (HasSpokenWords n)
  spoke_there None to = tt
  spoke_there (Some spoken) to = to.there

  pub spoke_touched : (o : Option Spoken) → SpokeTo m n who o → IfSome o (λ spoken. TellsTouched m (run_of who) asks.Run (touched_by who spoken))
  spoke_touched None to = tt
  spoke_touched (Some spoken) to = to.touched

  pub spoke_row : (o : Option Spoken) → SpokeTo m n who o → IfSome o (HasSpeech m who)
  spoke_row None to = tt
  spoke_row (Some spoken) to = to.row

  pub spoke_same : (o : Option Spoken) → SpokeTo m n who o → IfNone o (n ≡ m)
  spoke_same None to = to
  spoke_same (Some spoken) to = tt

-- ---- the moves, where nothing is held

module _ (m : Contents) (who : Who) (unheld : (q : Path) → decider (world m) q ≡ None) (free : is_free_at (world m) (place (path m) who) ≡ true) where
  abbrev w : World
  w = world m

  abbrev me : Path
  me = place (path m) who

  -- ---- words

  module _ (t : Telling) where
    abbrev told : Judgement
    told = record { caller = user who; chooses = false; verdict = telling_of who t }

    goes : closed (user_at me) (outcome_by w (path m) (caller_by (path m) (user who) []) (telling_of who t))
        ≡ Goes (told_changes me t.words.count t.last) (words_told w (path m) t.words)
    goes = by t.last
      where
        by : (last : Bool) → closed (user_at me) (outcome_by w (path m) (caller_by (path m) (user who) []) (telling_of who (record { words = t.words; last = last })))
            ≡ Goes (told_changes me t.words.count last) (words_told w (path m) t.words)
        by true = refl
        by false = refl

    moves : move_by m (user who) [] false None (telling_of who t) ≡ Goes (told_changes me t.words.count t.last) (words_told w (path m) t.words)
    moves = by t.last
      where
        by : (last : Bool) → move_by m (user who) [] false None (telling_of who (record { words = t.words; last = last }))
            ≡ Goes (told_changes me t.words.count last) (words_told w (path m) t.words)
        by true = refl
        by false = refl

    allowed : (last : Bool) → AreAllowed w me (told_changes me t.words.count last)
    allowed last = (
      record { object = unfrozen m who unheld free me; changed = none_led m who unheld free (w.body me); made = refl },
      (record { object = unfrozen m who unheld free me; changed = none_led m who unheld free (w.body me); made = refl }, by last),
    )
      where
        by : (last : Bool) → AreAllowed w me (if last then Alter me (Finish []) ∷ [] else [])
        by true = (record { object = unfrozen m who unheld free me; changed = none_led m who unheld free (w.body me); made = refl }, tt)
        by false = tt

    told_judged : (address count : ℕ) → IsAtOrderly w me (sending turns.Client address count) →
        outcome_by w (path m) (caller_by (path m) (user who) []) (telling_of who t) ≡ send w (user_at me) turns.Client address count →
        IsVerdict m (user who) (telling_of who t) → IsJudged m (run_of who) asks.Run told
    told_judged address count at row fits =
        stage_judged m (run_of who) (ClientSend address count) (telling_of who t) free (at_stage w me (ClientSend address count) at) row fits (λ none. tt)

    told_ready : IsJudged m (run_of who) asks.Run told → IsReadyMove m (run_of who) asks.Run
    told_ready is = subst (λ (o : Outcome). GoesAllowed w me o) (sym (is.outcome ∙ moves)) (allowed t.last)

    module _ (n : Contents) (paths_are : path n ≡ path m) (world_is : world n ≡ apply_all (told_changes me t.words.count t.last) w) where
      -- the page stays
      page_stays : (last : Bool) (s : Path) (page : ℕ) → (apply_all (told_changes me t.words.count last) w).page s page ≡ w.page s page
      unfolding apply apply_all
      page_stays true s page = refl
      page_stays false s page = refl

      words_stay : (s : Path) (page : ℕ) → words_at (world n) s page ≡ words_at w s page
      words_stay s page =
          ap (λ (u : World). words_at u s page) world_is ∙ ap (λ (o : Option (List ℕ)). unwrap_or o []) (page_stays t.last s page)

      abbrev at_port : (ℕ → Path) → List ℕ → outcomes.Said
      at_port p page = outcomes.Said.Words (At (place p t.words.port)) (take t.words.count (drop t.words.at page))

      said_is : words_told w (path m) t.words ≡ said_by (path n) (said_of n (spokens.Words t.words))
      said_is =
          ap (at_port (path m)) (sym (words_stay (path m t.words.space) t.words.page))
          ∙ ap (λ (p : ℕ → Path). at_port p (words_at (world n) (p t.words.space) t.words.page)) (sym paths_are)

      steps : stepped w (Goes (told_changes me t.words.count t.last) (words_told w (path m) t.words))
          ≡ record { world = world n; said = said_by (path n) (said_of n (spokens.Words t.words)) }
      steps =
          ap (λ (u : World). record { world = u; said = words_told w (path m) t.words }) (sym world_is)
          ∙ ap (λ (s : outcomes.Said). record { world = world n; said = s }) said_is

      there_now : AreWords (path m) w t.words → AreWords (path n) (world n) t.words
      there_now there =
          let then_page = sym (page_stays t.last (path m t.words.space) t.words.page) in (
            there.0,
            subst (λ (p : ℕ → Path). IsSome ((world n).page (p t.words.space) t.words.page)) (sym paths_are)
                (subst (λ (u : World). IsSome (u.page (path m t.words.space) t.words.page)) (sym world_is)
                (subst (λ (o : Option (List ℕ)). IsSome o) then_page there.1)),
          )

      pub has_told : (address count : ℕ) → IsValid w → w.next ≤ depth → IsAtOrderly w me (sending turns.Client address count) →
          outcome_by w (path m) (caller_by (path m) (user who) []) (telling_of who t) ≡ send w (user_at me) turns.Client address count →
          IsVerdict m (user who) (telling_of who t) → HasOwnPath (path m) t.words.port → HasSpoken m n who (spokens.Words t.words)
      has_told address count valid few at row fits own =
          let is = told_judged address count at row fits in
          let ready = told_ready is in
          let step : IsStepTo m (run_of who) asks.Run n (said_of n (spokens.Words t.words)) =
          step_judged m (run_of who) asks.Run told is ready ∙ ap (stepped w) goes ∙ steps in
          record {
            ready = ready;
            step = step;
            ended = quiet_judged m n (run_of who) asks.Run told (said_of n (spokens.Words t.words)) valid few refl is (ready, step);
            heard = subst (λ (p : ℕ → Path). IsHeard (path m) (said_by p (said_of n (spokens.Words t.words))) (said_of n (spokens.Words t.words)))
                (sym paths_are) (own-heard (path m) (said_of n (spokens.Words t.words)) own);
            there = there_now fits.1.1;
            touched = touching m (run_of who) asks.Run told is;
            row = record {
              address = address;
              count = count;
              at = at;
              moved = t.words.count;
              last = t.last;
              changes = ap listed (is.outcome ∙ moves);
            };
          }

  -- ---- a turn

  module _ (port : Who) where
    abbrev yielded : Judgement
    yielded = record { caller = user who; chooses = false; verdict = yielded_of who port }

    may_yield : AreAllowed w me (yielded_changes me)
    may_yield = (
      record { object = unfrozen m who unheld free me; changed = none_led m who unheld free (w.body me); made = refl },
      (record { object = unfrozen m who unheld free me; changed = none_led m who unheld free (w.body me); made = refl }, tt),
    )

    yielded_judged : IsAtOrderly w me (over_on turns.Client) →
        outcome_by w (path m) (caller_by (path m) (user who) []) (yielded_of who port) ≡ over w (user_at me) turns.Client None →
        IsVerdict m (user who) (yielded_of who port) → IsJudged m (run_of who) asks.Run yielded
    yielded_judged at row fits =
        stage_judged m (run_of who) ClientOver (yielded_of who port) free (at_stage w me ClientOver at) row fits (λ none. tt)

    yielded_ready : IsJudged m (run_of who) asks.Run yielded → IsReadyMove m (run_of who) asks.Run
    yielded_ready is = subst (λ (o : Outcome). GoesAllowed w me o) (sym is.outcome) may_yield

    pub has_yielded : (n : Contents) → path n ≡ path m → world n ≡ apply_all (yielded_changes me) w → IsValid w → w.next ≤ depth →
        IsAtOrderly w me (over_on turns.Client) →
        outcome_by w (path m) (caller_by (path m) (user who) []) (yielded_of who port) ≡ over w (user_at me) turns.Client None →
        IsVerdict m (user who) (yielded_of who port) → IsServed w me → HasOwnPath (path m) port → HasSpoken m n who (spokens.Over port)
    has_yielded n paths_are world_is valid few at row fits served own =
        let is = yielded_judged at row fits in
        let ready = yielded_ready is in
        let step : IsStepTo m (run_of who) asks.Run n (said_of n (spokens.Over port)) =
        step_judged m (run_of who) asks.Run yielded is ready
        ∙ ap (λ (u : World). record { world = u; said = outcomes.Said.Passed (At (place (path m) port)) }) (sym world_is)
        ∙ ap (λ (p : ℕ → Path). record { world = world n; said = outcomes.Said.Passed (At (place p port)) }) (sym paths_are) in
        record {
          ready = ready;
          step = step;
          ended = quiet_judged m n (run_of who) asks.Run yielded (said_of n (spokens.Over port)) valid few refl is (ready, step);
          heard = subst (λ (p : ℕ → Path). IsHeard (path m) (said_by p (said_of n (spokens.Over port))) (said_of n (spokens.Over port)))
              (sym paths_are) (own-heard (path m) (said_of n (spokens.Over port)) own);
          there = tt;
          touched = touching m (run_of who) asks.Run yielded is;
          row = record { at = at; served = served; changes = ap listed is.outcome };
        }
