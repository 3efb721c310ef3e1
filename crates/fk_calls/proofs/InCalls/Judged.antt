-- Judged: the move of a thread that is judged.
use Rattle.std.proofs.Common.{◌≡◌, ◌≤◌, ℕ, Bool, true, false, cond, ◌↔◌, IsTrue, IfOk, Result, Ok, Err, is_some, is_none, ◌&&◌, ◌||◌, List, [], ◌∷◌}
use Rattle.std.proofs.Common.{length, Option, Some, None, option_map, IsSome, IfSome, refl, sym, ap, subst, ◌∙◌}
use Rattle.fk_model.specs.declared.moves.Ask.{Ask}
use Rattle.fk_model.specs.declared.moves.Ask.TheVariants as asks
use Rattle.fk_model.specs.declared.moves.Move.{Move}
use Rattle.fk_model.specs.declared.moves.Said as moves_of
use Rattle.fk_model.specs.declared.names.Who.{Who}
use Rattle.fk_model.specs.declared.stage.Stage.{Stage}
use Rattle.fk_model.specs.declared.thread.Mode as modes_of
use Rattle.fk_model.specs.declared.thread.Mode.TheVariants as modes
use Rattle.fk_model.specs.declared.thread.Thread as threads_of
use Rattle.fk_model.specs.Calls.{todo_of}
use Rattle.fk_model.specs.Holds.{is_free, is_porter, is_unheld}
use Rattle.fk_model.specs.LinkRows.{user_at}
use Rattle.fk_model.specs.Moves.{allowed_row, call_row, chooses, closed, with_pick, goes_on, user_move, porter_at, porter_move, outcome, step}
use Rattle.fk_model.specs.Moves.{GoesAllowed, Step, stepped, IsReady}
use Rattle.fk_model.specs.Objects.{Mode, Thread, Body, kind_of, thread_of, and_then, holds}
use Rattle.fk_model.specs.Objects.Mode.{Running, Calling, Halted, Native}
use Rattle.fk_model.specs.Outcomes as outcomes
use Rattle.fk_model.specs.Outcomes.{Outcome, when}
use Rattle.fk_model.specs.Outcomes.Outcome.{Refused, Waits, Goes}
use Rattle.fk_model.specs.Places.{Path, parent}
use Rattle.fk_model.specs.Valid.{kind_there, IsValid}
use Rattle.fk_model.specs.World.{World}
use Rattle.fk_changes.specs.declared.readers.caller.Caller.{Caller}
use Rattle.fk_changes.specs.declared.threads.answers.Answers.{Answers}
use Rattle.fk_plans.specs.declared.plans.plan.Effect.{Effect}
use Rattle.fk_plans.specs.declared.plans.plan.Effect.TheVariants as effects
use Rattle.fk_plans.specs.declared.plans.plan.Plan.TheVariants as plans
use Rattle.fk_plans.specs.declared.plans.plan.Verdict.{Verdict}
use Rattle.fk_plans.specs.declared.plans.plan.Verdict.TheVariants as verdicts
use Rattle.fk_plans.specs.declared.plans.plan.Moving.{Moving}
use Rattle.fk_plans.specs.Plans.Movings.{verdict_of}
use Rattle.fk_plans.proofs.InPlans.Moved.{sure_moving}
use Rattle.fk_plans.specs.Plans.Effects.{effect_by, in_running, of_running, is_running, is_running_mode}
use Rattle.fk_plans.specs.Plans.Plans.{caller_by}
use Rattle.fk_plans.specs.Plans.Verdicts.{outcome_by, IsVerdict, IsSureVerdict, move_by}
use Rattle.fk_store.specs.Store.Bodies.{mode_by, thread_by}
use Rattle.fk_store.specs.Store.Contents.{Contents}
use Rattle.fk_store.specs.Store.Moves.{picked_by}
use Rattle.fk_store.specs.Store.Paths.{path, place}
use Rattle.fk_store.specs.Store.Threads.{todo_of_mode, todo_of_thread, todo_at, is_free_at}
use Rattle.fk_store.specs.Store.World.{world}
use Rattle.fk_user.specs.Effects.{IsInstruction}
use Rattle.fk_user.specs.Running.{run_at, run_of_thread, run_in_mode}
use Rattle.fk_calls.specs.Acts.Clients.{IsEnding}
use Rattle.fk_calls.specs.Acts.Endings.{IsLeft}
use Rattle.fk_calls.proofs.InActs.Verdicts.{verdict-ending}
use Rattle.fk_calls.specs.declared.calls.judging.Judgement.{Judgement}
use Rattle.fk_calls.specs.Calls.Doings.{IsAtStage, is_free_porter_at}
use Rattle.fk_calls.specs.Calls.Rows.{takes_memory, first_takes_memory}
pub use Rattle.fk_calls.specs.Calls.Tried.{porter}
use Rattle.fk_calls.specs.Calls.Judgements.{words_of, outcome_of, IsJudged, IsMoving, IsReadyMove, IsRun, IsStepTo, IsEnded}
use Rattle.fk_model.specs.Searches.{depth, thread_at}

-- ---- the machine's move of a free user

-- one that isn't free doesn't move
pub held_user : (w : World) (k : ℕ) (s : Path) (pick : Option Path) → is_free_at w (k ∷ s) ≡ false → outcome w (k ∷ s) pick asks.Run ≡ Waits
unfolding outcome is_free_at
held_user w k s pick held = by (thread_at w (k ∷ s)) held
  where
    by : (o : Option Thread) → holds (is_free w s) o ≡ false → user_move w (k ∷ s) pick o ≡ Waits
    by None held = refl
    by (Some t) held = ap (λ b. when b (goes_on w (k ∷ s) pick t t.mode)) held

-- nor is any move of it ready
pub held_unready : (w : World) (k : ℕ) (s : Path) (pick : Option Path) → is_free_at w (k ∷ s) ≡ false → IsReady w (k ∷ s) pick asks.Run → ⊥
held_unready w k s pick held ready = let waits = held_user w k s pick held in rw waits at ready

-- a running one makes its instruction
running_user : (w : World) (k : ℕ) (s : Path) (pick : Option Path) → is_free_at w (k ∷ s) ≡ true →
    is_running (thread_at w (k ∷ s)) ≡ true → outcome w (k ∷ s) pick asks.Run ≡ with_pick false pick (run_at todo_of w (k ∷ s))
unfolding outcome is_free_at run_at
running_user w k s pick free running = by (thread_at w (k ∷ s)) free running
  where
    in_mode : (t : Thread) (m : Mode) →
        is_running_mode m ≡ true → goes_on w (k ∷ s) pick t m ≡ with_pick false pick (run_in_mode todo_of w (k ∷ s) t.counter m)
    in_mode t (Running g) running = refl
    in_mode t (Calling todo rest) running = absurd (cc)
    in_mode t (Halted g code) running = absurd (cc)
    in_mode t (Native g) running = absurd (cc)

    by : (o : Option Thread) → holds (is_free w s) o ≡ true →
        is_running o ≡ true → user_move w (k ∷ s) pick o ≡ with_pick false pick (run_of_thread todo_of w (k ∷ s) o)
    by None free running = absurd (cc)
    by (Some t) free running = ap (λ b. when b (goes_on w (k ∷ s) pick t t.mode)) free ∙ in_mode t t.mode running

-- one in a call makes its first stage
pub staged_user : (w : World) (k : ℕ) (s : Path) (pick : Option Path) (stage : Stage) →
    is_free_at w (k ∷ s) ≡ true → IsAtStage w (k ∷ s) stage → outcome w (k ∷ s) pick asks.Run ≡ call_row w (user_at (k ∷ s)) pick stage
unfolding outcome is_free_at todo_at
staged_user w k s pick stage free at = by (thread_at w (k ∷ s)) free at.todo
  where
    in_mode : (t : Thread) (m : Mode) → todo_of_mode m ≡ stage ∷ at.later → goes_on w (k ∷ s) pick t m ≡ call_row w (user_at (k ∷ s)) pick stage
    in_mode t (Running g) is = absurd (cc)
    in_mode t (Calling todo rest) is = rw is refl
    in_mode t (Halted g code) is = absurd (cc)
    in_mode t (Native g) is = absurd (cc)

    by : (o : Option Thread) →
        holds (is_free w s) o ≡ true → todo_of_thread o ≡ stage ∷ at.later → user_move w (k ∷ s) pick o ≡ call_row w (user_at (k ∷ s)) pick stage
    by None free is = absurd (cc)
    by (Some t) free is = ap (λ b. when b (goes_on w (k ∷ s) pick t t.mode)) free ∙ in_mode t t.mode is

-- ---- that of a porter

porter_moves : (w : World) (k : ℕ) (s : Path) (pick : Option Path) (stage : Stage) (words : List ℕ) →
    outcome w (k ∷ s) pick (asks.Call stage words) ≡ when (is_free_porter_at w (k ∷ s)) (call_row w (porter_at (k ∷ s) words) pick stage)
unfolding outcome is_free_porter_at
porter_moves w k s pick stage words = by (thread_at w (k ∷ s))
  where
    by : (o : Option Thread) → porter_move w (k ∷ s) pick stage words o ≡ when (holds (λ (t : Thread). is_porter t.mode && is_unheld w s) o)
        (call_row w (porter_at (k ∷ s) words) pick stage)
    by None = refl
    by (Some t) = refl

pub held_porter : (w : World) (k : ℕ) (s : Path) (pick : Option Path) (stage : Stage) (words : List ℕ) →
    is_free_porter_at w (k ∷ s) ≡ false → outcome w (k ∷ s) pick (asks.Call stage words) ≡ Waits
held_porter w k s pick stage words held = rw (porter_moves w k s pick stage words, held) refl

-- ---- what is judged

-- an instruction isn't refused
unrefused : (w : World) (p : ℕ → Path) (c : outcomes.Caller) (e : Effect) (o : Option Thread) →
    closed c (of_running (effect_by w p (outcomes.path_of c) e) o) ≡ of_running (effect_by w p (outcomes.path_of c) e) o
unrefused w p c e None = refl
unrefused w p c e (Some t) = in_mode t.mode
  where
    in_mode : (m : Mode) →
        closed c (in_running (effect_by w p (outcomes.path_of c) e) t.counter m) ≡ in_running (effect_by w p (outcomes.path_of c) e) t.counter m
    in_mode (Running g) = by e
      where
        by : (e : Effect) → closed c (effect_by w p (outcomes.path_of c) e g t.counter) ≡ effect_by w p (outcomes.path_of c) e g t.counter
        by (effects.Puts register value) = refl
        by (effects.Jumps to) = refl
        by (effects.Halts code) = refl
        by effects.Enters = refl
        by (effects.Stores space page at value) = refl
    in_mode (Calling todo rest) = refl
    in_mode (Halted g code) = refl
    in_mode (Native g) = refl

instruction_unrefused : (m : Contents) (w : World) (p : ℕ → Path) (c : outcomes.Caller) (v : Verdict) →
    (g : List ℕ) → IsInstruction m g v → closed c (outcome_by w p c v) ≡ outcome_by w p c v
instruction_unrefused m w p c (verdicts.Runs e) g is = unrefused w p c e (thread_at w (outcomes.path_of c))
instruction_unrefused m w p c (verdicts.Faults page write port) g is = refl
instruction_unrefused m w p c (verdicts.Refused status) g is = absurd is
instruction_unrefused m w p c verdicts.Waits g is = absurd is
instruction_unrefused m w p c (verdicts.Done plan answers) g is = absurd is
instruction_unrefused m w p c (verdicts.Ends plan answers) g is = absurd is
instruction_unrefused m w p c (verdicts.Shows plan space page) g is = absurd is
instruction_unrefused m w p c (verdicts.ShowsRecord object) g is = absurd is
instruction_unrefused m w p c (verdicts.Sets object from) g is = absurd is
instruction_unrefused m w p c (verdicts.Renames object slot) g is = absurd is
instruction_unrefused m w p c (verdicts.Destroys object last) g is = absurd is
instruction_unrefused m w p c (verdicts.WakesAll cond) g is = absurd is
instruction_unrefused m w p c (verdicts.Goes plan) g is = absurd is
instruction_unrefused m w p c (verdicts.Tells plan words last) g is = absurd is

picked_unrefused : (c : outcomes.Caller) (pick : Option Path) (o : Outcome) → closed c o ≡ o → closed c (with_pick false pick o) ≡ with_pick false pick o
picked_unrefused c None (Refused status) same = same
picked_unrefused c (Some q) (Refused status) same = refl
picked_unrefused c pick Waits same = refl
picked_unrefused c None (Goes changes said) same = refl
picked_unrefused c (Some q) (Goes changes said) same = refl

abbrev pub user : Who → Caller
user who = record { who = who; is_porter = false }

pub instruction_judged : (m : Contents) (move : Move) (v : Verdict) →
    is_free_at (world m) (place (path m) move.who) ≡ true → is_running (thread_at (world m) (place (path m) move.who)) ≡ true →
    outcome_by (world m) (path m) (caller_by (path m) (user move.who) []) v ≡ run_at todo_of (world m) (place (path m) move.who) →
    IsVerdict m (user move.who) v → (g : List ℕ) → IsInstruction m g v → IsSureVerdict v →
    IsJudged m move asks.Run (record { caller = user move.who; chooses = false; verdict = v })
instruction_judged m move v free running row fits g instruction sure =
    let w = world m in
    let c = caller_by (path m) (user move.who) [] in
    let pick = picked_by (path m) move.pick in
    let whole = picked_unrefused c pick _ (instruction_unrefused m w (path m) c v g instruction) in
    record {
      mover = refl;
      free = λ u. free;
      fits = fits;
      sure = λ none. sure;
      given = λ porter. absurd (cc);
      outcome = running_user w move.who.slot (path m move.who.space) pick free running
          ∙ ap (with_pick false pick) (sym row) ∙ sym whole;
    }

pub stage_judged : (m : Contents) (move : Move) (stage : Stage) (v : Verdict) →
    is_free_at (world m) (place (path m) move.who) ≡ true → IsAtStage (world m) (place (path m) move.who) stage →
    outcome_by (world m) (path m) (caller_by (path m) (user move.who) []) v ≡ allowed_row
    (world m) (caller_by (path m) (user move.who) []) (picked_by (path m) move.pick) stage → IsVerdict m (user move.who) v →
    (takes_memory false stage ≡ false → IsSureVerdict v) →
    IsJudged m move asks.Run (record { caller = user move.who; chooses = chooses stage; verdict = v })
unfolding call_row
stage_judged m move stage v free at row fits sure =
    let c = caller_by (path m) (user move.who) [] in
    let pick = picked_by (path m) move.pick in
    record {
      mover = refl;
      free = λ u. free;
      fits = fits;
      sure = λ none. sure (sym (ap first_takes_memory at.todo) ∙ none);
      given = λ porter. absurd (cc);
      outcome = staged_user (world m)
          move.who.slot (path m move.who.space) pick stage free at ∙ ap (λ o. closed c (with_pick (chooses stage) pick o)) (sym row);
    }

pub moving_judged : (m : Contents) (move : Move) (stage : Stage) (o : Option Moving) →
    is_free_at (world m) (place (path m) move.who) ≡ true → IsAtStage (world m) (place (path m) move.who) stage → chooses stage ≡ false →
    IfSome o (λ words. outcome_by (world m) (path m) (caller_by (path m) (user move.who) []) (verdict_of words)
    ≡ allowed_row (world m) (caller_by (path m) (user move.who) []) (picked_by (path m) move.pick) stage) →
    IfSome o (λ words. IsVerdict m (user move.who) (verdict_of words)) → IfSome o (IsMoving m move asks.Run)
moving_judged m move stage None free at never row fits = tt
moving_judged m move stage (Some words) free at never row fits =
    subst (λ chosen. IsJudged m move asks.Run (record { caller = user move.who; chooses = chosen; verdict = verdict_of words })) never
    (stage_judged m move stage (verdict_of words) free at row fits (λ none. sure_moving words))

pub porter_judged : (m : Contents) (move : Move) (stage : Stage) (words : List ℕ) (v : Verdict) →
    is_free_porter_at (world m) (place (path m) move.who) ≡ true → length words ≡ 64 →
    outcome_by (world m) (path m) (caller_by (path m) (porter move.who) words) v ≡ allowed_row
    (world m) (caller_by (path m) (porter move.who) words) (picked_by (path m) move.pick) stage → IsVerdict m (porter move.who) v →
    (takes_memory true stage ≡ false → IsSureVerdict v) →
    IsJudged m move (asks.Call stage words) (record { caller = porter move.who; chooses = chooses stage; verdict = v })
unfolding call_row
porter_judged m move stage words v free long row fits sure =
    let c = caller_by (path m) (porter move.who) words in
    let pick = picked_by (path m) move.pick in
    record {
      mover = refl;
      free = λ u. absurd (cc);
      fits = fits;
      sure = sure;
      given = λ porter. long;
      outcome = rw (
        porter_moves (world m)
            move.who.slot (path m move.who.space) pick stage words,
        free,
      ) (ap (λ o. closed c (with_pick (chooses stage) pick o)) (sym row));
    }

-- ---- what follows from a judgement

-- a move that is ready picks as it may
picked : (c : outcomes.Caller) (chosen : Bool) (pick : Option Path) (o : Outcome) (w : World) (x : Path) →
    GoesAllowed w x (closed c (with_pick chosen pick o)) → closed c (with_pick chosen pick o) ≡ closed c o
picked c chosen None (Refused status) w x ready = refl
picked c chosen (Some q) (Refused status) w x ready = absurd ready
picked c chosen pick Waits w x ready = refl
picked c true pick (Goes changes said) w x ready = refl
picked c false None (Goes changes said) w x ready = refl
picked c false (Some q) (Goes changes said) w x ready = absurd ready

pub step_judged : (m : Contents) (move : Move) (ask : Ask) (j : Judgement) → IsJudged m move ask j → IsReadyMove m move ask →
    step (world m) (place (path m) move.who) (picked_by (path m) move.pick) ask ≡ stepped
    (world m) (closed (caller_by (path m) j.caller (words_of ask)) (outcome_by (world m) (path m) (caller_by (path m) j.caller (words_of ask)) j.verdict))
unfolding step
step_judged m move ask j is ready =
    let w = world m in
    let x = place (path m) move.who in
    let c = caller_by (path m) j.caller (words_of ask) in
    let pick = picked_by (path m) move.pick in
    ap (stepped w) (is.outcome ∙ picked c j.chooses pick (outcome_by w (path m) c j.verdict) w x (subst (GoesAllowed w x) is.outcome ready))

-- an instruction with this effect makes it
pub run_judged : (m : Contents) (move : Move) (ask : Ask) (e : Effect) → IsRun m move ask e → IsReadyMove m move ask →
    step (world m) (place (path m) move.who) (picked_by (path m) move.pick) ask ≡ stepped
    (world m) (of_running (effect_by (world m) (path m) (place (path m) move.who) e) (thread_at (world m) (place (path m) move.who)))
run_judged m move ask e is ready =
    let w = world m in
    let x = place (path m) move.who in
    step_judged m move ask (record { caller = user move.who; chooses = false; verdict = verdicts.Runs e }) is ready
    ∙ ap (stepped w) (unrefused w (path m) (caller_by (path m) (user move.who) (words_of ask)) e (thread_at w x))

-- on the registers of the thread at hand, at its counter
pub running_there : (w : World) (p : ℕ → Path) (x : Path) (e : Effect) (t : threads_of.Thread) →
    Some (thread_by p t) ≡ thread_at w x → is_running (thread_at w x) ≡ true →
    of_running (effect_by w p x e) (thread_at w x) ≡ effect_by w p x e t.regs t.pc
running_there w p x e t there running = rw (← there) (in_mode t.mode (rw (← there) at running))
  where
    in_mode : (mode : modes_of.Mode) → is_running_mode (mode_by mode t.regs) ≡ true →
        in_running (effect_by w p x e) t.pc (mode_by mode t.regs) ≡ effect_by w p x e t.regs t.pc
    in_mode modes.Running running = refl
    in_mode modes.Calling running = absurd (cc)
    in_mode (modes.Halted code) running = absurd (cc)
    in_mode modes.Native running = absurd (cc)

pub ready_judged : (m : Contents) (move : Move) (ask : Ask) (j : Judgement) (b : Bool) →
    IsJudged m move ask j → (IsTrue b ↔ GoesAllowed (world m) (place (path m) j.caller.who) (move_by m j.caller (words_of ask) j.chooses move.pick j.verdict)) →
    IsTrue b ↔ IsReadyMove m move ask
ready_judged m move ask j b is h =
    subst (λ o. IsTrue b ↔ GoesAllowed (world m) (place (path m) move.who) o) (sym is.outcome)
    (subst (λ who. IsTrue b ↔ GoesAllowed (world m) (place (path m) who) (move_by m j.caller (words_of ask) j.chooses move.pick j.verdict)) is.mover h)

-- a move that comes to nothing is never ready
pub never_ready : (m : Contents) (move : Move) (ask : Ask) → outcome_of m move ask ≡ Waits → IsReadyMove m move ask → ⊥
never_ready m move ask waits ready = rw waits at ready

pub iff_never : (m : Contents) (move : Move) (ask : Ask) → (IsReadyMove m move ask → ⊥) → IsTrue false ↔ IsReadyMove m move ask
iff_never m move ask never = ((λ h. absurd (cc)), (λ ready. absurd (never ready)))

-- a free user is there
pub free_there : (w : World) (x : Path) → is_free_at w x ≡ true → IsSome (kind_there w x)
unfolding is_free_at kind_there
free_there w x free = by (w.body x) free
  where
    by : (b : Option Body) → holds (is_free w (parent x)) (and_then thread_of b) ≡ true → is_some (option_map kind_of b) ≡ true
    by None free = absurd (cc)
    by (Some b) free = refl

-- and so is a free porter
pub porter_there : (w : World) (x : Path) → is_free_porter_at w x ≡ true → IsSome (kind_there w x)
unfolding is_free_porter_at kind_there
porter_there w x free = by (w.body x) free
  where
    by : (b : Option Body) →
        holds (λ (t : Thread). is_porter t.mode && is_unheld w (parent x)) (and_then thread_of b) ≡ true → is_some (option_map kind_of b) ≡ true
    by None free = absurd (cc)
    by (Some b) free = refl

pub if_ok : {A B : Type 0} {P Q : A → Type 0} → (r : Result A B) → ((a : A) → P a → Q a) → IfOk r P → IfOk r Q
if_ok (Ok a) f h = f a h
if_ok (Err e) f h = tt

-- a move that is made ends no more than its verdict
pub ended_judged : (m n : Contents) (move : Move) (ask : Ask) (j : Judgement) (said : moves_of.Said) (port : Option Path) →
    IsJudged m move ask j → IsReadyMove m move ask → IsStepTo m move ask n said →
    (let c = caller_by (path m) j.caller (words_of ask) in
    IsEnding (world m) (stepped (world m) (closed c (outcome_by (world m) (path m) c j.verdict))).world port) → IsEnding (world m) (world n) port
ended_judged m n move ask j said port is ready made ends =
    subst (λ (s : Step). IsEnding (world m) s.world port) (sym (step_judged m move ask j is ready) ∙ made) ends

-- and nobody's talk, where that is so
pub quiet_judged : (m n : Contents) (move : Move) (ask : Ask) (j : Judgement) (said : moves_of.Said) → IsValid (world m) → (world m).next ≤ depth →
    IsLeft (world m) (path m) j.verdict None → IsJudged m move ask j → IsReadyMove m move ask × IsStepTo m move ask n said → IsEnded m n None
quiet_judged m n move ask j said valid few left is made = record {
  ending = ended_judged m n move ask j said None is made.0 made.1 (verdict-ending m j.caller (words_of ask) valid few j.verdict None is.fits left);
  apart = tt;
}

-- ---- a porter's stage that changes nothing

abbrev still : Who → Bool → Answers → Judgement
still who chosen answers = record { caller = porter who; chooses = chosen; verdict = verdicts.Done plans.Nothing answers }

-- it is ready where it picks as it may
pub still_ready : (m : Contents) (move : Move) (ask : Ask) (chosen : Bool) (answers : Answers) → IsJudged m move ask (still move.who chosen answers) →
    (chosen || is_none move.pick) ≡ true → IsReadyMove m move ask
still_ready m move ask chosen answers is may = subst (GoesAllowed (world m) (place (path m) move.who)) (sym is.outcome) (by chosen move.pick may)
  where
    by : (chosen : Bool) (pick : Option Who) → (chosen || is_none pick) ≡ true →
        GoesAllowed (world m) (place (path m) move.who) (move_by m (porter move.who) (words_of ask) chosen pick (verdicts.Done plans.Nothing answers))
    by true pick may = tt
    by false None may = tt
    by false (Some q) may = absurd (cc)

pub still_unready : (m : Contents) (move : Move) (ask : Ask) (chosen : Bool) (answers : Answers) → IsJudged m move ask (still move.who chosen answers) →
    (chosen || is_none move.pick) ≡ false → IsReadyMove m move ask → ⊥
still_unready m move ask chosen answers is may ready = by chosen move.pick may (subst (GoesAllowed (world m) (place (path m) move.who)) is.outcome ready)
  where
    by : (chosen : Bool) (pick : Option Who) → (chosen || is_none pick) ≡ false →
        GoesAllowed (world m) (place (path m) move.who) (move_by m (porter move.who) (words_of ask) chosen pick (verdicts.Done plans.Nothing answers)) → ⊥
    by true pick may goes = absurd (cc)
    by false None may goes = absurd (cc)
    by false (Some q) may goes = goes
