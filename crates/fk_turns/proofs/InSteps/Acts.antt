-- Acts: who is in a call on an object, a space or a page, or lets go, can move, while nothing is held.
use Rattle.std.proofs.Common.{◌≡◌, ◌==◌, ◌||◌, ℕ, Bool, true, false, if◌then◌else◌, List, [], ◌∷◌, Option, Some, None, unwrap_or, slice_index, refl, ap}
use Rattle.std.proofs.lemmas.Bool.{eqb-true}
use Rattle.fk_model.specs.declared.stage.Stage.{Stage}
use Rattle.fk_model.specs.declared.stage.Stage.TheVariants.{Create, Destroy, Rename, Search, Point, Clear, Locate, CountIn, GetState, SetState, GetPtr, SetPtr}
use Rattle.fk_model.specs.declared.stage.Stage.TheVariants.{SpaceRelease, ThreadStop, ThreadGo, PageGive, PageTake, PageRead, PageNext, MutexTrylock}
use Rattle.fk_model.specs.declared.stage.Stage.TheVariants.{MutexUnlock, Disconnect}
use Rattle.fk_model.specs.Calls.{todo_of, rest_of}
use Rattle.fk_model.specs.Holds.{decider, is_free}
use Rattle.fk_model.specs.LinkRows.{user_at}
use Rattle.fk_model.specs.Moves.{chooses, is_denied, stage_row}
use Rattle.fk_model.specs.Outcomes.Outcome.{Refused, Waits}
use Rattle.fk_model.specs.declared.statuses.status.TheConstants as status
use Rattle.fk_model.specs.Objects.{Mode, Thread}
use Rattle.fk_model.specs.Objects.Mode.{Calling}
use Rattle.fk_model.specs.Places.{Path}
use Rattle.fk_model.specs.Searches.{thread_at}
use Rattle.fk_model.specs.World.{World}
use Rattle.fk_store.specs.Store.Bodies.{calling_mode}
use Rattle.fk_turns.specs.Next.Waiting.{IsMoveReady}
use Rattle.laws_waits.specs.Rows.{can_wait}
use Rattle.laws_waits.proofs.Complete.{stage-ready, thread_ready}
use Rattle.laws_waits.proofs.Never.{never_wait_lem}
use Rattle.fk_turns.specs.Steps.Steps.{acts}

pub record BeginsWithAct (m : Mode) : Type 0 where
  pub stage : Stage
  pub rest : List ℕ
  pub is : m ≡ Calling (stage ∷ []) rest
  pub plain : chooses stage ≡ false
  pub moves : can_wait stage ≡ false

pub or_if : {P : Type 0} (a b : Bool) → (a ≡ true → P) → (b ≡ true → P) → (a || b) ≡ true → P
or_if true b first second is = first refl
or_if false b first second is = second is

module _ (g : List ℕ) where
  abbrev code : ℕ
  code = slice_index g 0

  by_stage : (stage : Stage) → chooses stage ≡ false → can_wait stage ≡ false → todo_of g ≡ Some (stage ∷ []) → BeginsWithAct (calling_mode g)
  by_stage stage plain moves e = record {
    stage = stage;
    rest = rest_of (stage ∷ []) g;
    is = ap (λ (o : Option (List Stage)). let todo = unwrap_or o [] in Calling todo (rest_of todo g)) e;
    plain = plain;
    moves = moves;
  }

  act_1 : (code == 1) ≡ true → BeginsWithAct (calling_mode g)
  unfolding todo_of
  act_1 is = by_stage (Create (slice_index g 1) (slice_index g 2) (slice_index g 3)) refl refl
      (let at = eqb-true (slice_index g 0) 1 is in rw at (refl {a = Some (Create (slice_index g 1) (slice_index g 2) (slice_index g 3) ∷ [])}))

  act_2 : (code == 2) ≡ true → BeginsWithAct (calling_mode g)
  unfolding todo_of
  act_2 is = by_stage (Destroy (slice_index g 1) (slice_index g 2)) refl refl
      (let at = eqb-true (slice_index g 0) 2 is in rw at (refl {a = Some (Destroy (slice_index g 1) (slice_index g 2) ∷ [])}))

  act_3 : (code == 3) ≡ true → BeginsWithAct (calling_mode g)
  unfolding todo_of
  act_3 is = by_stage (Rename (slice_index g 1) (slice_index g 2) (slice_index g 3)) refl refl
      (let at = eqb-true (slice_index g 0) 3 is in rw at (refl {a = Some (Rename (slice_index g 1) (slice_index g 2) (slice_index g 3) ∷ [])}))

  act_4 : (code == 4) ≡ true → BeginsWithAct (calling_mode g)
  unfolding todo_of
  act_4 is = by_stage (Search (slice_index g 1) (slice_index g 2)) refl refl
      (let at = eqb-true (slice_index g 0) 4 is in rw at (refl {a = Some (Search (slice_index g 1) (slice_index g 2) ∷ [])}))

  act_5 : (code == 5) ≡ true → BeginsWithAct (calling_mode g)
  unfolding todo_of
  act_5 is = by_stage (Point (slice_index g 1) (slice_index g 2) (slice_index g 3) (slice_index g 4)) refl refl
      (let at = eqb-true (slice_index g 0) 5 is in rw at (refl {a = Some (Point (slice_index g 1) (slice_index g 2) (slice_index g 3) (slice_index g 4) ∷ [])}))

  act_6 : (code == 6) ≡ true → BeginsWithAct (calling_mode g)
  unfolding todo_of
  act_6 is = by_stage (Clear (slice_index g 1) (slice_index g 2)) refl refl
      (let at = eqb-true (slice_index g 0) 6 is in rw at (refl {a = Some (Clear (slice_index g 1) (slice_index g 2) ∷ [])}))

  act_7 : (code == 7) ≡ true → BeginsWithAct (calling_mode g)
  unfolding todo_of
  act_7 is = by_stage (Locate (slice_index g 1) (slice_index g 2)) refl refl
      (let at = eqb-true (slice_index g 0) 7 is in rw at (refl {a = Some (Locate (slice_index g 1) (slice_index g 2) ∷ [])}))

  act_8 : (code == 8) ≡ true → BeginsWithAct (calling_mode g)
  unfolding todo_of
  act_8 is = by_stage (CountIn (slice_index g 1) (slice_index g 2) (slice_index g 3)) refl refl
      (let at = eqb-true (slice_index g 0) 8 is in rw at (refl {a = Some (CountIn (slice_index g 1) (slice_index g 2) (slice_index g 3) ∷ [])}))

  act_9 : (code == 9) ≡ true → BeginsWithAct (calling_mode g)
  unfolding todo_of
  act_9 is = by_stage (GetState (slice_index g 1) (slice_index g 2) (slice_index g 3)) refl refl
      (let at = eqb-true (slice_index g 0) 9 is in rw at (refl {a = Some (GetState (slice_index g 1) (slice_index g 2) (slice_index g 3) ∷ [])}))

  act_10 : (code == 10) ≡ true → BeginsWithAct (calling_mode g)
  unfolding todo_of
  act_10 is = by_stage (SetState (slice_index g 1) (slice_index g 2) (slice_index g 3)) refl refl
      (let at = eqb-true (slice_index g 0) 10 is in rw at (refl {a = Some (SetState (slice_index g 1) (slice_index g 2) (slice_index g 3) ∷ [])}))

  act_11 : (code == 11) ≡ true → BeginsWithAct (calling_mode g)
  unfolding todo_of
  act_11 is = by_stage (GetPtr (slice_index g 1) (slice_index g 2) (slice_index g 3) (slice_index g 4)) refl refl
      (let at = eqb-true (slice_index g 0) 11 is in rw at (refl {a = Some (GetPtr (slice_index g 1) (slice_index g 2) (slice_index g 3) (slice_index g 4) ∷ [])}))

  act_12 : (code == 12) ≡ true → BeginsWithAct (calling_mode g)
  unfolding todo_of
  act_12 is = by_stage (SetPtr (slice_index g 1) (slice_index g 2) (slice_index g 3) (slice_index g 4)) refl refl
      (let at = eqb-true (slice_index g 0) 12 is in rw at (refl {a = Some (SetPtr (slice_index g 1) (slice_index g 2) (slice_index g 3) (slice_index g 4) ∷ [])}))

  act_14 : (code == 14) ≡ true → BeginsWithAct (calling_mode g)
  unfolding todo_of
  act_14 is = by_stage (SpaceRelease (slice_index g 1) (slice_index g 2)) refl refl
      (let at = eqb-true (slice_index g 0) 14 is in rw at (refl {a = Some (SpaceRelease (slice_index g 1) (slice_index g 2) ∷ [])}))

  act_15 : (code == 15) ≡ true → BeginsWithAct (calling_mode g)
  unfolding todo_of
  act_15 is = by_stage (ThreadStop (slice_index g 1)) refl refl
      (let at = eqb-true (slice_index g 0) 15 is in rw at (refl {a = Some (ThreadStop (slice_index g 1) ∷ [])}))

  act_16 : (code == 16) ≡ true → BeginsWithAct (calling_mode g)
  unfolding todo_of
  act_16 is = by_stage (ThreadGo (slice_index g 1)) refl refl
      (let at = eqb-true (slice_index g 0) 16 is in rw at (refl {a = Some (ThreadGo (slice_index g 1) ∷ [])}))

  act_17 : (code == 17) ≡ true → BeginsWithAct (calling_mode g)
  unfolding todo_of
  act_17 is = by_stage (PageGive (slice_index g 1) (slice_index g 2) (slice_index g 3)) refl refl
      (let at = eqb-true (slice_index g 0) 17 is in rw at (refl {a = Some (PageGive (slice_index g 1) (slice_index g 2) (slice_index g 3) ∷ [])}))

  act_18 : (code == 18) ≡ true → BeginsWithAct (calling_mode g)
  unfolding todo_of
  act_18 is = by_stage (PageTake (slice_index g 1) (slice_index g 2) (slice_index g 3)) refl refl
      (let at = eqb-true (slice_index g 0) 18 is in rw at (refl {a = Some (PageTake (slice_index g 1) (slice_index g 2) (slice_index g 3) ∷ [])}))

  act_19 : (code == 19) ≡ true → BeginsWithAct (calling_mode g)
  unfolding todo_of
  act_19 is = by_stage (PageRead (slice_index g 1) (slice_index g 2) (slice_index g 3)) refl refl
      (let at = eqb-true (slice_index g 0) 19 is in rw at (refl {a = Some (PageRead (slice_index g 1) (slice_index g 2) (slice_index g 3) ∷ [])}))

  act_20 : (code == 20) ≡ true → BeginsWithAct (calling_mode g)
  unfolding todo_of
  act_20 is = by_stage (PageNext (slice_index g 1) (slice_index g 2)) refl refl
      (let at = eqb-true (slice_index g 0) 20 is in rw at (refl {a = Some (PageNext (slice_index g 1) (slice_index g 2) ∷ [])}))

  act_22 : (code == 22) ≡ true → BeginsWithAct (calling_mode g)
  unfolding todo_of
  act_22 is = by_stage (MutexTrylock (slice_index g 1)) refl refl
      (let at = eqb-true (slice_index g 0) 22 is in rw at (refl {a = Some (MutexTrylock (slice_index g 1) ∷ [])}))

  act_23 : (code == 23) ≡ true → BeginsWithAct (calling_mode g)
  unfolding todo_of
  act_23 is = by_stage (MutexUnlock (slice_index g 1)) refl refl
      (let at = eqb-true (slice_index g 0) 23 is in rw at (refl {a = Some (MutexUnlock (slice_index g 1) ∷ [])}))

  act_39 : (code == 39) ≡ true → BeginsWithAct (calling_mode g)
  unfolding todo_of
  act_39 is = by_stage Disconnect refl refl
      (let at = eqb-true (slice_index g 0) 39 is in rw at (refl {a = Some (Disconnect ∷ [])}))

  pub begins_act : acts code ≡ true → BeginsWithAct (calling_mode g)
  begins_act is =
      or_if (code == 1) _ act_1
      (or_if (code == 2) _ act_2
      (or_if (code == 3) _ act_3
      (or_if (code == 4) _ act_4
      (or_if (code == 5) _ act_5
      (or_if (code == 6) _ act_6
      (or_if (code == 7) _ act_7
      (or_if (code == 8) _ act_8
      (or_if (code == 9) _ act_9
      (or_if (code == 10) _ act_10
      (or_if (code == 11) _ act_11
      (or_if (code == 12) _ act_12
      (or_if (code == 14) _ act_14
      (or_if (code == 15) _ act_15
      (or_if (code == 16) _ act_16
      (or_if (code == 17) _ act_17
      (or_if (code == 18) _ act_18
      (or_if (code == 19) _ act_19
      (or_if (code == 20) _ act_20
      (or_if (code == 22) _ act_22
      (or_if (code == 23) _ act_23
      (or_if (code == 39) _ act_39
      (λ none. absurd (cc))))))))))))))))))))))) is

pub acts_up : (w : World) → ((q : Path) → decider w q ≡ None) → (k : ℕ) (s : Path) (t : Thread) → thread_at w (k ∷ s) ≡ Some t → is_free w s t ≡ true →
    BeginsWithAct t.mode → IsMoveReady w (k ∷ s)
acts_up w unheld k s t there free begins = (
  None,
  thread_ready w unheld (k ∷ s) None t begins.stage [] begins.rest there free begins.is
      (stage-ready w unheld (k ∷ s) begins.stage begins.plain (row_moves (is_denied (user_at (k ∷ s)) begins.stage))),
)
  where
    row_moves : (b : Bool) → (if b then Refused status.DENIED else stage_row w (user_at (k ∷ s)) None begins.stage) ≡ Waits → ⊥
    row_moves true h = absurd (cc)
    row_moves false h = never_wait_lem w (user_at (k ∷ s)) None begins.stage begins.moves h
