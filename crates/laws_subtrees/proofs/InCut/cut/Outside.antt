-- A thread outside a plain subtree moves, where its row is no touch: nothing is seen of it, or it is no move of the law.
use Rattle.std.proofs.Common.{◌≡◌, ℕ, Bool, true, false, List, [], ◌∷◌, ◌++◌, Option, Some, None, refl}
use Rattle.fk_model.specs.declared.moves.Ask.TheVariants as asks
use Rattle.fk_model.specs.declared.stage.Stage.{Stage}
use Rattle.fk_model.specs.Places.{Path, strip, is_within, parent, Ptr}
use Rattle.fk_model.specs.Objects.{Mode, Thread}
use Rattle.fk_model.specs.Objects.Mode.{Calling}
use Rattle.fk_model.specs.World.{World, Change, apply_all}
use Rattle.fk_model.specs.Holds.{is_frozen, is_free}
use Rattle.fk_model.specs.Outcomes.{Outcome, when, Caller, listed}
use Rattle.fk_model.specs.Outcomes.Outcome.{Refused, Waits, Goes}
use Rattle.fk_model.specs.LinkRows.{user_at}
use Rattle.fk_model.specs.Moves.{stage_row, call_row, goes_on, outcome, IsReady, stepped, step}
use Rattle.fk_model.specs.Valid.{is_fit}
use Rattle.fk_model.specs.Runs.{Event}
use Rattle.fk_model.specs.Cut.{ports_of, cut_ptr, cut, IsPlain}
use Rattle.fk_model.specs.Further.{Onward, outside_row}
use Rattle.fk_model.specs.Seen.{Seen, stage_touch, caller_stage, outer_touch, row_of, IsSeen}
use Rattle.fk_model.specs.Seen.Seen.{Onwards, Unseen, Other}
use Rattle.laws_subtrees.specs.Cut.CutLaws.{HasDone, KeepsCut, IsAtStage, moves, StageKeepsCut}
use Rattle.laws_subtrees.specs.Cut.Likeness.{IsLikeness}
use Rattle.laws_subtrees.specs.Cut.LikeChanges.{IsLikeOutcome}
use Rattle.laws_subtrees.proofs.InCut.likeness.Instances.{cut-like}
use Rattle.laws_subtrees.proofs.InCut.likeness.Holds.{strip_none}
use Rattle.laws_subtrees.proofs.InCut.cut.Plain.{changes-clear, clear-plain, same-plain}
use Rattle.laws_subtrees.proofs.InCut.cut.Inside.{Quiet, quiet-when, quiet-call, stage_inside, inside_stages}

module _ (w : World) (nester : Path) (slot : ℕ) (plain : IsPlain w nester slot) where
  abbrev root : Path
  root = slot ∷ nester

  -- a world that a quiet row left with the same cut
  pub stepped-plain : (o : Outcome) → Quiet root o → cut (stepped w o).world nester slot ≡ cut w nester slot → IsPlain (stepped w o).world nester slot
  stepped-plain (Goes cs said) quiet same =
      same-plain w (apply_all cs w) nester slot plain same (changes-clear root w cs quiet.quiet (clear-plain w nester slot plain))
  stepped-plain Waits quiet same = plain
  stepped-plain (Refused status) quiet same = plain

  pub untouched : (e : Event) (o : Outcome) (r : Option Path) (m : Onward) →
      r ≡ None → outer_touch w root e.mover e.pick e.ask o ≡ None → row_of w root e o r ≡ Some m → ⊥
  untouched e o r m out none = rw out (rw none (λ h. cc))

  -- who moves without a touch
  pub outside_law : (e : Event) → is_within root e.mover ≡ false →
      Quiet root (outcome w e.mover e.pick e.ask) → outer_touch w root e.mover e.pick e.ask (outcome w e.mover e.pick e.ask) ≡ None → KeepsCut w nester slot e
  unfolding step
  outside_law e out quiet none sound same fit ready (Onwards m) seen =
      absurd (untouched e (outcome w e.mover e.pick e.ask) (strip root e.mover) m (strip_none root e.mover out) none seen.1)
  outside_law e out quiet none sound same fit ready Unseen seen = stepped-plain (outcome w e.mover e.pick e.ask) quiet seen.1.0
  outside_law e out quiet none sound same fit ready Other seen = tt

  pub stage_outcome : (x : Path) (pick : Option Path) (stage : Stage) →
      IsAtStage w x stage → (t : Thread) × (outcome w x pick asks.Run ≡ when (is_free w (parent x) t) (call_row w (user_at x) pick stage))
  unfolding outcome
  stage_outcome x pick stage at = (at.0, rw (at.3) (by at.0.mode at.4))
    where
      by : (mode : Mode) → mode ≡ Calling (stage ∷ at.1) at.2 →
          when (is_free w (parent x) at.0) (goes_on w x pick at.0 mode) ≡ when (is_free w (parent x) at.0) (call_row w (user_at x) pick stage)
      by mode e = rw e refl

  pub stage_called : (x : Path) (stage : Stage) → IsAtStage w x stage → caller_stage w x ≡ Some stage
  stage_called x stage at = rw (at.3) (rw (at.4) refl)

  pub stage_outside : (x : Path) (pick : Option Path) (stage : Stage) →
      is_within root x ≡ false → IsAtStage w x stage → ((cs : List Change) → stage_touch w root (user_at x) pick cs stage ≡ None) →
      Quiet root (stage_row w (user_at x) pick stage) → KeepsCut w nester slot (moves x pick)
  stage_outside x pick stage out at none quiet =
      let is = stage_outcome x pick stage at in
      outside_law (moves x pick) out
      (rw is.1 (quiet-when root (is_free w (parent x) is.0) (call_row w (user_at x) pick stage) (quiet-call root w x pick stage quiet)))
      (rw (stage_called x stage at) (none (listed (outcome w x pick asks.Run))))

-- ---- the law for a stage of which nothing is seen from outside

pub record IsInner (stage : Stage) : Type 0 where
  pub silent : (w : World) (n : ℕ) (c : Caller) (o : Outcome) → outside_row w c n stage o ≡ o
  pub untouching : (w : World) (root : Path) (c : Caller) (pick : Option Path) (cs : List Change) → stage_touch w root c pick cs stage ≡ None
  pub quiet : (root : Path) (w : World) (c : Caller) (pick : Option Path) → Quiet root (stage_row w c pick stage)
  pub alike : (root : Path) (see : Ptr → Ptr) (small big : World) →
      IsLikeness root see small big → is_frozen big root ≡ false → (k : ℕ) (q : Path) (p pick : Option Path) →
      IsLikeOutcome root see big (stage_row small (user_at (k ∷ q)) p stage) (stage_row big (user_at (k ∷ (q ++ root))) pick stage)

-- what a move of its own by a thread at such a stage needs in a subtree that is seen alone
pub record IsOwn (stage : Stage) : Type 0 where
  pub silent : (w : World) (n : ℕ) (c : Caller) (o : Outcome) → outside_row w c n stage o ≡ o
  pub quiet : (w : World) (x : Path) (pick : Option Path) → Quiet [] (stage_row w (user_at x) pick stage)
  pub alike : (root : Path) (see : Ptr → Ptr) (small big : World) →
      IsLikeness root see small big → is_frozen big root ≡ false → (k : ℕ) (q : Path) (p pick : Option Path) →
      IsLikeOutcome root see big (stage_row small (user_at (k ∷ q)) p stage) (stage_row big (user_at (k ∷ (q ++ root))) pick stage)

pub inner_own : (stage : Stage) → IsInner stage → IsOwn stage
inner_own stage inner = record { silent = inner.silent; quiet = λ w x pick. inner.quiet [] w (user_at x) pick; alike = inner.alike }

pub inner_stages : (IsSuch : Stage → Type 0) → ((stage : Stage) → IsSuch stage → IsInner stage) → StageKeepsCut IsSuch
inner_stages IsSuch inner w nester slot x pick stage such at sound plain = by (is_within (slot ∷ nester) x) refl
  where
    law : (w : World) (nester : Path) (slot : ℕ) → IsPlain w nester slot → (k : ℕ) (q : Path) (pick : Option Path) (stage : Stage) →
        IsSuch stage → IsAtStage w (k ∷ (q ++ slot ∷ nester)) stage → KeepsCut w nester slot (moves (k ∷ (q ++ slot ∷ nester)) pick)
    law w nester slot plain k q pick stage such at =
        let is = inner stage such in
        stage_inside w nester slot plain k q pick stage at (is.silent (cut w nester slot)) (λ p e free.
        is.alike (slot ∷ nester) (cut_ptr (ports_of w nester slot) nester slot) (cut w nester slot) w (cut-like w nester slot plain) free k q p pick)
        (is.quiet (slot ∷ nester) w (user_at (k ∷ (q ++ slot ∷ nester))) pick)

    by : (b : Bool) → is_within (slot ∷ nester) x ≡ b → is_fit w x asks.Run ≡ true →
        IsReady w x pick asks.Run → (seen : Seen) → IsSeen w nester slot (moves x pick) seen → HasDone w nester slot (moves x pick) seen
    by true e = inside_stages IsSuch law w nester slot x pick stage such e at sound plain
    by false e = stage_outside w nester slot plain x pick stage e at (λ cs. (inner stage such).untouching w (slot ∷ nester) (user_at x) pick cs)
        ((inner stage such).quiet (slot ∷ nester) w (user_at x) pick) sound plain
