-- What each call of a checkpoint comes to, when it is ready, and what it leaves.
use Rattle.std.proofs.Common.{◌≡◌, ℕ, ◌≤◌, ◌<◌, false, List, [], ◌∷◌, Option, Some, None, option_map, refl, sym, ap, subst, arith, ◌∙◌, ◌⊎◌, inl, inr}
use Rattle.fk_model.specs.declared.limits.TheConstants.{OWN_SPACE, LAST_USER_SLOT, LAST_PORTER_SLOT}
use Rattle.fk_model.specs.declared.names.Kind.TheVariants as kinds
use Rattle.fk_model.specs.declared.stage.Stage.{Stage}
use Rattle.fk_model.specs.declared.stage.Stage.TheVariants.{Create, Destroy, SpaceRelease}
use Rattle.fk_model.specs.declared.statuses.status.TheConstants.{OK}
use Rattle.fk_model.specs.Places.{Path, same_path, Ptr}
use Rattle.fk_model.specs.Places.Ptr.{Null, At}
use Rattle.fk_model.specs.Objects.{Body, number_of_kind}
use Rattle.fk_model.specs.Objects.Body.{Mutex, Cond, Mapping, Region, Port, Portset, Space, Thread_of, Reference}
use Rattle.fk_model.specs.Holds.{holder_of}
use Rattle.fk_model.specs.World.{World, Change, edited, apply, apply_all}
use Rattle.fk_model.specs.World.Change.{Alter, Make, Kill}
use Rattle.fk_model.specs.World.Edit.{SetHolder}
use Rattle.fk_model.specs.ObjectRows.{is_scratch}
use Rattle.fk_model.specs.Outcomes.Outcome.{Goes}
use Rattle.fk_model.specs.Outcomes.Said.{Answered}
use Rattle.fk_model.specs.Moves.{call_row}
use Rattle.fk_model.specs.Searches.{depth}
use Rattle.fk_model.specs.Cut.{unheld}
use Rattle.fk_model.specs.Runs.{after}
use Rattle.fk_model.specs.Valid.{IsValid}
use Rattle.fk_model.proofs.walks.PlaceLaws.{same_path_refl, same_path_ne}
use Rattle.laws_moves.specs.Frozen.Holding.{IsHolding}
use Rattle.laws_moves.specs.Savable.Savable.{IsSound}
use Rattle.laws_jobs.specs.Machines.{heard, porter, no_words, call_of, said_of, IsReadyAt}
use Rattle.laws_jobs.specs.Machines.Head.{Stops, Asks}
use Rattle.laws_jobs.specs.Jobs.{MayBegin}
use Rattle.laws_jobs.specs.Calls.{IsUnheldOutside}
use Rattle.laws_jobs.specs.Leads.{held_world}
use Rattle.laws_jobs.specs.Holds.{hold, IsSpaceAt, Held, Unheld}
use Rattle.laws_jobs.proofs.Gone.{bodies_stay, pages_stay}
use Rattle.laws_jobs.proofs.Holds.{hold_comes_to, release-row}
use Rattle.laws_jobs.proofs.Ready.{unheld_call_ready}
use Rattle.laws_jobs.proofs.Goings.{call_is_its_row}
use Rattle.laws_jobs.proofs.Weaving.{last_sound}
use Rattle.laws_checkpoint.specs.Foreign.{PLACES, TARGETS, STEPS}
use Rattle.laws_checkpoint.specs.Foreign as seeks
use Rattle.laws_checkpoint.specs.Walk as walks
use Rattle.laws_checkpoint.specs.Contents as reads
use Rattle.laws_checkpoint.specs.Gather as gathers
use Rattle.laws_checkpoint.specs.Checkpoint.{End, State, head, checkpoint}
use Rattle.laws_checkpoint.specs.Checkpoint.State.{Holds}
use Rattle.laws_checkpoint.specs.Laws.{CheckpointIsReady, IsSameBeside, CheckpointLeavesRest}
use Rattle.laws_checkpoint.proofs.Mild.{IsOwnSlot, IsMild, ComesWith}
use Rattle.laws_checkpoint.proofs.Mild.IsOwnSlot.{Places, Targets, Steps}
use Rattle.laws_checkpoint.proofs.Mild.IsMild.{Changes_nothing, Leads}
use Rattle.laws_checkpoint.proofs.Seeks as seeking_on
use Rattle.laws_checkpoint.proofs.Walks as walking_on
use Rattle.laws_checkpoint.proofs.Contents as reading_on
use Rattle.laws_checkpoint.proofs.Gathers as gathering_on
use Rattle.laws_checkpoint.proofs.Phases.{own_scratch, tidy_empty, Held_on, make-row, drop-row}
use Rattle.laws_checkpoint.proofs.Working.{asks_back, near, valid_start, few_start, Phase, fresh_targets, fresh_steps}
use Rattle.laws_checkpoint.proofs.Working.Phase.{AtFirst, AtSecond, AtThird, AtWalks, AtSeeks, AtReads, AtGathers, AtDrops, AtTwoLeft, AtOneLeft, AtReleases}
use Rattle.laws_checkpoint.proofs.Working.Phase.{AtOver}
use Rattle.laws_checkpoint.proofs.Ended.{Came, came, call_head, ended_in, holding_in, empty}
use Rattle.laws_checkpoint.proofs.Ended.Came.{NeverHeld, InPhase}

higher : (r : ℕ) → IsOwnSlot r → LAST_USER_SLOT < r
higher _ Places = omega arith
higher _ Targets = omega arith
higher _ Steps = omega arith

same_unheld : (holder : Option Ptr) (o : Option Body) → option_map (unheld []) (option_map (edited (SetHolder holder)) o) ≡ option_map (unheld []) o
unfolding edited
same_unheld holder None = refl
same_unheld holder (Some (Space birth old)) = refl
same_unheld holder (Some (Mutex locked)) = refl
same_unheld holder (Some Cond) = refl
same_unheld holder (Some (Mapping m)) = refl
same_unheld holder (Some (Region r)) = refl
same_unheld holder (Some (Port set served)) = refl
same_unheld holder (Some Portset) = refl
same_unheld holder (Some (Thread_of t)) = refl
same_unheld holder (Some (Reference to)) = refl

module _ (nester : Path) (slot : ℕ) (low : slot ≤ LAST_USER_SLOT) where
  abbrev root : Path
  root = slot ∷ nester

  abbrev Same : World → World → Type 0
  Same v u = IsSameBeside nester slot v u

  same_itself : (v : World) → Same v v
  same_itself v = record { bodies = λ y off other. refl; root = refl; pages = λ y page. refl; next = refl }

  off_scratch : (r : ℕ) (y : Path) → IsOwnSlot r → is_scratch nester y ≡ false → same_path y (r ∷ nester) ≡ false
  off_scratch r y own off =
      same_path_ne y (r ∷ nester) (λ e. let both = sym (own_scratch nester r own) ∙ ap (is_scratch nester) (sym e) ∙ off in cc)

  off_root : (r : ℕ) → IsOwnSlot r → same_path root (r ∷ nester) ≡ false
  off_root r own = let high = higher r own in same_path_ne root (r ∷ nester) (λ e. let same : slot ≡ r = cc in omega (arith, same, low, high))

  same_mild : (v : World) (changes : List Change) → IsMild nester v changes → Same v (apply_all changes v)
  unfolding apply_all apply
  same_mild v _ Changes_nothing = same_itself v
  same_mild v _ (Leads r old to own there) = record {
    bodies = λ y off other. rw (off_scratch r y own off) refl;
    root = rw (off_root r own) refl;
    pages = λ y page. refl;
    next = refl;
  }

  same_made : (v : World) (r : ℕ) → IsOwnSlot r → Same v (apply_all (Make (r ∷ nester) (Reference Null) ∷ []) v)
  unfolding apply_all apply
  same_made v r own = record {
    bodies = λ y off other. rw (off_scratch r y own off) refl;
    root = rw (off_root r own) refl;
    pages = λ y page. refl;
    next = refl;
  }

  same_dropped : (v : World) (r : ℕ) (to : Ptr) → IsOwnSlot r → IsValid v → v.body (r ∷ nester) ≡ Some (Reference to)
      → Same v (apply_all (Kill (r ∷ nester) ∷ []) v)
  unfolding apply_all apply
  same_dropped v r to own valid there = record {
    bodies = λ y off other. bodies_stay v valid (r ∷ nester) to there y (off_scratch r y own off);
    root = ap (option_map (unheld [])) (bodies_stay v valid (r ∷ nester) to there root (off_root r own));
    pages = λ y page. pages_stay v valid (r ∷ nester) to there y page;
    next = refl;
  }

  same_holder : (v : World) (holder : Option Ptr) → Same v (apply (Alter root (SetHolder holder)) v)
  unfolding apply
  same_holder v holder = record {
    bodies = λ y off other. rw other refl;
    root = rw (same_path_refl root) (same_unheld holder (v.body root));
    pages = λ y page. refl;
    next = refl;
  }

  same_released : (v : World) (holder : Option Ptr) → Same v (apply_all (Alter root (SetHolder holder) ∷ []) v)
  unfolding apply_all
  same_released v holder = same_holder v holder

  -- a call of which all is known
  record Known (v : World) (stage : Stage) : Type 0 where
    changes : List Change
    status : ℕ
    given : List ℕ
    row : call_row v (porter nester no_words) None stage ≡ Goes changes (Answered status given)
    same : Same v (apply_all changes v)

  abbrev KnownWith : World → Stage → List ℕ → Type 0
  KnownWith v stage words = (words ≡ no_words) × Known v stage

  of_mild : (v : World) (stage : Stage) (words : List ℕ) → ComesWith nester v stage words → KnownWith v stage words
  of_mild v stage words comes = (
    comes.0,
    record {
      changes = comes.1.changes;
      status = comes.1.status;
      given = comes.1.given;
      row = comes.1.row;
      same = same_mild v comes.1.changes comes.1.mild;
    },
  )

  is_this : {A : Type 0} (v : World) (stage other : Stage) (words : List ℕ) → call_head {A = A} stage no_words ≡ Asks other words → Known v stage
      → KnownWith v other words
  is_this v stage other words e known =
      let one : stage ≡ other = cc in
      let two : no_words ≡ words = cc in
      (sym two, subst (Known v) one known)

  module _ (birth : ℕ) (w : World) (may : MayBegin w nester birth) (held : Held nester slot w)
      (sound : IsSound (held_world nester slot w))
      (v : World) (valid : IsValid v) (few : v.next ≤ depth) where
    abbrev start : World
    start = held_world nester slot w

    made_call : (r : ℕ) (made : List ℕ) → IsOwnSlot r → Held_on nester slot birth start v → v.body (r ∷ nester) ≡ None
        → Known v (Create OWN_SPACE r (number_of_kind kinds.Reference))
    made_call r made own its empty = record {
      changes = Make (r ∷ nester) (Reference Null) ∷ [];
      status = OK;
      given = [];
      row = make-row nester slot birth start v r its own empty;
      same = same_made v r own;
    }

    dropped_call : (r : ℕ) (to : Ptr) → IsOwnSlot r → Held_on nester slot birth start v → v.body (r ∷ nester) ≡ Some (Reference to)
        → Known v (Destroy OWN_SPACE r)
    dropped_call r to own its there = record {
      changes = Kill (r ∷ nester) ∷ [];
      status = OK;
      given = [];
      row = drop-row nester slot birth start v r its own valid few to there;
      same = same_dropped v r to own valid there;
    }

    released_call : IsHolding nester slot v → Known v (SpaceRelease OWN_SPACE slot)
    released_call holding = record {
      changes = Alter root (SetHolder None) ∷ [];
      status = OK;
      given = [];
      row = release-row nester slot v holding;
      same = same_released v None;
    }

    known : (t : State) (stage : Stage) (words : List ℕ) → Phase nester slot birth low w may held sound v t → head slot t ≡ Asks stage words
        → KnownWith v stage words
    known _ stage words (AtFirst its tidy) e =
        is_this v (Create OWN_SPACE PLACES 9) stage words e
        (made_call PLACES [] Places its (tidy_empty nester slot birth v [] PLACES tidy (own_scratch nester PLACES Places) (λ h. h)))
    known _ stage words (AtSecond its places tidy) e =
        is_this v (Create OWN_SPACE TARGETS 9) stage words e
        (made_call TARGETS [] Targets its (tidy_empty nester slot birth v (PLACES ∷ []) TARGETS tidy (own_scratch nester TARGETS Targets) fresh_targets))
    known _ stage words (AtThird its places targets tidy) e =
        is_this v (Create OWN_SPACE STEPS 9) stage words e
        (made_call STEPS [] Steps its (tidy_empty nester slot birth v (TARGETS ∷ PLACES ∷ []) STEPS tidy (own_scratch nester STEPS Steps) fresh_steps))
    known _ stage words (AtWalks s its asking tidy) e =
        of_mild v stage words (walking_on.comes_next nester slot start (near nester slot birth low w may held sound)
        (valid_start nester slot birth low w may held sound) (few_start nester slot birth low w may held sound)
        v its.base valid few s stage words its.position (asks_back (walks.head slot s) stage words e))
    known _ stage words (AtSeeks s its asking tidy) e =
        of_mild v stage words (seeking_on.comes_next nester slot start
        (near nester slot birth low w may held sound) v its.base valid few s stage words its.position its.tasks
        (asks_back (seeks.head slot s) stage words e))
    known _ stage words (AtReads s closed its asking tidy) e =
        of_mild v stage words (reading_on.comes_next nester slot start (near nester slot birth low w may held sound)
        (valid_start nester slot birth low w may held sound) (few_start nester slot birth low w may held sound)
        v its.base valid few s stage words its.position (asks_back (reads.head slot s) stage words e))
    known _ stage words (AtGathers s closed its asking tidy) e =
        of_mild v stage words (gathering_on.comes_next nester slot start
        (near nester slot birth low w may held sound) v its.base its.steps valid few s stage words its.position its.tasks
        (asks_back (gathers.head slot s) stage words e))
    known _ stage words (AtDrops end verdict its scratched tidy) e = is_this v (Destroy OWN_SPACE STEPS) stage words e
        (dropped_call STEPS scratched.steps.0 Steps its scratched.steps.1)
    known _ stage words (AtTwoLeft end verdict its targets places tidy) e = is_this v (Destroy OWN_SPACE TARGETS) stage words e
        (dropped_call TARGETS targets.0 Targets its targets.1)
    known _ stage words (AtOneLeft end verdict its places tidy) e = is_this v (Destroy OWN_SPACE PLACES) stage words e
        (dropped_call PLACES places.0 Places its places.1)
    known _ stage words (AtReleases end verdict its tidy) e = is_this v (SpaceRelease OWN_SPACE slot) stage words e (released_call its.holding)
    known _ stage words (AtOver end verdict same unheld tidy) e = cc

  -- a ready one leaves what its changes leave
  known_leaves : (v : World) (stage : Stage) (words : List ℕ) → KnownWith v stage words → IsReadyAt v (call_of nester stage words)
      → Same v (after v (call_of nester stage words))
  known_leaves v stage words call ready =
      let goes = call_is_its_row nester v stage words call.1.changes (Answered call.1.status call.1.given)
      (subst (λ (ws : List ℕ). call_row v (porter nester ws) None stage ≡ Goes call.1.changes (Answered call.1.status call.1.given))
      (sym call.0) call.1.row) ready in
      subst (Same v) (sym goes.0) call.1.same

  module _ (birth : ℕ) (w : World) (may : MayBegin w nester birth) where
    known_at : (v : World) (t : State) (stage : Stage) (words : List ℕ) → IsSound v → Came slot birth w nester low may v t → head slot t ≡ Asks stage words
        → IsHolding nester slot v × KnownWith v stage words
    known_at v t stage words now (NeverHeld none same over) e = let both = sym (ap (head slot) over) ∙ e in cc
    known_at v t stage words now (InPhase held sound phase) e = (
      holding_in slot birth w nester low may held sound v t stage words phase e,
      known birth w may held sound v now.whole.valid now.whole.few t stage words phase e,
    )

    ready_at : (v : World) (t : State) (stage : Stage) (words : List ℕ) → IsSound v → Came slot birth w nester low may v t → head slot t ≡ Asks stage words
        → IsUnheldOutside root v →
        IsReadyAt v (call_of nester stage words)
    ready_at v t stage words now at e calm =
        let its = known_at v t stage words now at e in
        subst (λ (ws : List ℕ). IsReadyAt v (call_of nester stage ws)) (sym its.1.0)
        (unheld_call_ready nester slot v stage no_words its.1.1.changes (Answered its.1.1.status its.1.1.given) its.0 calm its.1.1.row)

    first_leaves : IsSound (after w (hold nester slot)) → IsReadyAt w (hold nester slot) → Same w (after w (hold nester slot))
    first_leaves sound ready = by (hold_comes_to nester slot w low
        (empty slot birth w nester low may) may.sound.whole.valid sound.whole.valid may.sound.whole.few ready)
      where
        by : Held nester slot w ⊎ Unheld nester slot w → Same w (after w (hold nester slot))
        by (inl held) = subst (Same w) (sym held.world) (same_holder w (Some (At (LAST_PORTER_SLOT ∷ nester))))
        by (inr none) = subst (Same w) (sym none.world) (same_itself w)

    unheld_at_end : (v : World) (t : State) (end : End) → Came slot birth w nester low may v t → head slot t ≡ Stops end → IsSpaceAt w root
        → holder_of (v.body root) ≡ None
    unheld_at_end v t end (NeverHeld none same over) stops space = absurd (none space)
    unheld_at_end v t end (InPhase held sound phase) stops space = (ended_in slot birth w nester low may held sound v t end phase stops).2

pub checkpoint_is_ready : CheckpointIsReady
checkpoint_is_ready slot birth w v nester t stage words low may work e calm =
    ready_at nester slot low birth w may v t stage words
    (last_sound (checkpoint slot) nester (after w (call_of nester work.stage work.words))
    (heard (checkpoint slot) Holds (said_of w (call_of nester work.stage work.words))) work.events v t work.run)
    (came slot birth w nester low may v t work) e calm

pub checkpoint_leaves_rest : CheckpointLeavesRest
checkpoint_leaves_rest slot birth w nester low may sound = record {
  first = λ ready. first_leaves nester slot low birth w may sound ready;
  later = λ v t stage words work e now ready.
      known_leaves nester slot low v stage words
      (known_at nester slot low birth w may v t stage words now (came slot birth w nester low may v t work) e).1 ready;
  ends = λ v t end work stops space. unheld_at_end nester slot low birth w may v t end (came slot birth w nester low may v t work) stops space;
}
