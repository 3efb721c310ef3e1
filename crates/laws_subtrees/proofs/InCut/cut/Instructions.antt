-- The law of the cut for instructions.
use Rattle.std.proofs.Common.{◌≡◌, ℕ, Bool, true, false, List, [], ◌∷◌, ◌++◌, Option, Some, None, is_none, cond, ◌&&◌, refl, ap, subst, append-nil}
use Rattle.fk_model.specs.declared.instruction.Act.{Act}
use Rattle.fk_model.specs.declared.instruction.Act.TheVariants.{Put, Jump, Load, Store, Halt, Call}
use Rattle.fk_model.specs.declared.moves.Ask.TheVariants as asks
use Rattle.fk_model.specs.declared.stage.Stage.{Stage}
use Rattle.fk_model.specs.Places.{Path, is_within, parent, slot_of, Ptr}
use Rattle.fk_model.specs.Objects.{Mode, Thread}
use Rattle.fk_model.specs.Objects.Mode.{Running, Halted}
use Rattle.fk_model.specs.World.{World}
use Rattle.fk_model.specs.Calls.{todo_of}
use Rattle.fk_model.specs.Instructions.{act}
use Rattle.fk_model.specs.Reach.{Reach, reach_word}
use Rattle.fk_model.specs.Reach.Reach.{Home, Missing, Bad}
use Rattle.fk_model.specs.Holds.{is_free, is_porter}
use Rattle.fk_model.specs.Outcomes.{Outcome, when}
use Rattle.fk_model.specs.Readers.{accessed}
use Rattle.fk_model.specs.UserRows.{proceeds, halts_with, word_at, enters, performs, executes, run_row_by, run_row}
use Rattle.fk_model.specs.Moves.{with_pick, goes_on, outcome, IsReady}
use Rattle.fk_model.specs.Valid.{is_fit}
use Rattle.fk_model.specs.Cut.{ports_of, cut_ptr, cut, IsPlain}
use Rattle.fk_model.specs.Further.{talks_outside, own_stage, counted, onward_row}
use Rattle.fk_model.specs.Further.Onward.{Own}
use Rattle.fk_model.specs.Rebind.{rebound_ptr, rebound}
use Rattle.fk_model.specs.Seen.{Seen, caller_stage, IsSeen}
use Rattle.laws_subtrees.specs.Cut.RebindLaws.{InstructionRebinds}
use Rattle.laws_subtrees.specs.Cut.CutLaws.{HasDone, KeepsCut, moves, IsRunning, InstructionKeepsCut}
use Rattle.laws_subtrees.specs.Cut.Likeness.{seen_thread}
use Rattle.laws_subtrees.specs.Cut.LikeChanges.{IsLikeOutcome}
use Rattle.laws_subtrees.proofs.InCut.likeness.Memory.{root_seen}
use Rattle.laws_subtrees.proofs.InCut.rebinding.Rebound.{no_thread, row_anew}
use Rattle.laws_subtrees.proofs.InCut.likeness.Instances.{cut-like}
use Rattle.laws_subtrees.proofs.InCut.likeness.Rows.{run_row-like}
use Rattle.laws_subtrees.proofs.InCut.cut.Inside.{Quiet, quiet-goes, quiet-when, quiet-with_pick, with_pick-like, inside_law, thread_beneath, unsent_counts}
use Rattle.laws_subtrees.proofs.InCut.cut.Outside.{outside_law}
use Rattle.fk_model.specs.Searches.{thread_at}

module _ (root : Path) where
  quiet-proceeds : (me : Path) (mode : Mode) (counter : ℕ) → is_porter mode ≡ false → Quiet root (proceeds me mode counter)
  quiet-proceeds me mode counter user = quiet-goes (user, tt)

  quiet-accessed : (me : Path) (write : Bool) (g : List ℕ) (counter : ℕ) (go : Path → ℕ → Outcome) (r : Reach) →
      ((s : Path) (page : ℕ) → Quiet root (go s page)) → Quiet root (accessed me write (halts_with me g counter) go r)
  quiet-accessed me write g counter go (Home s page) quiet = quiet s page
  quiet-accessed me write g counter go (Missing s page None) quiet = quiet-proceeds me (Halted g _) counter refl
  quiet-accessed me write g counter go (Missing s page (Some port)) quiet = quiet-goes ((λ out. refl), tt)
  quiet-accessed me write g counter go Bad quiet = quiet-proceeds me (Halted g _) counter refl

  quiet-enters : (me : Path) (g : List ℕ) (counter : ℕ) (o : Option (List Stage)) → Quiet root (enters me g counter o)
  quiet-enters me g counter None = quiet-goes (refl, tt)
  quiet-enters me g counter (Some todo) = quiet-goes (refl, tt)

  quiet-performs : (w : World) (space me : Path) (g : List ℕ) (counter : ℕ) (a : Act) → Quiet root (performs todo_of w space me g counter a)
  quiet-performs w space me g counter (Put register value) = quiet-goes (refl, tt)
  quiet-performs w space me g counter (Jump to) = quiet-goes (refl, tt)
  quiet-performs w space me g counter (Load register address) =
      quiet-accessed me false g counter _ (reach_word w space address false) (λ s page. quiet-goes (refl, tt))
  quiet-performs w space me g counter (Store address value) =
      quiet-accessed me true g counter _ (reach_word w space address true) (λ s page. quiet-goes (tt, (refl, tt)))
  quiet-performs w space me g counter (Halt code) = quiet-goes (refl, tt)
  quiet-performs w space me g counter Call = quiet-enters me g counter (todo_of g)

  pub quiet-run : (w : World) (space : Path) (slot : ℕ) (g : List ℕ) (counter : ℕ) → Quiet root (run_row w space slot g counter)
  unfolding run_row_by
  quiet-run w space slot g counter = quiet-accessed (slot ∷ space) false g counter (executes todo_of w space (slot ∷ space) g counter)
      (reach_word w space counter false) (λ s page. quiet-performs w space (slot ∷ space) g counter (act (word_at w s page counter) g counter))

  quiet-runs : (w : World) (x : Path) (pick : Option Path) (t : Thread) (mode : Mode) (g : List ℕ) → mode ≡ Running g → Quiet root (goes_on w x pick t mode)
  quiet-runs w x pick t mode g e =
      rw e (quiet-with_pick root false pick (run_row w (parent x) (slot_of x) g t.counter) (quiet-run w (parent x) (slot_of x) g t.counter))

  quiet-outcome : (w : World) (x : Path) (pick : Option Path) → IsRunning w x → Quiet root (outcome w x pick asks.Run)
  unfolding outcome
  quiet-outcome w x pick at =
      rw at.2 (quiet-when root (is_free w (parent x) at.0) (goes_on w x pick at.0 at.0.mode) (quiet-runs w x pick at.0 at.0.mode at.1 at.3))

no_stage : (w : World) (x : Path) → IsRunning w x → caller_stage w x ≡ None
no_stage w x at = rw at.2 (rw at.3 refl)

module _ (w : World)
    (nester : Path) (slot : ℕ) (plain : IsPlain w nester slot) (k : ℕ) (q : Path) (pick : Option Path) (at : IsRunning w (k ∷ (q ++ slot ∷ nester))) where
  abbrev see : Ptr → Ptr
  see = cut_ptr (ports_of w nester slot) nester slot

  abbrev small : World
  small = cut w nester slot

  abbrev Alike : Outcome → Outcome → Type 0
  Alike = IsLikeOutcome (slot ∷ nester) see w

  alike : (mode : Mode) → mode ≡ Running at.1 → (p : Option Path) (n : ℕ) → is_none p ≡ is_none pick →
      Alike (own_stage small (k ∷ q) p n mode (goes_on small (k ∷ q) p (seen_thread see at.0) mode)) (goes_on w (k ∷ (q ++ slot ∷ nester)) pick at.0 mode) ×
      Alike (goes_on small (k ∷ q) p (seen_thread see at.0) mode) (goes_on w (k ∷ (q ++ slot ∷ nester)) pick at.0 mode)
  alike mode e p n same =
      let like = cut-like w nester slot plain in
      let runs : Alike (goes_on small (k ∷ q) p (seen_thread see at.0) (Running at.1)) (goes_on w (k ∷ (q ++ slot ∷ nester)) pick at.0 (Running at.1)) =
      with_pick-like like false
      p pick (run_row small q k at.1 at.0.counter) (run_row w (q ++ slot ∷ nester) k at.1 at.0.counter) same (run_row-like like q k at.1 at.0.counter) in
      rw e (runs, runs)

  inside : KeepsCut w nester slot (moves (k ∷ (q ++ slot ∷ nester)) pick)
  inside = inside_law w nester slot plain k q pick at.0 at.2 (λ cs. unsent_counts w (slot ∷ nester) (k ∷ (q ++ slot ∷ nester)) cs (rw at.2 (rw at.3 refl)))
      (λ p n e free. alike at.0.mode at.3 p n e) (quiet-runs (slot ∷ nester) w (k ∷ (q ++ slot ∷ nester)) pick at.0 at.0.mode at.1 at.3).quiet

pub instruction_keeps : InstructionKeepsCut
instruction_keeps w nester slot x pick at sound plain = by (is_within (slot ∷ nester) x) refl
  where
    by : (b : Bool) → is_within (slot ∷ nester) x ≡ b → is_fit w x asks.Run ≡ true →
        IsReady w x pick asks.Run → (seen : Seen) → IsSeen w nester slot (moves x pick) seen → HasDone w nester slot (moves x pick) seen
    by true e =
        let under = thread_beneath w nester slot plain x at.0 e at.2 in
        rw under.2 (inside w nester slot plain under.0 under.1 pick (rw under.2 at at) sound plain)
    by false e = outside_law w nester slot plain (moves x pick) e (quiet-outcome (slot ∷ nester) w x pick at) (rw (no_stage w x at) refl) sound plain

-- ---- with other outward ports

run_is : (c : World) (k : ℕ) (q : Path) (p : Option Path) (n : ℕ) (t : Thread) (g : List ℕ) → thread_at c (k ∷ q) ≡ Some t →
    t.mode ≡ Running g → onward_row c (Own (k ∷ q) p n) ≡ counted n (when (is_free c q t) (with_pick false p (run_row c q k g t.counter)))
unfolding onward_row
run_is c k q p n t g is e = ap (counted n) (rw is (by (talks_outside c (k ∷ q) && is_none p) t.mode e))
  where
    by : (test : Bool) (mode : Mode) → mode ≡ Running g → cond test (when (is_free c q t) (own_stage c (k ∷ q) p n mode (goes_on c (k ∷ q) p t mode)))
        (when (is_free c q t) (goes_on c (k ∷ q) p t mode)) ≡ when (is_free c q t) (with_pick false p (run_row c q k g t.counter))
    by true mode e = rw e refl
    by false mode e = rw e refl

pub instruction_rebinds : InstructionRebinds
instruction_rebinds c [] p n at bind world = absurd (no_thread at.0 (c.body []) (root_seen world) at.2)
instruction_rebinds c (k ∷ q) p n at bind world =
    row_anew bind c world k q p n at.0 (λ w. with_pick false p (run_row w q k at.1 at.0.counter))
    (run_is c k q p n at.0 at.1 at.2 at.3)
    (λ is. run_is (rebound bind c) k q p n (seen_thread (rebound_ptr bind) at.0) at.1 is at.3)
    at.2
    (λ see small like. with_pick-like like false p p (run_row small q k at.1 at.0.counter) (run_row c q k at.1 at.0.counter) refl
    (subst (λ (y : Path). IsLikeOutcome [] see c (run_row small q k at.1 at.0.counter) (run_row c y k at.1 at.0.counter))
    (append-nil q) (run_row-like like q k at.1 at.0.counter)))
    (λ w. quiet-with_pick [] false p (run_row w q k at.1 at.0.counter) (quiet-run [] w q k at.1 at.0.counter))
