-- The first rows that act alike in a likeness: a lock, a stop of a thread, an instruction.
use Rattle.std.proofs.Common.{◌≡◌, ℕ, ◌+◌, Bool, true, false, not, leb, List, [], ◌∷◌, ◌++◌, Option, Some, None, refl}
use Rattle.fk_model.specs.declared.instruction.Act.{Act}
use Rattle.fk_model.specs.declared.instruction.Act.TheVariants.{Put, Jump, Load, Store, Halt, Call}
use Rattle.fk_model.specs.declared.limits.TheConstants.{MOST_STOPS}
use Rattle.fk_model.specs.declared.names.Kind.TheVariants as kinds
use Rattle.fk_model.specs.declared.stage.Stage.{Stage}
use Rattle.fk_model.specs.declared.statuses.status.TheConstants as status
use Rattle.fk_model.specs.Places.{Path, Ptr}
use Rattle.fk_model.specs.Objects.{Mode, mutex_of}
use Rattle.fk_model.specs.Objects.Mode.{Running, Halted}
use Rattle.fk_model.specs.World.Edit.{Proceed, SetLocked, SetStops}
use Rattle.fk_model.specs.World.{World}
use Rattle.fk_model.specs.Calls.{todo_of}
use Rattle.fk_model.specs.Instructions.{act, next}
use Rattle.fk_model.specs.Reach.{reach_word}
use Rattle.fk_model.specs.Holds.{is_porter, is_frozen}
use Rattle.fk_model.specs.Outcomes.{Outcome, Caller}
use Rattle.fk_model.specs.Readers.{handle, accessed}
use Rattle.fk_model.specs.Talks.{thread_led_to}
use Rattle.fk_model.specs.SyncRows.{mutex_lock}
use Rattle.fk_model.specs.SpaceRows.{thread_by_handle, thread_stop}
use Rattle.fk_model.specs.UserRows.{proceeds, halts_with, word_at, loads, stores, enters, performs, executes, run_row_by, run_row}
use Rattle.laws_subtrees.specs.Cut.Likeness.{IsSeenHandle, IsLikeness, under, AlikeResults, EndLikeness}
use Rattle.laws_subtrees.specs.Cut.LikeChanges.{IsLikeOutcome}
use Rattle.laws_subtrees.specs.Cut.LikeChanges.LikeChange.{Alters, PutsPage}
use Rattle.laws_subtrees.specs.Cut.LikeChanges.LikeChanges.{Empty, Both}
use Rattle.laws_subtrees.proofs.InCut.likeness.Alike.{alike_and_read, alike_or_refuse}
use Rattle.laws_subtrees.proofs.InCut.likeness.Reads.{mutex-seen, plain_in-like, handle-like}
use Rattle.laws_subtrees.proofs.InCut.likeness.Memory.{reach_word-like, words_at-like}
use Rattle.laws_subtrees.proofs.InCut.likeness.Holds.{is_frozen_for-like}
use Rattle.laws_subtrees.proofs.InCut.likeness.Talks.{thread_at-like}
use Rattle.laws_subtrees.proofs.InCut.likeness.Outcomes.{bind_same, bind_end, refuse-like, when-like, done-like, accessed-like}

module _ {root : Path} {see : Ptr → Ptr} {small big : World} (like : IsLikeness root see small big) where
  abbrev Alike : Outcome → Outcome → Type 0
  Alike = IsLikeOutcome root see big

  -- ---- a lock

  pub mutex_lock-like : (c : Caller) (m : ℕ) → Alike (mutex_lock small c m) (mutex_lock big (under root c) m)
  unfolding mutex_lock
  mutex_lock-like c m =
      bind_same like _ _ _ _ (plain_in-like like mutex_of (mutex-seen see) c c.space m)
      (λ locked. when-like like (not locked) _ _ (done-like like c _ _ [] (Both (Alters m c.space (SetLocked true) (SetLocked true) refl tt) Empty)))

  -- ---- a stop

  pub thread_by-like : (c : Caller) (h : ℕ) → AlikeResults (EndLikeness root see big) (thread_by_handle small c h) (thread_by_handle big (under root c) h)
  thread_by-like c h =
      alike_and_read (IsSeenHandle root see big kinds.Thread)
      (EndLikeness root see big) (handle small c kinds.Thread h) (handle big (under root c) kinds.Thread h) _ _ (handle-like like c kinds.Thread h)
      (λ seen p is. rw is.0 (alike_or_refuse (EndLikeness root see big)
      status.WRONGKIND (thread_led_to small (see p)) (thread_led_to big p) (thread_at-like like p (see p) is.1)))

  pub thread_stop-like : is_frozen big root ≡ false → (c : Caller) (h : ℕ) → Alike (thread_stop small c h) (thread_stop big (under root c) h)
  unfolding thread_stop
  thread_stop-like free c h =
      bind_end like _ _ _ _ (thread_by-like c h)
      (λ k q t is near. refuse-like like status.HELD _ _ _ _ (is_frozen_for-like like free (c.slot ∷ c.space) (k ∷ q))
      (λ held. refuse-like like status.FULL (leb MOST_STOPS t.stops) (leb MOST_STOPS t.stops) _ _ refl
      (λ few. done-like like c _ _ [] (Both (Alters k q (SetStops (t.stops + 1)) (SetStops (t.stops + 1)) refl tt) Empty))))

  -- ---- an instruction

  proceeds-like : (k : ℕ) (q : Path) (mode : Mode) (counter : ℕ) →
      is_porter mode ≡ false → Alike (proceeds (k ∷ q) mode counter) (proceeds (k ∷ (q ++ root)) mode counter)
  proceeds-like k q mode counter user = Both (Alters k q _ (Proceed mode counter) refl user) Empty

  access : (space : Path) (slot : ℕ) (write : Bool) (g : List ℕ) (counter address : ℕ) (go on : Path → ℕ → Outcome) →
      ((s : Path) (page : ℕ) → Alike (go s page) (on (s ++ root) page)) →
      Alike (accessed (slot ∷ space) write (halts_with (slot ∷ space) g counter) go (reach_word small space address write))
      (accessed (slot ∷ (space ++ root)) write (halts_with (slot ∷ (space ++ root)) g counter) on (reach_word big (space ++ root) address write))
  access space slot write g counter address go on goes =
      accessed-like like slot space write (halts_with (slot ∷ space) g counter)
      (halts_with (slot ∷ (space ++ root)) g counter) go on (reach_word small space address write) (reach_word big (space ++ root) address write)
      (reach_word-like like space address write) (λ code. proceeds-like slot space (Halted g code) counter refl) goes

  performs-like : (space : Path) (slot : ℕ) (g : List ℕ) (counter : ℕ) (a : Act) →
      Alike (performs todo_of small space (slot ∷ space) g counter a) (performs todo_of big (space ++ root) (slot ∷ (space ++ root)) g counter a)
  performs-like space slot g counter (Put register value) = proceeds-like slot space _ _ refl
  performs-like space slot g counter (Jump to) = proceeds-like slot space _ _ refl
  performs-like space slot g counter (Load register address) =
      access space
      slot false g counter address (loads small (slot ∷ space) g counter register address) (loads big (slot ∷ (space ++ root)) g counter register address)
      (λ s page. rw (words_at-like like s page) (proceeds-like slot space _ _ refl))
  performs-like space slot g counter (Store address value) =
      access space
      slot true g counter address (stores small (slot ∷ space) g counter address value) (stores big (slot ∷ (space ++ root)) g counter address value)
      (λ s page. rw (words_at-like like s page) (Both (PutsPage s page _) (Both (Alters slot space _ (Proceed (Running g) (next counter)) refl refl) Empty)))
  performs-like space slot g counter (Halt code) = proceeds-like slot space _ _ refl
  performs-like space slot g counter Call = by (todo_of g)
    where
      by : (o : Option (List Stage)) → Alike (enters (slot ∷ space) g counter o) (enters (slot ∷ (space ++ root)) g counter o)
      by None = proceeds-like slot space _ _ refl
      by (Some todo) = proceeds-like slot space _ _ refl

  pub run_row-like : (space : Path) (slot : ℕ) (g : List ℕ) (counter : ℕ) →
      Alike (run_row small space slot g counter) (run_row big (space ++ root) slot g counter)
  unfolding run_row_by
  run_row-like space slot g counter =
      access space slot false
      g counter counter (executes todo_of small space (slot ∷ space) g counter) (executes todo_of big (space ++ root) (slot ∷ (space ++ root)) g counter)
      (λ s page. rw (words_at-like like s page) (performs-like space slot g counter (act (word_at big (s ++ root) page counter) g counter)))
