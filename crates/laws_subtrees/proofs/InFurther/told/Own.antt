-- A move of the subtree's own touches pointers once.
use Rattle.std.proofs.Common.{◌≡◌, ℕ, false, ◌&&◌, ◌||◌, ◌==◌, nat_le, nat_lt, is_none, List, [], ◌∷◌, Option, Some, None, refl}
use Rattle.fk_model.specs.declared.limits.TheConstants.{BLOCK_WORDS}
use Rattle.fk_model.specs.declared.names.Kind.TheVariants as kinds
use Rattle.fk_model.specs.declared.stage.Stage.{Stage}
use Rattle.fk_model.specs.declared.stage.Stage.TheVariants.{ClientSend, ClientOver, ClientOverRef}
use Rattle.fk_model.specs.declared.thread.Turn.TheVariants as turns
use Rattle.fk_model.specs.Places.{Path, Ptr}
use Rattle.fk_model.specs.Objects.{Mode, Thread, reference_of}
use Rattle.fk_model.specs.Objects.Mode.{Calling}
use Rattle.fk_model.specs.World.{World}
use Rattle.fk_model.specs.World.Change.{Alter}
use Rattle.fk_model.specs.World.Edit.{CountMoved}
use Rattle.fk_model.specs.Searches.{thread_at}
use Rattle.fk_model.specs.Reach.{words_at}
use Rattle.fk_model.specs.Holds.{is_free}
use Rattle.fk_model.specs.Outcomes.{Outcome, Caller, path_of, listed, ◌>>=◌}
use Rattle.fk_model.specs.Outcomes.Said.{Words}
use Rattle.fk_model.specs.Talks.{Line}
use Rattle.fk_model.specs.TransferRows.{in_turn, moved_words, has_sent, block, may_carry}
use Rattle.fk_model.specs.LinkRows.{user_at}
use Rattle.fk_model.specs.Moves.{goes_on}
use Rattle.fk_model.specs.Valid.{kind_there}
use Rattle.fk_model.specs.Further.{takes_words, sends_outside, passes_outside, talks_outside, outside_row, own_stage, own_move, own_row, goes_out, onward_row}
use Rattle.fk_model.specs.Further.{over_outside}
use Rattle.fk_model.specs.Further.Onward.{Own}
use Rattle.laws_moves.specs.Frozen.Once.{IsFaultless, TouchOnce}
use Rattle.laws_moves.proofs.InFrozen.once.Outcomes.{OnceOutcome, waits, once->>=, once-when, once-if, once-done, once-telling, own_page-once}
use Rattle.laws_moves.proofs.InFrozen.once.Rows.{has_sent-once}
use Rattle.laws_moves.proofs.InFrozen.once.Moves.{closed-once, goes_on-once, user_move-once, free-faultless, rootless, listed-once}
use Rattle.fk_model.specs.Readers.{object_in}

module _ (w : World) (taken : ℕ) where
  takes-once : (c : Caller) (client : Path) (port : Ptr) (address count : ℕ) (page : List ℕ) →
      OnceOutcome w (takes_words c client port taken address count page)
  takes-once c client port address count page =
      once-when w (nat_lt 0 taken && nat_le taken (moved_words address count 0 BLOCK_WORDS))
      (has_sent c taken count (Alter client (CountMoved taken) ∷ []) (Words port (block taken address page)))
      (λ e. has_sent-once w c taken count (Alter client (CountMoved taken) ∷ []) (Words port (block taken address page)) (refl, tt))

  sends-once : (c : Caller) (address count : ℕ) (l : Line) → IsFaultless w (path_of c) → OnceOutcome w (sends_outside w c taken address count l)
  sends-once c address count l clean = once-if w (count == 0) _ _ (once-done w c [] [] tt)
      (own_page-once w c address false (λ s page. takes_words c l.client l.talk.port taken address count (words_at w s page)) clean
      (λ s page. takes-once c l.client l.talk.port address count _))

  passes-once : (c : Caller) (carried : Option Ptr) (l : Line) → OnceOutcome w (passes_outside w c carried l)
  passes-once c carried l = once-when w (may_carry w (path_of c) carried) _ (λ e. once-telling w _ _ (once-done w c _ [] tt))

  over_outside-once : (c : Caller) (carried : Option Ptr) → OnceOutcome w (over_outside w c carried)
  over_outside-once c carried = once->>= w (in_turn w (path_of c) turns.Client turns.Client) (passes_outside w c carried) (λ l e. passes-once c carried l)

  outside-once : (c : Caller) (stage : Stage) (o : Outcome) → IsFaultless w (path_of c) → OnceOutcome w o → OnceOutcome w (outside_row w c taken stage o)
  outside-once c (ClientSend address count) o clean once =
      once->>= w (in_turn w (path_of c) turns.Client turns.Client) (sends_outside w c taken address count) (λ l e. sends-once c address count l clean)
  outside-once c ClientOver o clean once = over_outside-once c None
  outside-once c (ClientOverRef reference) o clean once =
      once->>= w (object_in w c reference_of c.space reference) (λ p. over_outside w c (Some p)) (λ p e. over_outside-once c (Some p))
  outside-once c stage o clean once = once

  stage-once : (k : ℕ) (s : Path) (pick : Option Path) (mode : Mode) (o : Outcome) → IsFaultless w (k ∷ s) → OnceOutcome w o →
      OnceOutcome w (own_stage w (k ∷ s) pick taken mode o)
  stage-once k s pick (Calling (stage ∷ todo) rest) o clean once = closed-once w (user_at (k ∷ s)) _ (outside-once (user_at (k ∷ s)) stage o clean once)
  stage-once k s pick (Calling [] rest) o clean once = once
  stage-once k s pick mode o clean once = once

  move-once : (x : Path) (pick : Option Path) (t : Thread) → kind_there w [] ≡ Some kinds.Space → thread_at w x ≡ Some t →
      OnceOutcome w (own_move w x pick taken t)
  move-once [] pick t root there = absurd (rootless w t there root)
  move-once (k ∷ s) pick t root there = once-if w (talks_outside w (k ∷ s) && is_none pick) _ _
      (once-when w (is_free w s t) _ (λ free. let clean = free-faultless w (k ∷ s) t there free in
      stage-once k s pick t.mode (goes_on w (k ∷ s) pick t t.mode) clean (goes_on-once w k s pick t t.mode clean)))
      (user_move-once w (k ∷ s) pick (Some t) root there)

  row-once : (x : Path) (pick : Option Path) (o : Option Thread) → kind_there w [] ≡ Some kinds.Space → thread_at w x ≡ o →
      OnceOutcome w (own_row w x pick taken o)
  row-once x pick None root there = waits
  row-once x pick (Some t) root there = move-once x pick t root there

  pub own-once : (x : Path) (pick : Option Path) → kind_there w [] ≡ Some kinds.Space → TouchOnce w (listed (onward_row w (Own x pick taken)))
  unfolding onward_row
  own-once x pick root =
      listed-once w _ (once-when w (taken == 0 || goes_out (own_row w x pick taken (thread_at w x))) _ (λ e. row-once x pick (thread_at w x) root refl))
