-- How a checkpoint has ended, and what it has sent.
use Rattle.std.proofs.Common.{◌≡◌, ℕ, Bool, true, false, List, length, Option, Some, None, option_map, is_some, IfSome, IfNone, refl, sym, ap, subst, ◌∙◌}
use Rattle.fk_model.specs.declared.stage.Stage.{Stage}
use Rattle.fk_image.specs.declared.image.image.Image.{Image}
use Rattle.fk_checkpoint.specs.declared.checkpoint.end.CheckpointEnd.{CheckpointEnd}
use Rattle.fk_checkpoint.specs.declared.checkpoint.checkpoint.Phase.{Phase}
use Rattle.fk_checkpoint.specs.declared.checkpoint.checkpoint.Phase.TheVariants as phases
use Rattle.fk_checkpoint.specs.Checkpoint.Checkpoints.{end_of, gathered_in}
use Rattle.fk_checkpoint.specs.Checkpoint.Phases.{phase_of, state_of, IsOver}
use Rattle.fk_checkpoint.specs.declared.checkpoint.checkpoint.Checkpoint.{Checkpoint}
use Rattle.fk_image.specs.Format.Spelling.{spelling}
use Rattle.fk_restore.specs.Restore.Restores.{Restoring}
use Rattle.laws_jobs.specs.Machines.{no_words, Head, IsAtCall}
use Rattle.laws_jobs.specs.Machines.Head.{Asks, Stops}
use Rattle.laws_checkpoint.specs.Checkpoint as checks
use Rattle.laws_checkpoint.specs.Checkpoint.{checkpoint}
use Rattle.laws_handover.specs.NearSide as near
use Rattle.laws_handover.specs.NearSide.{Saved}
use Rattle.laws_handover.specs.Laws.{near_image}
use Rattle.laws_migrate.specs.Migration.{Why, checked_end}
use Rattle.laws_handover.specs.Pieces.{pieces}
use Rattle.fk_sides.specs.declared.came.Came.{Came}
use Rattle.fk_sides.specs.declared.far.Makes.{Makes}
use Rattle.fk_sides.specs.declared.far.Makes.TheVariants as makes
use Rattle.fk_sides.specs.declared.far.Stand.{Stand}
use Rattle.fk_sides.specs.declared.kept.Reason.{Reason}
use Rattle.fk_sides.specs.declared.near.Saves.{Saves}
use Rattle.fk_sides.specs.declared.near.Saves.TheVariants as saves
use Rattle.fk_sides.specs.declared.near.Since.{Since}
use Rattle.fk_sides.specs.declared.near.Since.TheVariants as sinces
use Rattle.fk_sides.specs.Fars.{IsFar, stand_of}
use Rattle.fk_sides.specs.Kept.{is_moved, many_pieces, pieces_of, reason_of, why_kept}
use Rattle.fk_sides.specs.Nears.{since_of, saves_of, IsSpelled}
use Rattle.fk_sides.specs.Sides.{FarSide, near_at, saved_so}

abbrev Heads : Type 0
Heads = Head checks.End

abbrev an_end : checks.End → Heads
an_end end = Stops end

abbrev a_call : Stage → List ℕ → Heads
a_call stage words = Asks stage words

stops_asks : (end : checks.End) (stage : Stage) (words : List ℕ) → an_end end ≡ a_call stage words → ⊥
stops_asks end stage words e = cc

same_end : (one other : checks.End) → an_end one ≡ an_end other → one ≡ other
same_end one other e = cc

-- one that has a call to make keeps nothing
asks_none : (slot : ℕ) (s : checks.State) (stage : Stage) (words : List ℕ) → checks.head slot s ≡ Asks stage words → why_kept (near_at s) ≡ None
asks_none slot checks.Holds stage words e = refl
asks_none slot (checks.Readies r rest) stage words e = refl
asks_none slot (checks.Walks s) stage words e = refl
asks_none slot (checks.Seeks mets s) stage words e = refl
asks_none slot (checks.Reads s) stage words e = refl
asks_none slot (checks.Gathers contents s) stage words e = refl
asks_none slot (checks.Drops r rest end) stage words e = refl
asks_none slot (checks.Releases checks.Gone) stage words e = refl
asks_none slot (checks.Releases (checks.Foreign place)) stage words e = refl
asks_none slot (checks.Releases (checks.Done i)) stage words e = refl
asks_none slot (checks.Over end) stage words e = absurd (stops_asks end stage words e)

-- by what its next call is
pub asks_still : (slot : ℕ) (s : checks.State) (o : Option Stage) → is_some o ≡ true → IfSome o (λ stage. checks.head slot s ≡ Asks stage no_words)
    → None ≡ why_kept (near_at s)
asks_still slot s (Some stage) there asks = sym (asks_none slot s stage no_words asks)
asks_still slot s None there asks = cc

abbrev Failing : Type 0
Failing = Saved checks.State Image Why

failing : (e : checks.End) (why : Why) → checked_end e ≡ near.Fails why → why_kept (saved_so (checked_end e)) ≡ Some why
failing e why is = ap (λ (s : Failing). why_kept (saved_so s)) is

-- one that has none is over
over_failed : (slot : ℕ) (phase : Phase) (finish : CheckpointEnd) (why : Why) → IsOver phase → checks.head slot (phase_of slot phase) ≡ Stops (end_of finish)
    → checked_end (end_of finish) ≡ near.Fails why → why_kept (near_at (phase_of slot phase)) ≡ Some why
over_failed slot (phases.Over way) finish why over stops is =
    let same : end_of way ≡ end_of finish = same_end (end_of way) (end_of finish) stops in
    failing (end_of way) why (ap checked_end same ∙ is)
over_failed slot phases.Holds finish why over stops is = absurd over
over_failed slot (phases.Readies scratch) finish why over stops is = absurd over
over_failed slot (phases.Walks walk) finish why over stops is = absurd over
over_failed slot (phases.Seeks walk seek) finish why over stops is = absurd over
over_failed slot (phases.Closed walk) finish why over stops is = absurd over
over_failed slot (phases.Reads read) finish why over stops is = absurd over
over_failed slot (phases.Gathers contents gather) finish why over stops is = absurd over
over_failed slot (phases.Ends ending) finish why over stops is = absurd over
over_failed slot (phases.Drops scratch end) finish why over stops is = absurd over
over_failed slot (phases.Releases way) finish why over stops is = absurd over

none_left : (phase : Phase) (o : Option Stage) → is_some o ≡ false → IfNone o (IsOver phase) → IsOver phase
none_left phase None there over = over
none_left phase (Some stage) there over = cc

pub failed_some : (slot : ℕ) (phase : Phase) (finish : CheckpointEnd) (why : Why) (o : Option Stage) → is_some o ≡ false → IfNone o (IsOver phase)
    → checks.head slot (phase_of slot phase) ≡ Stops (end_of finish) → checked_end (end_of finish) ≡ near.Fails why
    → Some why ≡ why_kept (near_at (phase_of slot phase))
failed_some slot phase finish why o there over stops is = sym (over_failed slot phase finish why (none_left phase o there over) stops is)

-- one that has a call to make after all
pub failed_none : (slot : ℕ) (s : checks.State) → IsAtCall (checkpoint slot) s → None ≡ why_kept (near_at s)
failed_none slot s call = sym (asks_none slot s call.0 call.1 call.2)

-- ---- no image, no pieces

pub no_image : (s : checks.State) → gathered_in s ≡ None → None ≡ near_image (near_at s)
no_image checks.Holds none = refl
no_image (checks.Readies r rest) none = refl
no_image (checks.Walks s) none = refl
no_image (checks.Seeks mets s) none = refl
no_image (checks.Reads s) none = refl
no_image (checks.Gathers contents s) none = refl
no_image (checks.Drops r rest end) none = refl
no_image (checks.Releases checks.Gone) none = refl
no_image (checks.Releases (checks.Foreign place)) none = refl
no_image (checks.Releases (checks.Done i)) none = cc
no_image (checks.Over checks.Gone) none = refl
no_image (checks.Over (checks.Foreign place)) none = refl
no_image (checks.Over (checks.Done i)) none = refl

pub works_pieces : (old s : Saves) (c : Checkpoint) → s ≡ saves.Works c → IsSpelled s → saves_of s ≡ saves_of old → 0 ≡ pieces_of (saves_of old)
works_pieces old s c is spelled same =
    ap many_pieces (no_image (state_of c) (subst IsSpelled is spelled)) ∙ ap pieces_of (sym (ap saves_of is) ∙ same)

since_image : (i : Image) (s : Since) → Some i ≡ near_image (since_of i s)
since_image i sinces.Waits = refl
since_image i (sinces.Clears more) = refl
since_image i sinces.Cleared = refl
since_image i (sinces.Cancels why) = refl
since_image i (sinces.Cancelled why) = refl

pub gathered_pieces : (old s : Saves) (i : Image) (since : Since) (n : ℕ) → s ≡ saves.Gathered i since → saves_of s ≡ saves_of old
    → n ≡ length (pieces (spelling i)) → n ≡ pieces_of (saves_of old)
gathered_pieces old s i since n is same total = total ∙ ap many_pieces (since_image i since) ∙ ap pieces_of (sym (ap saves_of is) ∙ same)

-- ---- in whichever state it is

pub works_kept : (s : Saves) (c : Checkpoint) (o : Option Reason) → s ≡ saves.Works c → option_map reason_of o ≡ why_kept (near_at (state_of c))
    → option_map reason_of o ≡ why_kept (saves_of s)
works_kept s c o is kept = kept ∙ sym (ap (λ (x : Saves). why_kept (saves_of x)) is)

pub gathered_kept : (s : Saves) (i : Image) (since : Since) (o : Option Reason) → s ≡ saves.Gathered i since
    → option_map reason_of o ≡ why_kept (since_of i since) → option_map reason_of o ≡ why_kept (saves_of s)
gathered_kept s i since o is kept = kept ∙ sym (ap (λ (x : Saves). why_kept (saves_of x)) is)

pub listens_still : (m : Makes) (came : Came) (f : FarSide) → m ≡ makes.Listens came → IsFar m f → false ≡ is_moved f
listens_still m came f is far = let its = subst (λ (x : Makes). IsFar x f) is far in sym (ap is_moved its.1)

pub never_moved : (m : Makes) (f : FarSide) → m ≡ makes.Never → IsFar m f → false ≡ is_moved f
never_moved m f is far = sym (ap is_moved (subst (λ (x : Makes). IsFar x f) is far))

pub restores_moved : (m : Makes) (r : Restoring) (stand : Stand) (b : Bool) (f : FarSide) → m ≡ makes.Restores r stand → b ≡ is_moved (stand_of r stand)
    → IsFar m f → b ≡ is_moved f
restores_moved m r stand b f is here far = here ∙ sym (ap is_moved (subst (λ (x : Makes). IsFar x f) is far))
