-- Two runs: one has saved a subtree as an image, and the other has made it again from that.
use Rattle.std.specs.Prelude.{◌≡◌, ℕ, ◌+◌, ◌≤◌, true, List, length, map, Some}
use Rattle.std.specs.List.{slice_get}
use Rattle.fk_model.specs.declared.moves.Move.{Move}
use Rattle.fk_model.specs.Places.{Path}
use Rattle.fk_model.specs.Cut.{cut, IsPlain}
use Rattle.fk_model.specs.Further.{Onward, Told, IsFurther}
use Rattle.fk_model.specs.Rebind.{rebound, rebound_told, rebound_move}
use Rattle.fk_image.specs.declared.image.image.Image.{Image}
use Rattle.fk_image.specs.Format.Spells.{SpellsImage}
use Rattle.fk_image.specs.Image.Picture.{picture}
use Rattle.fk_image.specs.Image.Valid.{is_valid}
use Rattle.laws_subtrees.specs.Further.Runs.{IsSeenRun}
use Rattle.laws_checkpoint.specs.Checkpoint.End.{Done}
use Rattle.laws_restore.specs.Restore.Restore as restores
use Rattle.laws_restore.specs.Rooms.Restoring.{bound_by}
use Rattle.laws_runs.specs.Cores.{Servers, House, Core, IsRun, world_at}
use Rattle.laws_runs.specs.Cores.JobEnd.{Worked}
use Rattle.laws_runs.specs.Transparency.{Checkpointed, Restored as Restored_there}
use Rattle.laws_runs.specs.Onwards.{between}
use Rattle.laws_house.specs.Houses.{Job, State, End, house}
use Rattle.laws_house.specs.Houses.Source.{Given}
use Rattle.laws_house.specs.Houses.Task.{Checkpoint, Restore}
use Rattle.laws_house.specs.Houses.End.{Checked, Restored}
use Rattle.laws_house.specs.Transparency.{IsTransparent}
use Rattle.laws_house.specs.Laws.{GoesOnAgain}

-- a checkpoint of one run has saved what an image shows, and a restore of another run has made that: it has exactly the further runs that the
-- saved subtree had at its hold, its ports bound
abbrev pub CopiesGoOn : Type 0 → Type 0 → Type 0 → Type 0 → Type 0 → Type 0 → Type 0 → Type 0 → Type 0
CopiesGoOn J S A V K T B U = (h : House J S A V) (first c : Core S A V) (past : List Move) (run : IsRun h first past c)
    (g : House K T B U) (start d : Core T B U) (moves : List Move) (other : IsRun g start moves d)
    (image : Image) (birth slot hold release there place made done : ℕ) (bind : ℕ → ℕ) → is_valid image ≡ true →
    Checkpointed run birth slot hold release (picture image) → Restored_there other there place made done bind (picture image) →
    GoesOnAgain birth slot (world_at run hold) there place (world_at other made) (world_at other (done + 1)) bind

-- ---- where the bytes of a file lead from one run to the other

-- a checkpoint of the one is done, and these bytes spell its image; a restore of the other was given an image that these bytes spell, and is done
abbrev pub SavedSubtreesGoOnInAnotherRun : Type 0 → Type 0 → Type 0
SavedSubtreesGoOnInAnotherRun V U = (jobs others : List Job) (servers : Servers V) (fellows : Servers U) (first c : Core State End V)
    (start d : Core State End U) (past moves : List Move) (run : IsRun (house jobs servers) first past c)
    (other : IsRun (house others fellows) start moves d) → IsTransparent run → IsTransparent other →
    (from to : ℕ) (i j : Job) (slot place hold release made done : ℕ) (pairs : List (ℕ × ℕ)) (saved given : Image) (bytes : List ℕ) →
    slice_get jobs from ≡ Some i → i.task ≡ Checkpoint slot → slice_get c.ends from ≡ Some (Worked (Checked (Done saved)) hold release) →
    SpellsImage bytes saved → SpellsImage bytes given → slice_get others to ≡ Some j → j.task ≡ Restore place pairs (Given (Some given)) →
    slice_get d.ends to ≡ Some (Worked (Restored restores.Done) made done) →
    GoesOnAgain i.nester slot (world_at run hold) j.nester place (world_at other made) (world_at other (done + 1)) (bound_by pairs)

-- ---- and where both go on

-- as the one run goes on from its hold and the other from behind its restore, the subtree tells the same and comes to the same, its ports bound
pub record GoOnAlike {V U : Type 0} {jobs others : List Job} {servers : Servers V} {fellows : Servers U} {first c : Core State End V}
    {start d : Core State End U} {past moves : List Move} (run : IsRun (house jobs servers) first past c)
    (other : IsRun (house others fellows) start moves d) (bind : ℕ → ℕ) (nester there : Path) (slot place hold done k n : ℕ)
    (came : List Onward) : Type 0 where
  pub told : List Told
  pub tells : IsFurther (cut (world_at run hold) nester slot) came told (cut (world_at run (hold + k)) nester slot)
  pub tells_there :
      IsFurther (cut (world_at other (done + 1)) there place) (map (rebound_move bind) came) (map (rebound_told bind) told)
      (cut (world_at other (done + 1 + n)) there place)
  pub same : cut (world_at other (done + 1 + n)) there place ≡ rebound bind (cut (world_at run (hold + k)) nester slot)

-- the subtree is plain in both, and sees the same moves in both, but for its ports, which are bound, and none as other: k moves of the one run from
-- its hold on, n of the other from behind its restore on
abbrev pub CopiesTellTheSame : Type 0 → Type 0 → Type 0
CopiesTellTheSame V U = (jobs others : List Job) (servers : Servers V) (fellows : Servers U) (first c : Core State End V)
    (start d : Core State End U) (past moves : List Move) (run : IsRun (house jobs servers) first past c)
    (other : IsRun (house others fellows) start moves d) → IsTransparent run → IsTransparent other →
    (image : Image) (birth slot hold release birth_there place made done : ℕ) (bind : ℕ → ℕ) → is_valid image ≡ true →
    (from : Checkpointed run birth slot hold release (picture image)) → (to : Restored_there other birth_there place made done bind (picture image)) →
    (k n : ℕ) (came : List Onward) → hold + k ≤ length past → done + 1 + n ≤ length moves → IsPlain (world_at run hold) from.nester slot →
    IsSeenRun from.nester slot (world_at run hold) (between run hold k) came →
    IsSeenRun to.nester place (world_at other (done + 1)) (between other (done + 1) n) (map (rebound_move bind) came) →
    GoOnAlike run other bind from.nester to.nester slot place hold done k n came
