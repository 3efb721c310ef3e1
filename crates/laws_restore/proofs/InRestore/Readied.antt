-- The next call of a restore is ready wherever nothing outside its new space is held.
use Rattle.std.proofs.Common.{◌≡◌, ℕ, ◌≤◌, List, [], ◌∷◌, subst}
use Rattle.fk_model.specs.declared.limits.TheConstants.{OWN_SPACE, LAST_USER_SLOT}
use Rattle.fk_model.specs.declared.stage.Stage.{Stage}
use Rattle.fk_model.specs.declared.stage.Stage.TheVariants.{Destroy, SpaceRelease}
use Rattle.fk_model.specs.Places.{Path}
use Rattle.fk_model.specs.World.{World}
use Rattle.laws_moves.specs.Savable.Savable.{IsSound}
use Rattle.laws_jobs.specs.Machines.{no_words, call_of, IsReadyAt}
use Rattle.laws_jobs.specs.Machines.Head.{Asks}
use Rattle.laws_jobs.specs.Jobs.{MayBegin}
use Rattle.laws_jobs.specs.Calls.{IsUnheldOutside}
use Rattle.laws_jobs.proofs.Weaving.{now_sound}
use Rattle.laws_jobs.proofs.Ready.{unheld_call_ready}
use Rattle.laws_jobs.proofs.Holds.{release-row}
use Rattle.laws_restore.specs.Sites.Orders.{stage_of, words_of}
use Rattle.laws_restore.proofs.InSites.Others.{holding}
use Rattle.laws_restore.proofs.InSites.Ready.{next_is_ready}
use Rattle.laws_restore.specs.Restore.Rooms.{Room}
use Rattle.laws_restore.specs.Restore.Roomed.{IsRoomed}
use Rattle.laws_restore.specs.Restore.Restore.{State, head, restore}
use Rattle.laws_restore.specs.Restore.Restore.State.{Makes as Begins}
use Rattle.laws_restore.specs.Restore.Exact.{RestoreIsReady}
use Rattle.laws_restore.proofs.InRestore.Emptying.{calm_ready}
use Rattle.laws_restore.proofs.InRestore.Coming.{Came, came}
use Rattle.laws_restore.proofs.InRestore.Coming.Came.{Working, Dropping, Clearing, Finished, Missing, Taken}

-- a call that is known
known : (v : World) (nester : Path) (stage other : Stage) (given words : List ℕ) → stage ≡ other → given ≡ words → IsReadyAt v (call_of nester stage given)
    → IsReadyAt v (call_of nester other words)
known v nester stage other given words one two ready = subst (λ (ws : List ℕ). IsReadyAt v (call_of nester other ws)) two
    (subst (λ (st : Stage). IsReadyAt v (call_of nester st given)) one ready)

module _ (slot birth : ℕ) (bind : ℕ → ℕ) (c : World) (rooms : List Room) (w : World) (nester : Path) (low : slot ≤ LAST_USER_SLOT) (its : IsRoomed bind c rooms)
    (may_begin : MayBegin w nester birth) where
  ready_at : (v : World) (t : State) → IsSound v → IsUnheldOutside (slot ∷ nester) v → Came slot birth bind c rooms w nester low its may_begin v t
      → (stage : Stage) (words : List ℕ) → head slot t ≡ Asks stage words →
      IsReadyAt v (call_of nester stage words)
  ready_at _ _ sound calm (Working [] g v empty shows alone may suits safe tidied is history) stage words e =
      known v nester (SpaceRelease OWN_SPACE slot) stage no_words words (let one : SpaceRelease OWN_SPACE slot ≡ stage = cc in one) (let two : no_words
      ≡ words = cc in two)
      (unheld_call_ready nester slot v (SpaceRelease OWN_SPACE slot) no_words _ _ (holding nester slot g v shows) calm
      (release-row nester slot v (holding nester slot g v shows)))
  ready_at _ _ sound calm (Working (o ∷ os) g v empty shows alone may suits safe tidied is history) stage words e =
      known v nester (stage_of slot o) stage (words_of o) words (let one : stage_of slot o ≡ stage = cc in one) (let two : words_of o ≡ words = cc in two)
      (next_is_ready nester slot g v o shows may.0 sound.whole.valid calm)
  ready_at _ _ sound calm (Dropping o os port g v empty shows alone left tidied) stage words e =
      known v nester (stage_of slot o) stage (words_of o) words (let one : stage_of slot o ≡ stage = cc in one) (let two : words_of o ≡ words = cc in two)
      (next_is_ready nester slot g v o shows left.may.0 sound.whole.valid calm)
  ready_at _ _ sound calm (Clearing xs more port v empty emptied many alone tidied) stage words e =
      known v nester (Destroy OWN_SPACE slot) stage no_words words (let one : Destroy OWN_SPACE slot ≡ stage = cc in one) (let two : no_words ≡ words = cc in
      two)
      (calm_ready nester slot v sound.whole.valid xs emptied calm)
  ready_at _ _ sound calm (Finished v empty plain same unheld clean) stage words e = cc
  ready_at _ _ sound calm (Missing port v empty none clean) stage words e = cc
  ready_at _ _ sound calm (Taken v there same) stage words e = cc

pub is_ready : RestoreIsReady
is_ready slot birth bind c rooms w v nester t stage words low its may work asks calm =
    ready_at slot birth bind c rooms w nester low its may v t (now_sound (restore slot bind rooms) nester w Begins v t work) calm
    (came slot birth bind c rooms w nester low its may v t work) stage words asks
