-- Each call of a restore is owed.
use Rattle.std.proofs.Common.{◌≡◌, ℕ, ◌≤◌, true, false, nat_le, is_some, List, [], ◌∷◌, None, Result, Ok, refl, sym, subst, arith, ◌∙◌}
use Rattle.std.proofs.lemmas.Bool.{le-leb}
use Rattle.fk_model.specs.declared.limits.TheConstants.{OWN_SPACE, LAST_USER_SLOT, LAST_SCRATCH_SLOT}
use Rattle.fk_model.specs.declared.stage.Stage.{Stage}
use Rattle.fk_model.specs.declared.stage.Stage.TheVariants.{Destroy, SpaceMakeHeld, SpaceRelease}
use Rattle.fk_model.specs.Places.{Path}
use Rattle.fk_model.specs.World.{World}
use Rattle.fk_model.specs.Valid.{is_fit}
use Rattle.fk_model.specs.Cut.{unheld}
use Rattle.fk_model.specs.Sound.{IsClean}
use Rattle.laws_moves.specs.Savable.Savable.{IsSound, LeavesNoScratch}
use Rattle.laws_jobs.specs.Machines.{porter, no_words, AtWork, IsOwedCall}
use Rattle.laws_jobs.specs.Machines.Head.{Stops, Asks}
use Rattle.laws_jobs.specs.Jobs.{MayBegin, HasPorter}
use Rattle.laws_jobs.proofs.Weaving.{now_sound}
use Rattle.laws_jobs.proofs.Rows.{own-place}
use Rattle.laws_restore.specs.Sites.Orders.{Site, Shows, stage_of, words_of, does_all}
use Rattle.laws_restore.specs.Sites.Orders.Order.{Drops}
use Rattle.laws_restore.proofs.InSites.Owed.{orders_are_owed}
use Rattle.laws_restore.specs.Restore.Rooms.{Room}
use Rattle.laws_restore.specs.Restore.Roomed.{IsRoomed}
use Rattle.laws_restore.specs.Restore.Laws.{finished}
use Rattle.laws_restore.specs.Restore.Restore.{End, State, head, restore}
use Rattle.laws_restore.specs.Restore.Restore.State.{Makes as Begins}
use Rattle.laws_restore.specs.Restore.Ends.{RestoreIsOwed, RestoreMeetsContract}
use Rattle.laws_restore.proofs.InRestore.Coming.{Came, came, empty_inside}
use Rattle.laws_restore.proofs.InRestore.Coming.Came.{Working, Dropping, Clearing, Finished, Missing, Taken}

-- of a call that is known
given_by : (v : World) (nester : Path) (stage other : Stage) (given words : List ℕ) → stage ≡ other → given ≡ words → IsOwedCall v nester stage given
    → IsOwedCall v nester other words
given_by v nester stage other given words one two owed = subst (λ (ws : List ℕ). IsOwedCall v nester other ws) two
    (subst (λ (st : Stage). IsOwedCall v nester st given) one owed)

abbrev placed : Path → Result Path ℕ
placed x = Ok x

same_place : (x y : Path) → placed x ≡ Ok y → x ≡ y
same_place x y e = cc

module _ (slot birth : ℕ) (bind : ℕ → ℕ) (c : World) (rooms : List Room) (w : World) (nester : Path) (low : slot ≤ LAST_USER_SLOT) (its : IsRoomed bind c rooms)
    (may_begin : MayBegin w nester birth) where
  abbrev root : Path
  root = slot ∷ nester

  release_owed : (v : World) (g : Site) → Shows nester slot g v → g ≡ finished bind c → IsOwedCall v nester (SpaceRelease OWN_SPACE slot) no_words
  unfolding is_fit
  release_owed v g shows is = record { proper = record { fit = refl; words = refl }; owes = owes; unpicking = refl }
    where
      owes : LeavesNoScratch v (porter nester no_words) OWN_SPACE slot
      owes space at k scratch live =
          let here = same_place nester space (sym (own-place nester no_words v) ∙ at) in
          let none : v.body (k ∷ slot ∷ space) ≡ None = subst (λ (s : Path). v.body (k ∷ slot ∷ s) ≡ None) here
          (empty_inside slot birth bind c rooms w nester low its may_begin v g shows is k [] scratch) in
          let off : is_some (v.body (k ∷ slot ∷ space)) ≡ false = rw none refl in
          let clash = sym live ∙ off in
          cc

  destroy_owed : (v : World) → IsOwedCall v nester (Destroy OWN_SPACE slot) no_words
  unfolding is_fit
  destroy_owed v = record { proper = record { fit = refl; words = refl }; owes = le-leb slot LAST_SCRATCH_SLOT (omega (arith, low)); unpicking = refl }

  drop_owed : (v : World) (r : ℕ) → nat_le r LAST_SCRATCH_SLOT ≡ true → IsOwedCall v nester (Destroy OWN_SPACE r) no_words
  unfolding is_fit
  drop_owed v r few = record { proper = record { fit = refl; words = refl }; owes = few; unpicking = refl }

  first_owed : IsOwedCall w nester (SpaceMakeHeld slot) no_words
  unfolding is_fit
  first_owed = record { proper = record { fit = refl; words = refl }; owes = le-leb slot LAST_USER_SLOT low; unpicking = refl }

  pub owed_at : (v : World) (t : State) → IsSound v → Came slot birth bind c rooms w nester low its may_begin v t → (stage : Stage) (words : List ℕ)
      → head slot t ≡ Asks stage words → IsOwedCall v nester stage words
  unfolding does_all
  owed_at _ _ sound (Working [] g v empty shows alone may suits safe tidied is history) stage words e =
      given_by v nester (SpaceRelease OWN_SPACE slot) stage no_words words (let one : SpaceRelease OWN_SPACE slot ≡ stage = cc in one) (let two : no_words
      ≡ words = cc in two) (release_owed v g shows is)
  owed_at _ _ sound (Working (o ∷ os) g v empty shows alone may suits safe tidied is history) stage words e =
      given_by v nester (stage_of slot o) stage (words_of o) words (let one : stage_of slot o ≡ stage = cc in one) (let two : words_of o ≡ words = cc in two)
      (orders_are_owed nester slot g v o shows may.0 suits.0 alone.unled sound.whole.valid)
  owed_at _ _ sound (Clearing xs more port v empty emptied many alone tidied) stage words e =
      given_by v nester (Destroy OWN_SPACE slot) stage no_words words (let one : Destroy OWN_SPACE slot ≡ stage = cc in one) (let two : no_words
      ≡ words = cc in two) (destroy_owed v)
  owed_at _ _ sound (Dropping (Drops r) os port g v empty shows alone left tidied) stage words e =
      given_by v nester (Destroy OWN_SPACE r) stage no_words words (let one : Destroy OWN_SPACE r ≡ stage = cc in one) (let two : no_words ≡ words = cc in
      two) (drop_owed v r left.drop.0)
  owed_at _ _ sound (Dropping o os port g v empty shows alone left tidied) stage words e = absurd left.drop
  owed_at _ _ sound (Finished v empty plain same unheld clean) stage words e = cc
  owed_at _ _ sound (Missing port v empty none clean) stage words e = cc
  owed_at _ _ sound (Taken v there same) stage words e = cc

  owed_first : (stage : Stage) (words : List ℕ) → head slot Begins ≡ Asks stage words → IsOwedCall w nester stage words
  owed_first stage words e = given_by w nester (SpaceMakeHeld slot) stage no_words words (let one : SpaceMakeHeld slot ≡ stage = cc in one)
      (let two : no_words ≡ words = cc in two) first_owed

  sound_now : (v : World) (t : State) → AtWork (restore slot bind rooms) nester w Begins v t → IsSound v
  sound_now v t work = now_sound (restore slot bind rooms) nester w Begins v t work

  -- ---- its porter stays, and no scratch is left

  stays_at : (v : World) (t : State) → Came slot birth bind c rooms w nester low its may_begin v t → (stage : Stage) (words : List ℕ)
      → head slot t ≡ Asks stage words → HasPorter v nester birth
  stays_at _ _ (Working os g v empty shows alone may suits safe tidied is history) stage words e = record { porter = shows.porter; named = tidied.named }
  stays_at _ _ (Dropping o os port g v empty shows alone left tidied) stage words e = record { porter = shows.porter; named = tidied.named }
  stays_at _ _ (Clearing xs more port v empty emptied many alone tidied) stage words e = record { porter = emptied.holding.porter; named = tidied.named }
  stays_at _ _ (Finished v empty plain same unheld clean) stage words e = cc
  stays_at _ _ (Missing port v empty none clean) stage words e = cc
  stays_at _ _ (Taken v there same) stage words e = cc

  clean_at : (v : World) (t : State) (end : End) → Came slot birth bind c rooms w nester low its may_begin v t → head slot t ≡ Stops end → IsClean v
  clean_at _ _ end (Working [] g v empty shows alone may suits safe tidied is history) e = cc
  clean_at _ _ end (Working (o ∷ os) g v empty shows alone may suits safe tidied is history) e = cc
  clean_at _ _ end (Dropping o os port g v empty shows alone left tidied) e = cc
  clean_at _ _ end (Clearing xs more port v empty emptied many alone tidied) e = cc
  clean_at _ _ end (Finished v empty plain same unheld clean) e = clean
  clean_at _ _ end (Missing port v empty none clean) e = clean
  clean_at _ _ end (Taken v there same) e = subst IsClean (sym same) may_begin.clean

pub is_owed : RestoreIsOwed
is_owed slot birth bind c rooms w nester low its may_begin = (
  owed_first slot birth bind c rooms w nester low its may_begin,
  λ v t work stage words e. owed_at slot birth bind c rooms w nester low its may_begin v t
      (sound_now slot birth bind c rooms w nester low its may_begin v t work) (came slot birth bind c rooms w nester low its may_begin v t work) stage words e,
)

pub meets_contract : RestoreMeetsContract
meets_contract slot birth bind c rooms low its = record {
  first = λ w nester may. (is_owed slot birth bind c rooms w nester low its may).0;
  later = λ w nester v t may work. (is_owed slot birth bind c rooms w nester low its may).1 v t work;
  stays = λ w nester v t may work. stays_at slot birth bind c rooms w nester low its may v t (came slot birth bind c rooms w nester low its may v t work);
  ends = λ w nester v t end may work. clean_at slot birth bind c rooms w nester low its may v t end
      (came slot birth bind c rooms w nester low its may v t work);
}
