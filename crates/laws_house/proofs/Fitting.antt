-- What a job of a run asks for is fit where it asks for it, and picks nobody.
use Rattle.std.proofs.Common.{◌≡◌, ℕ, ◌+◌, ◌≤◌, true, false, List, [], ◌∷◌, length, Option, Some, None, refl, sym, ap, subst, ◌∙◌, arith}
use Rattle.fk_model.specs.declared.limits.TheConstants.{OWN_SPACE, LAST_PORTER_SLOT}
use Rattle.fk_model.specs.declared.moves.Ask.TheVariants as asks
use Rattle.fk_model.specs.declared.moves.Move.{Move}
use Rattle.fk_model.specs.declared.names.Who.{Who}
use Rattle.fk_model.specs.declared.stage.Stage.{Stage}
use Rattle.fk_model.specs.declared.stage.Stage.TheVariants.{SpaceHold, SpaceMakeHeld}
use Rattle.fk_model.specs.Places.{Path}
use Rattle.fk_model.specs.Moves.{chooses}
use Rattle.fk_model.specs.Searches.{depth}
use Rattle.fk_model.specs.Valid.{is_fit}
use Rattle.fk_model.specs.Who.{space_born, named}
use Rattle.laws_moves.specs.Savable.Savable.{IsSound}
use Rattle.laws_jobs.specs.Machines.Head.{Asks}
use Rattle.laws_checkpoint.specs.Checkpoint as checkpoints
use Rattle.laws_checkpoint.specs.Checkpoint.{checkpoint}
use Rattle.laws_restore.specs.Restore.Restore.State.{Makes}
use Rattle.laws_restore.specs.Rooms.Restoring.{restore_of}
use Rattle.laws_runs.specs.Cores.{Servers, House, Work, Core, work_of, asker, IsRun, world_at}
use Rattle.laws_runs.specs.Cores.Asker.{Job as Asked_by_job}
use Rattle.laws_runs.specs.Composed.{AskAsUsers, IsStart}
use Rattle.laws_runs.proofs.Asking.{JobAsks, job_of, goes_on_work, begins_work}
use Rattle.laws_runs.proofs.Composing.{stands}
use Rattle.laws_runs.proofs.Named.{named_is}
use Rattle.laws_house.specs.Houses.{Job, State, End, machine, house}
use Rattle.laws_house.specs.Houses.State.{Checking, Restoring}
use Rattle.laws_house.specs.Houses.End.{Checked, Restored}
use Rattle.laws_house.specs.Laws.{NameUsersSlots}
use Rattle.laws_house.specs.Moves.{JobsAskFitly}
use Rattle.laws_house.proofs.Parts.{asks_part}
use Rattle.laws_house.proofs.House.{checkpoint_part, restore_part, jobs_meet_contract}
use Rattle.laws_house.proofs.Moving.{Starts, starts}
use Rattle.laws_house.proofs.Moving.Starts.{AsCheckpoint, AsRestore}

module _ {V : Type 0} (jobs : List Job) (servers : Servers V) (first c : Core State End V) (past : List Move)
    (run : IsRun (house jobs servers) first past c) (users : AskAsUsers (house jobs servers)) (slots : NameUsersSlots jobs) (start : IsStart first)
    (few : first.world.next + length past ≤ depth) (who : Who) (begun : ℕ) (t : State) (stage : Stage) (words : List ℕ)
    (theirs : asker (house jobs servers) c who ≡ Asked_by_job begun t stage words) where
  abbrev h : House Job State End V
  h = house jobs servers

  abbrev Fits : Stage → Type 0
  Fits s = (is_fit c.world (named c.world who) (asks.Call s words) ≡ true) × (chooses s ≡ false)

  it : JobAsks h c who begun t stage words
  it = job_of h c who begun t stage words theirs

  -- a job begins by a call that is fit everywhere
  first_call : h.begins it.job c.ends ≡ Some t → Fits stage
  unfolding is_fit
  first_call begins = by (starts it.job c.ends t (slots (length c.ends) it.job it.its) begins)
    where
      by : Starts it.job t → Fits stage
      by (AsCheckpoint slot user is) =
          let asked = asks_part (checkpoint slot) machine (Checking slot) Checked [] (checkpoint_part slot) t checkpoints.Holds stage words is it.asked in
          let one : SpaceHold OWN_SPACE slot ≡ stage = cc in
          subst Fits one (refl, refl)
      by (AsRestore slot pairs image user roomed is) =
          let asked = asks_part (restore_of slot image pairs) machine (Restoring slot pairs image) Restored [] (restore_part slot pairs image) t Makes stage
          words is it.asked in
          let one : SpaceMakeHeld slot ≡ stage = cc in
          subst Fits one (refl, refl)

  -- one that is at work asks for what it owes, and its porter is there
  later_call : (k : Work State) → c.work ≡ Some k → k.state ≡ t → Fits stage
  later_call k works is =
      let tidy = jobs_meet_contract jobs servers slots in
      let all = stands h first users tidy start run few in
      let w = all.working k works in
      let sound : IsSound c.world = subst IsSound all.last (all.sound (length past) (omega arith)) in
      let law = tidy (length c.ends) w.worked.job c.ends w.worked.start w.worked.its w.worked.starts in
      let asked = subst (λ x. machine.head x ≡ Asks stage words) (sym is) it.asked in
      let porter = law.stays (world_at run k.begun) w.worked.nester c.world k.state w.worked.may w.now.work stage words asked in
      let owed = law.later (world_at run k.begun) w.worked.nester c.world k.state w.worked.may w.now.work stage words asked in
      let same_job : it.job ≡ w.worked.job = (let one = it.its in let two = w.worked.its in cc) in
      let there = named_is c.world sound.whole.valid sound.whole.few w.worked.job.nester w.worked.nester porter.named in
      let space : space_born c.world who.space ≡ w.worked.nester = ap (space_born c.world) (it.space ∙ ap (λ (j : Job). j.nester) same_job) ∙ there in
      let at : named c.world who ≡ LAST_PORTER_SLOT ∷ w.worked.nester = λ i. it.slot i ∷ space i in
      (subst (λ (x : Path). is_fit c.world x (asks.Call stage words) ≡ true) (sym at) owed.proper.fit, owed.unpicking)

  fits : Fits stage
  fits = by c.work refl
    where
      its : Option (Work State)
      its = Some (record { begun = begun; state = t })

      by : (o : Option (Work State)) → c.work ≡ o → Fits stage
      by (Some k) works =
          let both = goes_on_work c.events (h.begins it.job c.ends) k begun t
          (subst (λ o. work_of c.events o (h.begins it.job c.ends) ≡ its) works it.work) in
          later_call k works both.1
      by None idle =
          let both = begins_work c.events (h.begins it.job c.ends) begun t
          (subst (λ o. work_of c.events o (h.begins it.job c.ends) ≡ its) idle it.work) in
          first_call both.1

pub jobs_ask_fitly : {V : Type 0} → JobsAskFitly V
jobs_ask_fitly jobs servers first c past run users slots start few who begun t stage words theirs =
    fits jobs servers first c past run users slots start few who begun t stage words theirs
