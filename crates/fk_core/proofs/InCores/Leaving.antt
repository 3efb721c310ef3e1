-- Leaving: what a job's move leaves, by the law of its machine.
use Rattle.std.proofs.Common.{◌≡◌, ℕ, ◌+◌, ◌<◌, ◌≤◌, ◌⊎◌, inl, inr, List, [], ◌∷◌, ◌++◌, length, Some, option_map, refl, sym, ap, ◌∙◌, subst, arith}
use Rattle.std.proofs.lemmas.List.{length-append}
use Rattle.fk_image.specs.declared.image.image.Image.{Image}
use Rattle.fk_image.specs.Image.Picture.{picture}
use Rattle.fk_model.specs.declared.limits.TheConstants.{OWN_SPACE, LAST_USER_SLOT, LAST_PORTER_SLOT}
use Rattle.fk_model.specs.declared.moves.Ask.TheVariants as asks_for
use Rattle.fk_model.specs.declared.moves.Move.{Move}
use Rattle.fk_model.specs.declared.stage.Stage.{Stage}
use Rattle.fk_model.specs.declared.stage.Stage.TheVariants.{SpaceHold, SpaceMakeHeld}
use Rattle.fk_model.specs.Places.{Path}
use Rattle.fk_model.specs.Runs.{Event, after}
use Rattle.fk_model.specs.Searches.{depth}
use Rattle.fk_model.specs.Valid.{birth_at}
use Rattle.fk_model.specs.Who.{event_of, space_born, named}
use Rattle.laws_checkpoint.specs.Checkpoint as checkpoints
use Rattle.laws_checkpoint.specs.Checkpoint.{checkpoint}
use Rattle.laws_checkpoint.specs.Checkpoint.State.{Holds}
use Rattle.laws_checkpoint.specs.Laws.{IsSameBeside}
use Rattle.laws_checkpoint.proofs.Calling.{checkpoint_leaves_rest}
use Rattle.laws_house.specs.Houses.{Job, State, machine}
use Rattle.laws_house.specs.Houses.End.{Checked, Restored}
use Rattle.laws_house.specs.Houses.State.{Checking, Restoring}
use Rattle.laws_house.specs.Laws.{NameUsersSlots}
use Rattle.laws_house.proofs.House.{checkpoint_part, restore_part, jobs_meet_contract}
use Rattle.laws_house.proofs.Moving.{Starts, starts}
use Rattle.laws_house.proofs.Moving.Starts.{AsCheckpoint, AsRestore}
use Rattle.laws_house.proofs.Parts.{asks_part, works}
use Rattle.laws_jobs.specs.Holds.{hold}
use Rattle.laws_jobs.specs.Jobs.{MayBegin}
use Rattle.laws_jobs.specs.Machines.{no_words, call_of, IsReadyAt, AtWork}
use Rattle.laws_jobs.specs.Machines.Head.{Asks}
use Rattle.laws_jobs.proofs.Weaving.{first_sound}
use Rattle.laws_restore.specs.Restore.Rest.{IsSameFar}
use Rattle.laws_restore.specs.Restore.Restore as restores
use Rattle.laws_restore.specs.Restore.Restore.State.{Makes}
use Rattle.laws_restore.specs.Restore.Roomed.{IsRoomed}
use Rattle.laws_restore.proofs.InRestore.Resting.{leaves_far}
use Rattle.laws_restore.specs.Rooms.Rooms.{rooms_of}
use Rattle.laws_restore.specs.Rooms.Restoring.{bound_by, restore_of}
use Rattle.laws_runs.specs.Composed.{JobsMeetContract, IsStart}
use Rattle.laws_runs.specs.Cores.{IsRun, IsReadyBy, asker, world_at}
use Rattle.laws_runs.specs.Cores.Asker.{Job as OfJob}
use Rattle.laws_runs.specs.Cores.IsRun.{Goes}
use Rattle.laws_runs.specs.Onwards.{event_by}
use Rattle.laws_runs.specs.Turning.{IsJobsMove}
use Rattle.laws_runs.proofs.Composing.{Stands, stands, Made_here, made_here}
use Rattle.laws_runs.proofs.Named.{named_there, caller_there}
use Rattle.laws_runs.proofs.Turning.{jobs_moves}
use Rattle.laws_moves.specs.Savable.Savable.{IsSound}
use Rattle.fk_core.specs.Rounds.Served.{servers}
use Rattle.fk_core.proofs.InRounds.Acts.{servers_ask_as_users}
use Rattle.fk_core.specs.Cores.Cores.{RunCore, house, IsReadyMove, IsTurned}
use Rattle.fk_core.specs.Cores.Goings.{HasCome}
use Rattle.fk_core.proofs.InCores.Starts.{gives}
use Rattle.fk_core.specs.Cores.Leaves.{LeavesBeside, LeavesTheRest}
use Rattle.fk_core.proofs.InCores.Going.{counted}

same_check : (slot other : ℕ) (s t : checkpoints.State) → Checking slot s ≡ Checking other t → (slot ≡ other) × (s ≡ t)
same_check slot other s t e = (cc, cc)

same_restore : (slot other : ℕ) (pairs given : List (ℕ × ℕ)) (image seen : Image) (s t : restores.State)
    → Restoring slot pairs image s ≡ Restoring other given seen t → (slot ≡ other) × (pairs ≡ given) × (image ≡ seen) × (s ≡ t)
same_restore slot other pairs given image seen s t e = (cc, cc, cc, cc)

one : (x y : Event) → x ∷ [] ≡ y ∷ [] → x ≡ y
one x y same = cc

behind : (slot k : ℕ) (x y : Path) → slot ∷ x ≡ k ∷ y → x ≡ y
behind slot k x y same = cc

module _ (jobs : List Job) (c : RunCore) (m : Move) (d : RunCore) (ready : IsReadyMove jobs c m) (turned : IsTurned jobs c m d) (first : RunCore)
    (past : List Move) (run : IsRun (house jobs) first past c) (slots : NameUsersSlots jobs) (begins : IsStart first)
    (enough : first.world.next + length (past ++ m ∷ []) ≤ depth) where
  longer : length (past ++ m ∷ []) ≡ length past + 1
  longer = length-append past (m ∷ [])

  few : first.world.next + (length past + 1) ≤ depth
  few = let long = longer in let all = enough in omega (arith, long, all)

  fewer : first.world.next + length past ≤ depth
  fewer = let all = few in omega (arith, all)

  tidy : JobsMeetContract (house jobs)
  tidy = jobs_meet_contract jobs servers slots

  -- ---- before the move and after it

  stand : Stands (house jobs) first servers_ask_as_users tidy begins run
  stand = stands (house jobs) first servers_ask_as_users tidy begins run fewer

  sound : IsSound c.world
  sound = subst IsSound stand.last (stand.sound (length past) (omega arith))

  abbrev all : IsRun (house jobs) first (past ++ m ∷ []) d
  all = Goes past c m d run ready turned

  then_stand : Stands (house jobs) first servers_ask_as_users tidy begins all
  then_stand = stands (house jobs) first servers_ask_as_users tidy begins all enough

  then_sound : IsSound d.world
  then_sound = subst IsSound then_stand.last (then_stand.sound (length (past ++ m ∷ [])) (omega arith))

  made : Made_here (house jobs) first servers_ask_as_users tidy begins past c m d run ready turned stand few
  made = made_here (house jobs) first servers_ask_as_users tidy begins past c m d run ready turned stand few

  -- ---- a job's move

  module _ (begun : ℕ) (state : State) (stage : Stage) (words : List ℕ) (asks : asker (house jobs) c m.who ≡ OfJob begun state stage words) where
    its : IsJobsMove run m begun state stage words
    its = jobs_moves (house jobs) first c past run servers_ask_as_users tidy begins fewer m begun state stage words asks ready

    asked_ready : IsReadyAt c.world (event_of c.world (asks_for.Call stage words) m)
    asked_ready = (subst (IsReadyBy (house jobs) c m) asks ready).1

    calls : IsReadyAt c.world (call_of its.nester stage words)
    calls = subst (IsReadyAt c.world) its.event asked_ready

    goes : d.world ≡ after c.world (call_of its.nester stage words)
    goes = made.goes ∙ ap (after c.world) (one made.event (event_of c.world (asks_for.Call stage words) m)
        (sym made.is ∙ ap (event_by c.world m) asks) ∙ its.event)

    -- its nester is there, by the name of who moves
    is_named : birth_at c.world its.nester ≡ Some m.who.space
    is_named =
        let there = caller_there c.world (named c.world m.who) (option_map (named c.world) m.pick) stage words asked_ready in
        let same = behind m.who.slot LAST_PORTER_SLOT (space_born c.world m.who.space) its.nester (ap (λ (e : Event). e.mover) its.event) in
        subst (λ (x : Path). birth_at c.world x ≡ Some m.who.space) same
        (named_there c.world sound.whole.valid sound.whole.few m.who.space m.who.slot there)

    begins_so : Starts its.job its.start
    begins_so = starts its.job c.ends its.start (slots (length c.ends) its.job its.its) its.starts

    begins_now : begun ≡ length past → MayBegin c.world its.nester its.job.nester
    begins_now here = subst (λ w. MayBegin w its.nester its.job.nester) (ap (λ k. world_at run k) here ∙ stand.last) its.may

  -- ---- a checkpoint's

  module _ (begun slot : ℕ) (s : checkpoints.State) (stage : Stage) (words : List ℕ)
      (asks : asker (house jobs) c m.who ≡ OfJob begun (Checking slot s) stage words) where
    abbrev it : IsJobsMove run m begun (Checking slot s) stage words
    it = its begun (Checking slot s) stage words asks

    abbrev Left : Type 0
    Left = IsSameBeside it.nester slot c.world d.world

    asks_under : (s : checkpoints.State) → machine.head (Checking slot s) ≡ Asks stage words → checkpoints.head slot s ≡ Asks stage words
    asks_under s asked = asks_part (checkpoint slot) machine (Checking slot) Checked [] (checkpoint_part slot) (Checking slot s) s stage words refl asked

    first_move : slot ≤ LAST_USER_SLOT → begun ≡ length past → s ≡ Holds → Left
    first_move user here is =
        let asked = asks_under Holds (subst (λ (x : checkpoints.State). machine.head (Checking slot x) ≡ Asks stage words) is it.asked) in
        let stage_is : SpaceHold OWN_SPACE slot ≡ stage = cc in
        let words_are : no_words ≡ words = cc in
        let event : call_of it.nester stage words ≡ hold it.nester slot = λ i. call_of it.nester (sym stage_is i) (sym words_are i) in
        let on : d.world ≡ after c.world (hold it.nester slot) = goes begun (Checking slot s) stage words asks ∙ ap (after c.world) event in
        subst (IsSameBeside it.nester slot c.world) (sym on)
        ((checkpoint_leaves_rest slot it.job.nester c.world it.nester user (begins_now begun (Checking slot s) stage words asks here)
        (subst IsSound on then_sound)).first (subst (IsReadyAt c.world) event (calls begun (Checking slot s) stage words asks)))

    later_move : slot ≤ LAST_USER_SLOT → AtWork (checkpoint slot) it.nester (world_at run begun) Holds c.world s → Left
    later_move user work =
        let held = work.asked in
        let stage_is : SpaceHold OWN_SPACE slot ≡ work.stage = cc in
        let words_are : no_words ≡ work.words = cc in
        let event : call_of it.nester work.stage work.words ≡ hold it.nester slot = λ i. call_of it.nester (sym stage_is i) (sym words_are i) in
        let held_sound = subst (λ e. IsSound (after (world_at run begun) e)) event
        (first_sound (checkpoint slot) it.nester _ _ work.events c.world s work.run) in
        subst (IsSameBeside it.nester slot c.world) (sym (goes begun (Checking slot s) stage words asks))
        ((checkpoint_leaves_rest slot it.job.nester (world_at run begun) it.nester user it.may held_sound).later
        c.world s stage words work (asks_under s it.asked) sound (calls begun (Checking slot s) stage words asks))

    checks : Starts it.job it.start → Left
    checks (AsCheckpoint other user start) = by it.at
      where
        by : ((begun ≡ length past) × (Checking slot s ≡ it.start)) ⊎ AtWork machine it.nester (world_at run begun) it.start c.world (Checking slot s) → Left
        by (inl now) =
            let same = same_check slot other s Holds (now.1 ∙ start) in
            first_move (subst (λ i. i ≤ LAST_USER_SLOT) (sym same.0) user) now.0 same.1
        by (inr work) =
            let there = subst (λ x. AtWork machine it.nester (world_at run begun) x c.world (Checking slot s)) start work in
            let part = works (checkpoint other) machine (Checking other) Checked it.nester (checkpoint_part other) (world_at run begun) Holds c.world
            (Checking slot s) there in
            let same = same_check slot other s part.state part.is in
            later_move (subst (λ i. i ≤ LAST_USER_SLOT) (sym same.0) user)
            (subst (λ i. AtWork (checkpoint i) it.nester (world_at run begun) Holds c.world s) (sym same.0)
            (subst (λ x. AtWork (checkpoint other) it.nester (world_at run begun) Holds c.world x) (sym same.1) part.part))
    checks (AsRestore other given seen user roomed start) = by it.at
      where
        by : ((begun ≡ length past) × (Checking slot s ≡ it.start)) ⊎ AtWork machine it.nester (world_at run begun) it.start c.world (Checking slot s) → Left
        by (inl now) = let apart = now.1 ∙ start in cc
        by (inr work) =
            let there = subst (λ x. AtWork machine it.nester (world_at run begun) x c.world (Checking slot s)) start work in
            let part = works (restore_of other seen given) machine (Restoring other given seen) Restored it.nester (restore_part other given seen)
            (world_at run begun) Makes c.world (Checking slot s) there in
            let apart = part.is in
            cc

  -- ---- a restore's

  module _ (begun slot : ℕ) (pairs : List (ℕ × ℕ)) (image : Image) (s : restores.State) (stage : Stage) (words : List ℕ)
      (asks : asker (house jobs) c m.who ≡ OfJob begun (Restoring slot pairs image s) stage words) where
    abbrev own : IsJobsMove run m begun (Restoring slot pairs image s) stage words
    own = its begun (Restoring slot pairs image s) stage words asks

    abbrev Far : Type 0
    Far = IsSameFar own.nester slot c.world d.world

    asks_below : (s : restores.State) → machine.head (Restoring slot pairs image s) ≡ Asks stage words → restores.head slot s ≡ Asks stage words
    asks_below s asked = asks_part (restore_of slot image pairs) machine (Restoring slot pairs image) Restored [] (restore_part slot pairs image)
        (Restoring slot pairs image s) s stage words refl asked

    makes_first : slot ≤ LAST_USER_SLOT → IsRoomed (bound_by pairs) (picture image) (rooms_of image) → begun ≡ length past → s ≡ Makes → Far
    makes_first user roomed here is =
        let asked = asks_below Makes (subst (λ (x : restores.State). machine.head (Restoring slot pairs image x) ≡ Asks stage words) is own.asked) in
        let stage_is : SpaceMakeHeld slot ≡ stage = cc in
        let words_are : no_words ≡ words = cc in
        let event : call_of own.nester stage words ≡ call_of own.nester (SpaceMakeHeld slot) no_words =
        λ i. call_of own.nester (sym stage_is i) (sym words_are i) in
        let on : d.world ≡ after c.world (call_of own.nester (SpaceMakeHeld slot) no_words) =
        goes begun (Restoring slot pairs image s) stage words asks ∙ ap (after c.world) event in
        subst (IsSameFar own.nester slot c.world) (sym on)
        ((leaves_far slot own.job.nester (bound_by pairs) (picture image) (rooms_of image) c.world own.nester user roomed
        (begins_now begun (Restoring slot pairs image s) stage words asks here)).first
        (subst (IsReadyAt c.world) event (calls begun (Restoring slot pairs image s) stage words asks)))

    makes_later : slot ≤ LAST_USER_SLOT → IsRoomed (bound_by pairs) (picture image) (rooms_of image)
        → AtWork (restore_of slot image pairs) own.nester (world_at run begun) Makes c.world s → Far
    makes_later user roomed work =
        subst (IsSameFar own.nester slot c.world) (sym (goes begun (Restoring slot pairs image s) stage words asks))
        ((leaves_far slot own.job.nester (bound_by pairs) (picture image) (rooms_of image) (world_at run begun) own.nester user roomed own.may).later
        c.world s stage words work (asks_below s own.asked) (calls begun (Restoring slot pairs image s) stage words asks))

    room_of : (other : ℕ) (given : List (ℕ × ℕ)) (seen : Image) → pairs ≡ given → image ≡ seen → IsRoomed (bound_by given) (picture seen) (rooms_of seen)
        → IsRoomed (bound_by pairs) (picture image) (rooms_of image)
    room_of other given seen p i roomed = subst (λ (x : Image). IsRoomed (bound_by pairs) (picture x) (rooms_of x)) (sym i)
        (subst (λ (ps : List (ℕ × ℕ)). IsRoomed (bound_by ps) (picture seen) (rooms_of seen)) (sym p) roomed)

    restores_it : Starts own.job own.start → Far
    restores_it (AsCheckpoint other user start) = by own.at
      where
        by : ((begun ≡ length past) × (Restoring slot pairs image s ≡ own.start))
            ⊎ AtWork machine own.nester (world_at run begun) own.start c.world (Restoring slot pairs image s) → Far
        by (inl now) = let apart = now.1 ∙ start in cc
        by (inr work) =
            let there = subst (λ x. AtWork machine own.nester (world_at run begun) x c.world (Restoring slot pairs image s)) start work in
            let part = works (checkpoint other) machine (Checking other) Checked own.nester (checkpoint_part other) (world_at run begun) Holds c.world
            (Restoring slot pairs image s) there in
            let apart = part.is in
            cc
    restores_it (AsRestore other given seen user roomed start) = by own.at
      where
        by : ((begun ≡ length past) × (Restoring slot pairs image s ≡ own.start))
            ⊎ AtWork machine own.nester (world_at run begun) own.start c.world (Restoring slot pairs image s) → Far
        by (inl now) =
            let same = same_restore slot other pairs given image seen s Makes (now.1 ∙ start) in
            makes_first (subst (λ i. i ≤ LAST_USER_SLOT) (sym same.0) user) (room_of other given seen same.1 same.2 roomed) now.0 same.3
        by (inr work) =
            let there = subst (λ x. AtWork machine own.nester (world_at run begun) x c.world (Restoring slot pairs image s)) start work in
            let part = works (restore_of other seen given) machine (Restoring other given seen) Restored own.nester (restore_part other given seen)
            (world_at run begun) Makes c.world (Restoring slot pairs image s) there in
            let same = same_restore slot other pairs given image seen s part.state part.is in
            makes_later (subst (λ i. i ≤ LAST_USER_SLOT) (sym same.0) user) (room_of other given seen same.1 same.2 roomed)
            (subst (λ i. AtWork (restore_of i image pairs) own.nester (world_at run begun) Makes c.world s) (sym same.0)
            (subst (λ (ps : List (ℕ × ℕ)). AtWork (restore_of other image ps) own.nester (world_at run begun) Makes c.world s) (sym same.1)
            (subst (λ (i : Image). AtWork (restore_of other i given) own.nester (world_at run begun) Makes c.world s) (sym same.2)
            (subst (λ x. AtWork (restore_of other seen given) own.nester (world_at run begun) Makes c.world x) (sym same.3) part.part))))

  leaves : (begun : ℕ) (state : State) (stage : Stage) (words : List ℕ) → asker (house jobs) c m.who ≡ OfJob begun state stage words
      → LeavesBeside state c m d
  leaves begun (Checking slot s) stage words asks = record {
    nester = (its begun (Checking slot s) stage words asks).nester;
    named = is_named begun (Checking slot s) stage words asks;
    leaves = checks begun slot s stage words asks (begins_so begun (Checking slot s) stage words asks);
  }
  leaves begun (Restoring slot pairs image s) stage words asks = record {
    nester = (its begun (Restoring slot pairs image s) stage words asks).nester;
    named = is_named begun (Restoring slot pairs image s) stage words asks;
    leaves = restores_it begun slot pairs image s stage words asks (begins_so begun (Restoring slot pairs image s) stage words asks);
  }

pub leaves_the_rest : (jobs : List Job) (budget : ℕ) (c : RunCore) (m : Move) (d : RunCore) → HasCome jobs budget c → c.events < budget →
    IsReadyMove jobs c m → IsTurned jobs c m d → LeavesTheRest jobs c m d
leaves_the_rest jobs budget c m d come below ready turned begun state stage words asks =
    let its = gives jobs budget come.first come.begins in
    let long = counted jobs come.first c come.past come.run its.start.events in
    let longer = length-append come.past (m ∷ []) in
    let few = its.few in
    leaves jobs c m d ready turned come.first come.past come.run its.slots its.start (omega (arith, long, longer, few, below)) begun state stage words asks
