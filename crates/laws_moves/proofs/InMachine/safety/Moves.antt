-- What a fit move lists is safe: by the lists of `rows`.
use Rattle.std.proofs.Common.{◌≡◌, ℕ, ◌<◌, Bool, true, false, if◌then◌else◌, not, ◌&&◌, ◌||◌, ◌==◌, List, [], ◌∷◌, Option, Some, None, Ok, refl}
use Rattle.std.proofs.Common.{ap, arith}
use Rattle.std.proofs.lemmas.Bool.{and_parts, leb-true, ltb-true, not-false}
use Rattle.fk_model.specs.declared.limits.TheConstants.{PAGES, LAST_USER_SLOT}
use Rattle.fk_model.specs.declared.moves.Ask.{Ask}
use Rattle.fk_model.specs.declared.names.Kind.TheVariants as kinds
use Rattle.fk_model.specs.declared.stage.Stage.{Stage}
use Rattle.fk_model.specs.declared.stage.Stage.TheVariants.{LinkSet, LinkPark, FaultSet, FaultPark}
use Rattle.fk_model.specs.Places.{Path, parent, Ptr, leads_to}
use Rattle.fk_model.specs.Places.Ptr.{At}
use Rattle.fk_model.specs.Objects.{Talk, Thread, Body, thread_of, reference_of, and_then}
use Rattle.fk_model.specs.Objects.Body.{Thread_of}
use Rattle.fk_model.specs.Objects.Peer.{Service}
use Rattle.fk_model.specs.World.{World, Change, Edit, apply}
use Rattle.fk_model.specs.World.Change.{Alter}
use Rattle.fk_model.specs.World.Edit.{SetTalk}
use Rattle.fk_model.specs.Searches.{thread_at, talk_at, fault_at, leaf}
use Rattle.fk_model.specs.Reach.{reach_word}
use Rattle.fk_model.specs.Reach.Reach.{Home, Missing}
use Rattle.fk_model.specs.Outcomes.{Outcome, Caller, path_of}
use Rattle.fk_model.specs.Readers.{object_in}
use Rattle.fk_model.specs.Records.{takes_state}
use Rattle.fk_model.specs.LinkRows.{user_at, is_parked, candidate}
use Rattle.fk_model.specs.NativeRows.{is_serving_port, parked_here}
use Rattle.fk_model.specs.SpaceRows.{is_page}
use Rattle.fk_model.specs.StateRows.{field_of, field_pointer, held_kinds}
use Rattle.fk_model.specs.Moves.{is_for_porters, porter_at, outcome}
use Rattle.fk_model.specs.Valid.{IsConsistent, is_fit_stage, is_fit, are_talk_words, are_fault_words, HasPlace, IsRooted, leads_there, kind_there}
use Rattle.fk_model.proofs.walks.PlaceLaws.{leads_to_at}
use Rattle.laws_moves.specs.Rows.Stages.{Sets, Work, Step}
use Rattle.laws_moves.specs.Rows.Stages.Sets.{Points, Clears, Gets_pointer, Sets_pointer, Holds, Releases, Restores_hold, Takes_fault, Resumes, Frees}
use Rattle.laws_moves.specs.Rows.Stages.Sets.{Restores_talk, Parks_talk, Restores_fault, Parks_fault}
use Rattle.laws_moves.specs.Rows.Stages.Work.{Looks, Edits, Makes, Makes_held, Kills, Renames, Writes_record, Sets_record, Gives, Copies, Drops, Sleeps}
use Rattle.laws_moves.specs.Rows.Stages.Work.{Wakes_all}
use Rattle.laws_moves.specs.Rows.Stages.Work.{Takes_client, Hangs_up, Sends, Sends_service, Passes, Hands_over, Hands_over}
use Rattle.laws_moves.specs.Rows.Stages.Step.{Is_refused, Is_waiting, Raises, Answers, Stays, Finishes, Ends}
use Rattle.laws_moves.specs.Rows.Moves.{Instructs, Serves, Lists}
use Rattle.laws_moves.specs.Rows.Moves.Instructs.{Goes_on, Stores, Faults}
use Rattle.laws_moves.specs.Rows.Moves.Serves.{Waits_for_client, Accepts, Takes_up, Gives_nothing, Finds_no_room, Gives_words, Passes_client}
use Rattle.laws_moves.specs.Rows.Moves.Lists.{Moves_not, Runs, Calls, Is_told_no, Asks, Is_answered_no, Acts}
use Rattle.laws_moves.proofs.InRows.Handles.{reference-in}
use Rattle.laws_moves.proofs.InRows.Walk.{new_all, drops-all, ends-all, ends-then, sleepers-all}
use Rattle.laws_moves.proofs.InRows.Moves.{moves-listed}
use Rattle.laws_moves.proofs.InMachine.safety.Safe.{IsSafeEdit, IsSafePeer, AreSafe}
use Rattle.laws_moves.proofs.InMachine.safety.Outcomes.{SafeIn, SafeOutcome, safe-then}
use Rattle.laws_moves.proofs.InMachine.safety.Reads.{Facts, IsCaller, kind-there, body-thread_of, object_in-found, place-space, referred-leads, object-there}
use Rattle.laws_moves.proofs.InMachine.safety.Memory.{good-at, reach_word-good}
use Rattle.laws_moves.proofs.InMachine.safety.Objects.{nothing-there, vacant, takes-at, reference-leads, reference-there, pointer_to-leads, takes-null}
use Rattle.laws_moves.proofs.InMachine.safety.Objects.{caller-leads}
use Rattle.laws_moves.proofs.InMachine.safety.State.{edits-safe, AllFit, fields-fit, among-leads, takes-held}
use Rattle.laws_moves.proofs.InMachine.safety.Talks.{GoodCandidate, candidate-good, caller-serves, port-lies}
use Rattle.laws_moves.proofs.InMachine.safety.Given.{named-serves, port-there, taker-serves, open-taker, served-port, service-safe}

-- a page that isn't refused has a number below 256
good_page : (page : ℕ) (bad : Bool) → (not (is_page page) || bad) ≡ false → page < PAGES
good_page page bad h = ltb-true page PAGES (by (is_page page) h)
  where
    by : (b : Bool) → (not b || bad) ≡ false → b ≡ true
    by true h = refl
    by false h = cc

-- a list that is safe in every world
AlwaysSafe : List Change → Type 0
AlwaysSafe cs = (v : World) → AreSafe v cs

module _ (w : World) (facts : Facts w) where
  -- a page that is reached has its place, and a keeper that is told is a port
  home : (s : Path) (address : ℕ) (write : Bool) (t : Path) (page : ℕ) → reach_word w s address write ≡ Home t page → HasPlace w t page
  home s address write t page e = let good = reach_word-good w facts s address write in rw e at good

  keeps : (s : Path) (address : ℕ) (write : Bool) (t : Path) (page : ℕ) (port : Ptr) → reach_word w s address write ≡ Missing t page (Some port) →
      leads_there (kind_there w) (kinds.Port ∷ []) port ≡ true
  keeps s address write t page port e = let good = reach_word-good w facts s address write in rw e at good

  -- ---- stages

  module _ (c : Caller) (pick : Option Path) (caller : IsCaller w c) where
    reference : (s : Path) (k : ℕ) (to : Ptr) → object_in w c reference_of s k ≡ Ok to → w.body (k ∷ s) ≡ Some (Body.Reference to)
    reference s k to read = reference-there w (k ∷ s) to (object_in-found w c reference_of s k to read)

    -- whom a wait picks
    picks : (set : ℕ) (x : Path) → GoodCandidate w c.space x (candidate w c.space set x)
    picks set x = candidate-good w facts.rooted c.space set x

    sets : {stage : Stage} {x : Path} {edit : Edit} {answers : List ℕ} → is_fit_stage w c stage ≡ true → Sets w c pick stage x edit answers
        → IsSafeEdit w x edit
    sets fit (Points s x s2 x2 space space2 old to place place2 read read2 free) =
        let from = object_in-found w c _ space2 x2 to read2 in
        takes-at w (x ∷ space) to old (reference space x old read) (pointer_to-leads w (x2 ∷ space2) to from.body facts.valid from.there from.seen)
    sets fit (Clears s x space old place read free) = takes-null w (w.body (x ∷ space))
    sets fit (Gets_pointer s x field k space b old found place read read2 has inner) =
        let fits : AllFit (kind_there w) (field_of field b) =
        fields-fit (kind_there w) (x ∷ space) b field (good-at w facts.valid (x ∷ space) b (object-there w c x space b read)) in
        takes-at w (k ∷ c.space) (field_pointer found) old (reference c.space k old read2) (rw has at fits)
    sets fit (Sets_pointer s x field k space b to place read read2 free inner among) =
        let there = object-there w c x space b read in
        let may = among-leads w (held_kinds b) to (reference-leads w _ to facts.valid (reference c.space k to read2)) (not-false _ among) in
        rw there (takes-held w to b may)
    sets fit (Holds s x space was place read free apart alone) = caller-leads w c caller
    sets fit (Releases s x space was place read holds) = refl
    sets fit (Restores_hold s x thread space was holder place read read2 free) = referred-leads w c kinds.Thread thread holder read2
    sets fit (Takes_fault set slot x fault idle at) = λ found there.
        let good = picks set x in
        let both : (fault_at w x ≡ Some fault) × _ = rw at at good in
        let same : found ≡ fault = (let e = both.0 in cc) in
        rw same (caller-serves w c facts caller idle fault.port (port-lies w c.space slot c.slot fault.port both.1))
    sets fit (Resumes set slot x talk idle at) = λ found there.
        let good = picks set x in
        let both : (talk_at w x ≡ Some talk) × _ = rw at at good in
        let same : found ≡ talk = (let e = both.0 in cc) in
        rw same (caller-serves w c facts caller idle talk.port (port-lies w c.space slot c.slot talk.port both.1))
    sets fit (Frees x at unheld) = tt
    sets fit (Restores_talk s x port server space t at thread place read read2 read3 free) =
        let idle = (and_parts (are_talk_words c.words) _ fit).1 in record {
          port = referred-leads w c kinds.Port port at read2;
          peer = named-serves w c server at thread facts read3 (rw (read2, read3) at idle);
        }
    sets fit (Parks_talk s x port space t was place read read2 free) = record { port = port-there w c port was read2; peer = tt }
    sets fit (Restores_fault s x port taker space t at who place read read2 named free) =
        let idle = (and_parts (are_fault_words c.words) _ fit).1 in record {
          port = referred-leads w c kinds.Port port at read2;
          taker = taker-serves w c taker at who facts named (rw (read2, named) at idle);
        }
    sets fit (Parks_fault s x port taken space t was place read read2 free) =
        record { port = port-there w c port was read2; taker = open-taker w _ (taken == 1) }
    sets fit other = tt

    work : {stage : Stage} {cs : List Change} {answers : List ℕ} → is_fit_stage w c stage ≡ true → Work w c pick stage cs answers → AreSafe w cs
    unfolding takes_state AlwaysSafe
    work fit (Looks stage answers reads) = tt
    work fit (Edits stage x edit answers edits) = (sets fit edits, tt)
    work fit (Makes s x j kind space made place slot free new empty) =
        let place = vacant w c x j space (place-space w c s space caller place) slot empty in
        new_all (λ made. AreSafe w (made ∷ [])) (x ∷ space) kind made new
        (record { place = place; plain = refl; good = refl }, tt) (record { place = place; plain = refl; good = refl }, tt)
        (record { place = place; plain = refl; good = refl }, tt) (record { place = place; plain = refl; good = refl }, tt)
        (record { place = place; plain = refl; good = refl }, tt) (record { place = place; plain = refl; good = refl }, tt)
        (record { place = place; held = refl }, tt)
        (record { place = place; plain = refl; good = refl }, tt) (record { place = place; plain = refl; good = refl }, tt)
    work fit (Makes_held x j slot empty) = (record { place = vacant w c x j c.space caller.space slot empty; held = caller-leads w c caller }, tt)
    work fit (Kills s x space b place read free apart leaf) =
        (facts.walks.leaf_alone x space, ends-all AlwaysSafe (λ v. tt) (λ y cs rest v. (tt, rest (apply _ v))) _ _)
    work fit (Renames s x y space b place read free fits unserved empty residents) =
        let there = object-there w c x space b read in
        let low = leb-true y LAST_USER_SLOT (not-false _ fits) in
        (record { live = rw there refl; alone = (facts.walks.alone x space residents).empty; slot_fits = omega arith; empty = nothing-there _ empty }, tt)
    work fit (Writes_record s x address space t b page place read good user at) = (home c.space address true t page at, tt)
    work fit (Sets_record s x address space b words place read free off good from still takes) =
        edits-safe w x space b words (object-there w c x space b read) (and_parts _ _ (not-false _ takes)).1
    work fit (Gives s page address space words place free good empty from) =
        (record { space = place-space w c s space caller place; number = good_page page _ good }, tt)
    work fit (Copies stage s page address space t own drops words place there at) =
        (home c.space address true t own at, drops-all (AreSafe _) space page tt (tt, tt) drops)
    work fit (Wakes_all cond) = sleepers-all AlwaysSafe w c.space cond (λ v. tt) (λ x m cs asleep rest v. (tt, rest (apply _ v))) w
    work fit (Takes_client set slot x idle at) =
        let good = picks set x in
        let port : kind_there w (slot ∷ c.space) ≡ Some kinds.Port = rw at at good in
        (record { port = rw port refl; peer = caller-serves w c facts caller idle (At (slot ∷ c.space)) refl }, (tt, tt))
    work fit (Hangs_up stage side l at) =
        ends-then AlwaysSafe (Alter l.client (SetTalk None) ∷ []) (λ v. (tt, tt)) (λ y cs rest v. (tt, rest (apply _ v))) _ w
    work fit (Sends stage side l address count receive thread e s own t other here at led free is from to) =
        (home _ receive.0 true t other to, (tt, (tt, (tt, tt))))
    work fit (Sleeps cond m) = (tt, (tt, tt))
    work fit (Sends_service stage side l address count here at) = (tt, (tt, tt))
    work fit (Passes stage side l thread e to carried here at led free awaits) = (tt, (tt, tt))
    work fit (Hands_over stage side l thread e k slot p here at led free awaits there read may) =
        let waits = reference-in w (parent e.0) k there in
        (takes-at w (k ∷ parent e.0) p waits.old waits.there (reference-leads w _ p facts.valid (reference c.space slot p read)), (tt, (tt, tt)))
    work fit (Drops s page address space words place there porter) = (tt, tt)

    step : {stage : Stage} {o : Outcome} → is_fit_stage w c stage ≡ true → Step w c pick stage o → SafeIn w o
    step fit (Is_refused status) = tt
    step fit Is_waiting = tt
    step fit (Raises s page address write port missing) = (record { port = keeps c.space address write s page port missing; taker = tt }, tt)
    step fit (Answers cs answers porter its) = work fit its
    step fit (Stays cs said its) = work fit its
    step fit (Finishes cs answers me said user own its) = safe-then cs _ w (work fit its) (λ v. (tt, tt))
    step fit (Ends cs answers user its) = safe-then cs _ w (work fit its) (λ v. (tt, tt))

  -- ---- instructions and acts

  instructs : {space : Path} {slot : ℕ} {g : List ℕ} {counter : ℕ} {o : Outcome} → Instructs w space slot g counter o → SafeIn w o
  instructs (Goes_on mode after to) = (tt, tt)
  instructs {space} (Stores address value s page at) = (home space address true s page at, (tt, tt))
  instructs {space} (Faults s page address write port missing) = (record { port = keeps space address write s page port missing; taker = tt }, tt)

  parked-talk : (port x : Path) (t : Thread) (talk : Talk) → thread_at w x ≡ Some t → parked_here port t ≡ Some talk →
      (talk_at w x ≡ Some talk) × (talk.port ≡ At port)
  parked-talk port x t talk there at = by t.talk refl at
    where
      one : (other : Talk) → t.talk ≡ Some other → (b : Bool) → (leads_to port other.port && is_parked (Some other.peer)) ≡ b →
          (if b then Some other else None) ≡ Some talk → (talk_at w x ≡ Some talk) × (talk.port ≡ At port)
      one other e true test h = let same : other ≡ talk = cc in
          rw (← same) (rw there e, leads_to_at port other.port (and_parts _ _ test).0)
      one other e false test h = cc

      by : (o : Option Talk) → t.talk ≡ o →
          and_then (λ (talk : Talk). if leads_to port talk.port && is_parked (Some talk.peer) then Some talk else None) o ≡ Some talk →
          (talk_at w x ≡ Some talk) × (talk.port ≡ At port)
      by (Some other) e h = one other e _ refl h
      by None e h = cc

  serves : {port : Path} {pick : Option Path} {ask : Ask} {o : Outcome} → Serves w port pick ask o → SafeIn w o
  serves (Waits_for_client ask) = tt
  serves {port} (Accepts x t service there free at) = (
    record { port = served-port w port _ refl (and_parts _ _ (and_parts (is_serving_port w port) _ service).0).0; peer = service-safe w port x facts service },
    (tt, tt),
  )
  serves {port} (Takes_up x t talk service there free at) = (peer, tt)
    where
      peer : (found : Talk) → talk_at w x ≡ Some found → IsSafePeer w x found.port Service
      peer found is =
          let parked = parked-talk port x t talk there at in
          let same : found ≡ talk = (let e = parked.0 in cc) in
          let to = parked.1 in
          rw (same, to) (service-safe w port x facts service)
  serves (Gives_nothing words len) = tt
  serves (Finds_no_room words len x t receive there is full) = (tt, tt)
  serves (Gives_words words len x t receive s page there is at) = (home _ receive.0 true s page at, (tt, (tt, tt)))
  serves (Passes_client x to at awaits) = (tt, (tt, tt))

-- ---- who moves

thread-body : (o : Option Body) (t : Thread) → and_then thread_of o ≡ Some t → o ≡ Some (Thread_of t)
thread-body None t h = cc
thread-body (Some b) t h = ap (λ b. Some b) (body-thread_of b t h)

-- a thread lies in a space
pub thread-caller : (w : World) → IsConsistent w → (c : Caller) (t : Thread) → and_then thread_of (w.body (path_of c)) ≡ Some t → IsCaller w c
thread-caller w valid c t h =
    let there = thread-body _ t h in
    record { thread = kind-there w (path_of c) (Thread_of t) there; space = valid.parents c.slot c.space (rw there refl) }

-- and isn't the root
rootless : (w : World) → IsRooted w → (t : Thread) → and_then thread_of (w.body []) ≡ Some t → ⊥
rootless w rooted t h = let root = rooted.root in let kind = kind-there w [] (Thread_of t) (thread-body _ t h) in cc

-- a user's stages are all fit
user-fit : (w : World) (c : Caller) (stage : Stage) → is_for_porters stage ≡ false → is_fit_stage w c stage ≡ true
user-fit w c (LinkSet s x port server) user = cc
user-fit w c (LinkPark s x port) user = cc
user-fit w c (FaultSet s x port taker) user = cc
user-fit w c (FaultPark s x port taken) user = cc
user-fit w c stage user = refl

-- ---- a move

caller-at : (w : World) → Facts w → (x : Path) (t : Thread) → thread_at w x ≡ Some t → IsCaller w (user_at x)
caller-at w facts [] t there = absurd (rootless w facts.rooted t there)
caller-at w facts (k ∷ s) t there = thread-caller w facts.valid (user_at (k ∷ s)) t there

lists : (w : World) (x : Path) (pick : Option Path) (ask : Ask) (o : Outcome) → Facts w → is_fit w x ask ≡ true → Lists w x pick ask o → SafeIn w o
unfolding is_fit
lists w x pick _ _ facts fit (Moves_not ask) = tt
lists w x pick _ _ facts fit (Runs t g o there free at by) = instructs w facts by
lists w x pick _ _ facts fit (Calls t stage todo rest cs said there free at user by) =
    step w facts (user_at x) pick (caller-at w facts x t there) (user-fit w (user_at x) stage user) by
lists w x pick _ _ facts fit (Is_told_no t stage todo rest status there free at) = (tt, tt)
lists w x pick _ _ facts fit (Asks t stage words cs said there unheld porter by) =
    let caller = caller-at w facts x t there in
    step w facts (porter_at x words) pick (record { thread = caller.thread; space = caller.space }) fit by
lists w x pick _ _ facts fit (Is_answered_no t stage words status there) = tt
lists w x pick _ _ facts fit (Acts ask o by) = serves w facts by

pub outcome-safe : (w : World) (x : Path) (pick : Option Path) (ask : Ask) → Facts w → is_fit w x ask ≡ true → SafeOutcome w (outcome w x pick ask)
outcome-safe w x pick ask facts fit = record { safe = lists w x pick ask _ facts fit (moves-listed w x pick ask) }
