-- What a stranger lists is away from a plain subtree: by the lists of `laws_moves::rows`.
use Rattle.std.proofs.Common.{◌≡◌, ℕ, Bool, true, false, if◌then◌else◌, ◌==◌, List, [], ◌∷◌, ◌++◌, map, Option, Some, None, Result, Ok, Err, refl}
use Rattle.fk_model.specs.declared.limits.TheConstants.{OWN_SPACE}
use Rattle.fk_model.specs.declared.moves.Ask.{Ask}
use Rattle.fk_model.specs.declared.names.Kind.{Kind}
use Rattle.fk_model.specs.declared.names.Kind.TheVariants as kinds
use Rattle.fk_model.specs.declared.stage.Stage.{Stage}
use Rattle.fk_model.specs.declared.statuses.status.TheConstants.{WRONGTURN}
use Rattle.fk_model.specs.declared.thread.Turn.{Turn}
use Rattle.fk_model.specs.Places.{Path, same_path, is_within, parent, Ptr}
use Rattle.fk_model.specs.Places.Ptr.{Null, Dead, At, Out, Outside, Far}
use Rattle.fk_model.specs.Objects.{Peer, Thread, Body, reference_of, holds}
use Rattle.fk_model.specs.Objects.Peer.{Server, Parked}
use Rattle.fk_model.specs.Objects.Body.{Mutex, Mapping, Region, Port, Thread_of, Reference}
use Rattle.fk_model.specs.World.{World, Change, Edit}
use Rattle.fk_model.specs.World.Change.{Alter}
use Rattle.fk_model.specs.Reach.{Reach, reach_word}
use Rattle.fk_model.specs.Reach.Reach.{Home, Missing, Bad}
use Rattle.fk_model.specs.Outcomes.{Said, Outcome, when, Caller, path_of}
use Rattle.fk_model.specs.Outcomes.Outcome.{Refused, Waits, Goes}
use Rattle.fk_model.specs.Readers.{and_read, object_in, space_argument, led_to, referred, their_page_at, their_page}
use Rattle.fk_model.specs.Records.{set_edits}
use Rattle.fk_model.specs.Talks.{Line, line, ends_beyond, same_side, thread_led_to}
use Rattle.fk_model.specs.LinkRows.{user_at, end_all}
use Rattle.fk_model.specs.TransferRows.{at_turn, in_turn}
use Rattle.fk_model.specs.FaultRows.{named_taker}
use Rattle.fk_model.specs.Moves.{porter_at, outcome}
use Rattle.fk_model.specs.Valid.{IsConsistent}
use Rattle.fk_model.specs.Cut.{is_inner_peer, IsPlain}
use Rattle.fk_model.proofs.walks.PlaceLaws.{same_path_eq, same_path_refl}
use Rattle.laws_moves.proofs.InMachine.safety.Reads.{object_in-found, body-reference_of}
use Rattle.laws_moves.specs.Rows.Stages.{Sets, Work, Own, Step}
use Rattle.laws_moves.specs.Rows.Stages.Sets.{Locks, Wakes, Stops, Lets_go, Points, Clears, Gets_pointer, Sets_pointer, Holds, Releases, Restores_hold, Fills}
use Rattle.laws_moves.specs.Rows.Stages.Sets.{Passes_service, Takes_fault, Resumes, Frees, Restores_talk, Parks_talk, Restores_fault, Parks_fault}
use Rattle.laws_moves.specs.Rows.Stages.Work.{Looks, Edits, Makes, Makes_held, Kills, Renames, Writes_record, Sets_record, Gives, Copies, Drops, Sleeps}
use Rattle.laws_moves.specs.Rows.Stages.Work.{Wakes_all}
use Rattle.laws_moves.specs.Rows.Stages.Work.{Takes_client, Hangs_up, Sends, Sends_service, Passes, Hands_over, Hands_over}
use Rattle.laws_moves.specs.Rows.Stages.Own.{Stayed, Renamed}
use Rattle.laws_moves.specs.Rows.Stages.Step.{Is_refused, Is_waiting, Raises, Answers, Stays, Finishes, Ends}
use Rattle.laws_moves.specs.Rows.Moves.{Instructs, Lists}
use Rattle.laws_moves.specs.Rows.Moves.Instructs.{Goes_on, Stores, Faults}
use Rattle.laws_moves.specs.Rows.Moves.Lists.{Moves_not, Runs, Calls, Is_told_no, Asks, Is_answered_no, Acts}
use Rattle.laws_moves.specs.Rows.Moves.Serves.{Waits_for_client}
use Rattle.laws_moves.specs.Rows.Moves.{Serves}
use Rattle.laws_subtrees.proofs.InCut.likeness.Instances.{cut-like}
use Rattle.laws_subtrees.proofs.InCut.likeness.Waits.{reference_beside}
use Rattle.laws_moves.proofs.InRows.Walk.{new_all, drops-all, sleepers-all}
use Rattle.laws_moves.proofs.InRows.Moves.{moves-listed}
use Rattle.laws_subtrees.specs.Further.Strangers.{HasNoWindow, is_of_thread}
use Rattle.laws_subtrees.proofs.InFurther.strangers.Places.{IsAway, away_down, IsAwayObject, away_object, object_out, outside_up, leaf-away}
use Rattle.laws_subtrees.proofs.InFurther.strangers.Reads.{IsApart, led_away, led_to-same, place-away, thread-away, word-out}
use Rattle.laws_subtrees.proofs.InFurther.strangers.Away.{IsAwayEdit, AreAwayChanges}
use Rattle.laws_subtrees.proofs.InFurther.strangers.Talks.{IsOutLine, line-out, led-out, AllOut, beyond-out, death_ends-out, candidate-out, faulter-out}

module _ (w : World) (nester : Path) (slot : ℕ) (valid : IsConsistent w) (plain : IsPlain w nester slot) (windows : HasNoWindow w nester slot) where
  abbrev root : Path
  root = slot ∷ nester

  abbrev IsOut : Path → Type 0
  IsOut x = is_within (slot ∷ nester) x ≡ false

  abbrev Aways : List Change → Type 0
  Aways cs = AreAwayChanges nester slot cs

  abbrev pub AwayIn : Outcome → Type 0
  AwayIn (Refused status) = Unit {0}
  AwayIn Waits = Unit {0}
  AwayIn (Goes changes said) = AreAwayChanges nester slot changes

  -- (a record, so that the outcome is read off a goal)
  pub record AwayOutcome (o : Outcome) : Type 0 where
    pub aways : AwayIn o

  pub waits : AwayOutcome Waits
  waits = record { aways = tt }

  pub goes : {cs : List Change} {said : Said} → Aways cs → AwayOutcome (Goes cs said)
  goes aways = record { aways = aways }

  pub away-when : (test : Bool) (o : Outcome) → (test ≡ true → AwayOutcome o) → AwayOutcome (when test o)
  away-when true o aways = aways refl
  away-when false o aways = waits

  pub away-if : (t : Bool) (a b : Outcome) → AwayOutcome a → AwayOutcome b → AwayOutcome (if t then a else b)
  away-if true a b first second = first
  away-if false a b first second = second

  -- the space of whoever is outside is outside
  pub parent_out : (x : Path) → IsOut x → IsOut (parent x)
  parent_out [] out = out
  parent_out (k ∷ s) out = outside_up nester slot k s out

  -- a page that is reached from outside lies there
  home : (s : Path) (address : ℕ) (write : Bool) (t : Path) (page : ℕ) → IsOut s → reach_word w s address write ≡ Home t page → IsOut t
  home s address write t page out e = let good = word-out w nester slot windows (plain.birth, plain.holder, plain.root) s address write out in rw e at good

  pub their_page-away : (space : Path) (address : ℕ) (go : Path → ℕ → Outcome) → IsOut space →
      ((s : Path) (page : ℕ) → IsOut s → AwayOutcome (go s page)) → AwayOutcome (their_page w space address go)
  their_page-away space address go out going = by (reach_word w space address true) refl
    where
      by : (r : Reach) → reach_word w space address true ≡ r → AwayOutcome (their_page_at go r)
      by (Home s page) e = going s page (home space address true s page out e)
      by (Missing s page keeper) e = waits
      by Bad e = waits

  away-then : (cs ds : List Change) → Aways cs → Aways ds → Aways (cs ++ ds)
  away-then [] ds aways after = after
  away-then (c ∷ cs) ds aways after = (aways.0, away-then cs ds aways.1 after)

  away-end_all : (ends : List Path) → AllOut w nester slot valid plain ends → Aways (end_all ends)
  away-end_all [] out = tt
  away-end_all (x ∷ ends) out = ((out.0, tt), away-end_all ends out.1)

  edits-away : (x : Path) (b : Body) (words : List ℕ) → IsOut x → Aways (map (Alter x) (set_edits b words))
  edits-away x (Mutex locked) words out = ((out, tt), tt)
  edits-away x (Mapping m) words out = ((out, tt), tt)
  edits-away x (Region r) words out = ((out, tt), tt)
  edits-away x (Port set served) words out = ((out, tt), tt)
  edits-away x (Thread_of t) words out = ((out, tt), ((out, tt), tt))
  edits-away x b words out = tt

  -- ---- a caller in a space that is away

  module _ (c : Caller) (its : IsApart w nester slot c.space) (pick : Option Path) where
    here : (k : ℕ) → IsOut (k ∷ c.space)
    here k = (away_down nester slot k c.space its.away).outside

    -- a place that is named
    placed : (s : ℕ) (space : Path) → space_argument w c s ≡ Ok space → IsAway nester slot space
    placed s space read = place-away w nester slot c s space its read

    at_place : (s k : ℕ) (space : Path) → space_argument w c s ≡ Ok space → IsOut (k ∷ space)
    at_place s k space read = (away_down nester slot k space (placed s space read)).outside

    me_object : IsAwayObject nester slot (path_of c)
    me_object = away_object nester slot c.slot c.space its.away

    own_line : (side : Turn) (l : Line) → line w (path_of c) side ≡ Some l → IsOutLine w nester slot valid plain l
    own_line side l at = line-out w nester slot valid plain (path_of c) side l me_object (here c.slot) at

    -- the talk in which the caller acts
    turn-line : (side turn : Turn) (l : Line) → in_turn w (path_of c) side turn ≡ Ok l → IsOutLine w nester slot valid plain l
    turn-line side turn l h = by (line w (path_of c) side) refl h
      where
        test : (b : Bool) (found : Line) → (if b then Ok found else Err WRONGTURN) ≡ Ok l → found ≡ l
        test true found h = cc
        test false found h = cc

        by : (o : Option Line) → line w (path_of c) side ≡ o → at_turn turn o ≡ Ok l → IsOutLine w nester slot valid plain l
        by None e h = cc
        by (Some found) e h = let same = test (same_side found.talk.turn turn) found h in own_line side l (rw (← same) e)

    -- the thread at its other end
    other_out : (side : Turn) (l : Line) (thread : Ptr) (e : Path × Thread) → in_turn w (path_of c) side side ≡ Ok l → l.other ≡ Server thread →
        thread_led_to w thread ≡ Some e → IsOut e.0
    other_out side l thread e at other led =
        let line = turn-line side side l at in led-out w nester slot valid plain thread e (let out = line.other in rw other at out) led

    -- what lies in the caller's space is outside
    neighbour : (x : Path) → same_path (parent x) c.space ≡ true → IsOut x
    neighbour [] h = let e = same_path_eq [] c.space h in rw e its.away.outside
    neighbour (k ∷ s) h = let e = same_path_eq s c.space h in rw e (here k)

    -- a reference of the caller's leads to nobody inside
    referred-out : (wanted : Kind) (k : ℕ) (p : Ptr) → referred w c wanted k ≡ Ok p → is_inner_peer root (Server p) ≡ false
    unfolding referred
    referred-out wanted k p read = by (object_in w c reference_of c.space k) refl read
      where
        leads : (p : Ptr) → w.body (k ∷ c.space) ≡ Some (Reference p) → is_inner_peer root (Server p) ≡ false
        leads (At y) there = (led_away w nester slot c.space its k y (rw (there, same_path_refl y) refl)).outside
        leads Null there = refl
        leads Dead there = refl
        leads (Out i) there = refl
        leads Outside there = refl
        leads Far there = refl

        by : (r : Result Ptr ℕ) → object_in w c reference_of c.space k ≡ r → and_read r (led_to w wanted) ≡ Ok p → is_inner_peer root (Server p) ≡ false
        by (Ok to) e h =
            let found = object_in-found w c reference_of c.space k to e in
            let body = body-reference_of found.body to found.seen in
            let there : w.body (k ∷ c.space) ≡ Some (Reference to) = rw (← body) found.there in
            rw (led_to-same w nester slot wanted to p h) (leads to there)
        by (Err status) e h = cc

    taker_out : (taker : ℕ) (o : Option Peer) → named_taker w c taker ≡ Ok o → holds (is_inner_peer root) o ≡ false
    taker_out taker o read = by (taker == OWN_SPACE) read
      where
        of_thread : (r : Result Ptr ℕ) → referred w c kinds.Thread taker ≡ r → and_read r (λ thread. Ok (Some (Server thread))) ≡ Ok o →
            holds (is_inner_peer root) o ≡ false
        of_thread (Ok p) e h = let same : Some (Server p) ≡ o = cc in rw (← same) (referred-out kinds.Thread taker p e)
        of_thread (Err status) e h = cc

        by : (t : Bool) → (if t then Ok None else and_read (referred w c kinds.Thread taker) (λ thread. Ok (Some (Server thread)))) ≡ Ok o →
            holds (is_inner_peer root) o ≡ false
        by true h = let same : None ≡ o = cc in rw (← same) refl
        by false h = of_thread (referred w c kinds.Thread taker) refl h

    parked_out : (t : Bool) → holds (is_inner_peer root) (if t then Some Parked else None) ≡ false
    parked_out true = refl
    parked_out false = refl

    sets : {stage : Stage} {x : Path} {edit : Edit} {answers : List ℕ} → Sets w c pick stage x edit answers → IsOut x × IsAwayEdit nester slot edit
    sets (Locks stage m was locked read) = (here m, tt)
    sets (Wakes at m x near asleep) = (neighbour x near, tt)
    sets (Stops h e read free few) = ((thread-away w nester slot c h e its read).outside, tt)
    sets (Lets_go h e read free some) = ((thread-away w nester slot c h e its read).outside, tt)
    sets (Points s x s2 x2 space space2 old to place place2 read read2 free) = (at_place s x space place, tt)
    sets (Clears s x space old place read free) = (at_place s x space place, tt)
    sets (Gets_pointer s x field k space b old found place read read2 has inner) = (here k, tt)
    sets (Sets_pointer s x field k space b to place read read2 free inner among) = (at_place s x space place, tt)
    sets (Holds s x space was place read free apart alone) = (at_place s x space place, tt)
    sets (Releases s x space was place read holds) = (at_place s x space place, tt)
    sets (Restores_hold s x thread space was holder place read read2 free) = (at_place s x space place, tt)
    sets (Fills stage side l thread e receive at other led free is full) = (other_out side l thread e at other led, tt)
    sets (Passes_service stage side l at other) = ((turn-line side side l at).client, tt)
    sets (Takes_fault set k x fault idle at) = (candidate-out w nester slot valid plain c.space set its.away x _ at, tt)
    sets (Resumes set k x talk idle at) = (candidate-out w nester slot valid plain c.space set its.away x _ at, tt)
    sets (Frees x at unheld) = (faulter-out w nester slot valid plain (path_of c) x me_object at, tt)
    sets (Restores_talk s x port server space t at thread place read read2 read3 free) =
        (at_place s x space place, referred-out kinds.Thread server thread read3)
    sets (Parks_talk s x port space t was place read read2 free) = (at_place s x space place, refl)
    sets (Restores_fault s x port taker space t at who place read read2 named free) = (at_place s x space place, taker_out taker who named)
    sets (Parks_fault s x port taken space t was place read read2 free) = (at_place s x space place, parked_out (taken == 1))

    work : {stage : Stage} {cs : List Change} {answers : List ℕ} → Work w c pick stage cs answers → Aways cs
    work (Looks stage answers reads) = tt
    work (Edits stage x edit answers edits) = (sets edits, tt)
    work (Makes s x j kind space made place slot free new empty) =
        let out = at_place s x space place in
        new_all (λ made. Aways (made ∷ [])) (x ∷ space) kind made new
        (out, tt) (out, tt) (out, tt) (out, tt) (out, tt) (out, tt) (out, tt) (out, tt) (out, tt)
    work (Makes_held x j slot empty) = (here x, tt)
    work (Kills s x space b place read free apart leaf) =
        let gone = leaf-away nester slot w x space (placed s space place) in
        (gone, away-end_all _ (death_ends-out w nester slot valid plain _ gone (object_out nester slot _ gone) _))
    work (Renames s x y space b place read free low apart empty residents) = (away_object nester slot x space (placed s space place), tt)
    work (Writes_record s x address space t b page place read good user at) = (home c.space address true t page its.away.outside at, tt)
    work (Sets_record s x address space b words place read free none good from still takes) = edits-away (x ∷ space) b words (at_place s x space place)
    work (Gives s page address space words place free good empty from) = ((placed s space place).outside, tt)
    work (Copies stage s page address space t own drops words place there at) =
        (home c.space address true t own its.away.outside at, drops-all Aways space page tt ((placed s space place).outside, tt) drops)
    work (Drops s page address space words place there porter) = ((placed s space place).outside, tt)
    work (Sleeps at m) = ((here m, tt), ((here c.slot, tt), tt))
    work (Wakes_all at) = sleepers-all Aways w c.space at tt (λ k m cs asleep rest. ((here k, tt), rest))
    work (Takes_client set k x idle at) =
        let out = candidate-out w nester slot valid plain c.space set its.away x _ at in ((out, here c.slot), ((out, tt), tt))
    work (Hangs_up stage side l at) =
        let line = own_line side l at in
        away-then (end_all (ends_beyond w side l)) _ (away-end_all (ends_beyond w side l) (beyond-out w nester slot valid plain side l line))
        ((line.client, tt), tt)
    work (Sends stage side l address count receive thread e s own t other at peer led free is from to) =
        let out = other_out side l thread e at peer led in
        let client = (turn-line side side l at).client in
        (home (parent e.0) receive.0 true t other (parent_out e.0 out) to, ((client, tt), ((out, tt), ((here c.slot, tt), tt))))
    work (Sends_service stage side l address count at other) = (((turn-line side side l at).client, tt), ((here c.slot, tt), tt))
    work (Hands_over stage side l thread e k reference p at other led free awaits there read may) =
        let out = other_out side l thread e at other led in
        ((reference_beside (cut-like w nester slot plain) e.0 k out there, tt), ((out, tt), (((turn-line side side l at).client, tt), tt)))
    work (Passes stage side l thread e to carried at other led free awaits) =
        ((other_out side l thread e at other led, tt), (((turn-line side side l at).client, tt), tt))

    me_out : {cs : List Change} {me : Path} → Own c cs me → Aways cs → IsOut me
    me_out (Stayed cs) aways = here c.slot
    me_out (Renamed x y space) aways = by (same_path (path_of c) (x ∷ space))
      where
        there : IsOut (y ∷ space)
        there = let gone : x ∷ space ≡ aways.0.key ∷ aways.0.space = aways.0.is in
            let same : space ≡ aways.0.space = cc in rw same (away_down nester slot y aways.0.space aways.0.away).outside

        by : (t : Bool) → IsOut (if t then y ∷ space else path_of c)
        by true = there
        by false = here c.slot

    step : {stage : Stage} {o : Outcome} → Step w c pick stage o → AwayIn o
    step (Is_refused status) = tt
    step Is_waiting = tt
    step (Raises s page address write port missing) = ((here c.slot, refl), tt)
    step (Answers cs answers porter did) = work did
    step (Stays cs said did) = work did
    step (Finishes cs answers me said user own did) = away-then cs _ (work did) ((me_out own (work did), tt), tt)
    step (Ends cs answers user did) = away-then cs _ (work did) ((here c.slot, tt), tt)

  -- ---- a move

  instructs : (s : Path) (k : ℕ) (g : List ℕ) (counter : ℕ) {o : Outcome} → IsAway nester slot s → Instructs w s k g counter o → AwayIn o
  instructs s k g counter away (Goes_on mode after to) = (((away_down nester slot k s away).outside, tt), tt)
  instructs s k g counter away (Stores address value t page at) =
      (home s address true t page away.outside at, (((away_down nester slot k s away).outside, tt), tt))
  instructs s k g counter away (Faults t page address write port missing) = (((away_down nester slot k s away).outside, refl), tt)

  no_act : (port : Path) (pick : Option Path) (ask : Ask) (o : Outcome) → is_of_thread ask ≡ true → Serves w port pick ask o → AwayIn o
  no_act port pick _ _ is (Waits_for_client ask) = tt
  no_act port pick _ _ is other = cc

  lists : (k : ℕ) (s : Path) (pick : Option Path) (ask : Ask) (o : Outcome) → IsApart w nester slot s → is_of_thread ask ≡ true →
      Lists w (k ∷ s) pick ask o → AwayIn o
  lists k s pick _ _ its is (Moves_not ask) = tt
  lists k s pick _ _ its is (Runs t g o there free at by) = instructs s k g t.counter its.away by
  lists k s pick _ _ its is (Calls t stage todo rest cs said there free at user by) = step (user_at (k ∷ s)) its pick by
  lists k s pick _ _ its is (Is_told_no t stage todo rest status there free at) = (((away_down nester slot k s its.away).outside, tt), tt)
  lists k s pick _ _ its is (Asks t stage words cs said there unheld porter by) = step (porter_at (k ∷ s) words) its pick by
  lists k s pick _ _ its is (Is_answered_no t stage words status there) = tt
  lists k s pick _ _ its is (Acts ask o by) = no_act (k ∷ s) pick ask o is by

  pub outcome-away : (k : ℕ) (s : Path) (pick : Option Path) (ask : Ask) → IsApart w nester slot s → is_of_thread ask ≡ true →
      AwayOutcome (outcome w (k ∷ s) pick ask)
  outcome-away k s pick ask its is = record { aways = lists k s pick ask _ its is (moves-listed w (k ∷ s) pick ask) }
