-- What a proper move lists leaves pages and registers full: by the lists of `rows`.
use Rattle.std.proofs.Common.{◌≡◌, ℕ, ◌-◌, ◌%◌, ◌≤◌, Bool, true, false, ◌==◌, List, [], ◌∷◌, take, drop, length, Option}
use Rattle.std.proofs.Common.{None, refl, ◌∙◌, arith}
use Rattle.std.proofs.lemmas.Bool.{and_parts, eqb-true}
use Rattle.std.proofs.lemmas.List.{length-replicate, length-take-le, length-drop, length-set}
use Rattle.fk_model.specs.declared.limits.TheConstants.{PAGE_WORDS, RECORD_WORDS}
use Rattle.fk_model.specs.declared.moves.Ask.{Ask}
use Rattle.fk_model.specs.declared.stage.Stage.{Stage}
use Rattle.fk_model.specs.declared.statuses.status.TheConstants.{BADCALL}
use Rattle.fk_model.specs.Places.{Path}
use Rattle.fk_model.specs.Objects.{Mode, registers_of}
use Rattle.fk_model.specs.World.{World, Change, Edit}
use Rattle.fk_model.specs.World.Change.{Alter}
use Rattle.fk_model.specs.World.Edit.{SetTalk}
use Rattle.fk_model.specs.Reach.{reach_word, words_at}
use Rattle.fk_model.specs.Reach.Reach.{Home}
use Rattle.fk_model.specs.Outcomes.{Outcome, Caller}
use Rattle.fk_model.specs.Records.{record_of}
use Rattle.fk_model.specs.StateRows.{is_bad_record_address}
use Rattle.fk_model.specs.TransferRows.{overwritten, block, moved_words}
use Rattle.fk_model.specs.Moves.{outcome}
use Rattle.fk_model.specs.Whole.{are_words, HasFullPages}
use Rattle.laws_moves.specs.Rows.Stages.{Sets, Source, RecordSource, Work, Step}
use Rattle.laws_moves.specs.Rows.Stages.Sets.{Locks}
use Rattle.laws_moves.specs.Rows.Stages.Source.{Own_words, Zeros, Of_page}
use Rattle.laws_moves.specs.Rows.Stages.RecordSource.{Own_record, Of_memory}
use Rattle.laws_moves.specs.Rows.Stages.Work.{Looks, Edits, Makes, Makes_held, Kills, Writes_record, Sets_record, Gives, Copies, Sleeps, Wakes_all}
use Rattle.laws_moves.specs.Rows.Stages.Work.{Takes_client, Hangs_up, Sends, Sends_service, Passes, Hands_over, Hands_over}
use Rattle.laws_moves.specs.Rows.Stages.Step.{Is_refused, Is_waiting, Raises, Answers, Stays, Finishes, Ends}
use Rattle.laws_moves.specs.Rows.Moves.{Goes_to, Instructs, Serves, Lists}
use Rattle.laws_moves.specs.Rows.Moves.Goes_to.{Halts, Puts, Jumps, Loads, Enters, Names_none}
use Rattle.laws_moves.specs.Rows.Moves.Instructs.{Goes_on, Stores, Faults}
use Rattle.laws_moves.specs.Rows.Moves.Serves.{Waits_for_client, Accepts, Takes_up, Gives_nothing, Finds_no_room, Gives_words, Passes_client}
use Rattle.laws_moves.specs.Rows.Moves.Lists.{Moves_not, Runs, Calls, Is_told_no, Asks, Is_answered_no, Acts}
use Rattle.laws_moves.proofs.InRows.Walk.{new_all, drops-all, ends-all, ends-then, sleepers-all}
use Rattle.laws_moves.proofs.InRows.Moves.{moves-listed}
use Rattle.laws_moves.specs.Whole.Runnable.{HasRegisters, has_all_words}
use Rattle.laws_moves.proofs.InWhole.Lengths.{length-overwritten, length-block, length-first, moved-fit, page_place, length-entered}
use Rattle.laws_moves.proofs.InWhole.Memory.{word-there, words-full}
use Rattle.laws_moves.proofs.InWhole.Objects.{record_place, length-record, has-all, users-address, edits-full}
use Rattle.laws_moves.proofs.InMachine.safety.Reads.{object-there}
use Rattle.laws_moves.proofs.InWhole.Outcomes.{IsFullEdit, AreFull, IsFullRow, full-row, FullIn, FullOutcome, row-then}

-- the words of a block fit behind the receiver's address
received-full : (page words : List ℕ) (k into : ℕ) → length page ≡ PAGE_WORDS → length words ≤ k → k ≤ PAGE_WORDS - into % PAGE_WORDS →
    length (overwritten page (into % PAGE_WORDS) words) ≡ PAGE_WORDS
received-full page words k into full few fit = let place = page_place into in
    length-overwritten page words (into % PAGE_WORDS) full (omega (arith, few, fit, place))

module _ (w : World) (pages : HasFullPages w) (registers : HasRegisters w) where
  -- a page that is reached has 64 words
  reached : (s : Path) (address : ℕ) (write : Bool) (t : Path) (page : ℕ) → reach_word w s address write ≡ Home t page → length (words_at w t page) ≡ PAGE_WORDS
  reached s address write t page home = let there = word-there w s address write in words-full w pages t page (rw home at there)

  -- ---- stages

  module _ (c : Caller) (pick : Option Path) (given : c.is_porter ≡ true → length c.words ≡ PAGE_WORDS) where
    source : {words : List ℕ} → Source w c words → length words ≡ PAGE_WORDS
    source (Own_words porter) = given porter
    source Zeros = length-replicate {A = ℕ} PAGE_WORDS 0
    source (Of_page address s own home) = reached c.space address false s own home

    record_source : (address : ℕ) {words : List ℕ} → is_bad_record_address c address ≡ false → RecordSource w c address words → RECORD_WORDS ≤ length words
    record_source address good (Own_record porter) = let all = given porter in omega (arith, all)
    record_source address good (Of_memory s own user home) =
        let full = reached c.space address false s own home in
        let place = record_place address (users-address c address user good) in
        let rest = length-drop (address % PAGE_WORDS) (words_at w s own) in
        let all = length-take-le RECORD_WORDS (drop (address % PAGE_WORDS) (words_at w s own)) (omega (arith, rest, full, place)) in
        omega (arith, all)

    sets : {stage : Stage} {x : Path} {edit : Edit} {answers : List ℕ} → Sets w c pick stage x edit answers → IsFullEdit edit
    sets (Locks stage m was locked read) = tt
    sets other = tt

    work : {stage : Stage} {cs : List Change} {answers : List ℕ} → Work w c pick stage cs answers → IsFullRow cs
    work (Looks stage answers reads) = tt
    work (Edits stage x edit answers edits) = (sets edits, tt)
    work (Makes s x j kind space made place slot free new empty) =
        new_all (λ made. IsFullRow (made ∷ [])) (x ∷ space) kind made new
        (tt, tt) (tt, tt) (tt, tt) (tt, tt) (tt, tt) (tt, tt) tt (refl, tt) (tt, tt)
    work (Makes_held x j slot empty) = tt
    work (Kills s x space b place read free apart leaf) = (tt, ends-all AreFull tt (λ x cs rest. (tt, rest)) _)
    work (Writes_record s x address space t b page place read good user home) =
        let all = length-record b (has-all w registers (x ∷ space) b (object-there w c x space b read)) in
        let place = record_place address (users-address c address user good) in
        (length-overwritten (words_at w t page) (record_of b) (address % PAGE_WORDS) (reached c.space address true t page home) (omega (arith, place, all)), tt)
    work (Sets_record s x address space b words place read free off good from still takes) =
        full-row _ (edits-full (x ∷ space) b words (record_source address good from))
    work (Gives s page address space words place free good empty from) = (source from, tt)
    work (Copies stage s page address space t own drops words place there home) = (pages space page words there, drops-all AreFull space page tt (tt, tt) drops)
    work (Wakes_all cond) = full-row _ (sleepers-all AreFull w c.space cond tt (λ x m cs asleep rest. (tt, rest)))
    work (Hangs_up stage side l at) = full-row _ (ends-then AreFull (Alter l.client (SetTalk None) ∷ []) (tt, tt) (λ x cs rest. (tt, rest)) _)
    work (Sends stage side l address count receive thread e s own t other here at led free is home theirs) =
        let k = moved_words address count receive.0 receive.1 in (
          received-full (words_at w t other) (block k address (words_at w s own)) k receive.0 (reached _ receive.0 true t other theirs)
              (length-block k address (words_at w s own)) (moved-fit address count receive.0 receive.1),
          (tt, (tt, (tt, tt))),
        )
    work (Sleeps cond m) = (tt, (tt, tt))
    work (Takes_client set slot x idle at) = (tt, (tt, tt))
    work (Sends_service stage side l address count here at) = (tt, (tt, tt))
    work (Passes stage side l thread e to carried here at led free awaits) = (tt, (tt, tt))
    work (Hands_over stage side l thread e k reference p here at led free awaits there read may) = (tt, (tt, (tt, tt)))
    work other = (tt, tt)

    step : {stage : Stage} {o : Outcome} → Step w c pick stage o → FullIn o
    step (Is_refused status) = tt
    step Is_waiting = tt
    step (Raises s page address write port missing) = (tt, tt)
    step (Answers cs answers porter its) = work its
    step (Stays cs said its) = work its
    step (Finishes cs answers me said user own its) = row-then cs _ (work its) (tt, tt)
    step (Ends cs answers user its) = row-then cs _ (work its) (tt, tt)

  -- ---- instructions and acts

  module _ (space : Path) (slot : ℕ) (g : List ℕ) (counter : ℕ) (sixteen : length g ≡ 16) where
    goes_to : {mode : Mode} {after : ℕ} → Goes_to w space g counter mode after → length (registers_of mode) ≡ 16
    goes_to (Halts code) = sixteen
    goes_to (Puts register value) = length-set g register value ∙ sixteen
    goes_to (Jumps to) = sixteen
    goes_to (Loads register address s page home) = length-set g register _ ∙ sixteen
    goes_to (Enters todo named) = length-entered todo g ∙ sixteen
    goes_to (Names_none none) = length-set g 0 BADCALL ∙ sixteen

    instructs : {o : Outcome} → Instructs w space slot g counter o → FullIn o
    instructs (Goes_on mode after to) = (goes_to to, tt)
    instructs (Stores address value s page home) = (length-set (words_at w s page) _ value ∙ reached space address true s page home, (sixteen, tt))
    instructs (Faults s page address write port missing) = (tt, tt)

  serves : {port : Path} {pick : Option Path} {ask : Ask} {o : Outcome} → Serves w port pick ask o → FullIn o
  serves (Waits_for_client ask) = tt
  serves (Accepts x t service there free at) = (tt, (tt, tt))
  serves (Takes_up x t talk service there free at) = (tt, tt)
  serves (Gives_nothing words len) = tt
  serves (Finds_no_room words len x t receive there is full) = (tt, tt)
  serves (Gives_words words len x t receive s page there is home) = (
    received-full (words_at w s page) _ _ receive.0 (reached _ receive.0 true s page home) (length-first _ (take len words))
        (moved-fit 0 (length (take len words)) receive.0 receive.1),
    (tt, (tt, tt)),
  )
  serves (Passes_client x to at awaits) = (tt, (tt, tt))

  -- ---- a move

  lists : {x : Path} {pick : Option Path} {ask : Ask} {o : Outcome} → has_all_words ask ≡ true → Lists w x pick ask o → FullIn o
  lists all (Moves_not ask) = tt
  lists {x} all (Runs t g o there free at by) = instructs _ _ g t.counter (let its = registers x t there in rw at at its) by
  lists all (Calls t stage todo rest cs said there free at user by) = step _ _ (λ h. cc) by
  lists all (Is_told_no t stage todo rest status there free at) = (tt, tt)
  lists all (Asks t stage words cs said there unheld porter by) =
      step _ _ (λ h. eqb-true (length words) PAGE_WORDS (and_parts (length words == PAGE_WORDS) (are_words words) all).0) by
  lists all (Is_answered_no t stage words status there) = tt
  lists all (Acts ask o by) = serves by

pub outcome-full : (w : World) (x : Path) (pick : Option Path) (ask : Ask) → HasFullPages w → HasRegisters w → has_all_words ask ≡ true →
    FullOutcome (outcome w x pick ask)
outcome-full w x pick ask pages registers all = record { full = lists w pages registers all (moves-listed w x pick ask) }
