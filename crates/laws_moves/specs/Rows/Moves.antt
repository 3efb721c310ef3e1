-- What a move lists: of a user by an instruction or a stage of its call, of a porter by a call, of a native server by an act.
use Rattle.std.specs.Prelude.{◌≡◌, ℕ, ◌%◌, Bool, true, false, ◌&&◌, ◌==◌, is_none, List, [], ◌∷◌, take, length, Option, Some, None, slice_set}
use Rattle.fk_model.specs.declared.limits.TheConstants.{PAGE_WORDS}
use Rattle.fk_model.specs.declared.moves.Ask.{Ask}
use Rattle.fk_model.specs.declared.moves.Ask.TheVariants as asks
use Rattle.fk_model.specs.declared.stage.Stage.{Stage}
use Rattle.fk_model.specs.declared.statuses.status.TheConstants.{BADCALL, FULL}
use Rattle.fk_model.specs.declared.thread.Turn.TheVariants as turns
use Rattle.fk_model.specs.Places.{Path, parent, slot_of, Ptr}
use Rattle.fk_model.specs.Places.Ptr.{At}
use Rattle.fk_model.specs.Calls.{todo_of, rest_of}
use Rattle.fk_model.specs.Instructions.{next}
use Rattle.fk_model.specs.Objects.{Mode, Talk, Thread}
use Rattle.fk_model.specs.Objects.Mode.{Running, Calling, Halted}
use Rattle.fk_model.specs.Objects.Peer.{Service}
use Rattle.fk_model.specs.World.{World, Change}
use Rattle.fk_model.specs.World.Change.{Alter, PutPage}
use Rattle.fk_model.specs.World.Edit.{Proceed, Shift, Finish, End, SetTalk, CountMoved, PassTurn, SetPeer}
use Rattle.fk_model.specs.Searches.{thread_at, client_at}
use Rattle.fk_model.specs.Reach.{reach_word, words_at}
use Rattle.fk_model.specs.Reach.Reach.{Home, Missing}
use Rattle.fk_model.specs.Holds.{is_free, is_unheld, is_porter}
use Rattle.fk_model.specs.Outcomes.{Said, Outcome, path_of}
use Rattle.fk_model.specs.Outcomes.Said.{Nothing, Answered}
use Rattle.fk_model.specs.Outcomes.Outcome.{Waits, Goes}
use Rattle.fk_model.specs.Readers.{fault_on}
use Rattle.fk_model.specs.Talks.{receiving}
use Rattle.fk_model.specs.LinkRows.{new_talk, user_at}
use Rattle.fk_model.specs.TransferRows.{overwritten, moved_words, taken_answers}
use Rattle.fk_model.specs.NativeRows.{is_serving_port, parked_here, connects_here, awaited_at}
use Rattle.fk_model.specs.UserRows.{word_at}
use Rattle.fk_model.specs.Moves.{is_for_porters, is_for_users, porter_at, outcome}
use Rattle.laws_moves.specs.Rows.Stages.{Step}

-- ---- an instruction of a thread

-- how a thread goes on after an instruction, by its registers and its counter
pub data Goes_to (w : World) (space : Path) (g : List ℕ) (counter : ℕ) : Mode → ℕ → Type 0 where
  Halts : (code : ℕ) → Goes_to w space g counter (Halted g code) counter
  Puts : (register value : ℕ) → Goes_to w space g counter (Running (slice_set g register value)) (next counter)
  Jumps : (to : ℕ) → Goes_to w space g counter (Running g) to
  Loads : (register address : ℕ) (s : Path) (page : ℕ) → reach_word w space address false ≡ Home s page →
      Goes_to w space g counter (Running (slice_set g register (word_at w s page address))) (next counter)
  Enters : (todo : List Stage) → todo_of g ≡ Some todo → Goes_to w space g counter (Calling todo (rest_of todo g)) counter
  Names_none : todo_of g ≡ None → Goes_to w space g counter (Running (slice_set g 0 BADCALL)) (next counter)

pub data Instructs (w : World) (space : Path) (slot : ℕ) (g : List ℕ) (counter : ℕ) : Outcome → Type 0 where
  Goes_on : (mode : Mode) (after : ℕ) → Goes_to w space g counter mode after →
      Instructs w space slot g counter (Goes (Alter (slot ∷ space) (Proceed mode after) ∷ []) Nothing)
  Stores : (address value : ℕ) (s : Path) (page : ℕ) → reach_word w space address true ≡ Home s page →
      Instructs w space slot g counter (
      Goes (PutPage s page (slice_set (words_at w s page) (address % PAGE_WORDS) value) ∷ Alter (slot ∷ space)
      (Proceed (Running g) (next counter)) ∷ []) Nothing)
  Faults : (s : Path) (page address : ℕ) (write : Bool) (port : Ptr) → reach_word w space address write ≡ Missing s page (Some port) →
      Instructs w space slot g counter (Goes (fault_on (slot ∷ space) page write port ∷ []) Nothing)

-- ---- an act of a native server

pub data Serves (w : World) (port : Path) (pick : Option Path) : Ask → Outcome → Type 0 where
  Waits_for_client : (ask : Ask) → Serves w port pick ask Waits
  Accepts : (x : Path) (t : Thread) → (is_serving_port w port && is_none (client_at w port)) ≡ true → thread_at w x ≡ Some t →
      is_free w (parent x) t ≡ true → connects_here w port x t ≡ true →
      Serves w port pick asks.Accept
      (Goes (Alter x (SetTalk (Some (new_talk (At port) Service))) ∷ Alter x (Finish []) ∷ []) (Said.Taken (At port) x false turns.Client 0))
  Takes_up : (x : Path) (t : Thread) (talk : Talk) → (is_serving_port w port && is_none (client_at w port)) ≡ true → thread_at w x ≡ Some t →
      is_free w (parent x) t ≡ true → parked_here port t ≡ Some talk →
      Serves w port pick asks.Accept (Goes (Alter x (SetPeer Service) ∷ []) (Said.Taken (At port) x true talk.turn talk.moved))
  Gives_nothing : (words : List ℕ) (len : ℕ) → Serves w port pick (asks.Give words len) (Goes [] (Said.Given (At port) 0))
  Finds_no_room : (words : List ℕ) (len : ℕ) (x : Path) (t : Thread) (receive : ℕ × ℕ) → thread_at w x ≡ Some t →
      receiving w (parent x) turns.Client t.mode ≡ Some receive → (receive.1 == 0) ≡ true →
      Serves w port pick (asks.Give words len) (Goes (Alter x (End FULL []) ∷ []) (Said.Full (At port)))
  Gives_words : (words : List ℕ) (len : ℕ) (x : Path) (t : Thread) (receive : ℕ × ℕ) (s : Path) (page : ℕ) → thread_at w x ≡ Some t →
      receiving w (parent x) turns.Client t.mode ≡ Some receive → reach_word w (parent x) receive.0 true ≡ Home s page →
      Serves w port pick (asks.Give words len) (Goes (
      PutPage s page (overwritten (words_at w s page) (receive.0 % PAGE_WORDS)
      (take (moved_words 0 (length (take len words)) receive.0 receive.1) (take len words)))
      ∷ Alter x (CountMoved (moved_words 0 (length (take len words)) receive.0 receive.1))
      ∷ Alter x (Shift (moved_words 0 (length (take len words)) receive.0 receive.1))
      ∷ []) (Said.Given (At port) (moved_words 0 (length (take len words)) receive.0 receive.1)))
  Passes_client : (x : Path) (to : Option ℕ) → client_at w port ≡ Some x → awaited_at w x ≡ to →
      Serves w port pick asks.Over (Goes (Alter x (PassTurn turns.Client) ∷ Alter x (Finish (taken_answers to None)) ∷ []) (Said.Passed (At port)))

-- ---- a move

pub data Lists (w : World) (x : Path) (pick : Option Path) : Ask → Outcome → Type 0 where
  Moves_not : (ask : Ask) → Lists w x pick ask Waits
  Runs : (t : Thread) (g : List ℕ) (o : Outcome) → thread_at w x ≡ Some t → is_free w (parent x) t ≡ true → t.mode ≡ Running g →
      Instructs w (parent x) (slot_of x) g t.counter o → Lists w x pick asks.Run o
  Calls : (t : Thread) (stage : Stage) (todo : List Stage) (rest : List ℕ) (cs : List Change) (said : Said) → thread_at w x ≡ Some t →
      is_free w (parent x) t ≡ true → t.mode ≡ Calling (stage ∷ todo) rest → is_for_porters stage ≡ false →
      Step w (user_at x) pick stage (Goes cs said) → Lists w x pick asks.Run (Goes cs said)
  Is_told_no : (t : Thread) (stage : Stage) (todo : List Stage) (rest : List ℕ) (status : ℕ) → thread_at w x ≡ Some t →
      is_free w (parent x) t ≡ true → t.mode ≡ Calling (stage ∷ todo) rest →
      Lists w x pick asks.Run (Goes (Alter (path_of (user_at x)) (End status []) ∷ []) Nothing)
  Asks : (t : Thread) (stage : Stage) (words : List ℕ) (cs : List Change) (said : Said) → thread_at w x ≡ Some t →
      (is_porter t.mode && is_unheld w (parent x)) ≡ true → is_for_users stage ≡ false →
      Step w (porter_at x words) pick stage (Goes cs said) → Lists w x pick (asks.Call stage words) (Goes cs said)
  Is_answered_no : (t : Thread) (stage : Stage) (words : List ℕ) (status : ℕ) → thread_at w x ≡ Some t →
      Lists w x pick (asks.Call stage words) (Goes [] (Answered status []))
  Acts : (ask : Ask) (o : Outcome) → Serves w x pick ask o → Lists w x pick ask o

-- every move comes to one of these
abbrev pub MovesAreListed : Type 0
MovesAreListed = (w : World) (x : Path) (pick : Option Path) (ask : Ask) → Lists w x pick ask (outcome w x pick ask)
