-- Every move comes to one of the lists.
use Rattle.std.proofs.Common.{◌≡◌, ℕ, Bool, true, false, if◌then◌else◌, ◌&&◌, ◌==◌, List, [], ◌∷◌, take, Option, Some, None, is_none, ◌||◌, refl, inl, inr}
use Rattle.std.proofs.lemmas.Bool.{cases_Bool}
use Rattle.fk_model.specs.declared.instruction.Act.{Act}
use Rattle.fk_model.specs.declared.instruction.Act.TheVariants.{Put, Jump, Load, Store, Halt, Call}
use Rattle.fk_model.specs.declared.moves.Ask.{Ask}
use Rattle.fk_model.specs.declared.moves.Ask.TheVariants as asks
use Rattle.fk_model.specs.declared.stage.Stage.{Stage}
use Rattle.fk_model.specs.declared.statuses.halt.TheConstants.{BAD_ADDRESS, MISSING_PAGE}
use Rattle.fk_model.specs.declared.statuses.status.TheConstants.{DENIED, FULL}
use Rattle.fk_model.specs.declared.thread.Turn.TheVariants as turns
use Rattle.fk_model.specs.Places.{Path, parent, slot_of, Ptr}
use Rattle.fk_model.specs.Places.Ptr.{At}
use Rattle.fk_model.specs.Calls.{todo_of}
use Rattle.fk_model.specs.Instructions.{act}
use Rattle.fk_model.specs.Objects.{Mode, Talk, Thread, holds}
use Rattle.fk_model.specs.Objects.Mode.{Running, Calling}
use Rattle.fk_model.specs.Objects.Peer.{Service}
use Rattle.fk_model.specs.World.{World, Change}
use Rattle.fk_model.specs.World.Change.{Alter}
use Rattle.fk_model.specs.World.Edit.{SetTalk, Finish, End}
use Rattle.fk_model.specs.Searches.{thread_at, client_at}
use Rattle.fk_model.specs.Reach.{Reach, reach_word}
use Rattle.fk_model.specs.Reach.Reach.{Home, Missing, Bad}
use Rattle.fk_model.specs.Holds.{is_free, is_unheld, is_porter}
use Rattle.fk_model.specs.Outcomes.{Said, Outcome, when, Caller}
use Rattle.fk_model.specs.Outcomes.Outcome.{Refused, Waits, Goes}
use Rattle.fk_model.specs.Outcomes.Said.{Taken, Given, Full}
use Rattle.fk_model.specs.Readers.{accessed, missed, their_page_at, their_page}
use Rattle.fk_model.specs.Talks.{receiving, same_side}
use Rattle.fk_model.specs.LinkRows.{user_at, new_talk}
use Rattle.fk_model.specs.NativeRows.{takes_up, parked_here, connects_here, accepts_thread, accepts_found, takes_client, accept_row, is_serving_port}
use Rattle.fk_model.specs.NativeRows.{if_receiving}
use Rattle.fk_model.specs.NativeRows.{gives_words, gives_to, give_row, over_row, with_client, passes_client, has_turn}
use Rattle.fk_model.specs.UserRows.{word_at, halts_with, loads, stores, enters, performs, executes, run_row, run_row_by}
use Rattle.fk_model.specs.Moves.{stage_row, is_denied, chooses, with_pick, closed, call_row, goes_on, user_move, porter_at}
use Rattle.fk_model.specs.Moves.{porter_move, outcome}
use Rattle.laws_moves.specs.Rows.Stages.{Step}
use Rattle.laws_moves.specs.Rows.Moves.{Instructs, Serves, Lists, MovesAreListed}
use Rattle.laws_moves.specs.Rows.Moves.Goes_to.{Halts, Puts, Jumps, Loads, Enters, Names_none}
use Rattle.laws_moves.specs.Rows.Moves.Instructs.{Goes_on, Stores, Faults}
use Rattle.laws_moves.specs.Rows.Moves.Serves.{Waits_for_client, Accepts, Takes_up, Gives_nothing, Finds_no_room, Gives_words, Passes_client}
use Rattle.laws_moves.specs.Rows.Moves.Lists.{Moves_not, Runs, Calls, Is_told_no, Asks, Is_answered_no, Acts}
use Rattle.laws_moves.proofs.InRows.Stages.{stage-step}

-- ---- instructions

module _ (w : World) (space : Path) (slot : ℕ) (g : List ℕ) (counter : ℕ) where
  halts : (code : ℕ) → Instructs w space slot g counter (halts_with (slot ∷ space) g counter code)
  halts code = Goes_on _ _ (Halts code)

  accessed-is : (address : ℕ) (write : Bool) (go : Path → ℕ → Outcome) →
      ((s : Path) (page : ℕ) → reach_word w space address write ≡ Home s page → Instructs w space slot g counter (go s page)) →
      Instructs w space slot g counter (accessed (slot ∷ space) write (halts_with (slot ∷ space) g counter) go (reach_word w space address write))
  accessed-is address write go going = by (reach_word w space address write) refl
    where
      missing : (s : Path) (page : ℕ) (keeper : Option Ptr) → reach_word w space address write ≡ Missing s page keeper →
          Instructs w space slot g counter (missed (halts_with (slot ∷ space) g counter MISSING_PAGE) (slot ∷ space) page write keeper)
      missing s page (Some port) e = Faults s page address write port e
      missing s page None e = halts MISSING_PAGE

      by : (r : Reach) → reach_word w space address write ≡ r →
          Instructs w space slot g counter (accessed (slot ∷ space) write (halts_with (slot ∷ space) g counter) go r)
      by (Home s page) e = going s page e
      by (Missing s page keeper) e = missing s page keeper e
      by Bad e = halts BAD_ADDRESS

  enters-is : (o : Option (List Stage)) → todo_of g ≡ o → Instructs w space slot g counter (enters (slot ∷ space) g counter o)
  enters-is (Some todo) e = Goes_on _ _ (Enters todo e)
  enters-is None e = Goes_on _ _ (Names_none e)

  performs-is : (act : Act) → Instructs w space slot g counter (performs todo_of w space (slot ∷ space) g counter act)
  performs-is (Put register value) = Goes_on _ _ (Puts register value)
  performs-is (Jump to) = Goes_on _ _ (Jumps to)
  performs-is (Load register address) =
      accessed-is address false (loads w (slot ∷ space) g counter register address) (λ s page home. Goes_on _ _ (Loads register address s page home))
  performs-is (Store address value) =
      accessed-is address true (stores w (slot ∷ space) g counter address value) (λ s page home. Stores address value s page home)
  performs-is (Halt code) = halts code
  performs-is Call = enters-is _ refl

  run_row-is : Instructs w space slot g counter (run_row w space slot g counter)
  unfolding run_row_by
  run_row-is = accessed-is counter false (executes todo_of w space (slot ∷ space) g counter)
      (λ s page home. performs-is (act (word_at w s page counter) g counter))

-- ---- what an option is

data Is {A : Type 0} (o : Option A) : Type 0 where
  Absent : o ≡ None → Is o
  Present : (a : A) → o ≡ Some a → Is o

is : {A : Type 0} (o : Option A) → Is o
is None = Absent refl
is (Some a) = Present a refl

-- ---- native servers

-- the server of a port has no client
abbrev FreeService : World → Path → Type 0
FreeService w port = (is_serving_port w port && is_none (client_at w port)) ≡ true

module _ (w : World) (port : Path) (pick : Option Path) where
  waits : {ask : Ask} → Serves w port pick ask Waits
  waits {ask} = Waits_for_client ask

  serves-when : {ask : Ask} (test : Bool) (o : Outcome) → (test ≡ true → Serves w port pick ask o) → Serves w port pick ask (when test o)
  serves-when true o serves = serves refl
  serves-when false o serves = waits

  takes_up-is : (x : Path) (t : Thread) → FreeService w port → thread_at w x ≡ Some t → is_free w (parent x) t ≡ true → (o : Option Talk) →
      parked_here port t ≡ o → Serves w port pick asks.Accept (takes_up port x o)
  takes_up-is x t service there free None e = waits
  takes_up-is x t service there free (Some talk) e = Takes_up x t talk service there free e

  accepts-is : (x : Path) (t : Thread) → FreeService w port → thread_at w x ≡ Some t → is_free w (parent x) t ≡ true →
      Serves w port pick asks.Accept (accepts_thread w port x t)
  accepts-is x t service there free = by (connects_here w port x t) refl
    where
      by : (b : Bool) → connects_here w port x t ≡ b → Serves w port pick asks.Accept (if b
          then Goes (Alter x (SetTalk (Some (new_talk (At port) Service))) ∷ Alter x (Finish []) ∷ []) (Taken (At port) x false turns.Client 0)
          else takes_up port x (parked_here port t))
      by true e = Accepts x t service there free e
      by false e = takes_up-is x t service there free _ refl

  found-is : (x : Path) (o : Option Thread) → FreeService w port → thread_at w x ≡ o → Serves w port pick asks.Accept (accepts_found w port x o)
  found-is x None service there = waits
  found-is x (Some t) service there = search (serves-when, accepts-is)

  client-is : (picked : Option Path) → FreeService w port → Serves w port pick asks.Accept (takes_client w port picked)
  client-is None service = waits
  client-is (Some x) service = found-is x _ service refl

  accept_row-is : Serves w port pick asks.Accept (accept_row w port pick)
  unfolding accept_row
  accept_row-is = search (serves-when, client-is)

  -- the client of a server whose turn it is, where it is at its Receive
  Going : Ask → (Path → ℕ × ℕ → Outcome) → Type 0
  Going ask go = (x : Path) (t : Thread) (receive : ℕ × ℕ) → client_at w port ≡ Some x → thread_at w x ≡ Some t →
      receiving w (parent x) turns.Client t.mode ≡ Some receive → Serves w port pick ask (go x receive)

  if_receiving-is : {ask : Ask} (x : Path) (go : Path → ℕ × ℕ → Outcome) (t : Thread) → client_at w port ≡ Some x → thread_at w x ≡ Some t →
      Going ask go → Serves w port pick ask (if_receiving w x go t)
  unfolding Going
  if_receiving-is x go t at there going = elim (cases_Bool (is_free w (parent x) t && holds (λ (talk : Talk). same_side talk.turn turns.Server) t.talk)) [
    | inr off ↦ rw off waits
    | inl on ↦ rw on (elim
        (is (receiving w (parent x) turns.Client t.mode)) [ Absent e ↦ rw e waits | Present receive e ↦ rw e (going x t receive at there e) ])
  ]

  with_client-is : {ask : Ask} (go : Path → ℕ × ℕ → Outcome) → Going ask go → Serves w port pick ask (with_client w port go)
  with_client-is go going = elim (cases_Bool (is_serving_port w port)) [
    | inr off ↦ rw off waits
    | inl on ↦ rw on (elim (is (client_at w port)) [
      | Absent e ↦ rw e waits
      | Present x e ↦ rw e (elim (is (thread_at w x)) [ Absent e2 ↦ rw e2 waits | Present t e2 ↦ rw e2 (if_receiving-is x go t e e2 going) ])
    ])
  ]

  module _ (given : List ℕ) (len : ℕ) where
    gives_to-is : Going (asks.Give given len) (gives_to w port (take len given))
    unfolding Going
    gives_to-is x t receive at there e = by (receive.1 == 0) refl
      where
        given_by : (r : Reach) → reach_word w (parent x) receive.0 true ≡ r → Serves w port pick (asks.Give given len)
            (their_page_at (gives_words w port x (take len given) receive.0 receive.1) r)
        given_by (Home s page) home = Gives_words given len x t receive s page there e home
        given_by (Missing s page keeper) home = waits
        given_by Bad home = waits

        by : (b : Bool) → (receive.1 == 0) ≡ b → Serves w port pick (asks.Give given len) (if b then Goes (Alter x (End FULL []) ∷ []) (Full (At port))
            else their_page w (parent x) receive.0 (gives_words w port x (take len given) receive.0 receive.1))
        by true full = Finds_no_room given len x t receive there e full
        by false full = given_by _ refl

    give_row-is : (words : List ℕ) → take len given ≡ words → Serves w port pick (asks.Give given len) (give_row w port words)
    unfolding give_row
    give_row-is [] e = serves-when (is_serving_port w port && has_turn w port) (Goes [] (Given (At port) 0)) (λ turn. Gives_nothing given len)
    give_row-is (word ∷ words) e = with_client-is (gives_to w port (word ∷ words)) (rw e at gives_to-is)

  over_row-is : Serves w port pick asks.Over (over_row w port)
  unfolding over_row Going
  over_row-is = with_client-is (passes_client w port) (λ x t receive at there e. Passes_client x _ at refl)

-- ---- who moves

module _ (w : World) (x : Path) (pick : Option Path) where
  lists-when : {ask : Ask} (test : Bool) (o : Outcome) → (test ≡ true → Lists w x pick ask o) → Lists w x pick ask (when test o)
  lists-when true o lists = lists refl
  lists-when false o lists = Moves_not _

  -- an act isn't refused
  acted-is : {ask : Ask} (o : Outcome) → Serves w x pick ask o → Lists w x pick ask (with_pick false pick o)
  acted-is (Goes cs said) serves = lists-when (is_none pick) (Goes cs said) (λ e. Acts _ _ serves)
  acted-is Waits serves = Moves_not _
  acted-is (Refused status) serves = elim serves [ ]

  ran-is : (t : Thread) (g : List ℕ) (o : Outcome) → thread_at w x ≡ Some t → is_free w (parent x) t ≡ true → t.mode ≡ Running g →
      Instructs w (parent x) (slot_of x) g t.counter o → Lists w x pick asks.Run (with_pick false pick o)
  ran-is t g (Goes cs said) there free at is = lists-when (is_none pick) (Goes cs said) (λ e. Runs t g _ there free at is)
  ran-is t g Waits there free at is = Moves_not _
  ran-is t g (Refused status) there free at is = elim is [ ]

  -- a stage that goes, and one that is refused
  called-is : (ask : Ask) (c : Caller) (chosen : Bool) (stage : Stage) (o : Outcome) → Step w c pick stage o →
      ((cs : List Change) (said : Said) → Step w c pick stage (Goes cs said) → Lists w x pick ask (Goes cs said)) →
      ((status : ℕ) → Lists w x pick ask (closed c (Refused status))) → Lists w x pick ask (closed c (with_pick chosen pick o))
  called-is ask c chosen stage (Goes cs said) step goes refuses = by (chosen || is_none pick)
    where
      by : (t : Bool) → Lists w x pick ask (closed c (when t (Goes cs said)))
      by true = goes cs said step
      by false = Moves_not _
  called-is ask c chosen stage Waits step goes refuses = Moves_not _
  called-is ask c chosen stage (Refused status) step goes refuses = by (is_none pick)
    where
      by : (t : Bool) → Lists w x pick ask (closed c (when t (Refused status)))
      by true = refuses status
      by false = Moves_not _

  call_row-is : (ask : Ask) (c : Caller) (stage : Stage) →
      ((cs : List Change) (said : Said) → is_denied c stage ≡ false → Step w c pick stage (Goes cs said) → Lists w x pick ask (Goes cs said)) →
      ((status : ℕ) → Lists w x pick ask (closed c (Refused status))) → Lists w x pick ask (call_row w c pick stage)
  unfolding call_row
  call_row-is ask c stage goes refuses = by (is_denied c stage) refl
    where
      denied : (t : Bool) → Lists w x pick ask (closed c (when t (Refused DENIED)))
      denied true = refuses DENIED
      denied false = Moves_not ask

      by : (t : Bool) → is_denied c stage ≡ t →
          Lists w x pick ask (closed c (with_pick (chooses stage) pick (if t then Refused DENIED else stage_row w c pick stage)))
      by true e = denied (is_none pick)
      by false e = called-is ask c (chooses stage) stage (stage_row w c pick stage) (stage-step w c pick stage) (λ cs said step. goes cs said e step) refuses

  goes_on-is : (t : Thread) → thread_at w x ≡ Some t → is_free w (parent x) t ≡ true → (mode : Mode) → t.mode ≡ mode →
      Lists w x pick asks.Run (goes_on w x pick t mode)
  goes_on-is t there free (Running g) at = ran-is t g _ there free at (run_row-is w (parent x) (slot_of x) g t.counter)
  goes_on-is t there free (Calling (stage ∷ todo) rest) at = call_row-is asks.Run (user_at x) stage
      (λ cs said user step. Calls t stage todo rest cs said there free at user step) (λ status. Is_told_no t stage todo rest status there free at)
  goes_on-is t there free mode at = Moves_not _

  user_move-is : (o : Option Thread) → thread_at w x ≡ o → Lists w x pick asks.Run (user_move w x pick o)
  user_move-is None there = Moves_not _
  user_move-is (Some t) there = lists-when (is_free w (parent x) t) (goes_on w x pick t t.mode) (λ free. goes_on-is t there free t.mode refl)

  porter_move-is : (stage : Stage) (words : List ℕ) (o : Option Thread) → thread_at w x ≡ o →
      Lists w x pick (asks.Call stage words) (porter_move w x pick stage words o)
  porter_move-is stage words None there = Moves_not _
  porter_move-is stage words (Some t) there =
      lists-when (is_porter t.mode && is_unheld w (parent x)) (call_row w (porter_at x words) pick stage)
      (λ unheld. call_row-is (asks.Call stage words) (porter_at x words) stage (λ cs said porter step. Asks t stage words cs said there unheld porter step)
      (λ status. Is_answered_no t stage words status there))

pub moves-listed : MovesAreListed
unfolding outcome
moves-listed w x pick asks.Run = user_move-is w x pick _ refl
moves-listed w x pick (asks.Call stage words) = porter_move-is w x pick stage words _ refl
moves-listed w x pick asks.Accept = Acts asks.Accept _ (accept_row-is w x pick)
moves-listed w x pick (asks.Give words len) = acted-is w x pick _ (give_row-is w x pick words len _ refl)
moves-listed w x pick asks.Over = acted-is w x pick _ (over_row-is w x pick)
