-- How a move of the world looks from within a subtree: as a move of its own, as something that the outside does to it, as
-- nothing, or as something else, of which no law speaks.
use Rattle.std.specs.Prelude.{◌≡◌, ◌⊎◌, ℕ, Bool, true, false, not, ◌&&◌, ◌||◌, is_none, List, [], ◌∷◌, Option, Some, None, Result, Ok, Err, option_map}
use Rattle.std.specs.Prelude.{unwrap_or, if◌then◌else◌}
use Rattle.std.specs.List.{list_any}
use Rattle.std.specs.Option.{option_map_or}
use Rattle.fk_model.specs.declared.moves.Ask.{Ask}
use Rattle.fk_model.specs.declared.moves.Ask.TheVariants as asks
use Rattle.fk_model.specs.declared.stage.Stage.{Stage}
use Rattle.fk_model.specs.declared.stage.Stage.TheVariants.{Wait, ServerSend, ServerOver, ServerEnd, ServerOverRef, PageGive, PageTake, ClientSend}
use Rattle.fk_model.specs.declared.stage.Stage.TheVariants as stages
use Rattle.fk_model.specs.declared.thread.Turn.TheVariants as turns
use Rattle.fk_model.specs.Places.{Path, same_path, strip, is_within, parent, slot_of, Ptr}
use Rattle.fk_model.specs.Places.Ptr.{Null, Dead, At}
use Rattle.fk_model.specs.Objects.{Talk, Fault, Thread, reference_of, and_then, holds}
use Rattle.fk_model.specs.World.{World, Change}
use Rattle.fk_model.specs.World.Change.{Alter, PutPage, DropPage}
use Rattle.fk_model.specs.World.Edit.{End, SetTalk, CountMoved, PassTurn, SetFault}
use Rattle.fk_model.specs.Searches.{talk_at, fault_at, client_of, faulter_of, client_at, pointers, thread_at}
use Rattle.fk_model.specs.Outcomes.{Said, Outcome, Caller, path_of, listed}
use Rattle.fk_model.specs.Outcomes.Outcome.{Refused, Waits, Goes}
use Rattle.fk_model.specs.Outcomes.Said.{Nothing as SaidNothing, Taken as SaidTaken}
use Rattle.fk_model.specs.Readers.{space_argument}
use Rattle.fk_model.specs.Talks.{receiving, first_stage}
use Rattle.fk_model.specs.TransferRows.{block}
use Rattle.fk_model.specs.LinkRows.{Candidate, candidate, user_at}
use Rattle.fk_model.specs.LinkRows.Candidate.{Faulting, Connecting, Resuming}
use Rattle.fk_model.specs.Moves.{outcome, porter_at}
use Rattle.fk_model.specs.Runs.{Event, after}
use Rattle.fk_model.specs.Cut.{cut, cut_ptr, ports_of, is_far, is_inner_peer}
use Rattle.fk_model.specs.NativeRows.{awaited_at}
use Rattle.fk_model.specs.Further.{Touch, Onward}
use Rattle.fk_model.specs.Further.Touch.{Taken, Given, Filled, Handed, HandedWith, Left, FaultTaken, FaultDone, PageGiven, PageTaken}
use Rattle.fk_model.specs.Further.Onward.{Own, ByOthers}

pub data Seen : Type 0 where
  Onwards : (move : Onward) → Seen
  Unseen : Seen
  Other : Seen

-- ---- what is read of a row's changes

-- how many words a talk has moved
abbrev pub count_set : List Change → Option ℕ
count_set [] = None
count_set (Alter x (CountMoved k) ∷ cs) = Some k
count_set (c ∷ cs) = count_set cs

-- the words of the first page that is put
abbrev pub page_put : List Change → Option (List ℕ)
page_put [] = None
page_put (PutPage s page words ∷ cs) = Some words
page_put (c ∷ cs) = page_put cs

abbrev pub drops_page : List Change → Bool
drops_page [] = false
drops_page (DropPage s page ∷ cs) = true
drops_page (c ∷ cs) = drops_page cs

-- a turn is passed
abbrev pub passes_turn : List Change → Bool
passes_turn [] = false
passes_turn (Alter x (PassTurn turn) ∷ cs) = true
passes_turn (c ∷ cs) = passes_turn cs

-- a talk is ended
abbrev pub ends_talk : List Change → Bool
ends_talk [] = false
ends_talk (Alter x (SetTalk None) ∷ cs) = true
ends_talk (c ∷ cs) = ends_talk cs

-- a page within the subtree is put
abbrev pub writes_inside : Path → List Change → Bool
writes_inside root [] = false
writes_inside root (PutPage s page words ∷ cs) = is_within root s || writes_inside root cs
writes_inside root (c ∷ cs) = writes_inside root cs

-- nothing but the end of an outside call: a Send that met no room
abbrev pub only_fills : Path → List Change → Bool
only_fills root (Alter x (End status answers) ∷ []) = not (is_within root x)
only_fills root other = false

-- a thread inside comes to serve one outside
abbrev pub serves_outside : Path → List Change → Bool
serves_outside root [] = false
serves_outside root (Alter x (SetTalk (Some talk)) ∷ cs) = (not (is_within root x) && is_inner_peer root talk.peer) || serves_outside root cs
serves_outside root (Alter x (SetFault (Some fault)) ∷ cs) = (not (is_within root x) && holds (is_inner_peer root) fault.taker) || serves_outside root cs
serves_outside root (c ∷ cs) = serves_outside root cs

-- ---- a mover inside

abbrev pub is_send : Stage → Bool
is_send (ClientSend address count) = true
is_send other = false

abbrev pub leads_out : Path → Ptr → Bool
leads_out root (At x) = not (is_within root x)
leads_out root Null = false
leads_out root Dead = false
leads_out root other = true

-- it sends to a peer outside
abbrev pub sends_out : World → Path → Path → Bool
sends_out w root x = holds (λ (t : Thread). holds is_send (first_stage t.mode) && holds (λ (talk : Talk). leads_out root talk.port) t.talk) (thread_at w x)

abbrev pub words_out : World → Path → Path → List Change → ℕ
words_out w root x changes = if sends_out w root x then unwrap_or (count_set changes) 0 else 0

abbrev pub picked_inside : Path → Option Path → Option (Option Path)
picked_inside root None = Some None
picked_inside root (Some x) = option_map (λ q. Some q) (strip root x)

-- a move of its own, where it picks nobody outside. A Send to a peer outside that has no room is none
abbrev pub own_of : World → Path → Path → Path → Option Path → List Change → Option Onward
own_of w root x q pick changes =
    if sends_out w root x && only_fills root changes then None
    else option_map (λ p. Own q p (words_out w root x changes)) (picked_inside root pick)

-- ---- a mover outside. Each row is seen where its stage is done

-- k words from the receiver's address on, out of the page that was put
abbrev pub received_words : World → Path → ℕ → List ℕ → List ℕ
received_words w x k page =
    option_map_or (λ (receive : ℕ × ℕ). block k receive.0 page) (and_then (λ (t : Thread). receiving w (parent x) turns.Client t.mode) (thread_at w x)) []

abbrev pub fills : Path → List Change → Bool
fills x (Alter y (End status answers) ∷ []) = same_path y x
fills x other = false

-- words for the thread at x, q from the root, or no room for them
abbrev pub given_by : World → Path → Path → List Change → Option ℕ → Option (List ℕ) → Option Touch
given_by w x q changes (Some k) (Some page) = Some (Given q (received_words w x k page))
given_by w x q changes count page = if fills x changes then Some (Filled q) else None

abbrev pub given_of : World → List Change → Path → Path → Option Touch
given_of w changes x q = given_by w x q changes (count_set changes) (page_put changes)

-- a touch of the thread at x, where that lies inside
abbrev pub on_inner : Path → (Path → Path → Option Touch) → Option Path → Option Touch
on_inner root touch thread = and_then (λ x. and_then (touch x) (strip root x)) thread

-- a parked talk or fault that is taken up is no touch
abbrev pub taken_as : Path → Option Candidate → Option Touch
taken_as q (Some (Connecting slot)) = Some (Taken q)
taken_as q (Some (Faulting slot fault)) = if is_none fault.taker then Some (FaultTaken q) else None
taken_as q (Some (Resuming slot talk)) = None
taken_as q None = None

-- a pointer, as the subtree names it
abbrev pub named : World → Path → Ptr → Ptr
named w root p = cut_ptr (ports_of w (parent root) (slot_of root)) (parent root) (slot_of root) p

-- the turn is handed to a thread, with a pointer where it awaits one. One that leads elsewhere than inside or to a port of the nester is no touch
abbrev pub handed_as : Path → Option ℕ → Ptr → Option Touch
handed_as q None p = Some (Handed q)
handed_as q (Some k) p = if is_far p then None else Some (HandedWith q p)

abbrev pub handed_by : World → Path → Option Ptr → Path → Path → Option Touch
handed_by w root None x q = Some (Handed q)
handed_by w root (Some p) x q = handed_as q (awaited_at w x) (named w root p)

abbrev pub over_touch : World → Path → Caller → List Change → Option Ptr → Option Touch
over_touch w root c changes carried = if passes_turn changes then on_inner root (handed_by w root carried) (client_of w (path_of c)) else None

abbrev pub page_given : Path → ℕ → Option (List ℕ) → Option Touch
page_given q page None = None
page_given q page (Some words) = Some (PageGiven q page words)

abbrev pub on_place : Path → (Path → Option Touch) → Result Path ℕ → Option Touch
on_place root touch (Ok s) = and_then touch (strip root s)
on_place root touch (Err status) = None

abbrev pub stage_touch : World → Path → Caller → Option Path → List Change → Stage → Option Touch
stage_touch w root c pick changes (Wait set) = on_inner root (λ x q. taken_as q (candidate w c.space set x)) pick
stage_touch w root c pick changes (ServerSend address count) = on_inner root (given_of w changes) (client_of w (path_of c))
stage_touch w root c pick changes ServerOver = over_touch w root c changes None
stage_touch w root c pick changes (ServerOverRef reference) = over_touch w root c changes (and_then reference_of (w.body (reference ∷ c.space)))
stage_touch w root c pick changes ServerEnd = if ends_talk changes then on_inner root (λ x q. Some (Left q)) (client_of w (path_of c)) else None
stage_touch w root c pick changes stages.FaultDone = on_inner root (λ x q. Some (FaultDone q)) (faulter_of w (path_of c))
stage_touch w root c pick changes (PageGive s page address) = on_place root (λ q. page_given q page (page_put changes)) (space_argument w c s)
stage_touch w root c pick changes (PageTake s page address) =
    if drops_page changes then on_place root (λ q. Some (PageTaken q page)) (space_argument w c s) else None
stage_touch w root c pick changes other = None

-- ---- native servers

abbrev pub is_resumed : Said → Bool
is_resumed (SaidTaken port client resumed turn moved) = resumed
is_resumed other = false

abbrev pub accepted : Said → Path → Path → Option Touch
accepted told x q = if is_resumed told then None else Some (Taken q)

abbrev pub outcome_said : Outcome → Said
outcome_said (Goes changes told) = told
outcome_said (Refused status) = SaidNothing
outcome_said Waits = SaidNothing

-- ---- the row of a move

abbrev pub caller_stage : World → Path → Option Stage
caller_stage w x = and_then (λ (t : Thread). first_stage t.mode) (thread_at w x)

abbrev pub outer_touch : World → Path → Path → Option Path → Ask → Outcome → Option Touch
outer_touch w root x pick asks.Run o = and_then (stage_touch w root (user_at x) pick (listed o)) (caller_stage w x)
outer_touch w root x pick (asks.Call stage words) o = stage_touch w root (porter_at x words) pick (listed o) stage
outer_touch w root x pick asks.Accept o = on_inner root (accepted (outcome_said o)) pick
outer_touch w root x pick (asks.Give words len) o = on_inner root (given_of w (listed o)) (client_at w x)
outer_touch w root x pick asks.Over o = on_inner root (λ y q. Some (Handed q)) (client_at w x)

abbrev pub row_of : World → Path → Event → Outcome → Option Path → Option Onward
row_of w root e o (Some q) = own_of w root e.mover q e.pick (listed o)
row_of w root e o None = option_map ByOthers (outer_touch w root e.mover e.pick e.ask o)

-- the row of the table that a move fits, if any
abbrev pub seen_row : World → Path → Event → Option Onward
seen_row w root e = row_of w root e (outcome w e.mover e.pick e.ask) (strip root e.mover)

abbrev pub is_page_row : Onward → Bool
is_page_row (ByOthers (Given x words)) = true
is_page_row (ByOthers (PageGiven s page words)) = true
is_page_row other = false

-- a page inside is written through a mapping that lies outside: by an outside mover on its own account, or by words for a peer outside
abbrev pub writes_through : World → Path → Event → List Change → Bool
writes_through w root e changes =
    writes_inside root changes && (if is_within root e.mover then sends_out w root e.mover else not (holds is_page_row (seen_row w root e)))

abbrev pub changes_of : World → Event → List Change
changes_of w e = listed (outcome w e.mover e.pick e.ask)

-- the move fits no row of the table, or writes through a mapping outside, whatever row it fits
abbrev pub FitsNoRow : World → Path → Event → Type 0
FitsNoRow w root e = (writes_through w root e (changes_of w e) ≡ true) ⊎ (seen_row w root e ≡ None)

-- it leaves the subtree as it was, and nobody in it comes to serve the outside
abbrev pub LeavesCut : World → Path → ℕ → Event → Type 0
LeavesCut w nester slot e = (cut (after w e) nester slot ≡ cut w nester slot) × (serves_outside (slot ∷ nester) (changes_of w e) ≡ false)

-- how the subtree in a slot of a nester sees a move
abbrev pub IsSeen : World → Path → ℕ → Event → Seen → Type 0
IsSeen w nester slot e (Onwards m) = (writes_through w (slot ∷ nester) e (changes_of w e) ≡ false) × (seen_row w (slot ∷ nester) e ≡ Some m)
IsSeen w nester slot e Unseen = FitsNoRow w (slot ∷ nester) e × LeavesCut w nester slot e
IsSeen w nester slot e Other = FitsNoRow w (slot ∷ nester) e × (LeavesCut w nester slot e → ⊥)

-- ---- strangers

abbrev pub leads_near : Path → Ptr → Bool
leads_near root (At x) = is_within x root || is_within root x
leads_near root other = false

abbrev pub is_led_near : World → Path → Path → Bool
is_led_near w root x = holds (λ b. list_any (leads_near root) (pointers b)) (w.body x)

abbrev pub leads_inside : Path → Ptr → Bool
leads_inside root (At x) = is_within root x
leads_inside root other = false

-- a thread outside whose space isn't above the subtree, in whose space no pointer leads to a space above it or to anything
-- inside, and which has no talk and no fault at a port inside
pub record IsStranger (w : World) (nester : Path) (slot : ℕ) (x : Path) : Type 0 where
  pub outside : is_within (slot ∷ nester) x ≡ false
  pub aside : is_within (parent x) (slot ∷ nester) ≡ false
  pub apart : (k : ℕ) → is_led_near w (slot ∷ nester) (k ∷ parent x) ≡ false
  pub no_talk : holds (λ (talk : Talk). leads_inside (slot ∷ nester) talk.port) (talk_at w x) ≡ false
  pub no_fault : holds (λ (fault : Fault). leads_inside (slot ∷ nester) fault.port) (fault_at w x) ≡ false
