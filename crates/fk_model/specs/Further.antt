-- The further runs of a subtree that is seen alone: what it does by itself, and what the outside does to it.
--
-- Movers, picks, threads and spaces are named by their paths in the subtree. A peer outside is taken to be free, and to
-- stand at the Receive that a Send or an Over needs; how many words it takes is said with the move. Of what the outside
-- does, only the inside half is made.
use Rattle.std.specs.Prelude.{◌≡◌, ℕ, ◌%◌, min, Bool, true, false, not, ◌&&◌, ◌||◌, ◌==◌, nat_le, nat_lt, is_none, is_some, List, [], ◌∷◌, ◌++◌, length, Option}
use Rattle.std.specs.Prelude.{Some, None, if◌then◌else◌}
use Rattle.std.specs.List.{flat_map}
use Rattle.fk_model.specs.declared.limits.TheConstants.{PAGE_WORDS, BLOCK_WORDS}
use Rattle.fk_model.specs.declared.statuses.status.TheConstants.{FULL, ENDED}
use Rattle.fk_model.specs.declared.stage.Stage.{Stage}
use Rattle.fk_model.specs.declared.stage.Stage.TheVariants.{ClientSend, ClientOver, ClientOverRef, ServerOverRef}
use Rattle.fk_model.specs.declared.thread.Turn.TheVariants as turns
use Rattle.fk_model.specs.Places.{Path, parent, Ptr}
use Rattle.fk_model.specs.Places.Ptr.{Outside}
use Rattle.fk_model.specs.Objects.{Mode, Peer, Talk, Fault, Thread, space_of, reference_of, and_then, holds}
use Rattle.fk_model.specs.Objects.Mode.{Calling}
use Rattle.fk_model.specs.Objects.Peer.{Server}
use Rattle.fk_model.specs.World.{World, Change, apply_all}
use Rattle.fk_model.specs.World.Change.{Alter, Kill, PutPage, DropPage}
use Rattle.fk_model.specs.World.Edit.{SetPointer, Shift, Finish, End, SetTalk, CountMoved, PassTurn, SetFault, SetTaker}
use Rattle.fk_model.specs.Searches.{talk_at, thread_at}
use Rattle.fk_model.specs.Reach.{words_at}
use Rattle.fk_model.specs.Holds.{is_free, is_unheld, is_frozen}
use Rattle.fk_model.specs.Outcomes.{Said, Outcome, ◌>>=◌, when, Caller, path_of, done, telling}
use Rattle.fk_model.specs.Outcomes.Outcome.{Refused, Waits, Goes}
use Rattle.fk_model.specs.Outcomes.Said.{Nothing, Words, Passed}
use Rattle.fk_model.specs.Readers.{object_in, own_page, their_page}
use Rattle.fk_model.specs.Talks.{Line, receiving, awaited, first_stage, path_to, same_side, is_talking}
use Rattle.fk_model.specs.TransferRows.{in_turn, has_sent, block, to_page_end, overwritten, moved_words, passes, takes_turn, may_carry}
use Rattle.fk_model.specs.LinkRows.{connecting_to, new_talk, user_at}
use Rattle.fk_model.specs.Freezing.{AreAllowed}
use Rattle.fk_model.specs.Moves.{closed, user_move, goes_on}
use Rattle.fk_model.specs.Cut.{is_out, is_far, is_outer}
use Rattle.fk_model.specs.StateRows.{referable}
use Rattle.fk_model.specs.Valid.{kind_there, may_lead}

-- ---- what the outside does to a subtree

pub data Touch : Type 0 where
  -- it accepts a thread at its Connect
  Taken : (thread : Path) → Touch
  -- it sends words to a thread, or finds no room there
  Given : (thread : Path) (words : List ℕ) → Touch
  Filled : (thread : Path) → Touch
  -- it hands a thread the turn, alone or with a pointer for the reference that awaits one, or ends its talk
  Handed : (thread : Path) → Touch
  HandedWith : (thread : Path) (pointer : Ptr) → Touch
  Left : (thread : Path) → Touch
  -- it takes the fault of a thread, or ends it
  FaultTaken : (thread : Path) → Touch
  FaultDone : (thread : Path) → Touch
  -- it gives a space a page, or takes one
  PageGiven : (space : Path) (page : ℕ) (words : List ℕ) → Touch
  PageTaken : (space : Path) (page : ℕ) → Touch

pub data Onward : Type 0 where
  -- a thread of the subtree moves, and a peer outside takes so many words of it
  Own : (mover : Path) (pick : Option Path) (taken : ℕ) → Onward
  ByOthers : (touch : Touch) → Onward

-- what the outside is told, by a thread, at a port
pub data Told : Type 0 where
  ToldWords : (thread : Path) (port : Ptr) (words : List ℕ) → Told
  -- and the pointer that goes with it, if one does
  ToldOver : (thread : Path) (port : Ptr) (carried : Option Ptr) → Told
  ToldEnd : (thread : Path) (port : Ptr) → Told
  ToldFault : (thread : Path) (port : Ptr) (page : ℕ) (write : Bool) → Told

-- ---- a move of the subtree's own

abbrev pub is_outside : Peer → Bool
is_outside (Server Outside) = true
is_outside other = false

-- a peer outside takes at least one word, and no more than the sender's side allows
abbrev pub takes_words : Caller → Path → Ptr → ℕ → ℕ → ℕ → List ℕ → Outcome
takes_words c client port taken address count page =
    when (nat_lt 0 taken && nat_le taken (moved_words address count 0 BLOCK_WORDS))
    (has_sent c taken count (Alter client (CountMoved taken) ∷ []) (Words port (block taken address page)))

abbrev pub sends_outside : World → Caller → ℕ → ℕ → ℕ → Line → Outcome
sends_outside w c taken address count l =
    if count == 0 then done c [] []
    else own_page w c address false (λ s page. takes_words c l.client l.talk.port taken address count (words_at w s page))

abbrev pub passes_outside : World → Caller → Option Ptr → Line → Outcome
passes_outside w c carried l = when (may_carry w (path_of c) carried) (telling (Passed l.talk.port) (passes c turns.Client l.client []))

abbrev pub over_outside : World → Caller → Option Ptr → Outcome
over_outside w c carried = in_turn w (path_of c) turns.Client turns.Client >>= passes_outside w c carried

abbrev pub talks_outside : World → Path → Bool
talks_outside w x = holds (λ (talk : Talk). is_outside talk.peer) (talk_at w x)

-- a stage of a thread whose talk's peer is outside
abbrev pub outside_row : World → Caller → ℕ → Stage → Outcome → Outcome
outside_row w c taken (ClientSend address count) otherwise = in_turn w (path_of c) turns.Client turns.Client >>= sends_outside w c taken address count
outside_row w c taken ClientOver otherwise = over_outside w c None
outside_row w c taken (ClientOverRef reference) otherwise = object_in w c reference_of c.space reference >>= λ p. over_outside w c (Some p)
outside_row w c taken other otherwise = otherwise

abbrev pub own_stage : World → Path → Option Path → ℕ → Mode → Outcome → Outcome
own_stage w x pick taken (Calling (stage ∷ todo) rest) otherwise = closed (user_at x) (outside_row w (user_at x) taken stage otherwise)
own_stage w x pick taken other otherwise = otherwise

abbrev pub own_move : World → Path → Option Path → ℕ → Thread → Outcome
own_move w x pick taken t =
    if talks_outside w x && is_none pick
    then when (is_free w (parent x) t) (own_stage w x pick taken t.mode (goes_on w x pick t t.mode))
    else user_move w x pick (Some t)

abbrev pub own_row : World → Path → Option Path → ℕ → Option Thread → Outcome
own_row w x pick taken None = Waits
own_row w x pick taken (Some t) = own_move w x pick taken t

-- words go to a port outside
abbrev pub goes_out : Outcome → Bool
goes_out (Goes changes (Words port words)) = is_out port
goes_out other = false

-- how many words a peer outside takes stands with a move that moves it some; with every other move stands 0
abbrev pub counted : ℕ → Outcome → Outcome
counted taken o = when (taken == 0 || goes_out o) o

-- ---- the inside half of what others do

abbrev pub on_found : {A : Type 0} → (A → Outcome) → Option A → Outcome
on_found go None = Waits
on_found go (Some a) = go a

abbrev pub is_outside_talk : Talk → Bool
is_outside_talk talk = is_out talk.port && is_outside talk.peer

-- a free thread at its Connect to a port outside
abbrev pub taken_at : World → Path → Ptr → Outcome
taken_at w x port = when (is_out port) (Goes (Alter x (SetTalk (Some (new_talk port (Server Outside)))) ∷ Alter x (Finish []) ∷ []) Nothing)

-- a free thread with a talk outside, at the server's turn and at its Receive
abbrev pub if_awaiting : World → Path → (ℕ × ℕ → Outcome) → Thread → Outcome
if_awaiting w x go t =
    when (is_free w (parent x) t && holds (λ (talk : Talk). is_outside_talk talk && same_side talk.turn turns.Server) t.talk)
    (on_found go (receiving w (parent x) turns.Client t.mode))

abbrev pub given_at : World → Path → List ℕ → ℕ → Path → ℕ → Outcome
given_at w x words into s page =
    Goes (PutPage s page (overwritten (words_at w s page) (into % PAGE_WORDS) words)
    ∷ Alter x (CountMoved (length words)) ∷ Alter x (Shift (length words)) ∷ []) Nothing

-- a block that the other side gives: at least one word, and no more than the receiver's side allows. A page that a hold inside freezes takes
-- none, since a free receiver says that nobody holds the subtree itself
abbrev pub given_to : World → Path → List ℕ → ℕ × ℕ → Outcome
given_to w x words receive =
    when (nat_lt 0 (length words) && nat_le (length words) (min BLOCK_WORDS (min receive.1 (to_page_end receive.0))))
    (their_page w (parent x) receive.0 (λ s page. when (is_unheld w s) (given_at w x words receive.0 s page)))

abbrev pub filled_at : Path → ℕ × ℕ → Outcome
filled_at x receive = when (receive.1 == 0) (Goes (Alter x (End FULL []) ∷ []) Nothing)

abbrev pub handed_to : Path → Option ℕ → ℕ × ℕ → Outcome
handed_to x to receive = Goes (Alter x (PassTurn turns.Client) ∷ takes_turn x None to) Nothing

-- a pointer that a reference may hold, as the subtree names it: to nothing, to something inside, or to a port outside
abbrev pub is_named : World → Ptr → Bool
is_named w p = not (is_far p || is_outer p) && may_lead (kind_there w) referable p

-- a pointer leads to what is held, or beneath it
abbrev pub leads_to_held : World → Ptr → Bool
leads_to_held w p = holds (is_frozen w) (path_to p)

-- the reference in a slot of this space may take a pointer: neither that, nor what it held, leads to what a hold inside freezes
abbrev pub may_take : World → Path → Ptr → ℕ → Bool
may_take w space p k = is_named w p && not (leads_to_held w p) && not (holds (leads_to_held w) (and_then reference_of (w.body (k ∷ space))))

abbrev pub handed_with : World → Path → Ptr → Option ℕ → ℕ × ℕ → Outcome
handed_with w x p None receive = Waits
handed_with w x p (Some k) receive =
    when (may_take w (parent x) p k) (Goes (Alter (k ∷ parent x) (SetPointer p) ∷ Alter x (PassTurn turns.Client) ∷ Alter x (Finish (1 ∷ [])) ∷ []) Nothing)

abbrev pub left_by_peer : Path → Thread → Outcome
left_by_peer x t =
    when (holds is_outside_talk t.talk)
    (Goes ((if is_talking turns.Client t.mode then Alter x (End ENDED []) ∷ [] else []) ++ Alter x (SetTalk None) ∷ []) Nothing)

-- the fault of a thread that isn't held: raised, or taken by someone outside
abbrev pub fault_taken_outside : World → Path → Thread → Outcome
fault_taken_outside w x t = when (is_unheld w (parent x) && holds (λ (fault : Fault). is_out fault.port && is_none fault.taker) t.fault)
    (Goes (Alter x (SetTaker (Some (Server Outside))) ∷ []) Nothing)

abbrev pub done_fault : World → Path → Thread → Outcome
done_fault w x t = when (is_unheld w (parent x) && holds (λ (fault : Fault). is_out fault.port && holds is_outside fault.taker) t.fault)
    (Goes (Alter x (SetFault None) ∷ []) Nothing)

unfoldable pub touch_row : World → Touch → Outcome
touch_row w (Taken x) = on_found (λ (t : Thread). when (is_free w (parent x) t) (on_found (taken_at w x) (connecting_to w x t))) (thread_at w x)
touch_row w (Given x words) = on_found (if_awaiting w x (given_to w x words)) (thread_at w x)
touch_row w (Filled x) = on_found (if_awaiting w x (filled_at x)) (thread_at w x)
touch_row w (Handed x) = on_found (λ (t : Thread). if_awaiting w x (handed_to x (awaited t.mode)) t) (thread_at w x)
touch_row w (HandedWith x p) = on_found (λ (t : Thread). if_awaiting w x (handed_with w x p (awaited t.mode)) t) (thread_at w x)
touch_row w (Left x) = on_found (left_by_peer x) (thread_at w x)
touch_row w (FaultTaken x) = on_found (fault_taken_outside w x) (thread_at w x)
touch_row w (FaultDone x) = on_found (done_fault w x) (thread_at w x)
touch_row w (PageGiven s page words) = when (is_some (and_then space_of (w.body s)) && is_none (w.page s page)) (Goes (PutPage s page words ∷ []) Nothing)
touch_row w (PageTaken s page) = when (is_some (w.page s page)) (Goes (DropPage s page ∷ []) Nothing)

-- ---- runs

unfoldable pub onward_row : World → Onward → Outcome
onward_row w (Own x pick taken) = counted taken (own_row w x pick taken (thread_at w x))
onward_row w (ByOthers touch) = touch_row w touch

-- what the freezing rule asks: of a thread of the subtree as ever. What others do is barred where its row says so alone
abbrev pub OnwardAllowed : World → Onward → List Change → Type 0
OnwardAllowed w (Own x pick taken) changes = AreAllowed w x changes
OnwardAllowed w (ByOthers touch) changes = Unit {0}

-- a talk that ends, and a fault that is raised, at a port outside
abbrev pub ends_told : Path → Option Talk → List Told
ends_told x None = []
ends_told x (Some talk) = if is_out talk.port then ToldEnd x talk.port ∷ [] else []

abbrev pub told_fault : Path → Fault → List Told
told_fault x fault = if is_out fault.port && is_none fault.taker then ToldFault x fault.port fault.page fault.write ∷ [] else []

abbrev pub told_by_change : World → Change → List Told
told_by_change w (Kill x) = ends_told x (talk_at w x)
told_by_change w (Alter x (SetTalk None)) = ends_told x (talk_at w x)
told_by_change w (Alter x (SetFault (Some fault))) = told_fault x fault
told_by_change w other = []

-- the pointer that goes with the turn, where a thread's stage hands one on
abbrev pub reference_handed : Stage → Option ℕ
reference_handed (ClientOverRef reference) = Some reference
reference_handed (ServerOverRef reference) = Some reference
reference_handed other = None

abbrev pub carried_by : World → Path → Option Ptr
carried_by w x = and_then (λ k. and_then reference_of (w.body (k ∷ parent x)))
    (and_then (λ (t : Thread). and_then reference_handed (first_stage t.mode)) (thread_at w x))

abbrev pub told_by_said : World → Path → Said → List Told
told_by_said w x (Words port words) = ToldWords x port words ∷ []
told_by_said w x (Passed port) = ToldOver x port (carried_by w x) ∷ []
told_by_said w x other = []

-- the outside hears of the subtree's own moves alone
abbrev pub told_by : World → Onward → List Change → Said → List Told
told_by w (Own x pick taken) changes said = flat_map (told_by_change w) changes ++ told_by_said w x said
told_by w (ByOthers touch) changes said = []

abbrev pub OnwardTo : World → Onward → Outcome → List Told → World → Type 0
OnwardTo w m (Goes changes said) told after = OnwardAllowed w m changes × (told ≡ told_by w m changes said) × (after ≡ apply_all changes w)
OnwardTo w m (Refused status) told after = ⊥
OnwardTo w m Waits told after = ⊥

-- one move is ready, tells this, and leaves this
abbrev pub IsOnward : World → Onward → List Told → World → Type 0
IsOnward w m told after = OnwardTo w m (onward_row w m) told after

-- a list of moves is ready, each at its place, tells this, and leaves this
pub data IsFurther : World → List Onward → List Told → World → Type 0 where
  Still : (c : World) → IsFurther c [] [] c
  Then : (c d e : World) (m : Onward) (ms : List Onward) (told later : List Told) →
      IsOnward c m told d → IsFurther d ms later e → IsFurther c (m ∷ ms) (told ++ later) e
