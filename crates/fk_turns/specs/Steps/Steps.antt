-- Steps: what a move leaves of where threads stand.
use Rattle.std.specs.Prelude.{◌≡◌, ◌≤◌, ◌⊎◌, ◌&&◌, ◌||◌, ◌==◌, ℕ, Bool, true, false, not, List, [], ◌∷◌, Option, Some, None, is_none, Result, Ok, Err}
use Rattle.std.specs.Prelude.{slice_index}
use Rattle.std.specs.List.{list_any}
use Rattle.fk_model.specs.declared.call.TheConstants.{CLIENT_OVER, CLIENT_OVER_RECEIVE, CLIENT_SEND, CLIENT_SEND_OVER_RECEIVE}
use Rattle.fk_model.specs.declared.moves.Ask.{Ask}
use Rattle.fk_model.specs.declared.moves.Move.{Move}
use Rattle.fk_model.specs.declared.names.Who.{Who}
use Rattle.fk_model.specs.declared.thread.Mode as modes_of
use Rattle.fk_model.specs.declared.thread.Peer.{Peer}
use Rattle.fk_model.specs.declared.thread.Peer.TheVariants as peers
use Rattle.fk_model.specs.declared.thread.Talk.{Talk}
use Rattle.fk_model.specs.declared.thread.Mode.TheVariants as modes
use Rattle.fk_model.specs.declared.thread.Thread as threads_of
use Rattle.fk_model.specs.Calls.{Call, calls}
use Rattle.fk_model.specs.Holds.{is_porter}
use Rattle.fk_model.specs.Moves.{is_for_porters}
use Rattle.fk_model.specs.Objects.{Thread, holds}
use Rattle.fk_model.specs.Searches.{thread_at}
use Rattle.fk_model.specs.StageFacts.{Made, facts_of}
use Rattle.fk_model.specs.StageFacts.Made.{Makes_nothing, An_object, A_page}
use Rattle.fk_turns.specs.Next.Tellings.{Told}
use Rattle.fk_model.specs.declared.moves.Ask.TheVariants as asks
use Rattle.fk_model.specs.declared.stage.Stage.{Stage}
use Rattle.fk_store.specs.Store.Contents.{Contents}
use Rattle.fk_store.specs.Store.Moves.{picked_by}
use Rattle.fk_store.specs.Store.Paths.{path, place}
use Rattle.fk_store.specs.Store.Threads.{todo_at}
use Rattle.fk_store.specs.Store.World.{world, place_of}
use Rattle.fk_waits.specs.Turns.Turns.{all_marks, loud_cause, AreMet, IsFreed, IsRoused, IsSound}
use Rattle.fk_turns.specs.Moved.Kept.{is_user_at, AreKept}
use Rattle.fk_turns.specs.Next.Waiting.{ComesAfter, IsPlaced, Standing}
use Rattle.fk_turns.specs.Moved.Moved.{is_it, is_named, is_put, IsMoved}
use Rattle.fk_turns.specs.Moved.Told.{name_after, runs_on_at, IsQuietTo}
use Rattle.fk_waits.specs.Waits.Lists.{is_cause, is_queued, stands, woken, Lists}
use Rattle.fk_waits.specs.Causes.Names.{is_same}
use Rattle.fk_plans.specs.declared.wakes.touching.Touched.{Touched}
use Rattle.fk_plans.specs.declared.wakes.touching.Touched.TheVariants.{Few}

-- there is room for one more thread
abbrev pub HasSeat : Lists → Lists → Type 0
HasSeat waits marks = (1 ≤ waits.spare) × (1 ≤ marks.spare)

-- the lists are as they were, but for room
pub record IsWider (waits marks now then_marks : Lists) : Type 0 where
  pub ready : now.ready ≡ waits.ready
  pub queued : now.queued ≡ waits.queued
  pub marked : then_marks.ready ≡ marks.ready
  pub keyed : then_marks.queued ≡ marks.queued
  pub sound : IsSound now then_marks

-- a move that was tried was made
abbrev pub was_made : {E : Type 0} → Result (Option Told) E → Bool
was_made (Ok (Some told)) = true
was_made (Ok None) = false
was_made (Err lacking) = false

-- who moved is in its place, by the name that the move left it, where it is a user's thread and still there
abbrev pub IsPut : Contents → Move → Ask → Contents → Standing → Type 0
IsPut m move ask n s =
    is_user_at n (name_after m move.who (picked_by (path m) move.pick) ask) ≡ true → IsPlaced n s (name_after m move.who (picked_by (path m) move.pick) ask)

-- ---- a thread that runs on

-- a call begins with a client's send
abbrev pub begins_with_send : ℕ → Bool
begins_with_send code = code == CLIENT_SEND || code == CLIENT_SEND_OVER_RECEIVE

-- or with its over
abbrev pub begins_with_over : ℕ → Bool
begins_with_over code = code == CLIENT_OVER || code == CLIENT_OVER_RECEIVE

abbrev pub speaks : ℕ → Bool
speaks code = begins_with_send code || begins_with_over code

abbrev pub is_service : Peer → Bool
is_service peers.Service = true
is_service other = false

-- in a call: it sends words to a native server, or passes the turn to it
abbrev pub is_speaking : threads_of.Thread → Bool
is_speaking t = holds (λ (talk : Talk). speaks (slice_index t.regs 0) && is_service talk.peer) t.talk

-- a stage in which a thread waits for nobody while nothing is held, and nothing behind it
abbrev pub acts_alone : List Stage → Bool
acts_alone (stage ∷ []) = (facts_of stage).acts
acts_alone other = false

-- the code of a call of one such stage
abbrev pub acts : ℕ → Bool
acts code = list_any (λ (c : Call). acts_alone (c.todo []) && code == c.code) calls

-- in a call that waits for nobody while nothing is held
abbrev pub is_busy : threads_of.Thread → Bool
is_busy t = is_speaking t || acts (slice_index t.regs 0)

abbrev pub goes_in : modes_of.Mode → Bool → Bool
goes_in modes.Running busy = true
goes_in modes.Calling busy = busy
goes_in other busy = false

-- it runs, or after what was no instruction is in such a call, isn't stopped and has no fault
abbrev pub keeps_on : Bool → threads_of.Thread → Bool
keeps_on ran t = t.stops == 0 && (is_none t.fault && goes_in t.mode (not ran && is_busy t))

-- nobody was touched, besides who moved
abbrev pub touches_nobody : Touched → Bool
touches_nobody (Few first second third) = is_none first && (is_none second && is_none third)
touches_nobody other = false

abbrev pub is_own : Who → Option Who → Bool
is_own mover None = true
is_own mover (Some who) = is_same who mover

-- nobody but who moved was touched, by whatever name
abbrev pub touches_only : Who → Touched → Bool
touches_only mover (Few first second third) = is_own mover first && (is_own mover second && is_own mover third)
touches_only mover other = false

-- a move of a thread that wasn't queued and touched nobody else left the reasons of all others, but of whom any change may free
pub record IsQuietFrom (n : Contents) (mover : Who) (waits marks : Lists) : Type 0 where
  pub before : Contents
  pub kept : AreKept before waits marks
  pub free : is_queued mover waits.queued ≡ false
  pub moved : IsMoved before n mover (Few None None None)
  pub quiet : IsQuietTo before n mover

-- so it is where it was an instruction after which the thread runs on
abbrev pub MayBeQuiet : Contents → Who → Bool → Touched → Lists → Lists → Type 0
MayBeQuiet n mover ran touched waits marks = ran ≡ true → touched ≡ Few None None None → runs_on_at n mover ≡ true → IsQuietFrom n mover waits marks

-- no user's thread is there, and none stands by that name
abbrev pub IsApartAt : Contents → Who → Lists → Type 0
IsApartAt n who waits = (stands who waits ≡ false) × (is_user_at n who ≡ false)

abbrev pub IsOneApart : Contents → Who → Option Who → Lists → Type 0
IsOneApart n mover name waits = (x : Who) → is_same mover x ≡ false → is_it name x ≡ true → IsApartAt n x waits

-- so it is of all that a move touched, besides who moved
abbrev pub AreApart : Contents → Who → Touched → Lists → Type 0
AreApart n mover touched waits = (x : Who) → is_same mover x ≡ false → is_named touched x ≡ true → IsApartAt n x waits

-- none that a move touched stood, and what it put somewhere is no user's thread
abbrev pub AreUnknown : Contents → Touched → Lists → Type 0
AreUnknown n touched waits = (x : Who) → is_named touched x ≡ true → (stands x waits ≡ false) × (is_put touched x ≡ true → is_user_at n x ≡ false)

-- a porter is there
abbrev pub is_porter_at : Contents → Who → Bool
is_porter_at m who = holds (λ (t : Thread). is_porter t.mode) (thread_at (world m) (place_of m who))

-- the move was a porter's
pub record ComesByPorter (n : Contents) (mover : Who) (touched : Touched) (waits marks : Lists) : Type 0 where
  pub comes : ComesAfter n mover touched waits marks
  pub porter : is_porter_at comes.before mover ≡ true

-- whom these may free is ready, and all else is as it was
pub record AreRousedAt (told : Who → Bool) (waits marks now then_marks : Lists) : Type 0 where
  pub roused : IsRoused waits now
  pub met : AreMet (all_marks waits marks) (all_marks now then_marks) now
  pub freed : (key : Who) → told key ≡ true → IsFreed key (all_marks waits marks) now

-- nobody is queued, or nobody whom any move may free
abbrev pub IsCalm : Lists → Lists → Type 0
IsCalm waits marks = (waits.queued ≡ []) ⊎ (is_cause loud_cause (all_marks waits marks).queued ≡ false)

-- it touched nobody, as an instruction, or those that are queued are calm
abbrev pub IsGentle : Who → Touched → Bool → Lists → Lists → Type 0
IsGentle mover touched ran waits marks = ((ran ≡ true) × (touched ≡ Few None None None)) ⊎ IsCalm waits marks

-- it stood, went last, and no change may free any other
pub record IsTurned (who : Who) (waits marks now then_marks : Lists) : Type 0 where
  pub turned : now ≡ woken who waits
  pub stood : stands who waits ≡ true
  pub none : marks.ready ≡ []
  pub same : then_marks ≡ marks

-- ---- what makes an object

abbrev pub is_object : Made → Bool
is_object An_object = true
is_object A_page = false
is_object Makes_nothing = false

-- such a caller makes one by a stage
abbrev pub makes_object : Bool → Stage → Bool
makes_object is_porter stage = is_object (facts_of stage).makes && (not (is_for_porters stage) || is_porter)

-- the first of these stages makes an object
abbrev pub first_makes : List Stage → Bool
first_makes [] = false
first_makes (stage ∷ later) = makes_object false stage

-- so may a move
abbrev pub may_make : Contents → Move → Ask → Bool
may_make m move asks.Run = first_makes (todo_at (world m) (place (path m) move.who))
may_make m move (asks.Call stage words) = makes_object true stage
may_make m move other = false
