-- Messages: Send, Receive and Over, by either side of a talk, and with a reference.
--
-- A Send moves a block of words from one page to one page, at most 64, and advances both sides. So a message of any
-- length is sent block by block, and each side's registers say at any time what is left.
use Rattle.std.specs.Prelude.{ℕ, ◌+◌, ◌-◌, ◌%◌, min, Bool, true, false, not, ◌&&◌, ◌==◌, is_some, List, [], ◌∷◌, ◌++◌, take, drop, length, Option, Some, None}
use Rattle.std.specs.Prelude.{Result, Ok, Err, if◌then◌else◌}
use Rattle.fk_model.specs.declared.limits.TheConstants.{PAGE_WORDS, BLOCK_WORDS}
use Rattle.fk_model.specs.declared.statuses.status.TheConstants.{NOTLINKED, WRONGTURN, FULL}
use Rattle.fk_model.specs.declared.thread.Turn.{Turn}
use Rattle.fk_model.specs.Places.{Path, parent, Ptr}
use Rattle.fk_model.specs.Objects.{Peer, Thread, reference_of, flag_of}
use Rattle.fk_model.specs.Objects.Peer.{Server, Service, Parked}
use Rattle.fk_model.specs.World.{World, Change}
use Rattle.fk_model.specs.World.Change.{Alter, PutPage}
use Rattle.fk_model.specs.World.Edit.{SetPointer, Shift, Finish, End, CountMoved, PassTurn}
use Rattle.fk_model.specs.Reach.{words_at}
use Rattle.fk_model.specs.Holds.{is_free, leads_to_frozen}
use Rattle.fk_model.specs.Outcomes.{Said, Outcome, ◌>>=◌, when, Caller, path_of, done, telling}
use Rattle.fk_model.specs.Outcomes.Outcome.{Waits, Goes}
use Rattle.fk_model.specs.Outcomes.Said.{Nothing, Words, Passed}
use Rattle.fk_model.specs.Readers.{object_in, own_page, their_page}
use Rattle.fk_model.specs.Talks.{Line, line, other_side, same_side, receiving, awaited, thread_led_to, is_service_free}

-- ---- blocks of words

-- a page into which words were written from a place on
abbrev pub overwritten : List ℕ → ℕ → List ℕ → List ℕ
overwritten page at words = take at page ++ (words ++ drop (at + length words) page)

-- k words of a page from an address on
abbrev pub block : ℕ → ℕ → List ℕ → List ℕ
block k address page = take k (drop (address % PAGE_WORDS) page)

abbrev pub to_page_end : ℕ → ℕ
to_page_end address = PAGE_WORDS - address % PAGE_WORDS

-- how many words one move takes from an address, of so many, to an address with so much room
abbrev pub moved_words : ℕ → ℕ → ℕ → ℕ → ℕ
moved_words address count into room = min BLOCK_WORDS (min count (min (to_page_end address) (min room (to_page_end into))))

-- ---- the talk in which a stage acts, where it is this side's turn or the other's

abbrev pub at_turn : Turn → Option Line → Result Line ℕ
at_turn turn None = Err NOTLINKED
at_turn turn (Some l) = if same_side l.talk.turn turn then Ok l else Err WRONGTURN

-- the caller's talk on a side, where it is this side's turn
abbrev pub in_turn : World → Path → Turn → Turn → Result Line ℕ
in_turn w me side turn = at_turn turn (line w me side)

-- ---- Send

-- the sender has sent k of its words, and is done with the last of them
abbrev pub has_sent : Caller → ℕ → ℕ → List Change → Said → Outcome
has_sent c k count changes said =
    if k == count then telling said (done c (changes ++ Alter (path_of c) (Shift k) ∷ []) [])
    else Goes (changes ++ Alter (path_of c) (Shift k) ∷ []) said

-- k words go from a page to a page of another thread
abbrev pub sends_words : Caller → Path → Path → ℕ → ℕ → ℕ → List ℕ → ℕ → Path → ℕ → List ℕ → Outcome
sends_words c client y k address count page into t other_page other_words =
    has_sent c k count
    (PutPage t other_page (overwritten other_words (into % PAGE_WORDS) (block k address page))
    ∷ Alter client (CountMoved k)
    ∷ Alter y (Shift k)
    ∷ []) Nothing

-- the other end is at its Receive, with this address and room. With no room its whole call ends FULL, and the sender stays
abbrev pub sends_into : World → Caller → Path → Path → ℕ → ℕ → List ℕ → Option (ℕ × ℕ) → Outcome
sends_into w c client y address count page None = Waits
sends_into w c client y address count page (Some receive) =
    if receive.1 == 0 then Goes (Alter y (End FULL []) ∷ []) Nothing
    else their_page w (parent y) receive.0 (λ t other_page.
    sends_words c client y (moved_words address count receive.0 receive.1) address count page receive.0 t other_page (words_at w t other_page))

abbrev pub sends_to_thread : World → Caller → Turn → Path → ℕ → ℕ → List ℕ → Option (Path × Thread) → Outcome
sends_to_thread w c side client address count page None = Waits
sends_to_thread w c side client address count page (Some e) =
    when (is_free w (parent e.0) e.1) (sends_into w c client e.0 address count page (receiving w (parent e.0) (other_side side) e.1.mode))

-- a native server has room for 64 words at each of its client's turns, at a page's begin
abbrev pub sends_to_service : Caller → Path → Ptr → ℕ → ℕ → List ℕ → Outcome
sends_to_service c client port address count page =
    let k = moved_words address count 0 BLOCK_WORDS in
    has_sent c k count (Alter client (CountMoved k) ∷ []) (Words port (block k address page))

abbrev pub sends_to : World → Caller → Turn → Line → ℕ → ℕ → List ℕ → Peer → Outcome
sends_to w c side l address count page (Server thread) = sends_to_thread w c side l.client address count page (thread_led_to w thread)
sends_to w c side l address count page Service = when (is_service_free w l.talk.port) (sends_to_service c l.client l.talk.port address count page)
sends_to w c side l address count page Parked = Waits

-- with nothing to send it is done at once; else the sender's own page comes first
abbrev pub sends : World → Caller → Turn → ℕ → ℕ → Line → Outcome
sends w c side address count l =
    if count == 0 then done c [] []
    else own_page w c address false (λ s page. sends_to w c side l address count (words_at w s page) l.other)

-- send: words go to the other end of the talk, a block a move
unfoldable pub send : World → Caller → Turn → ℕ → ℕ → Outcome
send w c side address count = in_turn w (path_of c) side side >>= sends w c side address count

-- ---- Receive. The other side's Send and Over move it; by itself it is refused, or raises a fault on its own page

abbrev pub awaits : World → Caller → ℕ → ℕ → Outcome
awaits w c into room = if room == 0 then Waits else own_page w c into true (λ s page. Waits)

-- receive: the caller waits for words of the other end
unfoldable pub receive : World → Caller → Turn → ℕ → ℕ → Outcome
receive w c side into room = in_turn w (path_of c) side (other_side side) >>= λ l. awaits w c into room

-- with a reference that is to take a pointer, which is looked at first
unfoldable pub receive_ref : World → Caller → Turn → ℕ → ℕ → ℕ → Outcome
receive_ref w c side into room reference = object_in w c reference_of c.space reference >>= λ p. receive w c side into room

-- ---- Over. The other end's Receive is done, whatever its address, and has the turn. A pointer may go with it

abbrev pub passes : Caller → Turn → Path → List Change → Outcome
passes c side client changes = done c (changes ++ Alter client (PassTurn (other_side side)) ∷ []) []

-- a ReceiveRef answers 1 with a pointer, 0 without
abbrev pub taken_answers : Option ℕ → Option Ptr → List ℕ
taken_answers None carried = []
taken_answers (Some k) carried = flag_of (is_some carried) ∷ []

-- the reference that awaits a pointer takes it
abbrev pub fills_in : Path → Option Ptr → Option ℕ → List Change
fills_in space None to = []
fills_in space (Some p) None = []
fills_in space (Some p) (Some k) = Alter (k ∷ space) (SetPointer p) ∷ []

-- the receive of a thread at y is done
abbrev pub takes_turn : Path → Option Ptr → Option ℕ → List Change
takes_turn y carried to = fills_in (parent y) carried to ++ Alter y (Finish (taken_answers to carried)) ∷ []

abbrev pub passes_to_thread : World → Caller → Turn → Path → Option Ptr → Option (Path × Thread) → Outcome
passes_to_thread w c side client carried None = Waits
passes_to_thread w c side client carried (Some e) =
    when (is_free w (parent e.0) e.1 && is_some (receiving w (parent e.0) (other_side side) e.1.mode))
    (passes c side client (takes_turn e.0 carried (awaited e.1.mode)))

-- a native server drops the pointer
abbrev pub passes_to : World → Caller → Turn → Line → Option Ptr → Peer → Outcome
passes_to w c side l carried (Server thread) = passes_to_thread w c side l.client carried (thread_led_to w thread)
passes_to w c side l carried Service = when (is_service_free w l.talk.port) (telling (Passed l.talk.port) (passes c side l.client []))
passes_to w c side l carried Parked = Waits

-- a pointer that leads to what is frozen for the caller isn't handed on, whoever the peer is
abbrev pub may_carry : World → Path → Option Ptr → Bool
may_carry w me None = true
may_carry w me (Some p) = not (leads_to_frozen w me p)

abbrev pub passes_on : World → Caller → Turn → Option Ptr → Line → Outcome
passes_on w c side carried l = when (may_carry w (path_of c) carried) (passes_to w c side l carried l.other)

-- over: the turn passes to the other end, with where a reference leads or with none
unfoldable pub over : World → Caller → Turn → Option Ptr → Outcome
over w c side carried = in_turn w (path_of c) side side >>= passes_on w c side carried

-- with the pointer of a reference, which is looked at first
unfoldable pub over_ref : World → Caller → Turn → ℕ → Outcome
over_ref w c side reference = object_in w c reference_of c.space reference >>= λ p. over w c side (Some p)
