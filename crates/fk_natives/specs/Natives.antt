-- Native servers: what they ask for, and what becomes of them by what they are told.
use Rattle.std.specs.Prelude.{◌≡◌, ◌≤◌, ◌||◌, ℕ, ◌+◌, nat_le, is_none, Bool, true, false, List, [], ◌∷◌, ◌++◌, filter, length, take, drop, Option, Some, None}
use Rattle.std.specs.List.{slice_get}
use Rattle.fk_model.specs.declared.moves.Ask.{Ask}
use Rattle.fk_model.specs.declared.moves.Ask.TheVariants as asks
use Rattle.fk_model.specs.declared.moves.Reply.{Reply}
use Rattle.fk_model.specs.declared.moves.Rule.{Rule}
use Rattle.fk_model.specs.declared.thread.Turn.{Turn}
use Rattle.fk_model.specs.declared.thread.Turn.TheVariants as turns
use Rattle.fk_model.specs.Answers.{answer, raised, reply_words}
use Rattle.fk_responders.specs.Notes.{is_seen}
use Rattle.fk_responders.specs.Notes as notes
use Rattle.fk_responders.specs.Words.{padded}
use Rattle.fk_natives.specs.declared.service.Side.{Side}
use Rattle.fk_natives.specs.declared.service.Side.TheVariants as sides
use Rattle.fk_natives.specs.declared.service.Heard.{Heard}
use Rattle.fk_natives.specs.declared.service.Heard.TheVariants as tells
use Rattle.fk_natives.specs.declared.server.Server.{Server}

-- a console with the words that it was sent; a server with its place in the table, its rule, how many replies it has computed, the
-- request so far and what is left of the reply; a replay, which gives the replies of a list in order, with those yet to come and what is
-- left of the one that it gives; a tap, which keeps notes of the server in it, with the place of its observer and the notes so far
pub data State : Type 0 where
  OfConsole : (alias words : List ℕ) (side : Side) → State
  OfServer : (index : ℕ) (rule : Rule) (config : List ℕ) (position : ℕ) (request left : List ℕ) (side : Side) → State
  OfReplay : (replies : List (List ℕ)) (left : List ℕ) (side : Side) → State
  OfTap : (watch : ℕ) (noted : List notes.Note) (inner : State) → State

-- ---- what it asks for: a client where it has none, nothing at its client's turn; at its own a server or a replay gives what is left of its
-- reply, and then hands over, as a console does at once. A tap asks for what the server in it asks for

-- whose turn it is in its talk
abbrev pub side_of : State → Side
side_of (OfConsole alias words side) = side
side_of (OfServer index rule config position request left side) = side
side_of (OfReplay replies left side) = side
side_of (OfTap watch noted inner) = side_of inner

-- what is left of its reply
abbrev pub left_of : State → List ℕ
left_of (OfConsole alias words side) = []
left_of (OfServer index rule config position request left side) = left
left_of (OfReplay replies left side) = left
left_of (OfTap watch noted inner) = left_of inner

abbrev pub give_of : Reply → Ask
give_of r = asks.Give r.words r.len

-- a server gives what is left of its reply, and then hands over
abbrev pub gives_left : List ℕ → Ask
gives_left [] = asks.Over
gives_left (word ∷ words) = give_of (padded (word ∷ words))

abbrev pub asks_at : Side → List ℕ → Option Ask
asks_at sides.Idle left = Some asks.Accept
asks_at sides.Client left = None
asks_at sides.Own left = Some (gives_left left)

-- what a native server asks for next, by its side of the talk and by what it has left to give
abbrev pub asks_for : State → Option Ask
asks_for s = asks_at (side_of s) (left_of s)

-- ---- what becomes of it

-- what it hears: a client with this turn and so many words moved in it; the words of its client; that the turn has changed, that so
-- many of its words were taken, that the talk has ended
pub data News : Type 0 where
  Taken : (turn : Turn) (moved : ℕ) → News
  Words : (words : List ℕ) → News
  Over : News
  Given : (count : ℕ) → News
  Ended : News

-- as the code has it
abbrev pub news_of : Heard → News
news_of (tells.Taken client turn moved) = Taken turn moved
news_of (tells.Words words) = Words words.now
news_of tells.Over = Over
news_of (tells.Given count) = Given count
news_of tells.Ended = Ended

-- whose turn it is in a talk that is taken up, and after an Over
abbrev pub side_at : Turn → Side
side_at turns.Client = sides.Client
side_at turns.Server = sides.Own

-- whose turn it is after an Over
abbrev pub side_after : Side → Side
side_after sides.Client = sides.Own
side_after other = sides.Client

-- a console keeps each word that it is sent
abbrev pub console_hears : List ℕ → List ℕ → Side → News → State
console_hears alias words side (Taken turn moved) = OfConsole alias words (side_at turn)
console_hears alias words side (Words more) = OfConsole alias (words ++ more) side
console_hears alias words side Over = OfConsole alias words (side_after side)
console_hears alias words side (Given count) = OfConsole alias words side
console_hears alias words side Ended = OfConsole alias words sides.Idle

-- a server computes its reply by its rule, and leaves out the words that were moved already. Its position rises
abbrev pub replies : ℕ → Rule → List ℕ → ℕ → List ℕ → ℕ → State
replies index rule config position request moved = OfServer index rule config (raised position) [] (drop moved (answer rule config position request)) sides.Own

-- a talk is taken up with an empty request; at the server's turn its reply is computed at once
abbrev pub takes_up : ℕ → Rule → List ℕ → ℕ → ℕ → Turn → State
takes_up index rule config position moved turns.Client = OfServer index rule config position [] [] sides.Client
takes_up index rule config position moved turns.Server = replies index rule config position [] moved

-- its client hands over, and it replies; or it has handed over itself
abbrev pub hears_over : ℕ → Rule → List ℕ → ℕ → List ℕ → Side → State
hears_over index rule config position request sides.Client = replies index rule config position request 0
hears_over index rule config position request other = OfServer index rule config position [] [] sides.Client

-- of a request the first 64 words are kept
abbrev pub server_hears : ℕ → Rule → List ℕ → ℕ → List ℕ → List ℕ → Side → News → State
server_hears index rule config position request left side (Taken turn moved) = takes_up index rule config position moved turn
server_hears index rule config position request left side (Words words) =
    OfServer index rule config position (take 64 (request ++ words)) left side
server_hears index rule config position request left side Over = hears_over index rule config position request side
server_hears index rule config position request left side (Given count) = OfServer index rule config position request (drop count left) side
server_hears index rule config position request left side Ended = OfServer index rule config position [] [] sides.Idle

-- the next reply of a replay is that of its list, whole, and the empty one behind the end of the list
abbrev pub replays : List (List ℕ) → State
replays [] = OfReplay [] [] sides.Own
replays (reply ∷ replies) = OfReplay replies reply sides.Own

-- it takes its next reply where a server computes one: where a talk is taken up at the server's turn, and where its client hands over
abbrev pub replay_takes : List (List ℕ) → Turn → State
replay_takes replies turns.Client = OfReplay replies [] sides.Client
replay_takes replies turns.Server = replays replies

abbrev pub replay_over : List (List ℕ) → Side → State
replay_over replies sides.Client = replays replies
replay_over replies other = OfReplay replies [] sides.Client

abbrev pub replay_hears : List (List ℕ) → List ℕ → Side → News → State
replay_hears replies left side (Taken turn moved) = replay_takes replies turn
replay_hears replies left side (Words words) = OfReplay replies left side
replay_hears replies left side Over = replay_over replies side
replay_hears replies left side (Given count) = OfReplay replies (drop count left) side
replay_hears replies left side Ended = OfReplay replies [] sides.Idle

-- ---- what is noted of a server, by what it asks for before and after it hears news

-- the words that it asks to give
abbrev pub given_by : Option Ask → List ℕ
given_by (Some (asks.Give words len)) = take len words
given_by other = []

-- a reply is noted where it is computed, behind the note of the talk that is taken up or of the client's Over. It is the client that hands
-- over where the server asked for nothing before. The server's own Over, and words of it that were taken, are not noted
abbrev pub notes_taken : Option Ask → Turn → ℕ → List notes.Note
notes_taken after turns.Client moved = notes.Taken turns.Client moved ∷ []
notes_taken after turns.Server moved = notes.Taken turns.Server moved ∷ notes.Reply (given_by after) ∷ []

abbrev pub notes_over : Option Ask → Option Ask → List notes.Note
notes_over None after = notes.Over ∷ notes.Reply (given_by after) ∷ []
notes_over (Some ask) after = []

abbrev pub notes_by : Option Ask → Option Ask → News → List notes.Note
notes_by before after (Taken turn moved) = notes_taken after turn moved
notes_by before after (Words words) = notes.Said words ∷ []
notes_by before after Over = notes_over before after
notes_by before after (Given count) = []
notes_by before after Ended = notes.Ended ∷ []

-- those that an observer sees
abbrev pub seen_of : ℕ → List notes.Note → List notes.Note
seen_of watch noted = filter (is_seen watch) noted

-- a tap tells all to the server in it, and keeps the notes that its observer sees
abbrev pub tapped : ℕ → List notes.Note → Option Ask → News → State → State
tapped watch noted before news inner = OfTap watch (noted ++ seen_of watch (notes_by before (asks_for inner) news)) inner

abbrev pub hears : State → News → State
hears (OfConsole alias words side) news = console_hears alias words side news
hears (OfServer index rule config position request left side) news = server_hears index rule config position request left side news
hears (OfReplay replies left side) news = replay_hears replies left side news
hears (OfTap watch noted inner) news = tapped watch noted (asks_for inner) news (hears inner news)

-- ---- what takes memory: the words that a console is sent, and what a tap may note

abbrev pub brings_words : News → Bool
brings_words (Words words) = true
brings_words other = false

-- whether something is noted of a server, by what it asks for before it hears news
abbrev pub is_noted : Option Ask → News → Bool
is_noted before (Taken turn moved) = true
is_noted before (Words words) = true
is_noted before Over = is_none before
is_noted before (Given count) = false
is_noted before Ended = true

-- it grows by news
abbrev pub grows : State → News → Bool
grows (OfConsole alias words side) news = brings_words news
grows (OfServer index rule config position request left side) news = false
grows (OfReplay replies left side) news = false
grows (OfTap watch noted inner) news = is_noted (asks_for inner) news || grows inner news

-- ---- what is printed of it

abbrev pub alias_of : State → Option (List ℕ)
alias_of (OfConsole alias words side) = Some alias
alias_of (OfServer index rule config position request left side) = None
alias_of (OfReplay replies left side) = None
alias_of (OfTap watch noted inner) = alias_of inner

abbrev pub printed_by : State → List ℕ
printed_by (OfConsole alias words side) = words
printed_by (OfServer index rule config position request left side) = []
printed_by (OfReplay replies left side) = []
printed_by (OfTap watch noted inner) = printed_by inner

-- ---- what it rests on

-- words that are sent come 64 at a time
abbrev pub AreFew : News → Type 0
AreFew (Taken turn moved) = Unit {0}
AreFew (Words words) = length words ≤ 64
AreFew Over = Unit {0}
AreFew (Given count) = Unit {0}
AreFew Ended = Unit {0}

-- the table has the rule at the place of the server, also of one in a tap
abbrev pub DoesFit : List Rule → State → Type 0
DoesFit rules (OfConsole alias words side) = Unit {0}
DoesFit rules (OfServer index rule config position request left side) = slice_get rules index ≡ Some rule
DoesFit rules (OfReplay replies left side) = Unit {0}
DoesFit rules (OfTap watch noted inner) = DoesFit rules inner

-- room for as many words as a message brings at once
abbrev pub has_room_for : ℕ → ℕ → Bool
has_room_for len capacity = nat_le (len + 64) capacity

abbrev pub meaning_of : Server → State
meaning_of s = OfServer s.index s.rule s.config s.position (reply_words s.request) (reply_words s.left) s.side
