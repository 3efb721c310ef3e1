-- Notes of what passes between a client and its native server, and which of them an observer sees.
use Rattle.std.specs.Prelude.{ℕ, Bool, true, false, List, [], ◌∷◌, Option, Some, None}
use Rattle.std.specs.List.{slice_get}
use Rattle.fk_model.specs.declared.thread.Turn.{Turn}
use Rattle.fk_model.specs.Answers.{reply_words}
use Rattle.fk_responders.specs.declared.note.Note as declared
use Rattle.fk_responders.specs.declared.note.Note.TheVariants as notes
use Rattle.fk_responders.specs.declared.note.Watch.{Watch}
use Rattle.fk_responders.specs.declared.note.Watch.TheVariants as sights

pub data Note : Type 0 where
  -- the server takes a client, in whose talk it is this turn and so many words have moved
  Taken : (turn : Turn) (moved : ℕ) → Note
  -- the client has sent these words
  Said : (words : List ℕ) → Note
  -- the client has handed the turn over
  Over : Note
  -- the server has computed this reply
  Reply : (words : List ℕ) → Note
  -- the talk has ended
  Ended : Note

-- a note of the code
abbrev pub note_of : declared.Note → Note
note_of (notes.Taken turn moved) = Taken turn moved
note_of (notes.Said reply) = Said (reply_words reply)
note_of notes.Over = Over
note_of (notes.Reply reply) = Reply (reply_words reply)
note_of notes.Ended = Ended

abbrev pub is_said : Note → Bool
is_said (Said words) = true
is_said other = false

abbrev pub is_reply : Note → Bool
is_reply (Reply words) = true
is_reply other = false

-- whether a watch sees a note
abbrev pub watches : Watch → Note → Bool
watches sights.All note = true
watches sights.Replies note = is_reply note
watches sights.Said note = is_said note

-- all watches, in the order of a table's observers
abbrev pub all_watches : List Watch
all_watches = sights.All ∷ sights.Replies ∷ sights.Said ∷ []

-- whether the observer at a place sees a note; where there is none, no note is seen
abbrev pub seen_by : Option Watch → Note → Bool
seen_by None note = false
seen_by (Some watch) note = watches watch note

-- the observer at a place sees a note
abbrev pub is_seen : ℕ → Note → Bool
is_seen at note = seen_by (slice_get all_watches at) note
