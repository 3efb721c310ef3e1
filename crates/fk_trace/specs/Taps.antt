-- What taps and replays of the code are as native servers.
use Rattle.std.specs.Prelude.{ℕ, ◌+◌, Bool, ◌&&◌, nat_le, List, map, drop}
use Rattle.fk_model.specs.declared.moves.Reply.{Reply}
use Rattle.fk_model.specs.Answers.{reply_words}
use Rattle.fk_natives.specs.Natives.{State, OfReplay}
use Rattle.fk_responders.specs.declared.note.Note as declared
use Rattle.fk_responders.specs.Notes as notes
use Rattle.fk_trace.specs.declared.replay.Replay.{Replay}

-- notes of the code
abbrev pub noted : List declared.Note → List notes.Note
noted list = map notes.note_of list

-- room for what the server in a tap is told, and for two notes
abbrev pub has_room : Bool → ℕ → ℕ → Bool
has_room inner len capacity = inner && nat_le (len + 2) capacity

-- the replies of a list from a place on
abbrev pub to_come : List Reply → ℕ → List (List ℕ)
to_come replies next = map reply_words (drop next replies)

-- what a replay stands for
abbrev pub replay_of : Replay → State
replay_of r = OfReplay (to_come r.replies.items r.next) (reply_words r.left) r.side
