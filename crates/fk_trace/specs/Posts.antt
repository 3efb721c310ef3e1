-- Posts: a native server as it is, a tap of one, or a replay; and the posts of a run that is recorded, or replayed.
use Rattle.std.specs.Prelude.{ℕ, Bool, true, List, [], ◌∷◌, map, Vec, vec_len, vec_capacity}
use Rattle.std.specs.declared.alloc.Global.{Global}
use Rattle.fk_model.specs.declared.names.Who.{Who}
use Rattle.fk_model.specs.declared.moves.Reply.{Reply}
use Rattle.fk_model.specs.Answers.{reply_words}
use Rattle.fk_natives.specs.declared.native.Native.{Native}
use Rattle.fk_natives.specs.declared.service.Side.TheVariants.{Idle}
use Rattle.fk_natives.specs.Both as both
use Rattle.fk_natives.specs.Natives.{State, OfConsole, OfReplay, OfTap}
use Rattle.fk_trace.specs.declared.post.Post.{Post}
use Rattle.fk_trace.specs.declared.post.Post.TheVariants.{Plain, Tap, Replay}
use Rattle.fk_trace.specs.Taps as taps

abbrev pub meaning : Post → State
meaning (Plain s) = both.meaning s
meaning (Tap t) = OfTap t.watch (taps.noted t.notes.items) (both.meaning t.inner)
meaning (Replay r) = taps.replay_of r

abbrev pub has_room : Post → Bool
has_room (Plain s) = both.has_room s
has_room (Tap t) = taps.has_room (both.has_room t.inner) (vec_len t.notes) (vec_capacity t.notes)
has_room (Replay r) = true

-- ---- the servers of a run that is recorded, or replayed

-- a tap of a server that is no console
abbrev pub tapped_as : ℕ → State → State
tapped_as watch (OfConsole alias words side) = OfConsole alias words side
tapped_as watch other = OfTap watch [] other

-- servers by their meanings
abbrev pub plain_seen : List (Who × Native) → List (Who × State)
plain_seen servers = map (λ e. (e.0, both.meaning e.1)) servers

-- posts by their meanings
abbrev pub seen : List (Who × Post) → List (Who × State)
seen servers = map (λ e. (e.0, meaning e.1)) servers

-- a tap of each server that is no console
abbrev pub all_tapped : ℕ → List (Who × State) → List (Who × State)
all_tapped watch servers = map (λ e. (e.0, tapped_as watch e.1)) servers

-- a replay in the place of a server that is no console uses up the first of the lists
abbrev pub list_at_first : List (List (List ℕ)) → List (List ℕ)
list_at_first [] = []
list_at_first (replies ∷ lists) = replies

abbrev pub lists_behind : List (List (List ℕ)) → List (List (List ℕ))
lists_behind [] = []
lists_behind (replies ∷ lists) = lists

abbrev pub replaying_as : List (List (List ℕ)) → State → State
replaying_as lists (OfConsole alias words side) = OfConsole alias words side
replaying_as lists other = OfReplay (list_at_first lists) [] Idle

abbrev pub after_replaying : List (List (List ℕ)) → State → List (List (List ℕ))
after_replaying lists (OfConsole alias words side) = lists
after_replaying lists other = lists_behind lists

-- replays of these lists, in the place of the servers that are no consoles
abbrev pub all_replaying : List (List (List ℕ)) → List (Who × State) → List (Who × State)
all_replaying lists [] = []
all_replaying lists (e ∷ es) = (e.0, replaying_as lists e.1) ∷ all_replaying (after_replaying lists e.1) es

-- the words of the replies of each list
abbrev pub words_of_all : List (Vec Reply Global) → List (List (List ℕ))
words_of_all lists = map (λ list. map reply_words list.items) lists
