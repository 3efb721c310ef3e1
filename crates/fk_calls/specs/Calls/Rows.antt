-- Rows: what stages take.
use Rattle.std.specs.Prelude.{ℕ, Bool, true, false, not, ◌&&◌, ◌||◌, List, [], ◌∷◌}
use Rattle.fk_model.specs.declared.moves.Ask.{Ask}
use Rattle.fk_model.specs.declared.moves.Ask.TheVariants as asks
use Rattle.fk_model.specs.declared.stage.Stage.{Stage}
use Rattle.fk_model.specs.Moves.{is_for_porters}
use Rattle.fk_model.specs.Places.{Path}
use Rattle.fk_model.specs.StageFacts.{Made, Rebuilt, facts_of}
use Rattle.fk_model.specs.StageFacts.Made.{Makes_nothing, An_object, A_page}
use Rattle.fk_model.specs.StageFacts.Rebuilt.{Rebuilds_nothing, A_talk, A_fault, A_hold, A_space}
use Rattle.fk_model.specs.Valid.{are_fault_words, are_talk_words}
use Rattle.fk_model.specs.World.{World}
use Rattle.fk_store.specs.Store.Threads.{todo_at}
-- it is the first of the caller's call, who else is in no call
pub use Rattle.fk_changes.specs.Threads.Firsts.{IsFirst}

-- a talk or a fault
abbrev pub is_talk_or_fault : Rebuilt → Bool
is_talk_or_fault A_talk = true
is_talk_or_fault A_fault = true
is_talk_or_fault A_hold = false
is_talk_or_fault A_space = false
is_talk_or_fault Rebuilds_nothing = false

-- a porter makes a talk or a fault again by it
abbrev pub restores : Stage → Bool
restores stage = is_talk_or_fault (facts_of stage).rebuilds

-- the words that are given for what is made again are in range
abbrev pub are_words_of : Rebuilt → List ℕ → Bool
are_words_of A_talk words = are_talk_words words
are_words_of A_fault words = are_fault_words words
are_words_of A_hold words = true
are_words_of A_space words = true
are_words_of Rebuilds_nothing words = true

-- the words that a porter gives for it are in range
abbrev pub are_given : Stage → List ℕ → Bool
are_given stage words = are_words_of (facts_of stage).rebuilds words

-- the words that a mover gives for what he asks are in range
abbrev pub are_given_for : Ask → Bool
are_given_for (asks.Call stage words) = are_given stage words
are_given_for other = true

-- an object or a page
abbrev pub is_something : Made → Bool
is_something An_object = true
is_something A_page = true
is_something Makes_nothing = false

-- such a caller makes an object or a page by it, which takes memory
abbrev pub takes_memory : (is_porter : Bool) → Stage → Bool
takes_memory is_porter stage = is_something (facts_of stage).makes && (not (is_for_porters stage) || is_porter)

abbrev pub first_takes_memory : List Stage → Bool
first_takes_memory [] = false
first_takes_memory (stage ∷ later) = takes_memory false stage

-- a move of the thread at a path may want memory
abbrev pub may_want_memory : World → Path → Ask → Bool
may_want_memory w x asks.Run = first_takes_memory (todo_at w x)
may_want_memory w x (asks.Call stage words) = takes_memory true stage
may_want_memory w x other = false
