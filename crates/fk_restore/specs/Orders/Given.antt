-- The words that a porter gives with the call of an order, if there is one.
use Rattle.std.specs.Prelude.{ℕ, List, Option, Some, None}
use Rattle.laws_jobs.specs.Machines.{no_words}
use Rattle.laws_restore.specs.Sites.Orders.{Order, words_of}

-- the words that go with an order, zeros with none
abbrev pub words_in : Option Order → List ℕ
words_in None = no_words
words_in (Some o) = words_of o
