-- Answers of native servers: what a rule replies, by a configuration, a position and a request.
use Rattle.std.specs.Prelude.{ℕ, ◌+◌, ◌-◌, ◌%◌, ◌^◌, min, List, [], ◌∷◌, take, Option, Some, None}
use Rattle.std.specs.List.{slice_get, sum}
use Rattle.fk_model.specs.declared.moves.Reply.{Reply}
use Rattle.fk_model.specs.declared.moves.Rule.{Rule}
use Rattle.fk_model.specs.declared.moves.Rule.TheVariants as rules

-- the words of a reply
abbrev pub reply_words : Reply → List ℕ
reply_words r = take r.len r.words

abbrev pub word_there : Option ℕ → List ℕ
word_there None = []
word_there (Some word) = word ∷ []

-- echo replies the request; feed the word of its configuration at its position, nothing where that is past the end; sum the
-- request's sum, in 64 bits
abbrev pub answer : Rule → List ℕ → ℕ → List ℕ → List ℕ
answer rules.Echo config position request = request
answer rules.Feed config position request = word_there (slice_get config position)
answer rules.Sum config position request = sum request % 2 ^ 64 ∷ []

-- the position after one more reply; the last number that there is stays
abbrev pub raised : ℕ → ℕ
raised position = min (position + 1) (2 ^ 64 - 1)
