-- Given: the words that a job gives with a call.
use Rattle.std.specs.Prelude.{◌≡◌, ℕ, Bool, true, List}
use Rattle.laws_jobs.specs.Machines.{no_words}

-- where they are blank they are zeros
abbrev pub AreBlank : Bool → List ℕ → Type 0
AreBlank blank words = blank ≡ true → words ≡ no_words
