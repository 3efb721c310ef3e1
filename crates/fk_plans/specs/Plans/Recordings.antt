-- Recordings: the words of a record that is set.
use Rattle.std.specs.Prelude.{ℕ, ◌+◌, ◌≤◌, List, take, drop, IsSome, ⊤}
use Rattle.fk_model.specs.declared.limits.TheConstants.{RECORD_WORDS}
use Rattle.fk_model.specs.Places.{Path}
use Rattle.fk_model.specs.Reach.{words_at}
use Rattle.fk_model.specs.World.{World}
use Rattle.fk_plans.specs.declared.plans.recording.Record.{Record}
use Rattle.fk_plans.specs.declared.plans.recording.Record.TheVariants as records

-- the words, where a porter gives these
abbrev pub record_words : (ℕ → Path) → List ℕ → Record → World → List ℕ
record_words p given (records.Page space page at) w = take RECORD_WORDS (drop at (words_at w (p space) page))
record_words p given records.Given w = given

-- they lie within a page that is there
abbrev pub IsRecord : (ℕ → Path) → World → Record → Type 0
IsRecord p w (records.Page space page at) = (at + 32 ≤ 64) × IsSome (w.page (p space) page)
IsRecord p w records.Given = ⊤
