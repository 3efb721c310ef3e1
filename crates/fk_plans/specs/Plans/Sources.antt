-- Sources: the words of a new page.
use Rattle.std.specs.Prelude.{ℕ, List, replicate, IsSome, ⊤}
use Rattle.fk_model.specs.declared.limits.TheConstants.{PAGE_WORDS}
use Rattle.fk_model.specs.Places.{Path}
use Rattle.fk_model.specs.Reach.{words_at}
use Rattle.fk_model.specs.World.{World}
use Rattle.fk_plans.specs.declared.plans.sources.Source.{Source}
use Rattle.fk_plans.specs.declared.plans.sources.Source.TheVariants as sources

-- the words, where a porter gives these
abbrev pub source_words : (ℕ → Path) → List ℕ → Source → World → List ℕ
source_words p given sources.Zeros w = replicate PAGE_WORDS 0
source_words p given (sources.Page space page) w = words_at w (p space) page
source_words p given sources.Given w = given

-- the page from which they come is there
abbrev pub IsSource : (ℕ → Path) → World → Source → Type 0
IsSource p w (sources.Page space page) = IsSome (w.page (p space) page)
IsSource p w other = ⊤
