-- Room for an answer: one with zeros throughout.
use Rattle.std.specs.Prelude.{◌≡◌, replicate}
use Rattle.fk_model.specs.declared.limits.TheConstants.{PAGE_WORDS}
use Rattle.fk_model.specs.declared.moves.Said as says_of
use Rattle.fk_model.specs.declared.moves.Said.TheVariants as says

-- an answer that is empty
abbrev pub IsRoom : says_of.Said → Type 0
IsRoom said = said ≡ says.Answer (record { status = 0; words = replicate PAGE_WORDS 0; len = 0 })
