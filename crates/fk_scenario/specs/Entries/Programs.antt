-- Programs.
use Rattle.std.specs.Prelude.{ℕ, List, Result, Ok}
use Rattle.std.specs.Result.{result_ok}
use Rattle.toml.specs.Data.{Data, as_str}
use Rattle.fk_model.specs.Names.{is_name}
use Rattle.fk_asm.specs.Assembler.{assembled}
use Rattle.fk_scenario.specs.Fields.Gives.{◌>>=◌, or_rule, unless}
use Rattle.fk_scenario.specs.declared.entries.types.Program.{Program}

-- the words of a text; one that isn't assembled is rule 8
abbrev pub program_words : List ℕ → Result (List ℕ) ℕ
program_words text = or_rule 8 (result_ok (assembled text))

-- the program at a name
unfoldable pub program_of : List ℕ → Data → Result Program ℕ
program_of name value = do
  text ← or_rule 2 (as_str value)
  _ ← unless 4 (is_name name)
  words ← program_words text
  Ok (record { name = name; words = words })
