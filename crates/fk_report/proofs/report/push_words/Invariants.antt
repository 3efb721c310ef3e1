use Rattle.std.proofs.Common.{◌≡◌, ◌++◌, drop, string_bytes}
use Rattle.std.specs.List.{flat_map}
use Rattle.fk_report.specs.Report as definitions
use Rattle.fk_report.proofs.report.push_words.Given as goal

abbrev pub invariant-loop-word : goal.invariant-loop-word
invariant-loop-word l =
    string_bytes l.text ++ flat_map definitions.word_text (drop l.word-index l.words) ≡ string_bytes l.fn.text ++ flat_map definitions.word_text l.words
