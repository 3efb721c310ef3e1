use Rattle.std.proofs.Common.{◌≡◌, [], drop, map}
use Rattle.fk_asm.specs.Labels.{line_view}
use Rattle.fk_asm.specs.Passes.{line_words_from}
use Rattle.fk_asm.proofs.assembler.words_of.Given as goal

abbrev pub invariant-loop-line : goal.invariant-loop-line
invariant-loop-line l = line_words_from l.lines l.words.items (map line_view (drop l.line-index l.line-items)) ≡ line_words_from l.lines [] l.lines
