use Rattle.std.proofs.Common.{◌≡◌, [], drop, map}
use Rattle.fk_asm.specs.Passes.{lines_from}
use Rattle.fk_asm.proofs.assembler.read_lines.Given as goal

abbrev pub invariant-loop-text : goal.invariant-loop-text
invariant-loop-text l = lines_from l.lines l.number (map (λ text. text.now) (drop l.text-index l.texts)) ≡ lines_from [] 1 (map (λ text. text.now) l.texts)
