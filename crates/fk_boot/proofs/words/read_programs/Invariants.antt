use Rattle.std.proofs.Common.{◌≡◌, true, take}
use Rattle.std.specs.List.{list_all}
use Rattle.fk_model.specs.Whole.{are_words}
use Rattle.fk_boot.proofs.words.read_programs.Given as goal

abbrev pub invariant-loop-program : goal.invariant-loop-program
invariant-loop-program l = list_all (λ p. are_words p.words) (take l.program-index l.programs) ≡ true
