use Rattle.std.proofs.Common.{◌≡◌, ◌+◌, drop}
use Rattle.laws_pictures.specs.Imaged.{rank}
use Rattle.fk_checkpoint.specs.Seeking.Seeking.{up}
use Rattle.fk_checkpoint.specs.Assembly.Assembling.{spaces_of}
use Rattle.fk_checkpoint.proofs.assembly.links.rank.Given as goal

-- it is none of those passed
abbrev pub invariant-loop-at : goal.invariant-loop-at
invariant-loop-at l = rank (spaces_of l.contents) (up l.path) ≡ l.at + rank (spaces_of (drop l.at l.contents)) (up l.path)
