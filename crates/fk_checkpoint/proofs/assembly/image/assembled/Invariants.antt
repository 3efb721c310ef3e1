use Rattle.std.proofs.Common.{◌≡◌, ◌++◌, map, drop}
use Rattle.laws_checkpoint.specs.Assembly.{spaces_with}
use Rattle.laws_checkpoint.specs.Narrow.{narrow_space}
use Rattle.fk_checkpoint.specs.Gathering.Gathering.{contents_of, leads_of}
use Rattle.fk_checkpoint.specs.Assembly.Assembling.{spaces_of}
use Rattle.fk_checkpoint.proofs.assembly.image.assembled.Given as goal

abbrev pub invariant-loop-content : goal.invariant-loop-content
invariant-loop-content l =
    l.spaces ++ map narrow_space (spaces_with (spaces_of l.contents) (contents_of (drop l.content-index l.contents)) (leads_of l.left))
    ≡ map narrow_space (spaces_with (spaces_of l.contents) (contents_of l.contents) (leads_of l.leads))
