use Rattle.std.proofs.Common.{◌≡◌, drop}
use Rattle.fk_image.specs.Format.Offsets.{spaces_walk}
use Rattle.fk_image.specs.Pointers.Places.{IsIndex}
use Rattle.fk_image.specs.Pointers.Walks.{standing}
use Rattle.fk_image.proofs.pointers.links.spaces_walk.Given as goal

abbrev pub invariant-loop-number : goal.invariant-loop-number
invariant-loop-number l = IsIndex l.spaces l.index ×
    (spaces_walk l.spaces l.number (drop l.number l.spaces) (standing l.at l.named) ≡ spaces_walk l.spaces 0 l.spaces (standing 14 l.fn.named))
