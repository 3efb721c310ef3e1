use Rattle.std.proofs.Common.{ℕ, refl, subst}
use Rattle.fk_waits.specs.Causes.Causes.{AreTaken}
use Rattle.fk_waits.proofs.InCauses.Steps.{never_taken}
use Rattle.fk_waits.proofs.causes.causes.Causes.find_empty.Goals as goal

pub unreachable-requires : goal.unreachable-requires
unreachable-requires c =
    let q = c.args.self.now in
    let hand = c.at_most-hand.result in
    never_taken q c.requires.stand c.once.ensures c.requires.many hand
    (subst (λ (n : ℕ). AreTaken q hand n) c.len-many.ensures (c.in_default.ensures.taken refl)) (c.in-None.ensures.taken refl)
