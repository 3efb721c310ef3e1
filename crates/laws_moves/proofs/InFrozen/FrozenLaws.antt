-- The laws.
use Rattle.std.proofs.Common.{◌≡◌, true, ◌∷◌}
use Rattle.fk_model.specs.Places.{Path}
use Rattle.fk_model.specs.World.{World}
use Rattle.fk_model.specs.Holds.{is_frozen_for}
use Rattle.fk_model.specs.Outcomes.{Outcome}
use Rattle.fk_model.specs.Outcomes.Outcome.{Refused, Waits, Goes}
use Rattle.fk_model.specs.Moves.{outcome, GoesAllowed, step, stepped}
use Rattle.fk_model.specs.Valid.{IsConsistent}
use Rattle.laws_moves.proofs.InMachine.safety.Outcomes.{SafeOutcome}
use Rattle.laws_moves.proofs.InMachine.safety.Moves.{outcome-safe}
use Rattle.laws_moves.proofs.InMachine.validity.Steps.{facts_of}
use Rattle.laws_moves.specs.Frozen.Frozen.{IsSameInside, FrozenSubtreeStays, FrozenCutStays}
use Rattle.laws_moves.proofs.InFrozen.Frozen.{changes-same}
use Rattle.laws_moves.proofs.InFrozen.FrozenCut.{same-cut}

outcome-same : (w : World) (root me : Path) (o : Outcome) → IsConsistent w → is_frozen_for w me root ≡ true → GoesAllowed w me o → SafeOutcome w o →
    IsSameInside root w (stepped w o).world
outcome-same w root me (Goes changes said) valid frozen may safe = changes-same w root me valid frozen changes may safe.safe
outcome-same w root me (Refused status) valid frozen may safe = absurd may
outcome-same w root me Waits valid frozen may safe = absurd may

pub frozen_subtree_stays : FrozenSubtreeStays
unfolding step
frozen_subtree_stays w root x pick ask moves =
    outcome-same w root x (outcome w x pick ask) moves.valid.consistent moves.frozen moves.ready
    (outcome-safe w x pick ask (facts_of w moves.valid moves.few) moves.fit)

pub frozen_cut_stays : FrozenCutStays
frozen_cut_stays w nester slot x pick ask moves = same-cut w (step w x pick ask).world nester slot (frozen_subtree_stays w (slot ∷ nester) x pick ask moves)
