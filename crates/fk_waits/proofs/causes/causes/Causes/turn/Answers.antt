use Rattle.std.proofs.Common.{◌==◌, ℕ, not, ◌++◌, ◌∷◌, sym, ap, ◌∙◌}
use Rattle.fk_waits.proofs.causes.causes.Causes.turn.Goals as goal

pub queue_for-head-requires : goal.queue_for-head-requires
queue_for-head-requires c = let h = c.requires in record { list = h.before ++ h.one ∷ h.behind; standing = h.standing }

pub turn_to-left-requires : goal.turn_to-left-requires
turn_to-left-requires c =
    let h = c.requires in
    record {
      before = h.before;
      one = h.one;
      behind = h.behind;
      is = h.is;
      standing = c.queue_for-head.ensures.standing (h.before ++ h.one ∷ h.behind) h.standing;
    }

pub returns-clause-standing : goal.returns-clause-standing
returns-clause-standing c a b s standing is =
    rw (← c.queue_for-head.ensures.cause)
    (c.turn_to-left.ensures.standing a b s (c.queue_for-head.ensures.standing (a ++ s ∷ b) standing) is)

pub returns-clause-waited : goal.returns-clause-waited
returns-clause-waited c a b s standing is =
    let told = c.turn_to-left.ensures.waited a b s (c.queue_for-head.ensures.standing (a ++ s ∷ b) standing) is in
    ap (λ (n : ℕ). not (c.turn_to-left.result == n)) c.turn_to-left.ensures.ready ∙ sym told
