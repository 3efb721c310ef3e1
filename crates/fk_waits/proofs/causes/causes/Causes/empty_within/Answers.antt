use Rattle.std.proofs.Common.{arith}
use Rattle.std.proofs.lemmas.Bool.{OnFalse_at}
use Rattle.fk_waits.proofs.InCauses.Steps.{named_head, taken_more}
use Rattle.fk_waits.proofs.causes.causes.Causes.empty_within.Goals as goal

pub loop-at-init : goal.loop-at-init
loop-at-init c k d low high l filed = absurd (omega (arith, low, high))

pub is_empty-requires : goal.is_empty-requires
is_empty-requires c = named_head c.args.self.now c.entry.result.key c.entry.result.who c.entry.ensures.number c.requires.stand

pub loop-at-preserved : goal.loop-at-preserved
loop-at-preserved c =
    taken_more c.args.self.now c.args.from c.loop-at.at c.entry.result c.entry.ensures.name (OnFalse_at c.if-is_empty.false c.is_empty.ensures.some)
    c.loop-at.invariant
