use Rattle.std.proofs.Common.{arith}
use Rattle.fk_cut.proofs.InClosing.Leads.{met, low_space, no_slot}
use Rattle.fk_cut.proofs.InClosing.Walked.{few_above}
use Rattle.fk_cut.proofs.closing.above.is_met.Goals as goal

pub returns-in-Some : goal.returns-in-Some
returns-in-Some c = met c.args.store.now c.args.who c.names.ensures.born (omega arith) (few_above c.args.store.now c.args.who (omega arith))
    (low_space _ c.in-Some.space.slot _ c.in-Some.ensures.place (omega arith)) c.requires

pub returns-in_default : goal.returns-in_default
returns-in_default c = met c.args.store.now c.args.who c.names.ensures.born (omega arith) (few_above c.args.store.now c.args.who (omega arith))
    (no_slot _ c.in_default.ensures.root) c.requires
