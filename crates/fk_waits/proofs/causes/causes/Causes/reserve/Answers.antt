use Rattle.fk_waits.proofs.InCauses.Steps.{reserved_so}
use Rattle.fk_waits.proofs.causes.causes.Causes.reserve.Goals as goal

pub returns-clause-kept : goal.returns-clause-kept
returns-clause-kept c l standing =
    let q = c.args.self.now in
    let n = c.in_ok-reserve.ensures in
    let o = c.in_ok-reserve-2.ensures in
    reserved_so q c.reserve-2.new.self c.reserve.new.self c.args.seats o.kept o.shown o.len.0 o.len.1 n.entries c.requires.more o.order o.lines
    n.room l standing
