use Rattle.fk_waits.proofs.InCauses.Steps.{first_so, found_cause, nobody_so, taken_head}
use Rattle.fk_waits.proofs.causes.causes.Causes.first_named.Goals as goal

pub first-requires : goal.first-requires
first-requires c = record { head = taken_head c.args.self.now c.in-Some.head c.args.name c.in-Some.ensures c.requires }

pub returns-in-Some : goal.returns-in-Some
returns-in-Some c l standing =
    let q = c.args.self.now in
    first_so q c.in-Some.head _ c.first.result (found_cause q c.in-Some.head c.args.name c.in-Some.ensures c.requires) c.first.ensures l standing
    (taken_head q c.in-Some.head c.args.name c.in-Some.ensures c.requires)

pub returns-in-None : goal.returns-in-None
returns-in-None c l standing = nobody_so c.args.self.now c.args.name c.in-None.ensures l standing
