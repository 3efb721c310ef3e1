use Rattle.fk_waits.proofs.InCauses.Steps.{open_room, opened_cause, opened_so, put_room}
use Rattle.fk_waits.proofs.causes.causes.Causes.open.Goals as goal

pub open-head-requires : goal.open-head-requires
open-head-requires c = open_room c.args.self.now c.requires.stand c.requires.place

pub put-requires : goal.put-requires
put-requires c = record { new = c.requires.new; room = put_room c.args.self.now c.requires.stand c.requires.place }

pub returns-clause-standing : goal.returns-clause-standing
returns-clause-standing c l standing =
    let o = c.open-head.ensures in
    let p = c.put.ensures in
    opened_so c.args.self.now c.open-head.new.self c.put.new.self c.open-head.result c.args.name c.requires.new o.new o.head o.others
    p.put p.len c.requires.place p.kept o.len.0 o.len.1 o.room o.kept l standing

pub returns-clause-cause : goal.returns-clause-cause
returns-clause-cause c =
    let o = c.open-head.ensures in
    let p = c.put.ensures in
    opened_cause c.args.self.now c.open-head.new.self c.put.new.self c.open-head.result c.args.name c.requires.new o.new o.head o.others
    p.put p.len c.requires.place p.kept o.len.0 o.len.1 o.room o.kept c.requires.stand
