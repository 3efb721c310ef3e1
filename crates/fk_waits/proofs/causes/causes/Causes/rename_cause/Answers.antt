use Rattle.std.proofs.Common.{refl, arith}
use Rattle.fk_waits.proofs.InCauses.Steps.{renamed_so, taken_head, taken_long, taken_new, taken_put, taken_room, unnamed_same}
use Rattle.fk_waits.proofs.causes.causes.Causes.rename_cause.Goals as goal

pub returns-in_default-clause-standing : goal.returns-in_default-clause-standing
returns-in_default-clause-standing c l standing =
    unnamed_same c.args.self.now c.take.new.self c.args.from c.args.to c.in_default.ensures.taken (c.in_default.ensures.same refl) l standing

pub rename_queue-requires : goal.rename_queue-requires
rename_queue-requires c = taken_head c.args.self.now c.in-Some.head c.args.from c.in-Some.ensures.taken c.requires.stand

pub put-requires : goal.put-requires
put-requires c = record {
  new = taken_new c.args.self.now c.take.new.self c.args.from c.args.to c.requires.unused c.in-Some.ensures.left;
  room = taken_room c.args.self.now c.take.new.self (c.in-Some.ensures.len refl) c.in-Some.ensures.kept c.requires.stand;
}

pub returns-clause-standing : goal.returns-clause-standing
returns-clause-standing c l standing =
    let k = c.in-Some.ensures in
    let e = c.rename_queue.ensures in
    let p = c.put.ensures in
    renamed_so c.args.self.now c.rename_queue.new.self c.put.new.self c.in-Some.head c.args.from c.args.to k.taken c.requires.unused e.head e.others
    (taken_put c.args.self.now c.take.new.self c.put.new.self c.in-Some.head c.args.from c.args.to k.left p.put)
    (taken_long c.args.self.now c.take.new.self c.put.new.self (k.len refl) p.len) (omega (arith, k.kept, p.kept)) e.len.0 e.len.1 e.room e.kept l standing
