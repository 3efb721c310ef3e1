use Rattle.std.proofs.Common.{refl, arith}
use Rattle.fk_waits.proofs.InWaits.Settled.{has_key, named_there, named_put, put_new, put_one, unnamed_there}
use Rattle.fk_waits.proofs.waits.threads.Threads.rename_thread.Goals as goal

pub rename_thread-requires : goal.rename_thread-requires
rename_thread-requires c = has_key c.args.self.now c.args.from c.in-Some.key c.requires.list c.requires.there c.in-Some.ensures.taken

pub put-requires : goal.put-requires
put-requires c = record {
  new = put_new c.args.self.now c.take.new.self c.args.from c.args.to c.requires c.in-Some.ensures.left;
  room = put_one c.args.self.now c.take.new.self c.args.to c.requires (c.in-Some.ensures.len refl) c.in-Some.ensures.kept;
}

pub returns-clause-there : goal.returns-clause-there
returns-clause-there c l there =
    let k = c.in-Some.ensures in
    let p = c.put.ensures in
    named_there c.args.self.now c.rename_thread.new.self c.put.new.self c.args.from c.args.to c.in-Some.key k.taken c.requires c.rename_thread.ensures.standing
    c.rename_thread.ensures.seats (named_put c.args.self.now c.take.new.self c.put.new.self c.args.from c.args.to c.in-Some.key k.left p.put)
    (omega (arith, p.len, k.len refl)) (omega (arith, k.kept, p.kept)) l there

pub returns-in_default-clause-there : goal.returns-in_default-clause-there
returns-in_default-clause-there c l there =
    let k = c.in_default.ensures in unnamed_there c.args.self.now c.take.new.self c.args.from c.args.to k.taken (k.same refl) l there
