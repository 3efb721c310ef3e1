use Rattle.std.proofs.Common.{refl, arith}
use Rattle.fk_waits.specs.declared.waits.threads.Threads.{Threads}
use Rattle.fk_waits.proofs.InWaits.Settled.{caused_there, nobody_waits, wider_there}
use Rattle.fk_waits.proofs.waits.threads.Threads.rename_cause.Goals as goal

pub forget-requires : goal.forget-requires
forget-requires c = record { list = c.requires.there.list; standing = c.requires.there.standing }

pub rename_cause-requires : goal.rename_cause-requires
rename_cause-requires c =
    let e = c.forget.ensures in
    let u = c.requires in
    record {
      stand = record { list = u.there.list; standing = e.standing u.there.list u.there.standing };
      unused = e.gone u.there.list u.there.standing (nobody_waits c.args.self.now c.args.to u);
    }

pub returns-clause-there : goal.returns-clause-there
returns-clause-there c l there =
    let t = c.args.self.now in
    let e = c.forget.ensures in
    let then : Threads = record { causes = c.forget.new.self; names = t.names } in
    caused_there then c.rename_cause.new.self c.args.from c.args.to c.rename_cause.ensures.standing c.rename_cause.ensures.seats l
    (wider_there t c.forget.new.self t.names e.standing refl (omega arith) e.seats l there)
