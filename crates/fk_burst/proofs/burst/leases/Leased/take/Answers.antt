use Rattle.std.proofs.Common.{refl}
use Rattle.fk_store.specs.Store.Paths.{path}
use Rattle.fk_store.specs.Store.World.{world}
use Rattle.fk_burst.proofs.InBurst.Leasing.{kept_first}
use Rattle.fk_burst.proofs.burst.leases.Leased.take.Goals as goal

pub returns-in-Some-clause-some : goal.returns-in-Some-clause-some
returns-in-Some-clause-some c = record {
  there = c.in-Some.there.now;
  is = c.in-Some.ensures.thread;
  thread = refl;
  taken = c.fill.ensures.begun;
  copy = refl;
  count = refl;
}

pub invariant_of-self : goal.invariant_of-self
invariant_of-self c =
    kept_first c.args.thread c.fill.new.self (world c.args.store.now) (path c.args.store.now c.args.thread.space)
    c.in-Some.there.now.regs c.in-Some.there.now.pc c.fill.ensures.begun c.fill.ensures.first
