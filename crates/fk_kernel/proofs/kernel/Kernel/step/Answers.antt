use Rattle.std.proofs.Common.{sym}
use Rattle.fk_turns.specs.Steps.Waiting.{standing}
use Rattle.fk_kernel.proofs.Kept.{same-err}
use Rattle.fk_store.specs.Store.World.{world}
use Rattle.fk_kernel.proofs.Promises.{correct-step, fit-move, sized-runnable}
use Rattle.fk_kernel.proofs.kernel.Kernel.step.Goals as goal

pub invariant_of-self : goal.invariant_of-self
invariant_of-self c = record { valid = c.take.ensures.valid; kept = c.take.ensures.kept }

pub returns-clause-correct : goal.returns-clause-correct
returns-clause-correct c =
    let m = c.self.inside.store in
    let runs = sized-runnable (world m) c.self.invariant.valid c.names.ensures.few c.sizes.ensures.pages c.sizes.ensures.registers in
    let correct =
    correct-step m c.args.m.now c.args.ask.now c.names.ensures.born runs c.sizes.ensures.shaped c.take.new.store c.take.result c.take.ensures.step in
    rw (← c.self.view_is) correct

pub take-requires-clause-fit : goal.take-requires-clause-fit
take-requires-clause-fit c =
    fit-move c.self.inside.store c.args.m.now c.args.ask.now c.names.ensures.born (rw (sym c.self.view_is) at c.requires.fit)

pub returns-clause-lacking : goal.returns-clause-lacking
returns-clause-lacking c =
    let inside = c.self.inside in
    let same = same-err inside.store c.take.new.store (standing inside.turns.waits) (standing c.take.new.turns.waits) c.take.result c.take.ensures.lacking
    c.take.ensures.still in
    rw (← c.self.view_is) same
