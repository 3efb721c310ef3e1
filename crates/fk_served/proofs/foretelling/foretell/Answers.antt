use Rattle.fk_kernel.specs.Kernels.{store_of}
use Rattle.fk_served.proofs.Foreseen.{fit-move, foretold-event, unready-event}
use Rattle.fk_served.proofs.foretelling.foretell.Goals as goal

pub foretell-requires-clause-valid : goal.foretell-requires-clause-valid
foretell-requires-clause-valid c = rw c.store.ensures c.names.ensures.valid

pub foretell-requires-clause-fit : goal.foretell-requires-clause-fit
foretell-requires-clause-fit c =
    rw c.store.ensures (fit-move (store_of c.args.kernel.now) c.args.m.now c.args.ask.now c.names.ensures.born c.requires.fit)

pub returns-clause-told : goal.returns-clause-told
returns-clause-told c =
    foretold-event (store_of c.args.kernel.now) c.args.m.now c.args.ask.now c.names.ensures.born c.names.ensures.valid c.names.ensures.few
    c.foretell.result (rw c.store.ensures at c.foretell.ensures.told)

pub returns-clause-unready : goal.returns-clause-unready
returns-clause-unready c =
    unready-event (store_of c.args.kernel.now) c.args.m.now c.args.ask.now c.names.ensures.born
    c.foretell.result (rw c.store.ensures at c.foretell.ensures.unready)
