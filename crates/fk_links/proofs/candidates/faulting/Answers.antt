use Rattle.fk_store.specs.Store.Paths.{path}
use Rattle.fk_store.specs.Store.World.{world}
use Rattle.fk_links.proofs.Faulted.{faulting_closed, faulting_open}
use Rattle.fk_links.proofs.candidates.faulting.Goals as goal

pub returns-then-not-is_open-clause-candidate : goal.returns-then-not-is_open-clause-candidate
returns-then-not-is_open-clause-candidate c =
    let p = path c.args.store.now in
    let test = c.is_open.ensures p in
    faulting_closed p (world c.args.store.now) (p c.args.space) c.args.set c.args.thread.now c.in_ok-fault.fault (cc) (cc)

pub returns-clause-candidate : goal.returns-clause-candidate
returns-clause-candidate c =
    let p = path c.args.store.now in
    let test = c.is_open.ensures p in
    faulting_open p (world c.args.store.now) (p c.args.space) c.args.set c.in_ok-slot.slot
    c.args.thread.now c.in_ok-fault.fault (cc) (cc) c.in_ok-slot.ensures.slot
