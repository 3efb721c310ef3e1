use Rattle.std.proofs.Common.{◌∙◌, ap, refl, subst, sym}
use Rattle.std.specs.Prelude.{IsTrue}
use Rattle.fk_embed.proofs.Going.{asks_it, goes_on}
use Rattle.fk_jobs.specs.Porters.{state_of}
use Rattle.fk_served.specs.Kernels.{path_of, world_of as world}
use Rattle.fk_store.specs.Store.Moves.{said_by}
use Rattle.laws_house.specs.Houses.{machine}
use Rattle.laws_jobs.specs.Machines.{Reply}
use Rattle.fk_embed.proofs.job.HostJob.call.Goals as goal

pub returns-in-Ok-clause-goes : goal.returns-in-Ok-clause-goes
returns-in-Ok-clause-goes g c =
    let self = c.args.self.now in
    let kernel = c.turn.new.self.kernel in
    let turn = c.in-Ok.ensures.turn in
    let state = state_of self.porter in
    goes_on self.nester (world c.args.host.now.kernel) (world kernel) state (state_of c.absorb.new.self) c.args.stage c.args.words
    (said_by (path_of kernel) c.in-Ok.said)
    (rw c.kernel.ensures at c.is_runnable-in-Ok.ensures.runnable.whole) (rw c.kernel-kernel.ensures at c.is_runnable.ensures.runnable.whole)
    (asks_it (machine.head state) c.args.stage c.args.words c.requires.asked)
    (c.ready.ensures.0 (subst IsTrue (sym c.if-not-ready.false) refl)) turn.step
    (c.absorb.ensures ∙ sym (ap (λ (r : Reply). machine.next state r.status r.words) (c.answer_of.ensures (path_of kernel))))
