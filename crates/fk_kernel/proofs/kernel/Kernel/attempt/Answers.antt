use Rattle.std.proofs.Common.{sym}
use Rattle.fk_kernel.proofs.Endings.{ended-tried, heard-tried}
use Rattle.fk_turns.specs.Steps.Waiting.{standing}
use Rattle.fk_kernel.proofs.Kept.{same-lacking, same-unready}
use Rattle.fk_store.specs.Store.World.{world}
use Rattle.fk_kernel.proofs.Promises.{correct-tried, fit-move, prompt-tried, sized-runnable}
use Rattle.fk_kernel.proofs.kernel.Kernel.attempt.Goals as goal

pub invariant_of-self : goal.invariant_of-self
invariant_of-self c = record { valid = c.attempt-tried.ensures.valid; kept = c.attempt-tried.ensures.kept }

pub attempt-tried-requires-clause-fit : goal.attempt-tried-requires-clause-fit
attempt-tried-requires-clause-fit c =
    fit-move c.self.inside.store c.args.m.now c.args.ask.now c.names.ensures.born (rw (sym c.self.view_is) at c.requires.fit)

pub returns-clause-prompt : goal.returns-clause-prompt
returns-clause-prompt c prompt =
    prompt-tried c.self.inside.store c.args.m.now c.args.ask.now c.names.ensures.born _ c.attempt-tried.result c.attempt-tried.ensures.unready
    (rw (sym c.self.view_is) at prompt)

pub returns-clause-correct : goal.returns-clause-correct
returns-clause-correct c =
    let m = c.self.inside.store in
    let runs = sized-runnable (world m) c.self.invariant.valid c.names.ensures.few c.sizes.ensures.pages c.sizes.ensures.registers in
    let correct =
    correct-tried m c.args.m.now c.args.ask.now c.names.ensures.born runs c.sizes.ensures.shaped c.attempt-tried.new.store _ c.attempt-tried.result
    c.attempt-tried.ensures.made in
    rw (← c.self.view_is) correct

pub returns-clause-ended : goal.returns-clause-ended
returns-clause-ended c =
    let m = c.self.inside.store in
    let n = c.attempt-tried.new.store in
    let ended = ended-tried m n c.self.invariant.valid c.names.ensures.few c.attempt-tried.ensures.valid c.names-2.ensures.few c.names.ensures.born
    c.attempt-tried.result c.attempt-tried.ensures.ended in
    rw (← c.self.view_is) ended

pub returns-clause-told : goal.returns-clause-told
returns-clause-told c =
    let told = heard-tried c.self.inside.store c.attempt-tried.new.store c.args.m.now c.args.ask.now c.names.ensures.born
    c.attempt-tried.result c.attempt-tried.ensures.made c.attempt-tried.ensures.heard in
    rw (← c.self.view_is) told

pub returns-clause-lacking : goal.returns-clause-lacking
returns-clause-lacking c =
    let inside = c.self.inside in
    let same = same-lacking inside.store c.attempt-tried.new.store (standing inside.turns.waits)
    (standing c.attempt-tried.new.turns.waits) c.attempt-tried.result
    c.attempt-tried.ensures.lacking c.attempt-tried.ensures.still in
    rw (← c.self.view_is) same

pub returns-clause-unready : goal.returns-clause-unready
returns-clause-unready c =
    let inside = c.self.inside in
    let same = same-unready inside.store c.attempt-tried.new.store (standing inside.turns.waits) (standing c.attempt-tried.new.turns.waits) c.args.m.now
    c.args.ask.now c.names.ensures.born c.attempt-tried.result c.attempt-tried.ensures.unready c.attempt-tried.ensures.still in
    rw (← c.self.view_is) same
