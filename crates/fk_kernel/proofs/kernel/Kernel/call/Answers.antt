use Rattle.std.proofs.Common.{sym}
use Rattle.fk_model.specs.declared.moves.Ask.TheVariants as asks
use Rattle.fk_turns.specs.Steps.Tried.{tried_of}
use Rattle.fk_kernel.proofs.Endings.{ended-tried, heard-tried}
use Rattle.fk_turns.specs.Steps.Waiting.{standing}
use Rattle.fk_kernel.proofs.Kept.{same-lacking, same-unready}
use Rattle.fk_kernel.proofs.Promises.{fit-move}
use Rattle.fk_kernel.proofs.kernel.Kernel.call.Goals as goal

pub call-made-requires-clause-fit : goal.call-made-requires-clause-fit
call-made-requires-clause-fit c =
    fit-move c.self.inside.store c.args.m.now (asks.Call c.args.stage.now c.args.words.now) c.names.ensures.born (rw (sym c.self.view_is) at c.requires.fit)

pub invariant_of-self : goal.invariant_of-self
invariant_of-self c = record { valid = c.call-made.ensures.valid; kept = c.call-made.ensures.kept }

pub returns-clause-ended : goal.returns-clause-ended
returns-clause-ended c =
    let m = c.self.inside.store in
    let n = c.call-made.new.store in
    let ended = ended-tried m n c.self.invariant.valid c.names.ensures.few c.call-made.ensures.valid c.names-2.ensures.few c.names.ensures.born
    (tried_of c.call-made.result c.call-made.new.told) c.call-made.ensures.ended in
    rw (← c.self.view_is) ended

pub returns-clause-told : goal.returns-clause-told
returns-clause-told c =
    let told = heard-tried c.self.inside.store c.call-made.new.store c.args.m.now (asks.Call c.args.stage.now c.args.words.now) c.names.ensures.born
    (tried_of c.call-made.result c.call-made.new.told) c.call-made.ensures.made c.call-made.ensures.heard in
    rw (← c.self.view_is) told

pub returns-clause-lacking : goal.returns-clause-lacking
returns-clause-lacking c =
    let inside = c.self.inside in
    let same = same-lacking inside.store c.call-made.new.store (standing inside.turns.waits) (standing c.call-made.new.turns.waits)
    (tried_of c.call-made.result c.call-made.new.told) c.call-made.ensures.lacking c.call-made.ensures.still in
    rw (← c.self.view_is) same

pub returns-clause-unready : goal.returns-clause-unready
returns-clause-unready c =
    let inside = c.self.inside in
    let same = same-unready inside.store c.call-made.new.store (standing inside.turns.waits) (standing c.call-made.new.turns.waits) c.args.m.now
    (asks.Call c.args.stage.now c.args.words.now) c.names.ensures.born (tried_of c.call-made.result c.call-made.new.told) c.call-made.ensures.unready
    c.call-made.ensures.still in
    rw (← c.self.view_is) same
