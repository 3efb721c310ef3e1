use Rattle.std.proofs.Common.{ne_eqb, arith}
use Rattle.fk_changes.proofs.InReaders.Beneath.{goes_up, arrives, leaves}
use Rattle.fk_changes.proofs.readers.within.is_beneath.Goals as goal

pub returns-in-None-clause-within : goal.returns-in-None-clause-within
returns-in-None-clause-within c =
    let told = c.in-None.ensures in
    let other = ne_eqb c.loop-at.at.space c.args.outer c.loop-at-test.true in
    (leaves c.args.store.now c.args.outer c.args.object c.loop-at.at c.loop-at.invariant (omega arith) told.none told.space c.requires.space other).0

pub returns-in-None-clause-walked : goal.returns-in-None-clause-walked
returns-in-None-clause-walked c =
    let told = c.in-None.ensures in
    let other = ne_eqb c.loop-at.at.space c.args.outer c.loop-at-test.true in
    (leaves c.args.store.now c.args.outer c.args.object c.loop-at.at c.loop-at.invariant (omega arith) told.none told.space c.requires.space other).1

pub loop-at-preserved : goal.loop-at-preserved
loop-at-preserved c =
    let told = c.in-Some.ensures in
    let other = ne_eqb c.loop-at.at.space c.args.outer c.loop-at-test.true in
    goes_up c.args.store.now c.args.outer c.args.object c.loop-at.at c.loop-at.invariant (omega arith)
    c.in-Some.higher told.some.0 told.some.1 told.some.2 told.space c.requires.space other

pub returns-clause-within : goal.returns-clause-within
returns-clause-within c =
    (arrives c.args.store.now c.args.outer c.args.object c.loop-at.at c.loop-at.invariant (omega arith) (omega arith) (omega arith)).0

pub returns-clause-walked : goal.returns-clause-walked
returns-clause-walked c =
    (arrives c.args.store.now c.args.outer c.args.object c.loop-at.at c.loop-at.invariant (omega arith) (omega arith) (omega arith)).1
