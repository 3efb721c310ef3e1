use Rattle.std.proofs.Common.{sym, subst}
use Rattle.fk_model.specs.Valid.{IsValid}
use Rattle.fk_store.specs.Store.Contents.{Contents}
use Rattle.fk_store.specs.Store.World.{world}
use Rattle.fk_turns.specs.Moved.Kept.{AreKept}
use Rattle.fk_turns.proofs.InSteps.Served.{given_comes, given_valid}
use Rattle.fk_turns.proofs.steps.serving.give.Goals as goal

pub after_act-requires : goal.after_act-requires
after_act-requires c =
    let m = c.args.store.now in
    let n = c.give-gave.new.store in
    let was = c.args.turns.now in
    let gave = c.in-Some.gave in
    let given = rw c.in-Some.is at c.give-gave.ensures.gave in
    record {
      valid = given_valid m n c.args.port gave.client c.requires.valid c.names.ensures.few c.args.words.now gave.count given;
      comes = given_comes m n c.args.port gave.client c.requires.valid c.names.ensures.few c.names.ensures.born c.names-2.ensures.born c.names-2.ensures.few
          was.waits was.marks c.requires.kept c.args.words.now gave.count given;
    }

pub returns-in-Some-clause-gave : goal.returns-in-Some-clause-gave
returns-in-Some-clause-gave c = (c.in-Some.gave.client, rw c.in-Some.is at c.give-gave.ensures.gave)

pub returns-in-Some-clause-valid : goal.returns-in-Some-clause-valid
returns-in-Some-clause-valid c =
    let gave = c.in-Some.gave in
    given_valid c.args.store.now c.give-gave.new.store c.args.port gave.client c.requires.valid c.names.ensures.few c.args.words.now gave.count
    (rw c.in-Some.is at c.give-gave.ensures.gave)

pub returns-in-None-clause-valid : goal.returns-in-None-clause-valid
returns-in-None-clause-valid c =
    let same = rw c.in-None.is at c.give-gave.ensures.same in subst (λ (d : Contents). IsValid (world d)) (sym same) c.requires.valid

pub returns-in-None-clause-kept : goal.returns-in-None-clause-kept
returns-in-None-clause-kept c =
    let same = rw c.in-None.is at c.give-gave.ensures.same in
    let was = c.args.turns.now in
    subst (λ (d : Contents). AreKept d was.waits was.marks) (sym same) c.requires.kept
