use Rattle.std.proofs.Common.{sym, subst}
use Rattle.fk_model.specs.Valid.{IsValid}
use Rattle.fk_store.specs.Store.Contents.{Contents}
use Rattle.fk_store.specs.Store.World.{world}
use Rattle.fk_turns.specs.Moved.Kept.{AreKept}
use Rattle.fk_turns.proofs.InSteps.Served.{passed_comes, passed_valid}
use Rattle.fk_turns.proofs.steps.serving.pass.Goals as goal

pub after_act-requires : goal.after_act-requires
after_act-requires c =
    let m = c.args.store.now in
    let n = c.pass-passed.new.store in
    let was = c.args.turns.now in
    let acted = rw c.in-Some.is at c.pass-passed.ensures.passed in
    record {
      valid = passed_valid m n c.args.port c.in-Some.client c.requires.valid c.names.ensures.few acted;
      comes = passed_comes m n c.args.port c.in-Some.client c.requires.valid c.names.ensures.few c.names.ensures.born c.names-2.ensures.born
          c.names-2.ensures.few was.waits was.marks c.requires.kept acted;
    }

pub returns-in-Some-clause-passed : goal.returns-in-Some-clause-passed
returns-in-Some-clause-passed c = (c.in-Some.client, rw c.in-Some.is at c.pass-passed.ensures.passed)

pub returns-in-Some-clause-valid : goal.returns-in-Some-clause-valid
returns-in-Some-clause-valid c =
    passed_valid c.args.store.now c.pass-passed.new.store c.args.port c.in-Some.client c.requires.valid c.names.ensures.few
    (rw c.in-Some.is at c.pass-passed.ensures.passed)

pub returns-in-None-clause-valid : goal.returns-in-None-clause-valid
returns-in-None-clause-valid c =
    let same = rw c.in-None.is at c.pass-passed.ensures.same in subst (λ (d : Contents). IsValid (world d)) (sym same) c.requires.valid

pub returns-in-None-clause-kept : goal.returns-in-None-clause-kept
returns-in-None-clause-kept c =
    let same = rw c.in-None.is at c.pass-passed.ensures.same in
    let was = c.args.turns.now in
    subst (λ (d : Contents). AreKept d was.waits was.marks) (sym same) c.requires.kept
