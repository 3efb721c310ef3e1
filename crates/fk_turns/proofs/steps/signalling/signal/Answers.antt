use Rattle.std.proofs.Common.{sym, subst}
use Rattle.fk_model.specs.Valid.{IsValid}
use Rattle.fk_store.specs.Store.Contents.{Contents}
use Rattle.fk_store.specs.Store.World.{world}
use Rattle.fk_turns.specs.Moved.Kept.{AreKept}
use Rattle.fk_turns.proofs.InSteps.Locked.{if_false}
use Rattle.fk_turns.proofs.InSteps.Risen.{signal_beside, signal_put, signal_valid}
use Rattle.fk_turns.proofs.steps.signalling.signal.Goals as goal

pub signal-requires : goal.signal-requires
signal-requires c = record {
  valid = c.requires.valid;
  unheld = c.is_any_held.ensures c.if-is_any_held.false;
  signals = c.in-Some.ensures;
}

pub after_waking-requires : goal.after_waking-requires
after_waking-requires c =
    let m = c.args.store.now in
    let n = c.signal.new.store in
    let was = c.args.turns.now in
    let woken = rw c.if-not-signal.false at c.signal.ensures.woken in
    record {
      valid = signal_valid m n c.args.who _ was.waits was.marks c.requires.valid c.names.ensures.few c.names.ensures.born c.names-2.ensures.born
          c.names-2.ensures.few c.requires.kept woken;
      comes = signal_beside m n c.args.who _ was.waits was.marks c.requires.valid c.names.ensures.few c.names.ensures.born c.names-2.ensures.born
          c.names-2.ensures.few c.requires.kept woken (rw c.if-not-marks_nobody.false at c.marks_nobody.ensures.none);
      on = woken.on;
    }

pub returns-clause-made : goal.returns-clause-made
returns-clause-made c = let woken = rw c.if-not-signal.false at c.signal.ensures.woken in (woken.ready, woken.step)

pub returns-clause-ended : goal.returns-clause-ended
returns-clause-ended c some = let woken = rw c.if-not-signal.false at c.signal.ensures.woken in woken.ended

pub returns-clause-valid : goal.returns-clause-valid
returns-clause-valid c =
    let m = c.args.store.now in
    let n = c.signal.new.store in
    let was = c.args.turns.now in
    let woken = rw c.if-not-signal.false at c.signal.ensures.woken in
    signal_valid m n c.args.who _ was.waits was.marks c.requires.valid c.names.ensures.few c.names.ensures.born c.names-2.ensures.born
    c.names-2.ensures.few c.requires.kept woken

pub returns-clause-placed : goal.returns-clause-placed
returns-clause-placed c =
    let m = c.args.store.now in
    let n = c.signal.new.store in
    let was = c.args.turns.now in
    let woken = rw c.if-not-signal.false at c.signal.ensures.woken in
    if_false c.args.stays (λ placed. signal_put m n c.args.who _ was.waits was.marks c.requires.valid c.names.ensures.few c.names.ensures.born
    c.names-2.ensures.born c.names-2.ensures.few c.requires.kept woken c.after_waking.new.turns.waits placed) c.after_waking.ensures.placed

-- ---- it declined

pub returns-then-not-signal-clause-valid : goal.returns-then-not-signal-clause-valid
returns-then-not-signal-clause-valid c =
    let same = rw c.if-not-signal.true at c.signal.ensures.same in
    subst (λ (d : Contents). IsValid (world d)) (sym same) c.requires.valid

pub returns-then-not-signal-clause-kept : goal.returns-then-not-signal-clause-kept
returns-then-not-signal-clause-kept c =
    let same = rw c.if-not-signal.true at c.signal.ensures.same in
    let was = c.args.turns.now in
    subst (λ (d : Contents). AreKept d was.waits was.marks) (sym same) c.requires.kept
