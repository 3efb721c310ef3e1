use Rattle.fk_waits.proofs.InCauses.Numbers.{clash}
use Rattle.fk_turns.specs.Moved.Kept.{is_user_at}
use Rattle.fk_turns.specs.Moved.Moved.{now_named}
use Rattle.fk_turns.proofs.InSteps.Unknown.{kept_unknown, mover_none}
use Rattle.fk_turns.proofs.steps.plain.after_call.Goals as goal

pub after-requires : goal.after-requires
after-requires c = record { valid = c.requires.valid; comes = c.requires.comes.comes }

pub after_unknown-requires : goal.after_unknown-requires
after_unknown-requires c =
    let unknown = rw c.if-not-are_unknown.false at c.are_unknown.ensures in
    record { valid = c.requires.valid; comes = c.requires.comes; unknown = unknown }

pub returns-then-is_none_queued-clause-kept : goal.returns-then-is_none_queued-clause-kept
returns-then-is_none_queued-clause-kept c =
    let now = c.args.turns.now in
    let by = c.requires.comes in
    let unknown = rw c.if-not-are_unknown.false at c.are_unknown.ensures in
    let none = rw c.if-is_none_queued.true at c.is_none_queued.ensures in
    kept_unknown by.comes.before c.args.store.now c.args.mover c.args.touched.now now.waits now.marks by.comes.kept by.comes.moved unknown by.porter none

pub returns-then-is_none_queued-clause-placed : goal.returns-then-is_none_queued-clause-placed
returns-then-is_none_queued-clause-placed c user =
    let n = c.args.store.now in
    let now = c.args.turns.now in
    let by = c.requires.comes in
    let unknown = rw c.if-not-are_unknown.false at c.are_unknown.ensures in
    clash (is_user_at n (now_named c.args.mover c.args.touched.now)) user
    (mover_none by.comes.before n c.args.mover c.args.touched.now now.waits now.marks by.comes.kept by.comes.moved unknown by.porter)
