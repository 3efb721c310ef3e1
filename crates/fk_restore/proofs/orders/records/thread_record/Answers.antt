use Rattle.std.proofs.Common.{◌≡◌, length, arith}
use Rattle.fk_restore.proofs.InOrders.Given.{thread_words}
use Rattle.fk_restore.proofs.orders.records.thread_record.Goals as goal

pub returns : goal.returns
returns c ss =
    let long : length c.args.thread.now.regs ≡ 16 = omega arith in
    rw (c.requires, c.copy_from_slice.ensures.after, c.from.ensures) (thread_words ss c.args.thread.now _ _ _ _ _ _ _ long
    c.mode_words-mode.ensures.number c.mode_words-mode.ensures.code (c.turn_words-talk.ensures ss) (c.page_words-fault.ensures ss))
