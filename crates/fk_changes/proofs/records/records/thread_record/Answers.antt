use Rattle.std.proofs.Common.{◌≡◌, length, arith}
use Rattle.fk_changes.proofs.InRecords.Registers.{thread_words}
use Rattle.fk_changes.proofs.records.records.thread_record.Goals as goal

pub returns : goal.returns
returns c p =
    let long : length c.registers_of.result ≡ 16 = omega arith in
    rw (c.copy_from_slice.ensures.after, c.from.ensures) (thread_words p c.args.thread.now c.registers_of.result _ _ _ _ _ _ _ long
    c.registers_of.ensures (c.mode_number.ensures c.args.thread.now.regs) (c.halt_code.ensures c.args.thread.now.regs)
    (c.talk_words-talk.ensures p) (c.fault_words-fault.ensures p))
