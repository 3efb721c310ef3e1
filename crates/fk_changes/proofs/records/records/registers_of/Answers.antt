use Rattle.std.proofs.Common.{◌≡◌, length, Some, None, refl, arith}
use Rattle.fk_changes.proofs.InRecords.Registers.{with_call, without_call}
use Rattle.fk_changes.proofs.records.records.registers_of.Goals as goal

pub returns-in-None : goal.returns-in-None
returns-in-None c = let long : length c.args.thread.now.regs ≡ 16 = omega arith in
    without_call c.args.thread.now None long c.in-Calling.is c.in-None.ensures refl

pub returns-in-Some : goal.returns-in-Some
returns-in-Some c = let long : length c.args.thread.now.regs ≡ 16 = omega arith in
    with_call c.args.thread.now (Some c.in-Some.field-0) long c.in-Calling.is c.in-Some.ensures refl
