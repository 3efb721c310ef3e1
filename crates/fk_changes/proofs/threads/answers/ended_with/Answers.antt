use Rattle.std.proofs.Common.{◌≡◌, length, arith}
use Rattle.fk_changes.proofs.InThreads.FinishLaws.{end_well}
use Rattle.fk_changes.proofs.threads.answers.ended_with.Goals as goal

pub returns-clause-edit : goal.returns-clause-edit
returns-clause-edit c p =
    let long : length c.args.thread.regs ≡ 16 = omega arith in
    rw (c.answered_four-thread.ensures, c.from.ensures) (end_well p c.args.thread _ long c.requires.calling)
