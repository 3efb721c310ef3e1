use Rattle.std.proofs.Common.{◌≡◌, length, arith}
use Rattle.fk_changes.specs.Threads.Answers.{listed}
use Rattle.fk_changes.proofs.InThreads.FinishLaws.{end_well, finish_ends}
use Rattle.fk_changes.proofs.threads.answers.ended_well.Goals as goal

pub returns : goal.returns
returns c p =
    let t = c.args.thread.now in
    let long : length t.regs ≡ 16 = omega arith in
    rw (c.answer.ensures, c.from.ensures) (finish_ends p t (listed c.args.answers) _ long c.requires.calling c.requires.last
    (end_well p t (listed c.args.answers) long c.requires.calling))
