use Rattle.std.proofs.Common.{◌≡◌, length, slice_index, slice_set, ap, ◌∙◌, arith}
use Rattle.fk_model.specs.Calls.{with_answers}
use Rattle.fk_model.specs.Objects.Body.{Thread_of}
use Rattle.fk_store.specs.Store.Bodies.{thread_by}
use Rattle.fk_changes.specs.Threads.Answers.{listed}
use Rattle.fk_changes.proofs.InThreads.CallCodes.{next-code}
use Rattle.fk_changes.proofs.InThreads.FinishLaws.{finish_on}
use Rattle.fk_changes.proofs.threads.answers.at_next.Goals as goal

pub returns-clause-call : goal.returns-clause-call
returns-clause-call c = let long : length c.answer.new.registers ≡ 16 = omega arith in
    next-code c.answer.new.registers (slice_index c.args.thread.now.regs 0) c.args.code long c.requires.after

pub returns-clause-edit : goal.returns-clause-edit
returns-clause-edit c p =
    let t = c.args.thread.now in
    let long : length t.regs ≡ 16 = omega arith in
    rw c.answer.ensures (finish_on p t c.args.answers c.args.code long c.requires.calling c.requires.after c.requires.apart
    ∙ ap (λ m. Thread_of (thread_by p (record t { regs = slice_set (with_answers (listed c.args.answers) t.regs) 0 c.args.code; mode = m })))
    c.requires.calling)
