use Rattle.std.proofs.Common.{◌≡◌, length, ap, ◌∙◌, arith}
use Rattle.fk_model.specs.Objects.Body.{Thread_of}
use Rattle.fk_store.specs.Store.Bodies.{thread_by}
use Rattle.fk_changes.specs.Threads.Shifted.{shifted_registers}
use Rattle.fk_changes.proofs.InThreads.CallCodes.{shifted-code}
use Rattle.fk_changes.proofs.InThreads.ShiftLaws.{shift_calling, address_calling}
use Rattle.fk_changes.proofs.threads.shifts.shifted.Goals as goal

pub shift-requires : goal.shift-requires
shift-requires c =
    let long : length c.args.thread.now.regs ≡ 16 = omega arith in rw (← address_calling c.args.thread.now long c.requires.calling) c.requires.low

pub returns-clause-call : goal.returns-clause-call
returns-clause-call c some = let long : length c.args.thread.now.regs ≡ 16 = omega arith in
    rw c.shift.ensures (shifted-code c.args.count c.args.thread.now.regs long some)

pub returns-clause-edit : goal.returns-clause-edit
returns-clause-edit c p =
    let t = c.args.thread.now in
    let long : length t.regs ≡ 16 = omega arith in
    rw c.shift.ensures (shift_calling p t c.args.count long c.requires.calling
    ∙ ap (λ m. Thread_of (thread_by p (record t { regs = shifted_registers c.args.count t.regs; mode = m }))) c.requires.calling)
