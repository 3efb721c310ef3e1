use Rattle.std.proofs.Common.{[], ◌∙◌, arith}
use Rattle.fk_waits.proofs.InCauses.Steps.{none_so}
use Rattle.fk_waits.proofs.causes.causes.Causes.new.Goals as goal

pub returns-clause-standing : goal.returns-clause-standing
returns-clause-standing c =
    let first = c.in_ok-queues.ensures in
    let room = c.in_ok-reserve.ensures in
    let made = c.open-ready.ensures in
    let names = c.in_ok-reserve-2.ensures in
    none_so c.reserve.new.self c.open-ready.new.self c.reserve-2.new.self c.open-ready.result (record { space = 0; slot = 0 })
    (made.kept [] (room.kept [] first.filed)) (λ h. room.shown h ∙ first.heads h) made.head made.others (names.entries ∙ c.new-names.ensures)
    (made.len.0 ∙ room.len.0 ∙ first.order) (omega (arith, made.len.1, room.len.1, first.lines)) (omega (arith, made.room.order, room.order))
    (omega (arith, made.room.lines, room.lines)) (omega (arith, names.room))
