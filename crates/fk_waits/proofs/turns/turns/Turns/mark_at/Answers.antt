use Rattle.std.proofs.Common.{sym, ap, if◌then◌else◌, ◌∙◌}
use Rattle.fk_waits.specs.Waits.Lists.{parked, stands, woken}
use Rattle.fk_waits.proofs.InCauses.Numbers.{clash}
use Rattle.fk_waits.specs.Causes.Names.{is_same}
use Rattle.fk_waits.proofs.turns.turns.Turns.mark_at.Goals as goal

pub wake-requires : goal.wake-requires
wake-requires c off = clash (stands c.args.who c.args.self.now.marks) c.requires off

pub returns-then-is_free-clause-marks : goal.returns-then-is_free-clause-marks
returns-then-is_free-clause-marks c =
    let marks = c.args.self.now.marks in
    let besides = if is_same c.args.cause c.args.key then marks else parked c.args.who c.args.key marks in
    c.wake.ensures ∙ ap (λ b. if b then woken c.args.who marks else besides) (sym (sym c.is_free.ensures ∙ c.if-is_free.true))

pub returns-else-is_free-clause-marks : goal.returns-else-is_free-clause-marks
returns-else-is_free-clause-marks c =
    let marks = c.args.self.now.marks in
    let besides = if is_same c.args.cause c.args.key then marks else parked c.args.who c.args.key marks in
    c.mark_besides.ensures.marks ∙ ap (λ b. if b then woken c.args.who marks else besides) (sym (sym c.is_free.ensures ∙ c.if-is_free.false))
