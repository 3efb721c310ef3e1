use Rattle.std.proofs.Common.{sym, ap, if◌then◌else◌, ◌∙◌}
use Rattle.fk_waits.specs.Waits.Lists.{parked, stands}
use Rattle.fk_waits.proofs.InCauses.Numbers.{clash}
use Rattle.fk_waits.proofs.turns.turns.Turns.mark_besides.Goals as goal

pub park-requires : goal.park-requires
park-requires c off = clash (stands c.args.who c.args.self.now.marks) c.requires off

pub returns-then-is_one-clause-marks : goal.returns-then-is_one-clause-marks
returns-then-is_one-clause-marks c =
    let marks = c.args.self.now.marks in
    ap (λ b. if b then marks else parked c.args.who c.args.key marks) (sym (sym c.is_one.ensures ∙ c.if-is_one.true))

pub returns-clause-marks : goal.returns-clause-marks
returns-clause-marks c =
    let marks = c.args.self.now.marks in
    c.park.ensures ∙ ap (λ b. if b then marks else parked c.args.who c.args.key marks) (sym (sym c.is_one.ensures ∙ c.if-is_one.false))
