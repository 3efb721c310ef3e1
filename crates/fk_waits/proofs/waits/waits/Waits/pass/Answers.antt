use Rattle.std.proofs.Common.{◌∙◌}
use Rattle.fk_waits.proofs.InWaits.Listed.{front_passes, front_stands, none_passes, stood}
use Rattle.fk_waits.proofs.waits.waits.Waits.pass.Goals as goal

pub wake-requires : goal.wake-requires
wake-requires c = stood c.in-Some.thread c.args.self.now (front_stands c.in-Some.thread c.args.self.now c.in-Some.ensures)

pub returns-in-Some : goal.returns-in-Some
returns-in-Some c = c.wake.ensures ∙ front_passes c.in-Some.thread c.args.self.now c.once.ensures c.in-Some.ensures

pub returns-in_default : goal.returns-in_default
returns-in_default c = none_passes c.args.self.now c.in_default.ensures
