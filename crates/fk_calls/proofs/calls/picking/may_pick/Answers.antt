use Rattle.std.proofs.Common.{Some, inl, inr}
use Rattle.fk_store.specs.Store.Paths.{path, place}
use Rattle.fk_store.specs.Store.World.{world}
use Rattle.fk_calls.proofs.InCalls.Choices.{picked_stage, picked_nowhere, picked_idle}
use Rattle.fk_calls.proofs.calls.picking.may_pick.Goals as goal

pub returns-in-Stage : goal.returns-in-Stage
returns-in-Stage c pick ready =
    let at = c.in-Stage.ensures in
    rw c.picks_of.ensures (picked_stage (world c.args.store.now) (place (path c.args.store.now) c.args.who) pick c.in-Stage.stage at.later at.todo ready)

pub returns-in-Instruction : goal.returns-in-Instruction
returns-in-Instruction c pick ready =
    let w = world c.args.store.now in
    let x = place (path c.args.store.now) c.args.who in
    elim c.in-Instruction.is [
      | inl is ↦ picked_nowhere w x pick (rw is at c.doing_of.ensures) ready
      | inr is ↦ picked_idle w x pick (let idle = rw is at c.doing_of.ensures in idle (Some pick)) ready
    ]
