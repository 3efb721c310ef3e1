use Rattle.fk_turns.proofs.InSteps.Went.{under_way_up}
use Rattle.fk_turns.proofs.steps.plain.can_go_on.Goals as goal

pub returns : goal.returns
returns c =
    under_way_up c.args.store.now c.args.who c.requires.on (c.is_any_held.ensures c.if-is_any_held.false)
