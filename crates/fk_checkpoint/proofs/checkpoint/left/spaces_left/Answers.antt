use Rattle.std.proofs.Common.{ap, ◌∙◌}
use Rattle.fk_checkpoint.specs.Gathering.Gathering.{paths_left}
use Rattle.fk_checkpoint.proofs.InCheckpoint.Lefts.{none_left, space_on, all_left}
use Rattle.fk_checkpoint.proofs.checkpoint.left.spaces_left.Goals as goal

pub loop-at-init : goal.loop-at-init
loop-at-init c = ap paths_left c.new-left.ensures.items ∙ none_left c.args.mets.now

pub loop-at-preserved : goal.loop-at-preserved
loop-at-preserved c = space_on c.args.mets.now c.loop-at.at c.loop-at.left.items c.push_at.new.left.items
    c.loop-at-test.true c.in_ok-push_at.ensures c.loop-at.invariant

pub returns : goal.returns
returns c = all_left c.args.mets.now c.loop-at.at c.loop-at.left.items c.loop-at-test.false c.loop-at.invariant
