use Rattle.fk_checkpoint.specs.Assembly.Assembling.{spaces_of}
use Rattle.fk_checkpoint.proofs.InAssembly.Loops.{space_step, space_end, image_of}
use Rattle.fk_checkpoint.proofs.assembly.image.assembled.Goals as goal

pub loop-content-preserved : goal.loop-content-preserved
loop-content-preserved c =
    space_step (spaces_of c.args.contents.now) c.args.contents.now c.loop-content.content-index c.content-item.result
    c.loop-content.left.now c.behind_space-left.result.now c.loop-content.spaces _ _ _
    c.loop-content-test.true c.content-item.is c.in_ok-push.ensures.ok c.in_ok-next.ensures c.behind_space-left.ensures c.loop-content.invariant

pub returns : goal.returns
returns c = image_of _ _
    (space_end (spaces_of c.args.contents.now) c.args.contents.now c.loop-content.content-index
    c.loop-content.left.now c.loop-content.spaces _ c.loop-content-test.false c.loop-content.invariant)
