use Rattle.fk_first.specs.First.{IsFirst}
use Rattle.fk_first.specs.Lent.ArePlayed.{Begins}
use Rattle.fk_first.proofs.Lent.{plays-on}
use Rattle.fk_first.proofs.lending.lend_cores.Goals as goal
use Rattle.fk_first.proofs.lending.lend_cores.Goals.{else-loop-test, then-loop-test+in-Ok-false}

pub returns-in_err-images : goal.returns-in_err-images
returns-in_err-images g c = Begins

pub loop-init : goal.loop-init
loop-init g c = Begins

pub loop-preserved : goal.loop-preserved
loop-preserved g c =
    plays-on g.P.Player.plays (IsFirst c.args.scenario.now) c.args.player.now c.loop.player c.lend_core.result c.lend_core.new.player c.loop.invariant
    c.lend_core.ensures

pub returns : goal.returns
returns g c = elim c.loop-test.branch [
  | else-loop-test w ↦ rw w.player-is c.loop.invariant
  | then-loop-test+in-Ok-false w ↦
      rw w.player-is
      (plays-on g.P.Player.plays (IsFirst c.args.scenario.now) c.args.player.now c.loop.player w.lend_core.result w.lend_core.new.player c.loop.invariant
      w.lend_core.ensures)
]
