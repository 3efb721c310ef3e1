use Rattle.fk_migrate.proofs.Stepping.{run_either}
use Rattle.fk_migrate.proofs.Promised.{promised, moves_on, keeps_on, foreign_on}
use Rattle.fk_migrate.proofs.pair.Pair.step.Goals as goal

pub returns-clause-run : goal.returns-clause-run
returns-clause-run g c = λ from its. run_either c.advance.result _ _ c.args.e.now from c.advance.ensures.goes c.advance.ensures.lacking its

pub returns-clause-promised : goal.returns-clause-promised
returns-clause-promised g c = promised _

pub returns-clause-moves : goal.returns-clause-moves
returns-clause-moves g c = moves_on c.advance.result _ _ c.args.e.now c.advance.ensures.goes

pub returns-clause-keeps : goal.returns-clause-keeps
returns-clause-keeps g c = keeps_on c.advance.result _ _ c.args.e.now c.advance.ensures.goes

pub returns-clause-foreign : goal.returns-clause-foreign
returns-clause-foreign g c = foreign_on c.advance.result _ _ c.args.e.now c.advance.ensures.goes
