use Rattle.fk_sides.proofs.Keeping.{works_pieces, gathered_pieces}
use Rattle.fk_sides.proofs.near.Near.pieces.Goals as goal

pub returns-in-Works-clause-pieces : goal.returns-in-Works-clause-pieces
returns-in-Works-clause-pieces c =
    works_pieces c.args.self.now.saves c.spell.new.self.saves _ c.in-Works.is c.in_ok-spell.ensures.spelled c.spell.ensures.same

pub returns-in-Gathered-clause-pieces : goal.returns-in-Gathered-clause-pieces
returns-in-Gathered-clause-pieces c =
    gathered_pieces c.args.self.now.saves c.spell.new.self.saves _ _ c.total.result c.in-Gathered.is c.spell.ensures.same c.total.ensures.total
