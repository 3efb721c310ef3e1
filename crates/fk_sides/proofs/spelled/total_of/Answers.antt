use Rattle.std.proofs.Common.{arith}
use Rattle.fk_sides.proofs.Cuts.{pieces_long}
use Rattle.fk_sides.proofs.spelled.total_of.Goals as goal

pub returns-clause-total : goal.returns-clause-total
returns-clause-total c =
    let enough = c.count_pieces.ensures.enough in
    let least = c.count_pieces.ensures.least in
    pieces_long c.args.bytes.now c.count_pieces.result (omega (arith, enough)) (omega (arith, least))
