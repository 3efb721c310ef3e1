use Rattle.fk_sides.proofs.Cuts.{piece_made}
use Rattle.fk_sides.proofs.spelled.piece_of.Goals as goal

pub returns : goal.returns
returns c = rw c.copy_from_slice.ensures.after (piece_made c.args.number c.args.total c.min-len.result c.args.rest.now c.min-len.ensures)
