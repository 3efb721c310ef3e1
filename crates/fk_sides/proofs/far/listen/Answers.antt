use Rattle.std.proofs.Common.{refl}
use Rattle.fk_sides.proofs.Hearing.{listened_so, began_slot}
use Rattle.fk_sides.proofs.far.listen.Goals as goal

pub returns-in_ok-image-in-Piece-clause-told : goal.returns-in_ok-image-in-Piece-clause-told
returns-in_ok-image-in-Piece-clause-told c =
    λ got come. rw c.in-Piece.is (listened_so c.args.slot _ c.begin.result c.in_ok-image-in-Piece.image _ (c.in_ok-image-in-Piece.ensures.comes got come) c.begin.ensures)

pub returns-in_ok-image-in-Piece-clause-slot : goal.returns-in_ok-image-in-Piece-clause-slot
returns-in_ok-image-in-Piece-clause-slot c = began_slot c.args.slot _ c.begin.result c.in_ok-image-in-Piece.image c.begin.ensures

pub returns-in-Ready-clause-told : goal.returns-in-Ready-clause-told
returns-in-Ready-clause-told c = λ got come. rw c.in-Ready.is (got, refl, come)

pub returns-in-Refused-clause-told : goal.returns-in-Refused-clause-told
returns-in-Refused-clause-told c = λ got come. rw c.in-Refused.is (got, refl, come)

pub returns-in-Gone-clause-told : goal.returns-in-Gone-clause-told
returns-in-Gone-clause-told c = λ got come. rw c.in-Gone.is (got, refl, come)
