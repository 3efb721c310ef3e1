use Rattle.std.proofs.Common.{append_assoc}
use Rattle.fk_packets.proofs.writing.put_packet.Goals as goal

pub returns-in_ok-extend_from_slice-in-Piece : goal.returns-in_ok-extend_from_slice-in-Piece
returns-in_ok-extend_from_slice-in-Piece c = rw (
  c.in-Piece.is,
  c.in_ok-extend_from_slice-in-Piece.ensures.items,
  c.as_slice.ensures,
  c.in_ok-put_u16-in-Piece.ensures,
  c.in_ok-put_u64-in-Piece-2.ensures,
  c.in_ok-put_u64-in-Piece.ensures,
  c.in_ok-push-in-Piece.ensures.items,
) (simp append_assoc)
