use Rattle.std.proofs.Common.{append_assoc}
use Rattle.fk_codec.proofs.writing.writing.put_thread.Goals as goal

pub returns : goal.returns
returns c = rw (
  c.in_ok-put_fault.ensures,
  c.in_ok-put_talk.ensures,
  c.in_ok-put_mode.ensures,
  c.in_ok-put_u64.ensures,
  c.in_ok-put_words.ensures,
) (simp append_assoc)
