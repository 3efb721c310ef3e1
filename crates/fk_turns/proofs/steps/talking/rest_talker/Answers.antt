use Rattle.std.proofs.Common.{refl}
use Rattle.fk_turns.proofs.steps.talking.rest_talker.Goals as goal

pub settle_loud-requires : goal.settle_loud-requires
settle_loud-requires c =
    let heard = c.heard_at.ensures in
    record {
      valid = c.requires.valid;
      kept = c.requires.kept;
      user = rw c.in-Some.is at heard.user refl;
      why = rw c.in-Some.is at heard.why;
      cause = rw c.in-Some.is at heard.cause;
    }
