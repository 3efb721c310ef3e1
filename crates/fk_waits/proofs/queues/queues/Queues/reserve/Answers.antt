use Rattle.std.proofs.Common.{refl}
use Rattle.fk_waits.proofs.InQueues.Kept.{kept_both}
use Rattle.fk_waits.proofs.queues.queues.Queues.reserve.Goals as goal

pub returns-then-is_err-clause-kept : goal.returns-then-is_err-clause-kept
returns-then-is_err-clause-kept c l filed =
    kept_both c.args.self.now c.reserve.new.self c.args.self.now.lines l c.reserve.ensures.rest_kept refl filed

pub returns-in-Ok-clause-kept : goal.returns-in-Ok-clause-kept
returns-in-Ok-clause-kept c l filed =
    kept_both c.args.self.now c.reserve.new.self c.reserve-2.new.self l c.reserve.ensures.rest_kept c.reserve-2.ensures.rest_kept filed

pub returns-in-Err-clause-kept : goal.returns-in-Err-clause-kept
returns-in-Err-clause-kept c l filed =
    kept_both c.args.self.now c.reserve.new.self c.reserve-2.new.self l c.reserve.ensures.rest_kept c.reserve-2.ensures.rest_kept filed
