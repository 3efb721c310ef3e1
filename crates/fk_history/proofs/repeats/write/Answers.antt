use Rattle.std.proofs.Common.{append-nil, sym}
use Rattle.fk_history.proofs.repeats.write.Goals as goal

pub loop-k-init : goal.loop-k-init
loop-k-init c = sym (append-nil c.args.all.now.items)
