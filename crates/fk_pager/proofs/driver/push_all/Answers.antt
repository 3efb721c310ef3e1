use Rattle.std.proofs.Common.{append-nil, sym}
use Rattle.fk_pager.proofs.driver.push_all.Goals as goal

pub loop-k-init : goal.loop-k-init
loop-k-init c = sym (append-nil c.args.moves.now.items)
