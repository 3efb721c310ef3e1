use Rattle.std.proofs.Common.{◌<◌, length, rules}
use Rattle.fk_causes.specs.declared.whole.TheConstants.{LIMIT}
use Rattle.fk_causes.proofs.Consumed.{held-more}
use Rattle.fk_causes.proofs.whole.read_all.Goals as goal

pub returns-clause-too_long : goal.returns-clause-too_long
returns-clause-too_long g c = λ _.
    let long : LIMIT < length c.loop-buffer.text.items = search rules in
    held-more LIMIT _ _ c.loop-buffer.text.items c.loop-buffer.invariant.taken long
