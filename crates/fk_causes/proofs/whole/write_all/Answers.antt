use Rattle.std.proofs.Common.{arith, rules}
use Rattle.std.proofs.lemmas.Grind.{common_steps}
use Rattle.fk_causes.proofs.Writes.{Appends-take-add}
use Rattle.fk_causes.proofs.whole.write_all.Goals as goal

pub loop-done-preserved : goal.loop-done-preserved
loop-done-preserved g c = record {
  within = grind (arith, common_steps);
  appended = Appends-take-add _ _ _ c.args.text.now _ _ c.loop-done.invariant.appended c.in-Ok.ensures.bytes;
  kept = search rules;
}
