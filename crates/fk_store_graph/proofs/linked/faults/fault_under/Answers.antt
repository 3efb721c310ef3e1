use Rattle.std.proofs.Common.{sym}
use Rattle.fk_model.specs.declared.body.Body.TheVariants.{Thread}
use Rattle.fk_store_graph.proofs.InLinked.AlikeLaws.{this_body}
use Rattle.fk_store_graph.proofs.InLinked.FaultLaws.{never_there}
use Rattle.fk_store_graph.proofs.linked.faults.fault_under.Goals as goal

pub returns-in-Some : goal.returns-in-Some
returns-in-Some c = λ t there.
    c.fault_in.ensures t (this_body c.args.objects.now c.args.key c.in-Some.entry.now (Thread t) (sym c.in-Some.ensures.entry) there)

pub returns-in-None : goal.returns-in-None
returns-in-None c = λ t there. never_there c.args.objects.now c.args.key (Thread t) (sym c.in-None.ensures.entry) there
