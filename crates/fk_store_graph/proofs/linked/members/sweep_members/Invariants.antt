use Rattle.std.proofs.Common.{◌*◌}
use Rattle.fk_store_graph.specs.Linked.Bodied.{Maps, members_in}
use Rattle.fk_store_graph.proofs.linked.members.sweep_members.Given as goal

-- the ports of the groups so far are swept
abbrev pub invariant-loop-group : goal.invariant-loop-group
invariant-loop-group l = Maps l.initial.objects l.objects (members_in l.sweep l.initial.objects 0 (l.group * 16))
