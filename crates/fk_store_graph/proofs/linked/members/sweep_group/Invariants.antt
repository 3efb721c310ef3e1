use Rattle.std.proofs.Common.{◌+◌, ◌*◌}
use Rattle.fk_store_graph.specs.Linked.Bodied.{Maps, members_in}
use Rattle.fk_store_graph.proofs.linked.members.sweep_group.Given as goal

-- the ports so far are swept
abbrev pub invariant-loop-at : goal.invariant-loop-at
invariant-loop-at l = Maps l.initial.objects l.objects (members_in l.sweep l.initial.objects (l.group * 16) (l.group * 16 + l.at))
