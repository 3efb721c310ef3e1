use Rattle.std.proofs.Common.{◌≡◌, ◌+◌, ◌*◌, subst, sym, ◌∙◌, arith}
use Rattle.fk_store_graph.specs.Linked.Bodied.{Maps, members_in}
use Rattle.fk_store_graph.proofs.InLinked.MemberLaws.{none_in, more_in, none_more, all_in, unmarked_group, short_under}
use Rattle.fk_store_graph.proofs.linked.members.sweep_members.Goals as goal
use Rattle.fk_store_graph.proofs.linked.members.sweep_members.Goals.{then-has_members, else-has_members}

pub loop-group-init : goal.loop-group-init
loop-group-init c =
    let start : 0 ≡ 0 * 16 = omega arith in
    subst (λ n. Maps c.args.objects.now c.args.objects.now (members_in c.args.sweep c.args.objects.now 0 n)) start (none_in c.args.sweep c.args.objects.now 0)

-- a group that is marked is swept; in one that isn't none is to be
pub loop-group-preserved : goal.loop-group-preserved
loop-group-preserved c =
    let more : c.loop-group.group * 16 + 16 ≡ (c.loop-group.group + 1) * 16 = omega arith in
    elim c.if-has_members.branch [
      | then-has_members w ↦ rw w.objects-is
          (subst (λ n. Maps c.args.objects.now w.sweep_group.new.objects (members_in c.args.sweep c.args.objects.now 0 n)) more
          (more_in c.args.sweep c.args.objects.now _ _ 0 (c.loop-group.group * 16) (c.loop-group.group * 16 + 16) (omega arith) (omega arith)
          c.loop-group.invariant w.sweep_group.ensures))
      | else-has_members w ↦ rw w.objects-is
          (subst (λ n. Maps c.args.objects.now c.loop-group.objects (members_in c.args.sweep c.args.objects.now 0 n)) more
          (none_more c.args.sweep c.args.objects.now _ 0 (c.loop-group.group * 16) (c.loop-group.group * 16 + 16) (omega arith) (omega arith)
          (unmarked_group c.args.sweep c.args.objects.now c.filed.ensures c.requires c.loop-group.group
          (sym (c.marks-marks.ensures (16 + c.loop-group.group)) ∙ sym c.has_members.ensures ∙ w.if-has_members.false))
          c.loop-group.invariant))
    ]

pub returns : goal.returns
returns c = all_in c.args.sweep c.args.objects.now _ (c.loop-group.group * 16)
    (λ j b there. let short = short_under c.args.objects.now c.filed.ensures c.slots.ensures j b there in omega (arith, short)) c.loop-group.invariant
