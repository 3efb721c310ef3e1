use Rattle.std.proofs.Common.{◌≡◌, ◌+◌, ◌*◌, subst, arith}
use Rattle.fk_store_graph.specs.Linked.Bodied.{Maps, members_in}
use Rattle.fk_store_graph.proofs.InLinked.MemberLaws.{none_in, more_in}
use Rattle.fk_store_graph.proofs.linked.members.sweep_group.Goals as goal

pub loop-at-init : goal.loop-at-init
loop-at-init c =
    let start : c.args.group * 16 ≡ c.args.group * 16 + 0 = omega arith in
    subst (λ n. Maps c.args.objects.now c.args.objects.now (members_in c.args.sweep c.args.objects.now (c.args.group * 16) n)) start
    (none_in c.args.sweep c.args.objects.now (c.args.group * 16))

pub loop-at-preserved : goal.loop-at-preserved
loop-at-preserved c =
    let more : c.args.group * 16 + c.loop-at.at + 1 ≡ c.args.group * 16 + (c.loop-at.at + 1) = omega arith in
    subst (λ n. Maps c.args.objects.now c.sweep_port.new.objects (members_in c.args.sweep c.args.objects.now (c.args.group * 16) n)) more
    (more_in c.args.sweep c.args.objects.now _ _ (c.args.group * 16) (c.args.group * 16 + c.loop-at.at) (c.args.group * 16 + c.loop-at.at + 1) (omega arith)
    (omega arith) c.loop-at.invariant c.sweep_port.ensures)

pub returns : goal.returns
returns c =
    let all : c.args.group * 16 + c.loop-at.at ≡ c.args.group * 16 + 16 = omega arith in
    subst (λ n. Maps c.args.objects.now c.loop-at.objects (members_in c.args.sweep c.args.objects.now (c.args.group * 16) n)) all c.loop-at.invariant
