use Rattle.std.proofs.Common.{◌≡◌, subst, arith}
use Rattle.std.proofs.Common.{None}
use Rattle.fk_waits.specs.Queues.Places.{first_at}
use Rattle.fk_waits.specs.declared.causes.names.Name.{Name}
use Rattle.fk_waits.proofs.InCauses.Steps.{hand_so}
use Rattle.fk_waits.proofs.causes.causes.Causes.make_place.Goals as goal

pub find_empty-at-requires : goal.find_empty-at-requires
find_empty-at-requires c =
    let len = c.len.ensures in
    let most = c.requires.standing.roomy.most in
    record { stand = c.requires; many = omega (arith, len, most, c.if-len-self.false) }

pub drop_queue-requires : goal.drop_queue-requires
drop_queue-requires c = record {
  stand = c.requires;
  named = c.entry-name.ensures.number;
  empty = λ l filed.
      subst (λ (n : Name). first_at n.key l ≡ None) (c.entry-name.ensures.name c.entry-name.result)
      (c.find_empty-at.ensures.empty c.entry-name.result l filed);
}

pub returns-clause-standing : goal.returns-clause-standing
returns-clause-standing c l standing = hand_so c.drop_queue.new.self c.find_empty-at.result l (c.drop_queue.ensures.standing l standing)

pub returns-clause-place : goal.returns-clause-place
returns-clause-place c =
    let fewer = c.drop_queue.ensures.fewer in
    let most = c.drop_queue.ensures.most in
    let many = c.requires.standing.placed.many in
    omega (arith, fewer, most, many)
