use Rattle.std.proofs.Common.{refl, ◌∙◌, arith}
use Rattle.fk_waits.proofs.InWaits.AllWoken.{turned_all, turned_first, turned_next}
use Rattle.fk_waits.proofs.waits.threads.Threads.wake_all.Goals as goal

pub loop-at-init : goal.loop-at-init
loop-at-init c = record { turned = λ k there. turned_first c.args.self.now k there; seats = refl }

pub wake_front-requires : goal.wake_front-requires
wake_front-requires c =
    let now = c.loop-at.invariant.turned c.requires.list c.requires.there in record { list = _; there = now.there }

pub loop-at-preserved : goal.loop-at-preserved
loop-at-preserved c = record {
  turned = λ k there.
      let many = there.many in
      let test = c.loop-at-test.true in
      let len = c.len-at-end.ensures in
      turned_next c.loop-at.self c.wake_front.new.self c.loop-at._at k (omega (arith, many, test, len)) (c.loop-at.invariant.turned k there)
      c.wake_front.ensures.there;
  seats = c.wake_front.ensures.seats ∙ c.loop-at.invariant.seats;
}

pub returns-clause-there : goal.returns-clause-there
returns-clause-there c k there =
    let many = there.many in
    let test = c.loop-at-test.false in
    let len = c.len-at-end.ensures in
    turned_all c.loop-at.self c.loop-at._at k (omega (arith, many, test, len)) (c.loop-at.invariant.turned k there)
