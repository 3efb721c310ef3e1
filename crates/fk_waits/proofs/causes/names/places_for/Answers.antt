use Rattle.std.proofs.Common.{◌-◌, ◌≡◌, ℕ, suc, drop, get_or, refl, ap, subst, arith}
use Rattle.fk_waits.specs.Causes.Names.{AreNear}
use Rattle.fk_waits.specs.declared.causes.names.Name.{Name}
use Rattle.fk_waits.specs.declared.causes.names.Near.{Near}
use Rattle.fk_waits.proofs.InCauses.Near.{fresh_right, none_left_near, one_near}
use Rattle.fk_waits.proofs.InCauses.Order.{found_there, same_self}
use Rattle.fk_waits.proofs.causes.names.places_for.Goals as goal

pub loop-at-init : goal.loop-at-init
loop-at-init c =
    let none = c.new-near.ensures.len in
    let len = c.in_ok-resize.ensures.len in (
      omega arith,
      none_left_near c.resize.new.self.items c.args.items.now,
      fresh_right c.args.items.now c.resize.new.self.items (λ i d low.
          ap (λ (n : Near). n.rank) (c.in_ok-resize.ensures.by_index.1 i d refl (omega (arith, none)) (omega (arith, low, len)))),
    )

pub loop-at-preserved : goal.loop-at-preserved
loop-at-preserved c =
    let so_far = c.loop-at.invariant in
    let at = c.loop-at.at in
    let some = c.loop-at-test.true in
    let within = so_far.0 in
    let before : at ≡ suc (at - 1) = omega (arith, some) in
    let none : Name = record { who = record { space = 0; slot = 0 }; key = 0 } in
    let behind = subst (λ (k : ℕ). AreNear c.loop-at.near.items (drop k c.args.items.now)) before so_far.1 in (
      omega (arith, within),
      one_near c.note.new.near.items c.args.items.now (at - 1) _ (omega (arith, some, within)) c.note.ensures.mine (c.note.ensures.others _ behind),
      c.note.ensures.right c.args.items.now so_far.2
          (found_there c.args.items.now (at - 1) none (get_or c.args.items.now (at - 1) none).who c.requires (omega (arith, some, within))
          (same_self (get_or c.args.items.now (at - 1) none).who)),
    )

pub returns-clause-near : goal.returns-clause-near
returns-clause-near c =
    let last = c.loop-at-test.false in
    let zero : c.loop-at.at ≡ 0 = omega (arith, last) in
    subst (λ (k : ℕ). AreNear c.loop-at.near.items (drop k c.args.items.now)) zero c.loop-at.invariant.1
