use Rattle.std.proofs.Common.{◌≡◌, length, arith}
use Rattle.fk_store.proofs.InStore.changing.Proceeding.{goes_on}
use Rattle.fk_store.proofs.store.store.Store.proceed.Goals as goal

pub invariant_of-self : goal.invariant_of-self
invariant_of-self c =
    let long : length c.args.registers.now ≡ 16 = omega arith in
    (goes_on c.args.registers.now long c.args.counter c.args.mode c.requires.call _ c.self.invariant c.args.me _ c.proceed.ensures.there
    c.proceed.ensures.none).kept

pub returns : goal.returns
returns c =
    let long : length c.args.registers.now ≡ 16 = omega arith in
    let on = goes_on c.args.registers.now long c.args.counter c.args.mode c.requires.call _ c.self.invariant c.args.me _ c.proceed.ensures.there
    c.proceed.ensures.none in
    rw (← c.self.view_is) (record { world = on.step; kinds = on.kinds; paths = on.paths })
