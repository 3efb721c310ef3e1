use Rattle.std.proofs.Common.{◌≡◌, ◌/◌, arith}
use Rattle.fk_store.proofs.InStore.changing.Bare.{bare-slot, not_so}
use Rattle.fk_store.proofs.store.store.Store.is_bare.Goals as goal

pub returns-then-slot-eq0-clause-bare : goal.returns-then-slot-eq0-clause-bare
returns-then-slot-eq0-clause-bare c off page k low high =
    let group : k / 16 ≡ c.args.slot / 16 = omega arith in
    rw (← c.self.view_is) (bare-slot _ c.self.invariant c.args.space k (λ b there. c.may_hold_pages.ensures (not_so _ off) k b group there) page)
