use Rattle.std.proofs.Common.{◌≡◌, ◌+◌, ℕ, length, vec_len, arith}
use Rattle.fk_store.proofs.InHolds.HeldLaws.{told_removed}
use Rattle.fk_store.proofs.holds.held.Held.forget.Goals as goal

pub returns-in-Some : goal.returns-in-Some
returns-in-Some c =
    let found = rw (← c.self.view_is) at c.in-Some.ensures.some in
    let removed = c.swap_remove.ensures.len in
    let less : length c.swap_remove.new.self.items + 1 ≡ length c.self.inside.births.items = omega (arith, removed) in
    rw (← c.self.view_is) (told_removed c.self.inside.births.items c.swap_remove.new.self.items (vec_len c.self.inside.births) c.in-Some.at c.args.space
    (omega arith) found.0 found.1 less c.swap_remove.ensures.by_index _)
