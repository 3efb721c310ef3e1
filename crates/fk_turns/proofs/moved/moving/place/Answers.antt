use Rattle.std.proofs.Common.{sym, ◌∙◌}
use Rattle.fk_turns.proofs.InMoved.Touched.{placed_other, placed_user}
use Rattle.fk_turns.proofs.moved.moving.place.Goals as goal

pub wake-requires : goal.wake-requires
wake-requires c =
    let user = sym c.is_user.ensures ∙ c.if-is_user.true in
    record { sound = c.requires.sound; waits = λ off. (c.requires.room user off).0; marks = λ off. (c.requires.room user off).1 }

pub returns-then-is_user-clause-placed : goal.returns-then-is_user-clause-placed
returns-then-is_user-clause-placed c =
    placed_user c.args.store.now c.args.who c.args.turns.now.waits c.wake.new.self.waits (sym c.is_user.ensures ∙ c.if-is_user.true) c.wake.ensures.waits

pub returns-else-is_user-clause-placed : goal.returns-else-is_user-clause-placed
returns-else-is_user-clause-placed c =
    placed_other c.args.store.now c.args.who c.args.turns.now.waits c.forget.new.self.waits (sym c.is_user.ensures ∙ c.if-is_user.false) c.forget.ensures.waits
