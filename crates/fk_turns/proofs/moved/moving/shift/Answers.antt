use Rattle.std.proofs.Common.{◌||◌, sym, ◌∙◌}
use Rattle.fk_model.specs.declared.names.Who.{Who}
use Rattle.fk_waits.specs.Turns.Turns.{all_marks}
use Rattle.fk_waits.proofs.InTurns.Roused.{less_then}
use Rattle.fk_waits.specs.Causes.Names.{is_same}
use Rattle.fk_turns.proofs.InMoved.Touched.{freed_nobody, shifted_other, shifted_user, still_nobody}
use Rattle.fk_turns.proofs.moved.moving.shift.Goals as goal

pub returns-then-is_user-clause-touched : goal.returns-then-is_user-clause-touched
returns-then-is_user-clause-touched c =
    shifted_user c.args.store.now c.args.from c.args.to c.args.turns.now.waits c.rename.new.self.waits c.requires.none
    (sym c.is_user.ensures ∙ c.if-is_user.true) c.requires.left c.rename.ensures.waits c.rename.ensures.less

pub returns-else-is_user-clause-touched : goal.returns-else-is_user-clause-touched
returns-else-is_user-clause-touched c =
    shifted_other c.args.store.now c.args.from c.args.to c.args.turns.now.waits c.forget.new.self.waits c.forget-else-is_user.new.self.waits c.requires.none
    (sym c.is_user.ensures ∙ c.if-is_user.false) c.requires.left c.forget.ensures.waits c.forget-else-is_user.ensures.waits
    c.forget.ensures.less c.forget-else-is_user.ensures.less

pub returns-then-is_user-clause-freed : goal.returns-then-is_user-clause-freed
returns-then-is_user-clause-freed c =
    let was = c.args.turns.now in
    let now = c.rename.new.self in
    freed_nobody (λ (y : Who). is_same c.args.from y || is_same c.args.to y) (all_marks was.waits was.marks) (all_marks now.waits now.marks) now.waits
    (still_nobody was.waits now.waits c.rename.ensures.less c.requires.none)

pub returns-else-is_user-clause-freed : goal.returns-else-is_user-clause-freed
returns-else-is_user-clause-freed c =
    let was = c.args.turns.now in
    let first = c.forget.new.self in
    let now = c.forget-else-is_user.new.self in
    freed_nobody (λ (y : Who). is_same c.args.from y || is_same c.args.to y) (all_marks was.waits was.marks) (all_marks now.waits now.marks) now.waits
    (still_nobody was.waits now.waits (less_then was.waits first.waits now.waits c.forget.ensures.less c.forget-else-is_user.ensures.less) c.requires.none)
