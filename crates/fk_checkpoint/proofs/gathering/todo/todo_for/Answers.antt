use Rattle.std.proofs.Common.{length, sym, ap}
use Rattle.fk_checkpoint.proofs.InGathering.Todos.{todo_found, todo_passed}
use Rattle.fk_checkpoint.proofs.gathering.todo.todo_for.Goals as goal

pub returns-then-is_empty-clause-none : goal.returns-then-is_empty-clause-none
returns-then-is_empty-clause-none c =
    todo_passed c.args.contents.now c.args.space c.args.place c.args.item.now c.fields_of-fields.result c.requires.there c.fields_of-fields.ensures
    (sym c.if-is_empty.ensures)

pub returns-clause-some : goal.returns-clause-some
returns-clause-some c =
    todo_found c.args.contents.now c.args.space c.args.place c.args.item.now c.fields_of-fields.result c.args.next
    (length c.path_at.result.now) c.requires.there
    c.fields_of-fields.ensures (sym c.if-is_empty.ensures) c.requires.after (ap length c.path_at.ensures)
