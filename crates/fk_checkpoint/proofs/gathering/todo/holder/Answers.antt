use Rattle.std.proofs.Common.{length, refl, sym, ap, ◌∙◌}
use Rattle.std.specs.Prelude.{slice_index}
use Rattle.fk_checkpoint.specs.declared.seeking.fields.Fields.TheVariants.{Zero}
use Rattle.fk_checkpoint.proofs.InGathering.Todos.{holder_found}
use Rattle.fk_checkpoint.proofs.gathering.todo.holder.Goals as goal

pub returns-clause-some : goal.returns-clause-some
returns-clause-some c =
    holder_found c.args.contents.now c.args.space c.in_ok-deep.deep c.in_ok-deep.slot Zero c.requires (ap length (sym c.path_at.ensures)
    ∙ c.in_ok-deep.ensures.long)
    (c.in_ok-deep.ensures.slot ∙ ap (λ path. slice_index path c.in_ok-deep.deep) c.path_at.ensures) refl
