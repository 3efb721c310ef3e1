use Rattle.std.proofs.Common.{ap, ◌∙◌}
use Rattle.std.specs.Prelude.{slice_get}
use Rattle.std.proofs.lemmas.Option.{slice_get-map}
use Rattle.laws_restore.specs.Sites.Orders.{stage_of}
use Rattle.laws_restore.specs.Restore.Script.{opens}
use Rattle.fk_restore.proofs.positions.stages.opening.Goals as goal

pub returns : goal.returns
returns c = c.stage_among.ensures ∙ ap (λ xs. slice_get xs c.args.k) c.opens.ensures ∙ slice_get-map (stage_of c.args.slot) (opens c.args.slot) c.args.k
