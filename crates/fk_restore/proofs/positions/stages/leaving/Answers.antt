use Rattle.std.proofs.Common.{ap, ◌∙◌}
use Rattle.std.specs.Prelude.{slice_get}
use Rattle.std.proofs.lemmas.Option.{slice_get-map}
use Rattle.laws_restore.specs.Sites.Orders.{stage_of}
use Rattle.fk_restore.specs.Positions.Doing.{leads_in_again}
use Rattle.fk_restore.proofs.positions.stages.leaving.Goals as goal

pub returns : goal.returns
returns c = c.stage_among.ensures ∙ ap (λ xs. slice_get xs c.args.k) c.leaves.ensures ∙ slice_get-map (stage_of c.args.slot) leads_in_again c.args.k
