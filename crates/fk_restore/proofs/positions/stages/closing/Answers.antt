use Rattle.std.proofs.Common.{ap, ◌∙◌}
use Rattle.std.specs.Prelude.{slice_get}
use Rattle.std.proofs.lemmas.Option.{slice_get-map}
use Rattle.laws_restore.specs.Sites.Orders.{stage_of}
use Rattle.laws_restore.specs.Restore.Script.{closes}
use Rattle.fk_restore.proofs.positions.stages.closing.Goals as goal

pub returns : goal.returns
returns c = c.stage_among.ensures ∙ ap (λ xs. slice_get xs c.args.k) c.closes.ensures ∙ slice_get-map (stage_of c.args.slot) (closes) c.args.k
