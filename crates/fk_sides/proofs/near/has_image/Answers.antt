use Rattle.std.proofs.Common.{is_some, ap, ◌∙◌}
use Rattle.fk_sides.proofs.Nearness.{some_map}
use Rattle.fk_sides.proofs.near.has_image.Goals as goal

pub returns : goal.returns
returns c = c.is_some.ensures ∙ some_map _ c.gathered.result ∙ ap is_some c.gathered.ensures
