use Rattle.std.proofs.Common.{sym, ◌∙◌}
use Rattle.fk_restore.proofs.InPositions.Visited.{any_out}
use Rattle.fk_restore.proofs.positions.passes.leads_out_any.Goals as goal

pub returns : goal.returns
returns c = c.any_space_leads_out.ensures ∙ sym (any_out c.args.spaces.now c.args.slot 0 c.args.spaces.now)
