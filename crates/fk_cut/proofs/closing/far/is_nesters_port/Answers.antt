use Rattle.std.proofs.Common.{◌∙◌}
use Rattle.fk_cut.proofs.InClosing.Leads.{nesters_port}
use Rattle.fk_cut.proofs.closing.far.is_nesters_port.Goals as goal

pub returns : goal.returns
returns c = c.all_three.ensures ∙ nesters_port c.args.store.now c.args.root c.args.who c.has_own_path.ensures c.is_port.result c.is_port.ensures
