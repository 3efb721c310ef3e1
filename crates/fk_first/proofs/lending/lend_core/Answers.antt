use Rattle.std.proofs.Common.{map}
use Rattle.fk_core.specs.Cores.Cores.{run_core}
use Rattle.fk_first.proofs.lending.lend_core.Goals as goal

pub play-requires-clause-fits : goal.play-requires-clause-fits
play-requires-clause-fits g c = c.in_ok-core.ensures.fits (map (λ r. r.rule) c.args.table.now.list.items) c.requires.rules

pub returns : goal.returns
returns g c = (run_core c.in_ok-core.core, c.in_ok-core.ensures.first, c.play.ensures)
