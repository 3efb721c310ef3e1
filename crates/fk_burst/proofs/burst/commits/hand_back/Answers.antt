use Rattle.std.proofs.Common.{All, sym, subst}
use Rattle.fk_model.specs.Who.{space_born}
use Rattle.fk_kernel.specs.Kernels.{world_of}
use Rattle.fk_kernel.specs.Replaced.{IsPageThere}
use Rattle.fk_burst.proofs.InBurst.Currents.{becomes-committed}
use Rattle.fk_burst.proofs.burst.commits.hand_back.Goals as goal

pub replace-requires-clause-pages : goal.replace-requires-clause-pages
replace-requires-clause-pages c = subst (All (IsPageThere (space_born (world_of c.args.k.now)) (world_of c.args.k.now))) (sym c.requires.pages) c.requires.there

pub returns : goal.returns
returns c = becomes-committed _ _ c.args.thread c.args.now.now _ c.requires.long c.requires.has c.requires.pages c.replace.ensures.world
