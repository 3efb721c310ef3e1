use Rattle.std.proofs.Common.{subst}
use Rattle.fk_paging.specs.Pagers.{answered}
use Rattle.fk_pager.specs.Desks.{root}
use Rattle.fk_pager.specs.Driven.{HearsWell}
use Rattle.fk_pager.proofs.Hearing.{hear-sane}
use Rattle.fk_pager.proofs.driver.hear.Goals as goal

pub returns-in-Answer-clause-sane : goal.returns-in-Answer-clause-sane
returns-in-Answer-clause-sane c =
    let answer = c.in-Answer.answer in
    hear-sane c.args.pager.now c.absorb.new.self c.requires.sane c.absorb.ensures.still answer.status (answered answer) (c.absorb.ensures.next root 0)
    (subst (HearsWell c.args.pager.now) c.in-Answer.is c.requires.well)
