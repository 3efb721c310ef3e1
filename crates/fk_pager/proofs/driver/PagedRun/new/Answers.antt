use Rattle.std.proofs.Common.{arith}
use Rattle.fk_pager.specs.Desks.{root}
use Rattle.fk_pager.proofs.Hearing.{sane-new}
use Rattle.fk_pager.proofs.driver.PagedRun.new.Goals as goal

pub returns-clause-driven : goal.returns-clause-driven
returns-clause-driven g c =
    let made = c.in_ok-pager in
    record {
      sane = sane-new made.pager c.args.slot c.args.room c.requires.low c.requires.some c.requires.most made.ensures.slot made.ensures.room made.ensures.whole
          made.ensures.spare made.ensures.first;
      few = omega arith;
      porter = λ opening. c.requires.porter;
    }

pub returns-clause-here : goal.returns-clause-here
returns-clause-here g c =
    let made = c.in_ok-pager.ensures in
    λ i. record { nester = root; slot = made.slot i; port = c.args.port; set = made.set i; room = made.room i }
