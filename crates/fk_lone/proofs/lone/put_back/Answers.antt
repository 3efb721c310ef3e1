use Rattle.fk_lone.proofs.Lones.{back}
use Rattle.fk_lone.proofs.lone.put_back.Goals as goal

pub returns-clause-alone : goal.returns-clause-alone
returns-clause-alone c =
    let lone = c.args.lone.now in
    (back _ c.requires _ lone.halted lone.registers lone.counter (rw (c.mode_of.ensures.mode lone.registers) at c.proceed.ensures.world)).0

pub returns-clause-state : goal.returns-clause-state
returns-clause-state c =
    let lone = c.args.lone.now in
    (back _ c.requires _ lone.halted lone.registers lone.counter (rw (c.mode_of.ensures.mode lone.registers) at c.proceed.ensures.world)).1
