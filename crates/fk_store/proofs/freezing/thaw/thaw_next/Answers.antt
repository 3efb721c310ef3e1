use Rattle.std.proofs.Common.{refl, arith}
use Rattle.fk_store.proofs.InFreezing.FreezeLaws.{falls_on, falls_down, falls_up}
use Rattle.fk_store.proofs.freezing.thaw.thaw_next.Goals as goal

pub returns-in-None-clause-falls : goal.returns-in-None-clause-falls
returns-in-None-clause-falls c = rw c.up.ensures.to (falls_up c.args.bodies.now c.requires.known _ c.args.top c.args.space c.args.slot)

pub returns-in-Some-thaw_found-clause-falls : goal.returns-in-Some-thaw_found-clause-falls
returns-in-Some-thaw_found-clause-falls c = falls_down _ _ c.args.space c.args.slot c.in-Some-thaw_found.birth c.in-Some-thaw_found.ensures.some (omega arith)

pub returns-in-None-thaw_found-clause-falls : goal.returns-in-None-thaw_found-clause-falls
returns-in-None-thaw_found-clause-falls c = rw (c.in-None-thaw_found.ensures.none refl, c.from.ensures)
    (falls_on _ c.args.space c.args.slot c.in-Some.found c.in-Some.ensures.some.1 (omega arith))
