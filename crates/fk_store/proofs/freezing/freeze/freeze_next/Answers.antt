use Rattle.std.proofs.Common.{refl, arith}
use Rattle.fk_store.proofs.InFreezing.FreezeLaws.{goes_on, goes_down, goes_up, falls_on, falls_down, falls_up, not_top, still_marked}
use Rattle.fk_store.proofs.freezing.freeze.freeze_next.Goals as goal

-- nothing more stands there
pub returns-in-None-clause-closed : goal.returns-in-None-clause-closed
returns-in-None-clause-closed c = rw c.up.ensures.to
    (goes_up c.args.bodies.now c.requires.known c.args.top _ c.args.space c.args.slot (c.in-None.ensures.none refl) c.requires.closed)

pub returns-in-None-clause-falls : goal.returns-in-None-clause-falls
returns-in-None-clause-falls c = rw c.up.ensures.to (falls_up c.args.bodies.now c.requires.known _ c.args.top c.args.space c.args.slot)

-- a space is marked
pub returns-in-Some-mark_found-clause-closed : goal.returns-in-Some-mark_found-clause-closed
returns-in-Some-mark_found-clause-closed c =
    let now = c.in-Some-mark_found.ensures.some in
    goes_down c.args.bodies.now c.requires.known c.args.top c.args.space c.args.slot c.in-Some.found c.in-Some.ensures.some.2 _ c.requires.closed _
    c.in-Some-mark_found.birth now.born (not_top _ c.args.top c.in-Some-mark_found.birth c.requires.marked now.was) now.marked

pub returns-in-Some-mark_found-clause-marked : goal.returns-in-Some-mark_found-clause-marked
returns-in-Some-mark_found-clause-marked c =
    let now = c.in-Some-mark_found.ensures.some in still_marked _ _ c.args.top c.in-Some-mark_found.birth c.requires.marked now.marked

pub returns-in-Some-mark_found-clause-falls : goal.returns-in-Some-mark_found-clause-falls
returns-in-Some-mark_found-clause-falls c =
    let now = c.in-Some-mark_found.ensures.some in falls_down _ _ c.args.space c.args.slot c.in-Some-mark_found.birth now.less (omega arith)

-- it is none, or is marked already
pub returns-in-None-mark_found-clause-closed : goal.returns-in-None-mark_found-clause-closed
returns-in-None-mark_found-clause-closed c =
    let found = c.in-None-mark_found.ensures.none refl in
    rw (found.0, c.from.ensures) (goes_on c.args.bodies.now c.requires.known c.args.top c.args.space c.args.slot c.in-Some.found
    c.in-Some.ensures.some.2 _ c.requires.closed found.1)

pub returns-in-None-mark_found-clause-marked : goal.returns-in-None-mark_found-clause-marked
returns-in-None-mark_found-clause-marked c = rw (c.in-None-mark_found.ensures.none refl).0 c.requires.marked

pub returns-in-None-mark_found-clause-falls : goal.returns-in-None-mark_found-clause-falls
returns-in-None-mark_found-clause-falls c = rw ((c.in-None-mark_found.ensures.none refl).0, c.from.ensures)
    (falls_on _ c.args.space c.args.slot c.in-Some.found c.in-Some.ensures.some.1 (omega arith))
