use Rattle.fk_pager.proofs.Hindering.{any-none}
use Rattle.fk_pager.proofs.Desking.{no-space, no-set, not-root, no-nester, hindered, has-desk}
use Rattle.std.proofs.Common.{sym, ◌∙◌}
use Rattle.fk_pager.proofs.desks.desk_at.Goals as goal

pub returns-in_err-space-clause-none : goal.returns-in_err-space-clause-none
returns-in_err-space-clause-none c = any-none _ _ (no-space c.args.store.now c.args.slot c.in_err-space.ensures.birth)

pub returns-in_err-set-clause-none : goal.returns-in_err-set-clause-none
returns-in_err-set-clause-none c = any-none _ _ (no-set c.args.store.now c.args.slot c.in_ok-space.space c.in_ok-space.ensures.path c.in_ok-port.port
    c.in_ok-port.ensures c.in_err-set.ensures.set)

pub returns-then-port-ne0-clause-none : goal.returns-then-port-ne0-clause-none
returns-then-port-ne0-clause-none c = not-root c.args.store.now c.args.slot c.in_ok-space.space c.in_ok-space.ensures.path c.in_ok-port.port
    c.in_ok-port.ensures (c.in_ok-set.ensures.there (cc)) c.if-port-ne0.true

pub returns-then-not-is_nester-clause-none : goal.returns-then-not-is_nester-clause-none
returns-then-not-is_nester-clause-none c = no-nester c.args.store.now c.args.slot c.is_nester.result c.is_nester.ensures c.if-not-is_nester.true

pub returns-then-is_hindered-clause-none : goal.returns-then-is_hindered-clause-none
returns-then-is_hindered-clause-none c =
    let bars = c.is_hindered.ensures.some c.if-is_hindered.true in
    hindered c.args.store.now c.args.slot c.in_ok-space.space c.in_ok-space.ensures.path c.in_ok-port.port c.in_ok-port.ensures
    c.in_ok-set.set c.in_ok-set.ensures.set bars.0 bars.1 bars.2

pub returns-clause-some : goal.returns-clause-some
returns-clause-some c = has-desk c.args.store.now c.args.slot c.in_ok-space.space c.in_ok-space.ensures.path c.in_ok-port.port c.in_ok-port.ensures
    c.in_ok-set.set c.in_ok-set.ensures.set c.if-port-ne0.false (c.is_hindered.ensures.none c.if-is_hindered.false)
    c.in_ok-space.space c.in_ok-space.ensures.birth (sym c.is_nester.ensures ∙ c.if-not-is_nester.false)
