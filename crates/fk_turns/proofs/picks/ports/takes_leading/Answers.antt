use Rattle.std.proofs.Common.{refl, sym, subst, ◌∙◌}
use Rattle.fk_turns.proofs.InPicks.Leading.{AreToCome, next_to_come}
use Rattle.fk_turns.proofs.picks.ports.takes_leading.Goals as goal

pub loop-from-init : goal.loop-from-init
loop-from-init c = λ all y q leads comes picked. c.leaders-leaders.ensures all y leads

pub loop-from-preserved : goal.loop-from-preserved
loop-from-preserved c = λ all.
    let m = c.args.store.now in
    let left = c.loop-from.invariant (sym c.in-Some.ensures.all ∙ all) in
    next_to_come m c.args.picker c.args.port c.in-Some.from c.next.new.self.0
    (subst (λ whos. AreToCome m c.args.picker c.args.port whos) c.in-Some.ensures.some left) c.in_default-takes_by.ensures.none

pub returns-then-are_all-clause-none : goal.returns-then-are_all-clause-none
returns-then-are_all-clause-none c y q leads comes picked =
    let left = c.loop-from.invariant (sym c.in_default.ensures.all ∙ sym c.are_all.ensures ∙ c.if-are_all.true) in
    let among = left y q leads comes picked in
    let ended = (c.in_default.ensures.none refl).0 in
    rw ended at among.2
