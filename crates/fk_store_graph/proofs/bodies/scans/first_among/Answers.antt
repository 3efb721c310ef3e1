use Rattle.std.proofs.Common.{sym, ◌∙◌, arith}
use Rattle.fk_store_graph.proofs.InBodies.PlayLaws.{none_so_far, none_at_all, none_is}
use Rattle.fk_store_graph.proofs.bodies.scans.first_among.Goals as goal

pub loop-key-init : goal.loop-key-init
loop-key-init c = λ j b low there. absurd (omega (arith, low))

pub loop-key-preserved : goal.loop-key-preserved
loop-key-preserved c = none_so_far _ c.args.part c.loop-key.key c.loop-key.invariant
    (c.played_by-player.ensures.none (none_is _ (sym c.is_some.ensures ∙ c.if-is_some.false)))

pub returns-clause-none : goal.returns-clause-none
returns-clause-none c = λ none. none_at_all _ c.args.part c.bound-key-end.result c.loop-key.key (omega arith) c.bound-key-end.ensures c.loop-key.invariant
