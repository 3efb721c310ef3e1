use Rattle.std.proofs.Common.{sym, ◌∙◌}
use Rattle.fk_store_graph.proofs.InBodies.PlayLaws.{player, no_player, nothing_plays}
use Rattle.fk_store_graph.proofs.bodies.scans.played_by.Goals as goal

pub returns-in_err-entry-clause-none : goal.returns-in_err-entry-clause-none
returns-in_err-entry-clause-none c = λ none. nothing_plays _ c.args.part c.args.key c.in_err-entry.ensures.entry

pub returns-then-is_played_by-clause-some : goal.returns-then-is_played_by-clause-some
returns-then-is_played_by-clause-some c = player _ c.args.part c.args.key c.in_ok-entry.entry.now c.in_ok-entry.ensures.entry
    (sym c.is_played_by.ensures ∙ c.if-is_played_by.true)

pub returns-else-is_played_by-clause-none : goal.returns-else-is_played_by-clause-none
returns-else-is_played_by-clause-none c = λ none.
    no_player _ c.args.part c.args.key c.in_ok-entry.entry.now c.in_ok-entry.ensures.entry (sym c.is_played_by.ensures ∙ c.if-is_played_by.false)
