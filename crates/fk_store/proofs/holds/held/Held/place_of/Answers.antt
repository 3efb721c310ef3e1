use Rattle.std.proofs.Common.{refl, sym, ◌∙◌, arith}
use Rattle.std.proofs.lemmas.List.{get_or_default}
use Rattle.fk_store.proofs.InHolds.HeldLaws.{none_in, none_yet}
use Rattle.fk_store.proofs.holds.held.Held.place_of.Goals as goal

pub returns-clause-none : goal.returns-clause-none
returns-clause-none c = λ none. rw (← c.self.view_is) (none_in _ c.args.space c.loop-at.at (omega arith) c.loop-at.invariant)

pub loop-at-preserved : goal.loop-at-preserved
loop-at-preserved c = none_yet _ c.args.space c.loop-at.at _ (omega arith) c.index.ensures c.if-index-space.false c.loop-at.invariant
