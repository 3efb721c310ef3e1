use Rattle.std.proofs.Common.{sym, ◌∙◌, arith}
use Rattle.fk_store.proofs.InStore.finding.ReachLaws.{reach-on}
use Rattle.fk_store.proofs.store.store.Store.reach.Goals as goal

pub returns-in-Home : goal.returns-in-Home
returns-in-Home c = sym (reach-on _ _ _ _ _ c.loop-followed._followed c.in-Home.ensures.more (omega arith)) ∙ c.loop-followed.invariant

pub returns-in-Missing : goal.returns-in-Missing
returns-in-Missing c = sym (reach-on _ _ _ _ _ c.loop-followed._followed c.in-Missing.ensures.more (omega arith)) ∙ c.loop-followed.invariant

pub returns-in-Broken : goal.returns-in-Broken
returns-in-Broken c = sym (reach-on _ _ _ _ _ c.loop-followed._followed c.in-Broken.ensures.more (omega arith)) ∙ c.loop-followed.invariant
