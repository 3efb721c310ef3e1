use Rattle.std.proofs.Common.{ne_eqb, sym, ◌∙◌, arith}
use Rattle.fk_store.proofs.InStore.finding.Within.{begins, goes_up, leaves, arrives}
use Rattle.fk_store.proofs.InStore.finding.Walks.{younger}
use Rattle.fk_store.proofs.store.store.Store.is_beneath.Goals as goal

pub loop-at-init : goal.loop-at-init
loop-at-init c =
    rw (← c.self.view_is) (begins _ c.self.invariant c.args.base (rw (← c.self.view_is) at c.requires.base) c.args.space
    (rw (← c.self.view_is) at c.requires.space))

pub loop-at-preserved : goal.loop-at-preserved
loop-at-preserved c =
    rw (← c.self.view_is) (goes_up _ c.self.invariant c.args.base (rw (← c.self.view_is) at c.requires.base) c.args.space
    c.loop-at.at (rw (← c.self.view_is) at c.loop-at.invariant) (ne_eqb c.loop-at.at c.args.base c.loop-at-test.true)
    c.in-Some.who (sym c.home.ensures ∙ c.in-Some.is))

pub returns-in-None : goal.returns-in-None
returns-in-None c =
    rw (← c.self.view_is) (leaves _ c.self.invariant c.args.base (rw (← c.self.view_is) at c.requires.base) c.args.space
    c.loop-at.at (rw (← c.self.view_is) at c.loop-at.invariant) (ne_eqb c.loop-at.at c.args.base c.loop-at-test.true)
    (sym c.home.ensures ∙ c.in-None.is))

pub returns : goal.returns
returns c =
    rw (← c.self.view_is) (arrives _ c.self.invariant c.args.base (rw (← c.self.view_is) at c.requires.base) c.args.space
    c.loop-at.at (rw (← c.self.view_is) at c.loop-at.invariant) (omega arith))

pub loop-at-smaller : goal.loop-at-smaller
loop-at-smaller c = younger _ c.self.invariant c.loop-at.at c.in-Some.who (sym c.home.ensures ∙ c.in-Some.is)
