use Rattle.std.proofs.Common.{sym, ap, ◌∙◌}
use Rattle.fk_store.specs.Store.Paths.{path}
use Rattle.fk_spaces.specs.Sought.{is_sought_at}
use Rattle.fk_spaces.proofs.PorterScans.{is_there}
use Rattle.fk_spaces.proofs.beneath.is_held_beneath.Goals as goal

pub returns-in-Some-clause-some : goal.returns-in-Some-clause-some
returns-in-Some-clause-some c = λ is. is_there c.args.store.now (path c.args.store.now c.args.outer) c.in-Some.who (sym c.is_held_there.ensures ∙ is)

pub returns-in-Some-clause-none : goal.returns-in-Some-clause-none
returns-in-Some-clause-none c = λ off pos live.
    ap (is_sought_at c.args.store.now (path c.args.store.now c.args.outer)) c.in-Some.ensures.place ∙ sym c.is_held_there.ensures ∙ off

pub returns-in-None-clause-none : goal.returns-in-None-clause-none
returns-in-None-clause-none c = λ off pos live. let there = c.in-None.ensures.some.1 (pos, live) in absurd (cc)
