use Rattle.std.proofs.Common.{ne_eqb}
use Rattle.fk_changes.proofs.InReaders.Beneath.{itself, rootless, at_root, home_lives, at_home}
use Rattle.fk_changes.proofs.readers.within.is_within.Goals as goal

pub returns-then-inner-outer : goal.returns-then-inner-outer
returns-then-inner-outer c = itself c.args.store.now c.args.inner c.args.outer c.if-inner-outer.true

pub returns-in-None : goal.returns-in-None
returns-in-None c =
    let top = rootless c.requires.inner c.args.inner c.in-None.ensures.some.1 in
    at_root c.args.store.now c.args.inner c.args.outer top c.requires.inner c.requires.outer (ne_eqb c.args.inner c.args.outer c.if-inner-outer.false)

pub is_beneath-requires-clause-live : goal.is_beneath-requires-clause-live
is_beneath-requires-clause-live c = home_lives c.args.store.now c.args.inner c.args.outer c.in-Some.who c.requires.inner c.in-Some.ensures.place

pub returns-in-Some : goal.returns-in-Some
returns-in-Some c =
    rw c.is_beneath.ensures.within (at_home c.args.store.now c.args.inner c.args.outer c.in-Some.who c.requires.inner c.in-Some.ensures.place
    c.requires.outer (ne_eqb c.args.inner c.args.outer c.if-inner-outer.false))
