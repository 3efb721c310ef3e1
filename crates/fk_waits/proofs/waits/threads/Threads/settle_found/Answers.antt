use Rattle.std.proofs.Common.{sym, ◌∙◌}
use Rattle.fk_waits.proofs.InWaits.Settled.{come_there, come_waited, has_key, has_seat, put_fits, turned_there, turned_waited}
use Rattle.fk_waits.proofs.waits.threads.Threads.settle_found.Goals as goal

pub turn-requires : goal.turn-requires
turn-requires c = has_key c.args.self.now c.args.thread c.in-Some.key c.requires.fits.list c.requires.fits.there (sym c.in-Some.is ∙ c.requires.key)

pub returns-in-Some-clause-there : goal.returns-in-Some-clause-there
returns-in-Some-clause-there c l there =
    turned_there c.args.self.now c.turn.new.self c.args.thread c.args.cause c.in-Some.key (sym c.in-Some.is ∙ c.requires.key)
    c.turn.ensures.standing c.turn.ensures.seats l there

pub returns-in-Some-clause-waited : goal.returns-in-Some-clause-waited
returns-in-Some-clause-waited c l there =
    turned_waited c.args.self.now c.args.thread c.in-Some.key c.turn.result (sym c.in-Some.is ∙ c.requires.key) c.turn.ensures.waited l there

pub enter-key-requires : goal.enter-key-requires
enter-key-requires c = has_seat c.args.self.now c.args.thread c.requires.fits (sym c.in-None.is ∙ c.requires.key)

pub put-requires : goal.put-requires
put-requires c =
    let none = sym c.in-None.is ∙ c.requires.key in
    record { new = sym none; room = put_fits c.args.self.now c.args.thread c.requires.fits none }

pub returns-in-None-clause-there : goal.returns-in-None-clause-there
returns-in-None-clause-there c l there =
    let p = c.put.ensures in
    come_there c.args.self.now c.enter-key.new.self c.put.new.self c.args.thread c.args.cause c.enter-key.result (sym c.in-None.is ∙ c.requires.key)
    c.requires.fits c.enter-key.ensures.standing c.enter-key.ensures.seats p.put p.len p.kept l there

pub returns-in-None-clause-waited : goal.returns-in-None-clause-waited
returns-in-None-clause-waited c l there = come_waited c.args.self.now c.args.thread (sym c.in-None.is ∙ c.requires.key) l there
