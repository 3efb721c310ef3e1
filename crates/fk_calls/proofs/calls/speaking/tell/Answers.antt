use Rattle.std.proofs.Common.{[], refl}
use Rattle.fk_calls.proofs.InCalls.Speaking.{has_told}
use Rattle.fk_calls.proofs.calls.speaking.tell.Goals as goal

pub speaking-requires-clause-calling : goal.speaking-requires-clause-calling
speaking-requires-clause-calling c = rw c.requires.at.todo refl

pub own_path-requires : goal.own_path-requires
own_path-requires c = record { live = c.in-Some.ensures.fits.1.0 }

pub tells-requires : goal.tells-requires
tells-requires c = record { low = c.in-Some.ensures.fits.2.1.1 }

pub returns : goal.returns
returns c =
    has_told c.args.store.now c.args.who c.requires.unheld c.requires.free c.in-Some.told c.tells.new.store c.tells.ensures.paths c.tells.ensures.world
    c.args.address c.args.count c.requires.valid c.names.ensures.few c.requires.at (c.in-Some.ensures.outcome []) c.in-Some.ensures.fits c.own_path.ensures
