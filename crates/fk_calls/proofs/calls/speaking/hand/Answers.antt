use Rattle.std.proofs.Common.{[], refl}
use Rattle.fk_calls.proofs.InCalls.Speaking.{has_yielded}
use Rattle.fk_calls.proofs.calls.speaking.hand.Goals as goal

pub own_path-requires : goal.own_path-requires
own_path-requires c = record { live = c.in-Some.ensures.fits.1.0 }

pub returns : goal.returns
returns c =
    has_yielded c.args.store.now c.args.who c.requires.unheld c.requires.free c.in-Some.port c.yields.new.store c.yields.ensures.paths
    c.yields.ensures.world c.requires.valid c.names.ensures.few c.requires.at (c.in-Some.ensures.outcome []) c.in-Some.ensures.fits
    (c.in-Some.ensures.served refl) c.own_path.ensures
