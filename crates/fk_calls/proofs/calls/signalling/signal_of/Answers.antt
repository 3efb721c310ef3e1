use Rattle.std.proofs.Common.{refl}
use Rattle.fk_store.specs.Store.Paths.{path, place}
use Rattle.fk_store.specs.Store.World.{world}
use Rattle.fk_calls.proofs.InCalls.Signalling.{signalling_if}
use Rattle.fk_calls.proofs.calls.signalling.signal_of.Goals as goal

pub returns-in-Calling : goal.returns-in-Calling
returns-in-Calling c =
    let m = c.args.store.now in
    signalling_if (world m) (place (path m) c.args.who) (path m) c.in_ok-thread.thread.now c.signal_named.result (c.in_ok-thread.ensures.free refl)
    c.in_ok-thread.ensures.there c.in-Calling.is c.signal_named.ensures
