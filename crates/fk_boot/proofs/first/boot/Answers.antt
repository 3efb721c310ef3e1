use Rattle.std.proofs.Common.{refl}
use Rattle.fk_store.specs.Store.World.{world as stored}
use Rattle.fk_boot.proofs.Beginning.{begins_soundly}
use Rattle.fk_boot.proofs.first.boot.Goals as goal

pub returns-clause-sound : goal.returns-clause-sound
returns-clause-sound c =
    let servers = rw c.as_slice.ensures at c.in_ok-services.ensures in
    rw c.in_ok-of.ensures (begins_soundly c.args.scenario.now (stored c.in_ok-store.store) c.in_ok-services.services.items c.args.scenario.now.budget c.requires
    c.in_ok-store.ensures.world c.in_ok-store.ensures.runnable.whole c.in_ok-store.ensures.savable servers refl)
