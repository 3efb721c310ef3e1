use Rattle.std.proofs.Common.{subst}
use Rattle.fk_store.specs.Store.Paths.{path, place}
use Rattle.fk_store.specs.Store.World.{world}
use Rattle.laws_waits.specs.Stuck.{IsAtStage}
use Rattle.fk_turns.proofs.whys.whys.at_stage.Goals as goal

pub locking-requires : goal.locking-requires
locking-requires c =
    let m = c.args.store.now in subst (IsAtStage (world m) (place (path m) c.args.who)) c.in-MutexLock.is c.requires.stage

pub sleeping-requires : goal.sleeping-requires
sleeping-requires c =
    let m = c.args.store.now in subst (IsAtStage (world m) (place (path m) c.args.who)) c.in-CondAsleep.is c.requires.stage

pub connecting-requires : goal.connecting-requires
connecting-requires c =
    let m = c.args.store.now in
    record { there = c.requires.there; stage = subst (IsAtStage (world m) (place (path m) c.args.who)) c.in-Connect.is c.requires.stage }
