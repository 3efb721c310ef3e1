use Rattle.std.proofs.Common.{Option, option_map, ap}
use Rattle.fk_model.specs.declared.thread.Talk.{Talk}
use Rattle.fk_store.specs.Store.Bodies.{talk_by, thread_by}
use Rattle.fk_store.specs.Store.Paths.{path, place}
use Rattle.fk_store.specs.Store.World.{world}
use Rattle.fk_turns.proofs.InWhys.Reasons.{no_talk}
use Rattle.fk_turns.proofs.whys.whys.connecting.Goals as goal

pub connecting_by-requires : goal.connecting_by-requires
connecting_by-requires c =
    let m = c.args.store.now in
    record {
      alone = no_talk (world m) (place (path m) c.args.who) (thread_by (path m) c.args.thread.now) c.requires.there
          (ap (λ (t : Option Talk). option_map (talk_by (path m)) t) c.in-None.is);
      stage = c.requires.stage;
    }
