use Rattle.std.proofs.Common.{sym, ap, ◌∙◌}
use Rattle.fk_model.specs.declared.stage.Stage.{Stage}
use Rattle.fk_model.specs.LinkRows.{connecting_to}
use Rattle.fk_store.specs.Store.Bodies.{thread_by}
use Rattle.fk_store.specs.Store.Paths.{path}
use Rattle.fk_store.specs.Store.World.{world, place_of}
use Rattle.fk_turns.specs.Whys.Causes.{stage_cause}
use Rattle.fk_turns.proofs.InWhys.Waited.{led_at}
use Rattle.fk_turns.proofs.whys.causes.stage_cause.Goals as goal

pub returns-in-Connect : goal.returns-in-Connect
returns-in-Connect c =
    let m = c.args.store.now in
    let t = thread_by (path m) c.args.thread.now in
    led_at (path m) c.connecting_to.result (connecting_to (world m) (place_of m c.args.who) t) c.connecting_to.ensures.to
    ∙ ap (λ (s : Stage). stage_cause (world m) (place_of m c.args.who) t s) (sym c.in-Connect.is)

pub returns-in-FaultDone : goal.returns-in-FaultDone
returns-in-FaultDone c =
    let m = c.args.store.now in
    c.faulter_of.ensures.faulter c.requires.consistent
    ∙ ap (λ (s : Stage). stage_cause (world m) (place_of m c.args.who) (thread_by (path m) c.args.thread.now) s) (sym c.in-FaultDone.is)
