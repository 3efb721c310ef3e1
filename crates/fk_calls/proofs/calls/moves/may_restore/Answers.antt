use Rattle.fk_store.specs.Store.Moves.{picked_by}
use Rattle.fk_store.specs.Store.Paths.{path, place}
use Rattle.fk_store.specs.Store.World.{world}
use Rattle.fk_calls.proofs.InCalls.Given.{ones_given}
use Rattle.fk_calls.proofs.InCalls.Restored.{ready_again}
use Rattle.fk_calls.proofs.calls.moves.may_restore.Goals as goal

pub ready_given-requires-clause-words : goal.ready_given-requires-clause-words
ready_given-requires-clause-words c = ones_given c.args.stage.now

pub returns : goal.returns
returns c words =
    let m = c.args.store.now in
    let ones = c.ready_given.ensures in
    let same = ready_again (world m) (place (path m) c.args.m.now.who) (picked_by (path m) c.args.m.now.pick) c.args.stage.now _ words c.requires.restores in
    ((λ yes. same.0 (ones.0 yes)), (λ ready. ones.1 (same.1 ready)))
