use Rattle.std.proofs.Common.{sym, ◌∙◌}
use Rattle.fk_store.specs.Store.Paths.{path}
use Rattle.fk_store.specs.Store.World.{world}
use Rattle.fk_stretch.proofs.Steps.{begins, begins_load}
use Rattle.fk_stretch.proofs.stretch.instruct.Goals as goal

pub put-requires : goal.put-requires
put-requires c = rw c.in-Loads.is at c.begin-rest.ensures.in_range

pub returns-in_default : goal.returns-in_default
returns-in_default c =
    let m = c.args.store.now in
    begins (world m) (path m c.args.space) c.args.running.now c.begin-rest.new.self c.args.words.now c.begin-rest.result c.requires.there
    c.begin-rest.ensures.rest c.begin-rest.ensures.begun

pub returns-in_default-word_at : goal.returns-in_default-word_at
returns-in_default-word_at c =
    let m = c.args.store.now in
    let begun = begins (world m) (path m c.args.space) c.args.running.now c.begin-rest.new.self c.args.words.now c.begin-rest.result c.requires.there
    c.begin-rest.ensures.rest c.begin-rest.ensures.begun in
    rw c.in-Loads.is at begun

pub returns : goal.returns
returns c =
    let m = c.args.store.now in
    begins_load (world m) (path m c.args.space) c.args.running.now c.begin-rest.new.self c.put.new.self c.args.words.now c.in-Loads.register
    c.in-Loads.address c.in-Some.value c.requires.there (sym c.in-Loads.is ∙ c.begin-rest.ensures.rest) c.begin-rest.ensures.begun c.in-Some.ensures
    c.put.ensures
