use Rattle.std.proofs.Common.{Some, option_map, ap, ◌∙◌}
use Rattle.fk_model.specs.World.{edited}
use Rattle.fk_model.specs.World.Edit.{SetPointer}
use Rattle.fk_store.specs.Store.Bodies.{pointer_by}
use Rattle.fk_store.specs.Store.Paths.{path}
use Rattle.fk_store.specs.Store.World.{body_of}
use Rattle.fk_store.proofs.store.store.Store.point.Goals as goal

pub set-requires-clause-home : goal.set-requires-clause-home
set-requires-clause-home c = (c.with_pointer.ensures.keeps _).1 _ c.in-Some.ensures.home

pub set-requires-clause-named : goal.set-requires-clause-named
set-requires-clause-named c = c.with_pointer.ensures.named _ c.requires.to c.in-Some.ensures.named

pub returns-in-Some-Reference-clause-world : goal.returns-in-Some-Reference-clause-world
unfolding edited
returns-in-Some-Reference-clause-world c =
    let edit = SetPointer (pointer_by (path c.args.self.now) c.args.to) in
    let there = c.in-Some-Reference.ensures.body ∙ ap (λ b. Some (body_of c.args.self.now b)) c.in-Some-Reference.field-0-is in
    c.aim.ensures.edits edit (ap (option_map (edited edit)) there)
