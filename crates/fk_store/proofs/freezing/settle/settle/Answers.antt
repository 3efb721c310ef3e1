use Rattle.std.proofs.Common.{sym, ap, ◌∙◌}
use Rattle.fk_store_graph.specs.Bodies.Births.{stored_birth}
use Rattle.fk_store_graph.specs.Bodies.Held.{is_held}
use Rattle.fk_store.proofs.InFreezing.TreeLaws.{born_top, told_anew, frozen_all, told_all, no_number}
use Rattle.fk_store.proofs.freezing.settle.settle.Goals as goal

pub settle_marks-requires-clause-born : goal.settle_marks-requires-clause-born
settle_marks-requires-clause-born c =
    born_top c.args.bodies.now c.args.who c.args.body.now c.requires.here c.requires.known c.in-Space.birth (ap stored_birth c.in-Space.is)

pub returns-in-Space-clause-told : goal.returns-in-Space-clause-told
returns-in-Space-clause-told c = told_anew c.args.bodies.now c.args.who c.args.body.now c.requires.here c.requires.known c.in-Space.birth
    (ap stored_birth c.in-Space.is)
    _ _ (λ on. c.tell.ensures.here (c.is_some.ensures ∙ sym (ap is_held c.in-Space.is) ∙ on)) c.tell.ensures.others c.requires.told

-- what is no space
pub returns-in_default-clause-frozen : goal.returns-in_default-clause-frozen
returns-in_default-clause-frozen c = frozen_all c.args.bodies.now c.args.who c.args.body.now c.requires.here _
    (no_number c.args.body.now c.in_default.not-Space) c.requires.frozen

pub returns-in_default-clause-told : goal.returns-in_default-clause-told
returns-in_default-clause-told c = told_all c.args.bodies.now c.args.who c.args.body.now c.requires.here _
    (no_number c.args.body.now c.in_default.not-Space) c.requires.told
