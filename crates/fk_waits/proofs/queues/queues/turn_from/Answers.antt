use Rattle.std.proofs.Common.{◌∙◌}
use Rattle.slab.specs.Slab.{ContainsKey}
use Rattle.fk_waits.proofs.InQueues.Places.{filed_middle, lines_left}
use Rattle.fk_waits.proofs.InQueues.Standing.{beside_there, kept, of_middle}
use Rattle.fk_waits.proofs.queues.queues.turn_from.Goals as goal

pub leave-left-requires : goal.leave-left-requires
leave-left-requires c = record {
  node = of_middle (ContainsKey c.args.lines.now) c.requires.stands.before c.requires.stands.behind c.args.node c.requires.stands.there.1;
  next = (beside_there c.args.lines.now c.requires.head c.args.node c.requires.stands).0;
  prev = (beside_there c.args.lines.now c.requires.head c.args.node c.requires.stands).1;
}

pub show-requires : goal.show-requires
show-requires c =
    let s = c.requires.stands in
    kept c.args.lines.now c.leave-left.new.nodes c.leave-left.ensures.shown.shown c.args.node (of_middle
    (ContainsKey c.args.lines.now) s.before s.behind c.args.node s.there.1)

pub returns-clause-lines : goal.returns-clause-lines
returns-clause-lines c order a b p filed lines is h head =
    let shown = c.leave-left.ensures.shown.shown in
    c.show.ensures.lists h _
    (lines_left order c.args.lines.now c.leave-left.new.nodes a p b c.args.node is filed (filed_middle order c.args.lines.now a p b filed).head lines shown
    c.leave-left.ensures.leaves c.leave-left.ensures.others h (head.0, shown h ∙ head.1))
