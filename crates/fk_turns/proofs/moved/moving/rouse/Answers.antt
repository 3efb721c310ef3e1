use Rattle.std.proofs.Common.{sym, ◌∙◌}
use Rattle.fk_turns.proofs.InMoved.After.{roused_few, roused_wide}
use Rattle.fk_turns.proofs.moved.moving.rouse.Goals as goal

pub returns-then-touches_more-clause-roused : goal.returns-then-touches_more-clause-roused
returns-then-touches_more-clause-roused c =
    let was = c.args.turns.now in
    roused_wide c.args.touched.now was.waits was.marks c.rouse_all.new.self.waits c.rouse_all.new.self.marks
    (sym c.touches_more.ensures ∙ c.if-touches_more.true) c.rouse_all.ensures.stays c.rouse_all.ensures.queued

pub returns-else-touches_more-clause-roused : goal.returns-else-touches_more-clause-roused
returns-else-touches_more-clause-roused c =
    let was = c.args.turns.now in
    roused_few c.args.touched.now was.waits was.marks c.rouse_marked.new.self.waits c.rouse_marked.new.self.marks
    (sym c.touches_more.ensures ∙ c.if-touches_more.false) c.rouse_marked.ensures.roused c.rouse_marked.ensures.gone c.rouse_marked.ensures.room
    c.rouse_marked.ensures.met c.rouse_marked.ensures.loud
