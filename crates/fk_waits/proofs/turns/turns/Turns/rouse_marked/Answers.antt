use Rattle.std.proofs.Common.{◌∙◌}
use Rattle.fk_waits.specs.Turns.Turns.{all_marks, loud_cause}
use Rattle.fk_waits.proofs.InTurns.Roused.{freed_later, gone_later, met_both, met_then, roused_then}
use Rattle.fk_waits.proofs.turns.turns.Turns.rouse_marked.Goals as goal

pub returns-clause-roused : goal.returns-clause-roused
returns-clause-roused c =
    roused_then c.args.self.now.waits c.rouse_any.new.self.waits c.rouse_at.new.self.waits c.rouse_any.ensures.roused c.rouse_at.ensures.roused

pub returns-clause-room : goal.returns-clause-room
returns-clause-room c = c.rouse_at.ensures.room ∙ c.rouse_any.ensures.room

pub returns-clause-met : goal.returns-clause-met
returns-clause-met c =
    let was = c.args.self.now in
    let first = c.rouse_any.new.self in
    let now = c.rouse_at.new.self in
    met_then was.marks first.marks now.marks first.waits now.waits c.rouse_any.ensures.met c.rouse_at.ensures.met c.rouse_at.ensures.roused.less

pub returns-clause-gone : goal.returns-clause-gone
returns-clause-gone c who is =
    gone_later c.rouse_any.new.self.waits c.rouse_at.new.self.waits who c.rouse_at.ensures.roused.less (c.rouse_any.ensures.gone who is)

pub returns-clause-loud : goal.returns-clause-loud
returns-clause-loud c =
    let was = c.args.self.now in
    let first = c.rouse_any.new.self in
    let now = c.rouse_at.new.self in
    freed_later loud_cause (all_marks was.waits was.marks) (all_marks first.waits first.marks) first.waits now.waits
    (met_both was.waits was.marks first.waits first.marks c.rouse_any.ensures.met c.rouse_any.ensures.roused.less) c.rouse_at.ensures.freed
    c.rouse_at.ensures.roused.less
