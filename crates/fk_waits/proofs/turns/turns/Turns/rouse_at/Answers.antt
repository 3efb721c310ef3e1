use Rattle.std.proofs.Common.{sym, ap, ◌∙◌}
use Rattle.fk_waits.specs.Waits.Lists.{is_queued, Lists}
use Rattle.fk_waits.proofs.InCauses.Numbers.{clash}
use Rattle.fk_waits.specs.Causes.Names.{is_same}
use Rattle.fk_waits.specs.Turns.Turns.{free_cause}
use Rattle.fk_waits.proofs.InTurns.Roused.{freed_both, met_none, met_still, roused_none, roused_then}
use Rattle.fk_waits.proofs.turns.turns.Turns.rouse_at.Goals as goal

pub rouse_marked_at-requires : goal.rouse_marked_at-requires
rouse_marked_at-requires c = record { sound = c.requires.sound; named = sym c.is_free.ensures ∙ c.if-is_free.false }

pub returns-then-is_free-clause-roused : goal.returns-then-is_free-clause-roused
returns-then-is_free-clause-roused c = roused_none c.args.self.now.waits

pub returns-then-is_free-clause-met : goal.returns-then-is_free-clause-met
returns-then-is_free-clause-met c = met_none c.args.self.now.marks c.args.self.now.waits

pub returns-then-is_free-clause-freed : goal.returns-then-is_free-clause-freed
returns-then-is_free-clause-freed c named =
    clash (is_same free_cause c.args.key) (sym c.is_free.ensures ∙ c.if-is_free.true) named

pub returns-then-is_none_queued-clause-roused : goal.returns-then-is_none_queued-clause-roused
returns-then-is_none_queued-clause-roused c = roused_none c.args.self.now.waits

pub returns-then-is_none_queued-clause-met : goal.returns-then-is_none_queued-clause-met
returns-then-is_none_queued-clause-met c = met_none c.args.self.now.marks c.args.self.now.waits

pub returns-then-is_none_queued-clause-freed : goal.returns-then-is_none_queued-clause-freed
returns-then-is_none_queued-clause-freed c named who at =
    let none = rw c.if-is_none_queued.true at c.is_none_queued.ensures in ap (is_queued who) none

pub returns-clause-roused : goal.returns-clause-roused
returns-clause-roused c =
    roused_then c.args.self.now.waits c.rouse_marked_at.new.self.waits c.rouse_queued_at.new.self.waits c.rouse_marked_at.ensures.roused
    c.rouse_queued_at.ensures.roused

pub returns-clause-met : goal.returns-clause-met
returns-clause-met c =
    let first = c.rouse_marked_at.new.self in
    let now = c.rouse_queued_at.new.self in
    met_still c.args.self.now.marks first.marks now.marks first.waits now.waits c.rouse_marked_at.ensures.met c.rouse_queued_at.ensures.roused.less
    c.rouse_queued_at.ensures.marks

pub returns-clause-freed : goal.returns-clause-freed
returns-clause-freed c =
    let was = c.args.self.now in
    freed_both c.args.key was.waits was.marks c.rouse_marked_at.new.self.waits c.rouse_queued_at.new.self.waits c.rouse_marked_at.ensures.freed
    c.rouse_marked_at.ensures.roused.less c.rouse_queued_at.ensures.roused.less c.rouse_queued_at.ensures.none

pub returns-clause-room : goal.returns-clause-room
returns-clause-room c = ap (λ (l : Lists). l.spare) c.rouse_queued_at.ensures.marks ∙ c.rouse_marked_at.ensures.room
