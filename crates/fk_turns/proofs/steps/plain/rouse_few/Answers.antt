use Rattle.std.proofs.Common.{◌||◌, false}
use Rattle.fk_model.specs.declared.names.Who.{Who}
use Rattle.fk_turns.specs.Moved.Moved.{is_it}
use Rattle.fk_turns.proofs.InSteps.Unknown.{roused_at, roused_both}
use Rattle.fk_turns.proofs.steps.plain.rouse_few.Goals as goal

pub returns-clause-roused : goal.returns-clause-roused
returns-clause-roused c =
    let was = c.args.turns.now in
    let a = c.rouse_marked.new.self in
    let b = c.rouse_one.new.turns in
    let d = c.rouse_one-2.new.turns in
    let e = c.rouse_one-3.new.turns in
    let f = is_it c.args.first in
    let s = is_it c.args.second in
    let t = is_it c.args.third in
    roused_both (λ (x : Who). false) (λ (x : Who). f x || (s x || t x)) was.waits was.marks a.waits a.marks e.waits e.marks
    (roused_at (λ (x : Who). false) was.waits was.marks a.waits a.marks c.rouse_marked.ensures.roused c.rouse_marked.ensures.met (λ key is. absurd (cc)))
    (roused_both f (λ (x : Who). s x || t x) a.waits a.marks b.waits b.marks e.waits e.marks c.rouse_one.ensures.roused
    (roused_both s t b.waits b.marks d.waits d.marks e.waits e.marks c.rouse_one-2.ensures.roused c.rouse_one-3.ensures.roused))
