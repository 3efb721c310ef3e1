use Rattle.std.proofs.Common.{◌≡◌, Some, sym, ◌∙◌}
use Rattle.std.proofs.lemmas.Option.{same_Some}
use Rattle.fk_store.specs.Store.World.{world, place_of}
use Rattle.fk_report.specs.Threads.{state_at}
use Rattle.fk_report.proofs.ThreadScans.{state-itself}
use Rattle.fk_report.proofs.Lines.{lined-up, lined-others, lined-itself}
use Rattle.fk_report.proofs.threads.line_up_at.Goals as goal

pub returns-in-Some-clause-line : goal.returns-in-Some-clause-line
returns-in-Some-clause-line c =
    let w = world c.args.store.now in
    let is : state_at w (place_of c.args.store.now c.args.who) ≡ Some c.in-Some.thread = sym c.in_ok-state_of.ensures ∙ c.in-Some.is in
    λ line. lined-up w _ _ c.in-Some.thread _ _ c.line_up.result (state-itself w (place_of c.args.store.now c.args.who) c.in-Some.thread is)
    c.line_up.ensures.later c.line_up.ensures.last c.line_up.ensures.threads line

pub returns-in-Some-clause-others : goal.returns-in-Some-clause-others
returns-in-Some-clause-others c other there = lined-others _ c.in-Some.thread other _ c.line_up.result c.line_up.ensures.threads there

pub returns-in-Some-clause-itself : goal.returns-in-Some-clause-itself
returns-in-Some-clause-itself c thread is =
    let first : state_at (world c.args.store.now) (place_of c.args.store.now c.args.who) ≡ Some c.in-Some.thread =
    sym c.in_ok-state_of.ensures ∙ c.in-Some.is in
    let here : c.in-Some.thread ≡ thread = same_Some _ _ (sym first ∙ is) in
    lined-itself _ c.in-Some.thread thread _ c.line_up.result c.line_up.ensures.threads here
