use Rattle.std.proofs.Common.{◌≡◌, ℕ, Some, sym, subst}
use Rattle.slab.specs.Slab.{get}
use Rattle.fk_waits.proofs.InQueues.Gone.{filed_left}
use Rattle.fk_waits.proofs.InQueues.Heads.{gone_away, heads_same, read_apart}
use Rattle.fk_waits.proofs.InQueues.Turned.{line_read, never_gone, place_read, stands_in_order}
use Rattle.fk_waits.proofs.queues.queues.Queues.leave.Goals as goal

pub unreachable-requires : goal.unreachable-requires
unreachable-requires c =
    let h = c.requires in never_gone c.args.self.now h.before h.place h.behind c.args.key h.filed h.is c.in_default.ensures

pub take_out-requires : goal.take_out-requires
take_out-requires c = stands_in_order c.args.self.now c.args.key c.requires

pub leave_line-requires : goal.leave_line-requires
leave_line-requires c = line_read c.args.self.now c.args.key c.in-Some.place.now c.requires c.in-Some.ensures

pub returns-clause-heads : goal.returns-clause-heads
returns-clause-heads c =
    let q = c.args.self.now in
    let n = c.in-Some.place.now in
    heads_same q.lines c.leave_line.new.lines n.at (read_apart q c.args.key n c.requires c.in-Some.ensures)
    (gone_away c.leave_line.new.lines n.at c.leave_line.ensures.gone) c.leave_line.ensures.others

pub returns-clause-filed : goal.returns-clause-filed
returns-clause-filed c a b p filed is =
    let q = c.args.self.now in
    let n = c.in-Some.place.now in
    let here : Some n ≡ get q.order p.key = subst (λ (k : ℕ). Some n ≡ get q.order k) (sym is) c.in-Some.ensures in
    let read = place_read q a p b n filed here in
    filed_left q c.args.key n.at c.take_out.new.nodes c.take_out.ensures.others c.take_out.ensures.left
    c.leave_line.new.lines c.leave_line.ensures.gone c.leave_line.ensures.others c.leave_line.ensures.lines a p b filed is read.1
