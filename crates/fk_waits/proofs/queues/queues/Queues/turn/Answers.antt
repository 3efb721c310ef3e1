use Rattle.std.proofs.Common.{◌≡◌, ℕ, Some, sym, subst, ◌∙◌}
use Rattle.slab.specs.Slab.{get}
use Rattle.fk_waits.proofs.InQueues.Heads.{heads_same, leads_away, read_apart}
use Rattle.fk_waits.proofs.InQueues.Turned.{filed_turned, last_turned, line_read, never_gone, place_read, stands_in_order}
use Rattle.fk_waits.proofs.queues.queues.Queues.turn.Goals as goal

pub unreachable-requires : goal.unreachable-requires
unreachable-requires c =
    let h = c.requires.place in never_gone c.args.self.now h.before h.place h.behind c.args.key h.filed h.is c.in_default.ensures

pub go_last-requires : goal.go_last-requires
go_last-requires c = stands_in_order c.args.self.now c.args.key c.requires.place

pub turn_from-left-requires : goal.turn_from-left-requires
turn_from-left-requires c = line_read c.args.self.now c.args.key c.in-Some.place.now c.requires.place c.in-Some.ensures

pub join-requires-clause-last : goal.join-requires-clause-last
join-requires-clause-last c =
    last_turned c.args.self.now c.args.key c.args.head c.in-Some.place.now c.requires.place c.in-Some.ensures c.requires.head
    c.turn_from-left.new.lines c.turn_from-left.ensures.others c.turn_from-left.ensures.lines

pub returns-clause-heads : goal.returns-clause-heads
returns-clause-heads c =
    let q = c.args.self.now in
    let n = c.in-Some.place.now in
    let before = read_apart q c.args.key n c.requires.place c.in-Some.ensures in
    let shown = c.join.ensures.shown.shown in
    heads_same q.lines c.join.new.nodes n.at before
    (leads_away c.join.new.nodes n.at c.args.head n.who (shown n.at ∙ c.turn_from-left.ensures.shown) (before c.args.head c.requires.head))
    (λ m off. shown m ∙ c.turn_from-left.ensures.others m off)

pub returns-clause-filed : goal.returns-clause-filed
returns-clause-filed c a b p filed is =
    let q = c.args.self.now in
    let n = c.in-Some.place.now in
    let here : Some n ≡ get q.order p.key = subst (λ (k : ℕ). Some n ≡ get q.order k) (sym is) c.in-Some.ensures in
    let read = place_read q a p b n filed here in
    filed_turned q c.args.key n.at c.args.head n.who c.requires.head c.go_last.new.nodes c.go_last.ensures.shown.shown c.go_last.ensures.last
    c.turn_from-left.new.lines c.turn_from-left.ensures.shown c.turn_from-left.ensures.others c.turn_from-left.ensures.lines
    c.join.new.nodes c.join.ensures.shown.shown c.join.ensures.joins c.join.ensures.others a p b filed is read.1 read.0
