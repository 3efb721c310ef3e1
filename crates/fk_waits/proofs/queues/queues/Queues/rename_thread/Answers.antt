use Rattle.std.proofs.Common.{◌≡◌, ℕ, true, Some, Option, is_some, sym, ap, subst}
use Rattle.slab.specs.Slab.{get}
use Rattle.fk_model.specs.declared.names.Who.{Who}
use Rattle.fk_waits.specs.declared.queues.lists.Node.{Node}
use Rattle.fk_waits.proofs.InQueues.Heads.{heads_same, leads_away, read_apart, read_away, thread_named}
use Rattle.fk_waits.proofs.InQueues.Standing.{there_by}
use Rattle.fk_waits.proofs.InQueues.Turned.{never_gone, place_read}
use Rattle.fk_waits.proofs.InQueues.Places.{filed_middle}
use Rattle.fk_waits.proofs.queues.queues.Queues.rename_thread.Goals as goal

pub unreachable-requires : goal.unreachable-requires
unreachable-requires c =
    let h = c.requires in never_gone c.args.self.now h.before h.place h.behind c.args.key h.filed h.is c.in_default.ensures

pub show-requires : goal.show-requires
show-requires c = ap (λ (o : Option Node). is_some o) (sym c.in-Some.ensures)

pub show-requires-2 : goal.show-requires-2
show-requires-2 c =
    let q = c.args.self.now in
    let h = c.requires in
    let n = c.in-Some.place.now in
    let here : Some n ≡ get q.order h.place.key = subst (λ (k : ℕ). Some n ≡ get q.order k) (sym h.is) c.in-Some.ensures in
    let node = (place_read q h.before h.place h.behind n h.filed here).1 in
    let mine = filed_middle q.order q.lines h.before h.place h.behind h.filed.filed in
    subst (λ (m : ℕ). is_some (get q.lines m) ≡ true) node (there_by q.lines h.place.node (ap (λ (o : Option (Who × ℕ)). is_some o) mine.second))

pub returns-clause-heads : goal.returns-clause-heads
returns-clause-heads c =
    let q = c.args.self.now in
    let n = c.in-Some.place.now in
    let before = read_apart q c.args.key n c.requires c.in-Some.ensures in
    heads_same q.lines c.show-2.new.nodes n.at before
    (leads_away c.show-2.new.nodes n.at c.number_at-head.result c.args.who c.show-2.ensures.shown
    (read_away q c.args.key n c.number_at-head.result c.requires c.in-Some.ensures c.number_at-head.ensures))
    c.show-2.ensures.others

pub returns-clause-filed : goal.returns-clause-filed
returns-clause-filed c a b p filed is =
    let q = c.args.self.now in
    thread_named q c.args.key c.in-Some.place.now c.number_at-head.result c.args.who c.show.new.nodes c.show-2.new.nodes c.in-Some.ensures
    c.number_at-head.ensures c.show.ensures.shown c.show.ensures.others c.show.ensures.lists c.show-2.ensures.shown c.show-2.ensures.others
    c.show-2.ensures.lists a b p filed is
