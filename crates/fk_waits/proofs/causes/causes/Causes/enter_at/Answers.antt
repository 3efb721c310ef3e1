use Rattle.fk_waits.specs.Queues.Places.{node_in}
use Rattle.fk_waits.specs.Queues.Nodes.{shown_at}
use Rattle.fk_waits.proofs.InCauses.Steps.{come_so, seat_lines, seat_order}
use Rattle.fk_waits.proofs.causes.causes.Causes.enter_at.Goals as goal

pub enter-requires : goal.enter-requires
enter-requires c =
    let h = c.requires in
    record {
      order = seat_order c.args.self.now c.args.head h;
      lines = seat_lines c.args.self.now c.args.head h;
      head = h.standing.placed.one;
      kept = record { places = h.standing.places; filed = h.standing.placed.filed };
    }

pub returns-clause-standing : goal.returns-clause-standing
returns-clause-standing c l standing seat =
    let e = c.enter.ensures in
    come_so c.args.self.now c.enter.new.self e.heads e.room c.enter.result (node_in (shown_at c.enter.new.self.order c.enter.result)) c.args.head c.args.who
    e.filed e.len.0 e.len.1 l standing seat
