use Rattle.fk_waits.proofs.InCauses.Shown.{placed_key}
use Rattle.fk_waits.proofs.InCauses.Steps.{turned_so, waited_by}
use Rattle.fk_waits.proofs.causes.causes.Causes.turn_to.Goals as goal

pub turn-requires : goal.turn-requires
turn-requires c =
    let h = c.requires in
    record {
      place = placed_key c.args.self.now c.args.head c.args.key h.before h.one h.behind h.is h.standing;
      head = h.standing.placed.one;
    }

pub returns-clause-standing : goal.returns-clause-standing
returns-clause-standing c a b s standing is =
    let e = c.turn.ensures in
    turned_so c.args.self.now c.turn.new.self e.heads e.room c.args.key c.args.head e.filed e.len.0 e.len.1 a b s standing is

pub returns-clause-waited : goal.returns-clause-waited
returns-clause-waited c a b s standing is =
    waited_by c.args.self.now c.args.head c.args.key c.turn.result a s b standing is c.turn.ensures.left
