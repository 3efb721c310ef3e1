use Rattle.std.proofs.Common.{ap, ◌∙◌}
use Rattle.fk_waits.specs.declared.turns.turns.Mark.{Mark}
use Rattle.fk_waits.specs.Turns.Turns.{marked_by}
use Rattle.fk_turns.proofs.InMoved.Settled.{kept_settled}
use Rattle.fk_turns.proofs.moved.settling.settle_for.Goals as goal

pub park-requires : goal.park-requires
park-requires c = record { sound = c.requires.kept.sound; stands = c.requires.kept.each c.args.who ∙ c.requires.user }

pub returns-clause-kept : goal.returns-clause-kept
returns-clause-kept c =
    let was = c.args.turns.now in
    kept_settled c.args.store.now c.args.who c.args.cause c.args.why was.waits was.marks
    c.park.new.self.waits c.park.new.self.marks c.requires.kept c.requires.user c.requires.unready c.requires.why c.park.ensures.waits
    (c.park.ensures.marks ∙ ap (λ (k : Mark). marked_by c.args.cause k c.args.who was.marks) c.mark_of-mark.ensures) c.park.ensures.sound

pub returns-clause-settled : goal.returns-clause-settled
returns-clause-settled c = record { cause = c.args.cause; where_it_waits = c.requires.cause; queued = c.park.ensures.waits }
