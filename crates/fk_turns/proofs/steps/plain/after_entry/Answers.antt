use Rattle.fk_turns.proofs.InSteps.Went.{kept_stay, quiet_user}
use Rattle.fk_turns.proofs.steps.plain.after_entry.Goals as goal

pub returns-then-is_entered : goal.returns-then-is_entered
returns-then-is_entered c =
    let now = c.args.turns.now in
    let none = rw c.if-is_entered.true at c.is_entered.ensures.none in
    let quiet = rw c.if-is_entered.true at c.is_entered.ensures.quiet in
    record {
      kept = kept_stay c.args.store.now c.args.mover now.waits now.marks (c.requires.quiet quiet) none (quiet_user c.args.store.now c.args.mover quiet);
    }
