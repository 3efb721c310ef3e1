use Rattle.std.proofs.Common.{None, sym, subst}
use Rattle.fk_turns.specs.Next.Waiting.{ComesAfter}
use Rattle.fk_turns.proofs.InNext.Placed.{placed_woken}
use Rattle.fk_waits.specs.Waits.Lists.{Lists}
use Rattle.fk_plans.specs.declared.wakes.touching.Touched.TheVariants.{Few}
use Rattle.fk_turns.proofs.InSteps.Went.{kept_on, under_way_user}
use Rattle.fk_turns.proofs.steps.plain.after_on.Goals as goal

pub turns_on-requires : goal.turns_on-requires
turns_on-requires c = record { valid = c.requires.valid; on = c.requires.on; sound = c.requires.comes.kept.sound }

pub after_off-requires : goal.after_off-requires
after_off-requires c =
    let n = c.args.store.now in
    let was = c.args.turns.now in
    let now = c.turns_on.new.turns in
    let waits = rw c.if-turns_on.false at c.turns_on.ensures.waits in
    let marks = rw c.if-turns_on.false at c.turns_on.ensures.marks in
    record {
      valid = c.requires.valid;
      comes = subst (λ (l : Lists). ComesAfter n c.args.mover (Few None None None) l now.marks) (sym waits)
          (subst (λ (l : Lists). ComesAfter n c.args.mover (Few None None None) was.waits l) (sym marks) c.requires.comes);
    }

pub returns-then-turns_on-clause-kept : goal.returns-then-turns_on-clause-kept
returns-then-turns_on-clause-kept c =
    let n = c.args.store.now in
    let was = c.args.turns.now in
    let now = c.turns_on.new.turns in
    let turned = rw c.if-turns_on.true at c.turns_on.ensures.turned in
    kept_on n c.args.mover was.waits was.marks now.waits now.marks c.requires.quiet turned
    (under_way_user n c.args.mover c.requires.on) c.turns_on.ensures.sound

pub returns-then-turns_on-clause-placed : goal.returns-then-turns_on-clause-placed
returns-then-turns_on-clause-placed c user =
    let n = c.args.store.now in
    let turned = rw c.if-turns_on.true at c.turns_on.ensures.turned in
    let up = rw c.if-turns_on.true at c.turns_on.ensures.up in
    placed_woken n c.args.mover c.args.turns.now.waits c.turns_on.new.turns.waits turned.turned up
