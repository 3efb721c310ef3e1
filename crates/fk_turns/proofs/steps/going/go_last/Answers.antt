use Rattle.std.proofs.Common.{sym, subst}
use Rattle.fk_turns.specs.Moved.Kept.{AreKept}
use Rattle.fk_turns.proofs.InNext.Placed.{placed_woken}
use Rattle.fk_turns.proofs.InSteps.Locked.{kept_last}
use Rattle.fk_turns.proofs.InSteps.Went.{under_way_user}
use Rattle.fk_waits.specs.Waits.Lists.{Lists}
use Rattle.fk_turns.proofs.steps.going.go_last.Goals as goal

pub turns_on-requires : goal.turns_on-requires
turns_on-requires c = record { valid = c.requires.valid; on = c.requires.on; sound = c.requires.kept.sound }

pub put-requires : goal.put-requires
put-requires c =
    let n = c.args.store.now in
    let was = c.args.turns.now in
    let now = c.turns_on.new.turns in
    let waits = rw c.if-turns_on.false at c.turns_on.ensures.waits in
    let marks = rw c.if-turns_on.false at c.turns_on.ensures.marks in
    record {
      valid = c.requires.valid;
      kept = subst (λ (l : Lists). AreKept n l now.marks) (sym waits) (subst (λ (l : Lists). AreKept n was.waits l) (sym marks) c.requires.kept);
    }

pub returns-then-turns_on-clause-kept : goal.returns-then-turns_on-clause-kept
returns-then-turns_on-clause-kept c =
    let was = c.args.turns.now in
    let now = c.turns_on.new.turns in
    kept_last c.args.store.now c.args.mover was.waits was.marks now.waits now.marks c.requires.kept (rw c.if-turns_on.true at c.turns_on.ensures.turned)
    (under_way_user c.args.store.now c.args.mover c.requires.on) c.turns_on.ensures.sound

pub returns-then-turns_on-clause-placed : goal.returns-then-turns_on-clause-placed
returns-then-turns_on-clause-placed c =
    let turned = rw c.if-turns_on.true at c.turns_on.ensures.turned in
    let up = rw c.if-turns_on.true at c.turns_on.ensures.up in
    placed_woken c.args.store.now c.args.mover c.args.turns.now.waits c.turns_on.new.turns.waits turned.turned up

pub returns-clause-placed : goal.returns-clause-placed
returns-clause-placed c = c.put.ensures.placed (under_way_user c.args.store.now c.args.mover c.requires.on)
