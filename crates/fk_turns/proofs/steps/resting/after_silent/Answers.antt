use Rattle.fk_turns.proofs.InSteps.Rested.{kept_rested}
use Rattle.fk_turns.proofs.InSteps.Went.{not_quiet, off_anyway}
use Rattle.fk_turns.proofs.steps.resting.after_silent.Goals as goal

pub after_plain-requires : goal.after_plain-requires
after_plain-requires c =
    let now = c.args.turns.now in
    record {
      valid = c.requires.valid;
      quiet = not_quiet c.args.store.now c.args.mover c.args.touched.now now.waits now.marks;
      comes = c.requires.comes;
    }

pub returns-clause-placed : goal.returns-clause-placed
returns-clause-placed c = off_anyway c.args.stays c.after_plain.ensures.placed

pub returns-then-rests-clause-kept : goal.returns-then-rests-clause-kept
returns-then-rests-clause-kept c =
    let now = c.args.turns.now in
    let alone = rw c.if-rests.true at c.rests.ensures.alone in
    let calm = rw c.if-rests.true at c.rests.ensures.calm in
    let none = rw c.if-rests.true at c.rests.ensures.none in
    let user = rw c.if-rests.true at c.rests.ensures.user in
    kept_rested c.args.store.now c.args.mover c.args.touched.now now.waits now.marks c.requires.comes alone calm c.requires.free none user

pub returns-then-rests-clause-placed : goal.returns-then-rests-clause-placed
returns-then-rests-clause-placed c = let stays = rw c.if-rests.true at c.rests.ensures.stays in rw stays tt
