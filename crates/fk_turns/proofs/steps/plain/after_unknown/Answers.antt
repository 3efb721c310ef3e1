use Rattle.fk_waits.proofs.InCauses.Numbers.{clash}
use Rattle.fk_turns.specs.Moved.Kept.{is_user_at}
use Rattle.fk_turns.specs.Moved.Moved.{now_named}
use Rattle.fk_turns.proofs.InSteps.Unknown.{kept_few, kept_made, mover_none}
use Rattle.fk_turns.proofs.steps.plain.after_unknown.Goals as goal

pub rouse_few-requires : goal.rouse_few-requires
rouse_few-requires c = record { sound = c.requires.comes.comes.kept.sound }

pub rouse_few-requires-in-Makes : goal.rouse_few-requires-in-Makes
rouse_few-requires-in-Makes c = record { sound = c.requires.comes.comes.kept.sound }

pub after-requires : goal.after-requires
after-requires c = record { valid = c.requires.valid; comes = c.requires.comes.comes }

pub returns-in-Few-clause-kept : goal.returns-in-Few-clause-kept
returns-in-Few-clause-kept c =
    let was = c.args.turns.now in
    let now = c.rouse_few.new.turns in
    let by = c.requires.comes in
    let of = c.rouse_few.ensures in
    kept_few by.comes.before c.args.store.now c.args.mover c.args.touched.now was.waits was.marks by.comes.kept by.comes.moved c.requires.unknown by.porter
    c.in-Few.first c.in-Few.second c.in-Few.third c.in-Few.is now.waits now.marks of.roused of.gone of.loud of.sound

pub returns-in-Few-clause-placed : goal.returns-in-Few-clause-placed
returns-in-Few-clause-placed c user =
    let was = c.args.turns.now in
    let by = c.requires.comes in
    clash (is_user_at c.args.store.now (now_named c.args.mover c.args.touched.now)) user
    (mover_none by.comes.before c.args.store.now c.args.mover c.args.touched.now was.waits was.marks by.comes.kept by.comes.moved c.requires.unknown by.porter)

pub returns-in-Makes-clause-kept : goal.returns-in-Makes-clause-kept
returns-in-Makes-clause-kept c =
    let was = c.args.turns.now in
    let now = c.rouse_few-in-Makes.new.turns in
    let by = c.requires.comes in
    let of = c.rouse_few-in-Makes.ensures in
    kept_made by.comes.before c.args.store.now c.args.mover c.args.touched.now was.waits was.marks by.comes.kept by.comes.moved c.requires.unknown by.porter
    c.in-Makes.object c.in-Makes.is now.waits now.marks of.roused of.gone of.loud of.sound

pub returns-in-Makes-clause-placed : goal.returns-in-Makes-clause-placed
returns-in-Makes-clause-placed c user =
    let was = c.args.turns.now in
    let by = c.requires.comes in
    clash (is_user_at c.args.store.now (now_named c.args.mover c.args.touched.now)) user
    (mover_none by.comes.before c.args.store.now c.args.mover c.args.touched.now was.waits was.marks by.comes.kept by.comes.moved c.requires.unknown by.porter)
