use Rattle.fk_turns.proofs.InSteps.Went.{under_way_user}
use Rattle.fk_turns.proofs.steps.signalling.after_waking.Goals as goal

pub rise-requires : goal.rise-requires
rise-requires c = record { comes = c.requires.comes; user = under_way_user c.args.store.now c.args.mover c.requires.on }

pub rest_locked-requires : goal.rest_locked-requires
rest_locked-requires c = record { valid = c.requires.valid; kept = c.rise.ensures.kept; user = c.requires.comes.is }
