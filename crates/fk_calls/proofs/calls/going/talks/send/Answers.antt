use Rattle.std.proofs.Common.{[], refl}
use Rattle.fk_plans.proofs.InPlans.Moved.{fits_plan}
use Rattle.fk_plans.specs.Plans.Movings.{plan_of}
use Rattle.fk_calls.proofs.InCalls.Judged.{user, free_there}
use Rattle.fk_calls.proofs.InCalls.Talking.{has_sent}
use Rattle.fk_calls.proofs.calls.going.talks.send.Goals as goal

pub moving-requires-clause-calling : goal.moving-requires-clause-calling
moving-requires-clause-calling c = rw c.requires.at.todo refl

pub move_words-requires-clause-live : goal.move_words-requires-clause-live
move_words-requires-clause-live c = free_there _ _ c.requires.free

pub move_words-requires-clause-fits : goal.move_words-requires-clause-fits
move_words-requires-clause-fits c =
    fits_plan c.args.store.now (user c.args.who) c.in-Some.words.last (plan_of c.in-Some.words) c.in-Some.ensures.fits

pub returns : goal.returns
returns c =
    has_sent c.args.store.now c.args.who c.requires.unheld c.requires.free c.in-Some.words c.move_words.new.store c.args.side c.args.address c.args.count
    c.requires.valid c.names.ensures.few c.requires.at (c.in-Some.ensures.outcome []) c.in-Some.ensures.fits c.in-Some.ensures.sender c.in-Some.ensures.meets
    c.in-Some.ensures.receiver (c.move_words.ensures.step [])
