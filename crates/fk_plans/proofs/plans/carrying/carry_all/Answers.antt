use Rattle.fk_plans.proofs.plans.carrying.carry_all.Goals as goal

pub returns-in-Moves-clause-world : goal.returns-in-Moves-clause-world
returns-in-Moves-clause-world c = rw c.in-Moves.is (c.send_words.ensures.world c.args.given.now)

pub returns-in-HandsOver-clause-world : goal.returns-in-HandsOver-clause-world
returns-in-HandsOver-clause-world c = rw c.in-HandsOver.is (c.hand_over.ensures.world c.args.given.now)
