use Rattle.fk_calls.proofs.acts.making.make.Goals as goal

pub returns-in-Gives-clause-world : goal.returns-in-Gives-clause-world
returns-in-Gives-clause-world c = rw c.in-Gives.is (c.gives.ensures.world c.args.port)
