use Rattle.fk_links.proofs.leaving.leaves.Goals as goal

pub returns-in-Thread-clause-fits : goal.returns-in-Thread-clause-fits
returns-in-Thread-clause-fits c = (c.removal-plan.ensures.fits c.args.caller, λ given. tt)
