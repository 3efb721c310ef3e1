use Rattle.fk_served.specs.Kernels.{world_of as world}
use Rattle.std.proofs.lemmas.Result.{err_from_is_err_and}
use Rattle.fk_migrate.proofs.sender.Sender.give_up.Goals as goal

pub returns-clause-told : goal.returns-clause-told
returns-clause-told g c = λ i. record { world = world c.args.self.now.host.kernel; servers = c.args.self.now.host.services.list; side = c.in_ok-give_up.ensures.told i }

pub returns-in_err-give_up-clause-lacking : goal.returns-in_err-give_up-clause-lacking
returns-in_err-give_up-clause-lacking g c = let p = err_from_is_err_and c.from_residual.result c.from_residual.ensures.1 in rw p.1 (λ i. record { world = world c.args.self.now.host.kernel; servers = c.args.self.now.host.services.list; side = c.in_err-give_up.ensures.lacking i })
