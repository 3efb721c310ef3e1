use Rattle.fk_served.proofs.Hearing.{fits-told}
use Rattle.fk_host.proofs.host.Host.call.Goals as goal

pub returns-clause-fits : goal.returns-clause-fits
returns-clause-fits g c = rw (c.hear.ensures, c.in_ok-reserve.ensures.same) (fits-told _ _ _ c.args.self.now.services.list c.requires.fits)
