use Rattle.std.proofs.Common.{rules, ap, arith}
use Rattle.fk_rlock.proofs.Keeps.{draws}
use Rattle.fk_rlock.proofs.ruled.Ruled.draw.Goals as goal

pub fetch_add-requires : goal.fetch_add-requires
fetch_add-requires g c = (search rules, omega (arith, c.self.inside.sized.0), draws _ _ _ _ _ _ _ (ap (λ m. m.0) c.requires.idle.0) c.requires.idle.1)
