use Rattle.std.proofs.Common.{rules, ap, arith}
use Rattle.fk_rlock.proofs.Keeps.{looks}
use Rattle.fk_rlock.proofs.ruled.Ruled.await_turn.Goals as goal

pub load-requires : goal.load-requires
load-requires g c = let i = c.loop.invariant.3 in (search rules, omega (arith, c.self.inside.sized.0), looks _ _ _ _ _ _ _ i.0 (ap (λ m. m.0) i.2))
