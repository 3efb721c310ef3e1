use Rattle.std.proofs.Common.{rules, ap, arith}
use Rattle.fk_rlock.proofs.Passes.{joins}
use Rattle.fk_rlock.proofs.ruled.Ruled.join.Goals as goal

pub join_seat-requires : goal.join_seat-requires
join_seat-requires g c = (
  search rules,
  search rules,
  ap (λ m. m.1) c.other.inside.idle,
  omega (arith, c.self.inside.sized.0),
  joins _ _ _ _ _ _ _ _ (ap (λ m. m.0) c.pass.inside.idle) (ap (λ m. m.0) c.other.inside.idle) c.pass.inside.alive c.other.inside.alive,
)
