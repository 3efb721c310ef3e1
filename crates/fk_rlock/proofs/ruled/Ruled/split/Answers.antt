use Rattle.std.proofs.Common.{rules, ap, arith}
use Rattle.fk_rlock.proofs.Passes.{splits}
use Rattle.fk_rlock.proofs.ruled.Ruled.split.Goals as goal

pub split_seat-seat-requires : goal.split_seat-seat-requires
split_seat-seat-requires g c = (
  search rules,
  omega (arith, c.self.inside.sized.0),
  splits _ _ _ _ _ _ (ap (λ m. m.0) c.pass.inside.idle) (omega (arith, c.requires.parts, ap (λ k. k.parts) c.pass.view_is)),
)
