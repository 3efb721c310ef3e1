use Rattle.std.proofs.Common.{rules, ap, arith, ◌∙◌, true, false}
use Rattle.fk_rlock.specs.Rule.{view_at}
use Rattle.fk_rlock.proofs.Keeps.{learns, takes_it}
use Rattle.fk_rlock.proofs.ruled.Ruled.enter.Goals as goal

pub load-requires : goal.load-requires
load-requires g c = let w = c.await_turn.ensures.called in (search rules, omega (arith, c.self.inside.sized.0), learns _ _ _ _ _ _ _ w.0 (ap (λ m. m.0) w.1))

pub load-requires-2 : goal.load-requires-2
load-requires-2 g c = let w = c.await_turn.ensures.called in
    let e = c.load.ensures.2.1 ∙ ap (λ m. (view_at m.0.ticket true true false c.load.result m.0.parts m.0.boot, m.1)) w.1 in
    (search rules, omega (arith, c.self.inside.sized.0), takes_it _ _ _ _ _ _ _ w.0 (ap (λ m. m.0) e))
