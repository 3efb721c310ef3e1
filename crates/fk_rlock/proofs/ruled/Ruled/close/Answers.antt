use Rattle.std.proofs.Common.{ap, ◌∙◌, sym, arith}
use Rattle.fk_rlock.proofs.Held.{held_is}
use Rattle.fk_rlock.proofs.Passes.{closes}
use Rattle.fk_rlock.proofs.ruled.Ruled.close.Goals as goal

pub returns-clause-boot : goal.returns-clause-boot
returns-clause-boot g c =
    let all = ap (λ k. k.parts) c.pass.view_is ∙ (c.requires.all ∙ sym (ap (λ l. l.seats) c.self.view_is)) in
    let r = closes _ _ _ _ _ _ _ _ _ (ap (λ m. m.0) c.pass.inside.idle) c.pass.inside.alive all c.close_with-closed.ensures.values.2 c.take-value.ensures.value in
    sym (held_is _ _ _ r.0) ∙ ap (λ k. k.boot) c.pass.view_is

pub returns-clause-count : goal.returns-clause-count
returns-clause-count g c =
    let all = ap (λ k. k.parts) c.pass.view_is ∙ (c.requires.all ∙ sym (ap (λ l. l.seats) c.self.view_is)) in
    let r = closes _ _ _ _ _ _ _ _ _ (ap (λ m. m.0) c.pass.inside.idle) c.pass.inside.alive all c.close_with-closed.ensures.values.2 c.take-value.ensures.value in
    omega (arith, r.1, ap (λ k. k.seen) c.pass.view_is)
