use Rattle.std.proofs.Common.{rules, ◌≡◌, ◌∙◌, false, length, ap, sym}
use Rattle.fk_workers.specs.Books.Told.{Told}
use Rattle.fk_workers.proofs.workers.worker.work.Goals as goal

-- the book that the last turn met and left
pub returns-then-not-done-clause-met : goal.returns-then-not-done-clause-met
returns-then-not-done-clause-met g c =
    let met = c.in_ok-done.ensures.met in
    let said = met.4 in
    let none : c.in_ok-done.done.more ≡ false = search rules in (
      said.left.now,
      said.met.1 ∙ (ap (λ (b : Told _). b.boot) said.shows ∙ (met.2 ∙ c.loop.invariant.3)),
      said.met.0,
      said.met.3 none,
      ap (λ (b : Told _). length b.history) said.leaves ∙ sym met.5,
    )
