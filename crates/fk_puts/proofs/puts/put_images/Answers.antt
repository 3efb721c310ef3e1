use Rattle.std.proofs.Common.{◌≡◌, ℕ, Err, subst, rules}
use Rattle.fk_causes.specs.Causes.{Rose}
use Rattle.fk_causes.specs.declared.shelf.ShelfFail.TheVariants as fails
use Rattle.fk_puts.proofs.puts.put_images.Goals as goal

pub returns-in_err-put_end-clause-cause : goal.returns-in_err-put_end-clause-cause
returns-in_err-put_end-clause-cause g c = λ failed.
    let is : c.put_end.result ≡ Err fails.Failed = search rules in
    subst (λ (count : ℕ). Rose count (g.H.Shelf.failed_puts c.put_end.new.shelf)) c.loop-name.invariant.kept (c.put_end.ensures.cause is)
