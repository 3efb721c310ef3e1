use Rattle.std.proofs.Common.{◌≡◌, ℕ, ◌∷◌, IsSome, ap, subst, ◌∙◌}
use Rattle.fk_model.specs.declared.names.Who.{Who}
use Rattle.fk_model.specs.Places.{Path}
use Rattle.fk_model.specs.Valid.{kind_there}
use Rattle.fk_store.specs.Store.Contents.{Contents}
use Rattle.fk_store.specs.Store.World.{world, place_of}
use Rattle.fk_host.specs.Kernels.{Kept}
use Rattle.fk_paging.specs.Pagers.{state_of}
use Rattle.fk_pager.specs.Driven.{desk}
use Rattle.fk_pager.proofs.Searching.{none-any}
use Rattle.fk_pager.proofs.driver.PagedRun.wait_for_any.Goals as goal

pub returns-clause-none : goal.returns-clause-none
returns-clause-none g c =
    let self = c.args.self.now in
    let same = c.store-store.ensures ∙ ap (λ (k : Kept). k.store) c.kernel.ensures in
    none-any (desk self) self.host.kernel.store (state_of self.pager) c.requires.waits
    (subst (λ (m : Contents). (k : ℕ) (x : Path) → IsSome (kind_there (world m) (k ∷ x)) → (other : Who) × (place_of m other ≡ k ∷ x)) same
    c.after-at.ensures.named)
    (rw c.in_default.is at c.loop-at.invariant)
