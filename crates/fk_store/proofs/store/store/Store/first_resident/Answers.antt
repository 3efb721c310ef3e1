use Rattle.std.proofs.Common.{◌≡◌, ℕ, ◌≤◌, Option, Some, None, IfSome, IsSome, refl}
use Rattle.std.specs.FinMap.{get}
use Rattle.fk_model.specs.Searches.{first_resident}
use Rattle.fk_store.specs.Store.Contents.{Contents}
use Rattle.fk_store.specs.Store.Names.{at}
use Rattle.fk_store.specs.Store.Paths.{path}
use Rattle.fk_store.specs.Store.WellFormed.{IsWellFormed}
use Rattle.fk_store.specs.Store.World.{world}
use Rattle.fk_store.proofs.InStore.changing.Residents.{first-found, none-found, short_name}
use Rattle.fk_store.proofs.store.store.Store.first_resident.Goals as goal

found : (m : Contents) → IsWellFormed m → (space : ℕ) (r : Option ℕ) →
    IfSome r (λ slot. IsSome (get m.bodies (at space slot)) × ((k : ℕ) → IsSome (get m.bodies (at space k)) → slot ≤ k)) →
    (r ≡ None → (k : ℕ) → get m.bodies (at space k) ≡ None) → r ≡ first_resident (world m) (path m space)
found m kept space None some none = none-found m kept space (none refl)
found m kept space (Some slot) some none = first-found m kept space slot (short_name m kept (at space slot) some.0) some.0 some.1

pub returns : goal.returns
returns c = rw (← c.self.view_is) (found _ c.self.invariant c.args.space c.first_in.result c.first_in.ensures.some c.first_in.ensures.none)
