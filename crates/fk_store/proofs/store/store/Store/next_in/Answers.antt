use Rattle.std.proofs.Common.{ℕ, ◌≤◌, Option, Some, None, IfSome, IsSome}
use Rattle.std.specs.FinMap.{get}
use Rattle.fk_store.specs.Store.Contents.{Contents}
use Rattle.fk_store.specs.Store.Names.{at}
use Rattle.fk_store.specs.Store.WellFormed.{IsWellFormed}
use Rattle.fk_store.specs.Store.World.{IsLive}
use Rattle.fk_store.proofs.InStore.finding.LookUps.{IsLive-there}
use Rattle.fk_store.proofs.store.store.Store.next_in.Goals as goal

found : (m : Contents) → IsWellFormed m → (space slot : ℕ) (r : Option ℕ) →
    IfSome r (λ next. IsSome (get m.bodies (at space next)) × (slot ≤ next) × ((k : ℕ) → IsSome (get m.bodies (at space k)) → slot ≤ k → next ≤ k)) →
    IfSome r (λ next. (slot ≤ next) × ((k : ℕ) → IsLive m (at space k) → slot ≤ k → next ≤ k))
found m kept space slot None some = tt
found m kept space slot (Some next) some = (some.1, λ k live far. some.2 k (IsLive-there m kept (at space k) live) far)

pub returns : goal.returns
returns c = rw (← c.self.view_is) (record {
  some = found _ c.self.invariant c.args.space c.args.slot c.next_in.result c.next_in.ensures.some;
  none = λ is k live. c.next_in.ensures.none is k (IsLive-there _ c.self.invariant (at c.args.space k) live);
})
