use Rattle.std.proofs.Common.{◌≡◌, ℕ, Bool, true, Bor, List, Option, Some, None, IfSome}
use Rattle.std.specs.FinMap.{FinMap}
use Rattle.fk_model.specs.declared.names.Who.{Who}
use Rattle.fk_model.specs.declared.body.Body.{Body}
use Rattle.fk_model.proofs.walks.Members.{IsIn}
use Rattle.fk_store.specs.Holds.Held.{IsTold}
use Rattle.fk_store_graph.specs.Bodies.Births.{birth_in}
use Rattle.fk_store_graph.specs.Bodies.Names.{who_cmp}
use Rattle.fk_store.specs.Freezing.Freezing.{AreTold, is_held_at}
use Rattle.fk_store.proofs.freezing.tree.Tree.held.Goals as goal

all_held : (m : FinMap who_cmp Body) (held : List ℕ × Bool) → AreTold m held → (o : Option (Bor (List ℕ))) →
    IfSome o (λ births. (n : ℕ) → IsTold held n → IsIn n births.now) →
    IfSome o (λ births. (who : Who) (n : ℕ) → birth_in m who ≡ Some n → is_held_at m who ≡ true → IsIn n births.now)
all_held m held told None all = tt
all_held m held told (Some births) all = λ who n born on. all n (told who n born on)

pub returns : goal.returns
returns c = rw (← c.self.view_is) (all_held _ _ c.self.invariant.told c.all.result c.all.ensures)
