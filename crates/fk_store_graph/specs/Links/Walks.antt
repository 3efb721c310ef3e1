-- Walks: along the ring of a head, from pointer to pointer.
use Rattle.std.specs.Prelude.{◌≡◌, ℕ, zero, suc, false, ◌==◌, List, [], ◌∷◌, Option, Some, if◌then◌else◌}
use Rattle.fk_model.proofs.walks.Members.{IsIn}
use Rattle.fk_store_graph.specs.Links.Nodes.{is_head}
use Rattle.fk_store_graph.specs.Links.Lists.{Differ}

-- the nodes to which a walk comes from a node on, up to the head, in at most so many steps
unfoldable pub walked : ℕ → (ℕ → ℕ) → ℕ → ℕ → List ℕ
walked zero next head n = []
walked (suc left) next head n = if n == head then [] else n ∷ walked left next head (next n)

-- these are the pointers that lead to the object of a head, each once
pub record AreLeaders (owner : ℕ → Option ℕ) (head : ℕ) (nodes : List ℕ) : Type 0 where
  pub differ : Differ nodes
  pub lead : (n : ℕ) → IsIn n nodes → (is_head n ≡ false) × (owner n ≡ Some head)
  pub all : (n : ℕ) → is_head n ≡ false → owner n ≡ Some head → IsIn n nodes
