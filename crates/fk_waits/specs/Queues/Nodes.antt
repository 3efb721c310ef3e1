-- Nodes: what a slab's nodes show, and what is before and behind them.
use Rattle.std.specs.Prelude.{◌≡◌, ℕ, List, [], ◌∷◌, Option, Some, None, option_map}
use Rattle.slab.specs.Slab.{Slab, get, slab_len}
use Rattle.fk_model.specs.declared.names.Who.{Who}
use Rattle.fk_waits.specs.Queues.Chains.{AllAre, IsList, IsNoneOf}
use Rattle.fk_waits.specs.declared.queues.lists.Node.{Node}

-- what a node shows
abbrev pub shown_at : Slab Node → ℕ → Option (Who × ℕ)
shown_at s m = option_map (λ (n : Node). (n.who, n.at)) (get s m)

-- a node that isn't there leads to itself
abbrev pub next_in : ℕ → Option Node → ℕ
next_in m None = m
next_in m (Some n) = n.next

abbrev pub prev_in : ℕ → Option Node → ℕ
prev_in m None = m
prev_in m (Some n) = n.prev

-- the node behind a node in its ring
abbrev pub next_of : Slab Node → ℕ → ℕ
next_of s m = next_in m (get s m)

-- the node before it
abbrev pub prev_of : Slab Node → ℕ → ℕ
prev_of s m = prev_in m (get s m)

-- the list behind a head is this one
abbrev pub IsListed : Slab Node → ℕ → List ℕ → Type 0
IsListed s head l = IsList (next_of s) (prev_of s) head l

-- the first of a list
abbrev pub first_of : List ℕ → Option ℕ
first_of [] = None
first_of (x ∷ l) = Some x

-- no node stands in both
abbrev pub AreDisjoint : List ℕ → List ℕ → Type 0
AreDisjoint k l = AllAre (λ x. IsNoneOf x l) k

-- what the nodes show, and how many there are and may be, is as it was
pub record ShowsAs (old new : Slab Node) : Type 0 where
  pub shown : (m : ℕ) → shown_at new m ≡ shown_at old m
  pub len : slab_len new ≡ slab_len old
  pub capacity : new.capacity ≡ old.capacity
