-- Places: where threads stand, and that queues hold them.
use Rattle.std.specs.Prelude.{◌≡◌, ℕ, zero, suc, ◌==◌, List, [], ◌∷◌, ◌++◌, map, Option, Some, None, IsSome, if◌then◌else◌}
use Rattle.slab.specs.Slab.{Slab, ContainsKey}
use Rattle.fk_model.specs.declared.names.Who.{Who}
use Rattle.fk_waits.specs.Queues.Chains.{AllAre, AreApart}
use Rattle.fk_waits.specs.Queues.Nodes.{next_of, shown_at, IsListed}
use Rattle.fk_waits.specs.declared.queues.lists.Node.{Node}
use Rattle.fk_waits.specs.declared.queues.queues.Queues.{Queues}

-- where a thread stands: its node in the order, its node in a queue, and that queue's head
pub record Place : Type 0 where
  pub key : ℕ
  pub node : ℕ
  pub who : Who
  pub head : ℕ

-- the nodes of those in a queue, in order
abbrev pub in_queue : ℕ → List Place → List ℕ
in_queue h [] = []
in_queue h (p ∷ l) = if p.head == h then p.node ∷ in_queue h l else in_queue h l

-- the first in a queue
abbrev pub first_at : ℕ → List Place → Option Who
first_at h [] = None
first_at h (p ∷ l) = if p.head == h then Some p.who else first_at h l

-- and of all
abbrev pub front_of : List Place → Option Who
front_of [] = None
front_of (p ∷ l) = Some p.who

-- whom a node shows
abbrev pub who_shown : Option (Who × ℕ) → Option Who
who_shown None = None
who_shown (Some shown) = Some shown.0

-- the head of a queue leads to itself
abbrev pub IsHead : Slab Node → ℕ → Type 0
IsHead lines h = (name : Who) × (shown_at lines h ≡ Some (name, h))

-- a thread's nodes lead from one to the next
pub record IsFiled (order lines : Slab Node) (p : Place) : Type 0 where
  pub first : shown_at order p.key ≡ Some (p.who, p.node)
  pub second : shown_at lines p.node ≡ Some (p.who, p.head)
  pub head : IsHead lines p.head

abbrev pub AllFiled : Slab Node → Slab Node → List Place → Type 0
AllFiled order lines [] = Unit {0}
AllFiled order lines (p ∷ l) = IsFiled order lines p × AllFiled order lines l

-- the queues of some lines hold these
abbrev pub AreLines : Slab Node → List Place → Type 0
AreLines lines l = (h : ℕ) → IsHead lines h → IsListed lines h (in_queue h l)

-- threads stand so, in this order
pub record AreFiled (q : Queues) (l : List Place) : Type 0 where
  pub start : IsSome (shown_at q.order q.first)
  pub listed : IsListed q.order q.first (map (λ (p : Place). p.key) l)
  pub filed : AllFiled q.order q.lines l
  pub apart : AreApart (map (λ (p : Place). p.node) l)
  pub lines : AreLines q.lines l

-- they stand in some order
pub record IsKept (q : Queues) : Type 0 where
  pub places : List Place
  pub filed : AreFiled q places

-- the number that a node of the order shows
abbrev pub node_in : Option (Who × ℕ) → ℕ
node_in None = 0
node_in (Some shown) = shown.1

-- the name that a node shows
abbrev pub who_in : Option (Who × ℕ) → Who
who_in None = record { space = 0; slot = 0 }
who_in (Some shown) = shown.0

-- the place of the thread with a node in the order, as the nodes show it
abbrev pub place_at : Queues → ℕ → Place
place_at q key = record {
  key = key;
  node = node_in (shown_at q.order key);
  who = who_in (shown_at q.order key);
  head = node_in (shown_at q.lines (node_in (shown_at q.order key)));
}

-- the places of so many threads that come behind a node of the order
abbrev pub places_from : Queues → ℕ → ℕ → List Place
places_from q zero at = []
places_from q (suc n) at = place_at q (next_of q.order at) ∷ places_from q n (next_of q.order at)

-- the heads are the same, and show what they did
pub record SameHeads (old new : Slab Node) : Type 0 where
  pub kept : (h : ℕ) → IsHead old h → shown_at new h ≡ shown_at old h
  pub none : (h : ℕ) → IsHead new h → IsHead old h

-- there is room for as many nodes as before
pub record SameRoom (old new : Queues) : Type 0 where
  pub order : new.order.capacity ≡ old.order.capacity
  pub lines : new.lines.capacity ≡ old.lines.capacity

-- a node stands in the list of a head, whose nodes are there
pub record StandsIn (nodes : Slab Node) (head node : ℕ) : Type 0 where
  pub before : List ℕ
  pub behind : List ℕ
  pub listed : IsListed nodes head (before ++ node ∷ behind)
  pub there : AllAre (ContainsKey nodes) (head ∷ (before ++ node ∷ behind))

-- a thread has this node in a queue
pub record HasLine (lines : Slab Node) (node : ℕ) : Type 0 where
  pub head : ℕ
  pub stands : StandsIn lines head node

-- a thread has this node in the order
pub record HasPlace (q : Queues) (key : ℕ) : Type 0 where
  pub before : List Place
  pub place : Place
  pub behind : List Place
  pub is : place.key ≡ key
  pub filed : AreFiled q (before ++ place ∷ behind)
