-- Links: the neighbours of nodes. A node that isn't there is alone.
use Rattle.std.specs.Prelude.{◌≡◌, ℕ, ◌<◌, ◌≤◌, List, length, slice_index_or, Option}
use Rattle.fk_store_graph.specs.declared.links.links.Link.{Link}
use Rattle.fk_store_graph.specs.Links.Nodes.{is_head, headed}
use Rattle.fk_store_graph.specs.Links.Rings.{IsRings}

abbrev pub alone : ℕ → Link
alone n = record { next = n; prev = n }

unfoldable pub next_at : List Link → ℕ → ℕ
next_at links n = (slice_index_or links n (alone n)).next

unfoldable pub prev_at : List Link → ℕ → ℕ
prev_at links n = (slice_index_or links n (alone n)).prev

-- the neighbours of nodes that are there are there
pub record IsWithin (links : List Link) : Type 0 where
  pub next : (n : ℕ) → n < length links → next_at links n < length links
  pub prev : (n : ℕ) → n < length links → prev_at links n < length links

-- each node has the neighbours that have it, and its number fits
pub record AreLinked (links : List Link) : Type 0 where
  pub small : length links ≤ 4294967296
  pub back : (n : ℕ) → prev_at links (next_at links n) ≡ n
  pub forth : (n : ℕ) → next_at links (prev_at links n) ≡ n

-- the nodes stand in the rings of the heads to which they lead
unfoldable pub AreRings : List Link → (ℕ → Option ℕ) → Type 0
AreRings links owner = IsRings is_head (next_at links) (prev_at links) (headed owner)
