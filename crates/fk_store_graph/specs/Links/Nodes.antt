-- Nodes: five for each key. Those at 0, 1, 3 and 4 are the pointers of the object under the key, by field; that at 2 is its head.
use Rattle.std.specs.Prelude.{ℕ, ◌+◌, ◌*◌, ◌/◌, ◌%◌, Bool, ◌==◌, Option, Some, if◌then◌else◌}

abbrev pub key_of : ℕ → ℕ
key_of n = n / 5

abbrev pub field_of : ℕ → ℕ
field_of n = n % 5

-- the node of a field of the object under a key
abbrev pub node_of : ℕ → ℕ → ℕ
node_of key field = key * 5 + field

-- a node is the head of a ring, and no field's
abbrev pub is_head : ℕ → Bool
is_head n = n % 5 == 2

-- the heads to which nodes lead, where each head leads to itself
abbrev pub headed : (ℕ → Option ℕ) → ℕ → Option ℕ
headed owner n = if is_head n then Some n else owner n
