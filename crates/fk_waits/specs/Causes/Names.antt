-- Names: entries by rising rank, and the number of a name.
use Rattle.std.specs.Prelude.{◌≡◌, ◌≢◌, ◌+◌, ◌*◌, ◌/◌, ◌%◌, ◌^◌, ◌<◌, ◌≤◌, ℕ, ◌==◌, Bool, ◌&&◌, List, [], ◌∷◌, length, Option, Some, None}
use Rattle.std.specs.Prelude.{if◌then◌else◌, slice_index_or}
use Rattle.fk_model.specs.declared.names.Who.{Who}
use Rattle.fk_waits.specs.declared.causes.names.Name.{Name}
use Rattle.fk_waits.specs.declared.causes.names.Near.{Near}

-- names of the same object
abbrev pub is_same : Who → Who → Bool
is_same a b = (a.space == b.space) && (a.slot == b.slot)

-- the number of a name, if it is among these
abbrev pub key_at : List Name → Who → Option ℕ
key_at [] who = None
key_at (n ∷ l) who = if is_same n.who who then Some n.key else key_at l who

-- the place of a name in the order of spaces and slots
abbrev pub rank : Who → ℕ
rank who = who.space * 256 + who.slot

-- all these come after a rank
abbrev pub AreAbove : ℕ → List Name → Type 0
AreAbove r [] = Unit {0}
AreAbove r (n ∷ l) = (r < rank n.who) × AreAbove r l

-- each comes after those before it
abbrev pub IsRising : List Name → Type 0
IsRising [] = Unit {0}
IsRising (n ∷ l) = (n.who.slot < 256) × AreAbove (rank n.who) l × IsRising l

-- each name is there once
abbrev pub AreOnce : List Name → Type 0
AreOnce [] = Unit {0}
AreOnce (n ∷ l) = (key_at l n.who ≡ None) × AreOnce l

-- there is room for so many more
abbrev pub HasRoom : List Name × ℕ → ℕ → Type 0
HasRoom names more = length names.0 + more ≤ names.1

-- the rank that stands where no name was put, and where it isn't known which
abbrev pub nobody : ℕ
nobody = 4611686018427387904

abbrev pub unknown : ℕ
unknown = 4611686018427387905

-- which of so many places is a name's
abbrev pub near_place : ℕ → Who → ℕ
near_place many who = (rank who * 10368889 % 16777216 * many) % 2 ^ 64 / 16777216

-- what stands at the place of a name
abbrev pub near_at : List Near → Who → Near
near_at near who = slice_index_or near (near_place (length near) who) (record { rank = unknown; key = 0 })

-- none of these names is told to be nobody
abbrev pub AreNear : List Near → List Name → Type 0
AreNear near [] = Unit {0}
AreNear near (n ∷ l) = ((near_at near n.who).rank ≢ nobody) × AreNear near l

-- whose rank stands at its place has the number that stands there
abbrev pub AreRight : List Near → List Name → Type 0
AreRight near l = (who : Who) → rank who < 2 ^ 40 → who.slot < 256 → (near_at near who).rank ≡ rank who → key_at l who ≡ Some (near_at near who).key
