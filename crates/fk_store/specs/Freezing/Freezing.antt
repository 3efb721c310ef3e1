-- Freezing: which spaces are to be marked, and how far a walk has come.
use Rattle.std.specs.Prelude.{◌≡◌, ◌≢◌, ◌⊎◌, ℕ, ◌+◌, ◌-◌, ◌*◌, ◌<◌, ◌≤◌, ◌==◌, Bool, true, false, List, Option, Some, None, if◌then◌else◌}
use Rattle.std.specs.FinMap.{FinMap, get}
use Rattle.fk_model.specs.declared.names.Who.{Who}
use Rattle.fk_model.specs.declared.body.Body.{Body}
use Rattle.fk_model.specs.Objects.{holds}
use Rattle.fk_store.specs.Holds.Frozen.{mark_at, unmarked}
use Rattle.fk_store.specs.Holds.Held.{IsTold}
use Rattle.fk_store_graph.specs.Bodies.Births.{home_in, birth_in}
use Rattle.fk_store_graph.specs.Bodies.Held.{is_held}
use Rattle.fk_store_graph.specs.Bodies.Names.{who_cmp, same_who}

-- the object with a name is a space that somebody holds
abbrev pub is_held_at : FinMap who_cmp Body → Who → Bool
is_held_at bodies who = holds is_held (get bodies who)

-- the space that stands there is held, or lies in one with a mark
abbrev pub IsUnder : FinMap who_cmp Body → List Bool → Who → Type 0
IsUnder bodies marks who = (is_held_at bodies who ≡ true) ⊎ (mark_at marks who.space ≡ true)

-- each space that is to be marked is
abbrev pub AreFrozen : FinMap who_cmp Body → List Bool → Type 0
AreFrozen bodies marks = (who : Who) (n : ℕ) → birth_in bodies who ≡ Some n → IsUnder bodies marks who → mark_at marks n ≡ true

-- but perhaps that which stands there
abbrev pub AreFrozenBut : FinMap who_cmp Body → List Bool → Who → Type 0
AreFrozenBut bodies marks top =
    (who : Who) (n : ℕ) → same_who who top ≡ false → birth_in bodies who ≡ Some n → IsUnder bodies marks who → mark_at marks n ≡ true

-- each space that is held is told of
abbrev pub AreTold : FinMap who_cmp Body → List ℕ × Bool → Type 0
AreTold bodies held = (who : Who) (n : ℕ) → birth_in bodies who ≡ Some n → is_held_at bodies who ≡ true → IsTold held n

-- each held space but one is among those that are told
abbrev pub AreToldBut : FinMap who_cmp Body → List ℕ × Bool → Who → Type 0
AreToldBut bodies held top = (who : Who) (n : ℕ) → same_who who top ≡ false → birth_in bodies who ≡ Some n → is_held_at bodies who ≡ true → IsTold held n

-- a space is known by its birth number, and is younger than the one in which it lies
pub record AreKnown (bodies : FinMap who_cmp Body) : Type 0 where
  pub known : (who : Who) (n : ℕ) → birth_in bodies who ≡ Some n → home_in bodies n ≡ Some who
  pub younger : (who : Who) (n : ℕ) → birth_in bodies who ≡ Some n → who.space < n

-- what stands beside the objects
pub record IsTree (bodies : FinMap who_cmp Body) (marks : List Bool) (held : List ℕ × Bool) : Type 0 where
  pub frozen : AreFrozen bodies marks
  pub told : AreTold bodies held

-- the space with a birth number stands there, or one in which it lies, however deep
pub data IsAbove (bodies : FinMap who_cmp Body) : ℕ → Who → Type 0 where
  Home : (n : ℕ) (who : Who) → home_in bodies n ≡ Some who → IsAbove bodies n who
  Further : (n : ℕ) (home who : Who) → home_in bodies n ≡ Some home → IsAbove bodies home.space who → IsAbove bodies n who

-- ---- a walk

-- the object behind a space, in the space in which that lies
abbrev pub behind : Option Who → Option (ℕ × ℕ)
behind None = None
behind (Some who) = Some (who.space, who.slot + 1)

-- the space in which a space lies, up to one
abbrev pub upward : FinMap who_cmp Body → ℕ → ℕ → Option (ℕ × ℕ)
upward bodies top space = if space == top then None else behind (home_in bodies space)

-- a place that a walk comes to from a slot of a space on, without a look beneath
pub data Pending (bodies : FinMap who_cmp Body) (top : ℕ) : ℕ → ℕ → Who → Type 0 where
  Here : (space slot : ℕ) (who : Who) → who.space ≡ space → slot ≤ who.slot → Pending bodies top space slot who
  Above : (space slot : ℕ) (home who : Who) → space ≢ top → home_in bodies space ≡ Some home → Pending bodies top home.space (home.slot + 1) who →
      Pending bodies top space slot who

abbrev pub IsPending : FinMap who_cmp Body → ℕ → Option (ℕ × ℕ) → Who → Type 0
IsPending bodies top None who = ⊥
IsPending bodies top (Some at) who = Pending bodies top at.0 at.1 who

-- each space that is to be marked is, or is yet to come
abbrev pub AreFrozenUpTo : FinMap who_cmp Body → List Bool → ℕ → Option (ℕ × ℕ) → Type 0
AreFrozenUpTo bodies marks top next =
    (who : Who) (n : ℕ) → birth_in bodies who ≡ Some n → IsUnder bodies marks who → (mark_at marks n ≡ true) ⊎ IsPending bodies top next who

-- the space that stands there, which had no mark, has one now
pub record IsMarkedNow (bodies : FinMap who_cmp Body) (marks now : List Bool) (who : Who) (birth : ℕ) : Type 0 where
  pub born : birth_in bodies who ≡ Some birth
  pub was : mark_at marks birth ≡ false
  pub marked : (n : ℕ) → mark_at now n ≡ (if n == birth then true else mark_at marks n)
  pub less : unmarked now < unmarked marks

-- how long a walk may go on: it goes down only where it changes a mark, and else on in a space or up to an older one
abbrev pub place : Option (ℕ × ℕ) → ℕ
place None = 0
place (Some at) = 1 + at.0 * 258 + (257 - at.1)

abbrev pub weight : ℕ → Option (ℕ × ℕ) → ℕ
weight marks next = marks * 1108101562880 + place next
