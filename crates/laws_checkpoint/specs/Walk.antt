-- A walk over a held subtree: every object in preorder, with its kind, by a porter's calls.
use Rattle.std.specs.Prelude.{◌≡◌, ℕ, ◌+◌, ◌&&◌, ◌==◌, nat_le, nat_lt, List, [], ◌∷◌, ◌++◌, map, if◌then◌else◌}
use Rattle.fk_model.specs.declared.limits.TheConstants.{OWN_SPACE, SLOTS}
use Rattle.fk_model.specs.declared.names.Kind.TheVariants as kinds
use Rattle.fk_model.specs.declared.stage.Stage.TheVariants.{Search, Point}
use Rattle.fk_model.specs.declared.statuses.status.TheConstants.{OK}
use Rattle.fk_model.specs.Places.{Path}
use Rattle.fk_model.specs.Objects.{number_of_kind}
use Rattle.fk_model.specs.World.{World}
use Rattle.fk_model.specs.Searches.{objects}
use Rattle.fk_model.specs.Runs.{Event}
use Rattle.fk_model.specs.Cut.{cut}
use Rattle.laws_moves.specs.Frozen.Holding.{IsHolding}
use Rattle.laws_moves.specs.Savable.Savable.{IsSound}
use Rattle.laws_jobs.specs.Machines.{no_words, Head, Machine, Interleaved}
use Rattle.laws_jobs.specs.Machines.Head.{Stops, Asks}
use Rattle.laws_checkpoint.specs.Foreign.{PLACES, number_there, way_from, IsScratched}

-- an object that is met, by its path in the subtree, and the number of its kind
pub record Met : Type 0 where
  pub path : Path
  pub kind : ℕ

abbrev pub met : World → Path → Met
met c q = record { path = q; kind = number_there (c.body q) }

pub data State : Type 0 where
  -- the places are led down, from a space, by these slots, to a space in which the search goes on from a slot
  Down : (from : ℕ) (ways : List ℕ) (q : Path) (k : ℕ) (got : List Met) → State
  Searches : (q : Path) (k : ℕ) (got : List Met) → State
  Over : (got : List Met) → State

-- the root is named by its own slot, a space beneath it by the reference to places
abbrev pub space_at : ℕ → Path → ℕ
space_at slot [] = slot
space_at slot (k ∷ q) = PLACES

-- to a space, from the root on
abbrev pub reach : ℕ → Path → ℕ → List Met → State
reach slot [] k got = Searches [] k got
reach slot (j ∷ q) k got = Down OWN_SPACE (slot ∷ way_from [] (j ∷ q)) (j ∷ q) k got

abbrev pub arrive : List ℕ → Path → ℕ → List Met → State
arrive [] q k got = Searches q k got
arrive (way ∷ ways) q k got = Down PLACES (way ∷ ways) q k got

-- back to the space above, or the end
abbrev pub leaves : ℕ → Path → List Met → State
leaves slot [] got = Over got
leaves slot (j ∷ q) got = reach slot q (j + 1) got

-- down into a space of the one at which it is
abbrev pub enters : ℕ → Path → ℕ → List Met → State
enters slot [] j got = reach slot (j ∷ []) 0 got
enters slot (i ∷ q) j got = Down PLACES (j ∷ []) (j ∷ i ∷ q) 0 got

-- down into a space, or on
abbrev pub goes_on : ℕ → Path → ℕ → ℕ → List Met → State
goes_on slot q j kind got = if kind == number_of_kind kinds.Space then enters slot q j got else Searches q (j + 1) got

-- what it asks for, or the spaces and threads that it has met
abbrev pub head : ℕ → State → Head (List Met)
head slot (Down from [] q k got) = Stops got
head slot (Down from (way ∷ ways) q k got) = Asks (Point OWN_SPACE PLACES from way) no_words
head slot (Searches q k got) = Asks (Search (space_at slot q) k) no_words
head slot (Over got) = Stops got

abbrev pub found : ℕ → Path → ℕ → List Met → ℕ → List ℕ → State
found slot q k got status (j ∷ kind ∷ rest) =
    if status == OK && (nat_le k j && nat_lt j SLOTS) then goes_on slot q j kind (got ++ record { path = j ∷ q; kind = kind } ∷ []) else leaves slot q got
found slot q k got status other = leaves slot q got

-- what becomes of it by an answer
abbrev pub next : ℕ → State → ℕ → List ℕ → State
next slot (Down from [] q k got) status words = Over got
next slot (Down from (way ∷ ways) q k got) status words = arrive ways q k got
next slot (Searches q k got) status words = found slot q k got status words
next slot (Over got) status words = Over got

abbrev pub walker : ℕ → Machine State (List Met)
walker slot = record { head = head slot; next = next slot }

-- the walk through the subtree in a slot, from its root on
abbrev pub begin : State
begin = Searches [] 0 []

-- over every interleaving: what it comes to is every object inside, in preorder, as it was when it began
abbrev pub ObjectsAreMet : Type 0
ObjectsAreMet = (nester : Path) (slot : ℕ) (w v : World) (t : State) (es : List Event) (got : List Met) → IsHolding nester slot w → IsSound w
    → IsScratched nester w →
    Interleaved (walker slot) nester w begin es v t → head slot t ≡ Stops got → got ≡ map (met (cut w nester slot)) (objects (cut w nester slot))
