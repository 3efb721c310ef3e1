-- The first place at which a subtree isn't closed, sought by a porter from answers alone.
use Rattle.std.specs.Prelude.{◌≡◌, ℕ, ◌+◌, ◌*◌, ◌≤◌, Bool, true, false, ◌&&◌, ◌||◌, ◌==◌, List, [], ◌∷◌, ◌++◌, map, length, Option, Some, None, option_map}
use Rattle.std.specs.Prelude.{if◌then◌else◌}
use Rattle.fk_model.specs.declared.limits.TheConstants.{OWN_SPACE}
use Rattle.fk_model.specs.declared.names.Kind.TheVariants as kinds
use Rattle.fk_model.specs.declared.stage.Stage.{Stage}
use Rattle.fk_model.specs.declared.stage.Stage.TheVariants.{Point, GetPtr, Locate, CountIn}
use Rattle.fk_model.specs.declared.statuses.status.TheConstants.{OK}
use Rattle.fk_model.specs.Places.{Path, strip, Ptr}
use Rattle.fk_model.specs.Places.Ptr.{At, Out, Far}
use Rattle.fk_model.specs.Objects.{Body, kind_of, number_of_kind}
use Rattle.fk_model.specs.Objects.Body.{Reference}
use Rattle.fk_model.specs.World.{World}
use Rattle.fk_model.specs.Searches.{objects}
use Rattle.fk_model.specs.Readers.{kind_at}
use Rattle.fk_model.specs.ObjectRows.{way_down, kind_number}
use Rattle.fk_model.specs.Runs.{Event}
use Rattle.fk_model.specs.Valid.{IsValid}
use Rattle.fk_model.specs.Closed.{Place, led_to_from_outside, open_place}
use Rattle.fk_model.specs.Cut.{cut, cut_ptr, ports_of}
use Rattle.laws_moves.specs.Frozen.Holding.{IsHolding}
use Rattle.laws_moves.specs.Savable.Savable.{IsSound}
use Rattle.laws_jobs.specs.Calls.{IsUnheldOutside}
use Rattle.laws_jobs.specs.Machines.{no_words, Head, Machine, Interleaved, own_moves, call_of, IsReadyAt}
use Rattle.laws_jobs.specs.Machines.Head.{Stops, Asks}

-- two scratch references: to the space in which the object lies, and to what its field leads to
abbrev pub PLACES : ℕ
PLACES = 240

abbrev pub TARGETS : ℕ
TARGETS = 241

-- and one to the space down to which a descent has come
abbrev pub STEPS : ℕ
STEPS = 242

-- ---- the fields that count, by the number of a kind

abbrev pub is_space_number : ℕ → Bool
is_space_number kind = kind == number_of_kind kinds.Space

-- the fields of an object that may lead out of the subtree, by its kind's number
abbrev pub fields_by : ℕ → List ℕ
fields_by kind =
    if kind == number_of_kind kinds.Thread then 0 ∷ 2 ∷ []
    else (if kind == number_of_kind kinds.Mapping then 0 ∷ []
    else (if kind == number_of_kind kinds.Region then 0 ∷ []
    else (if is_space_number kind then 0 ∷ [] else (if kind == number_of_kind kinds.Reference then 0 ∷ [] else []))))

-- a port of the nester is no place for it either
abbrev pub is_strict_number : ℕ → Bool
is_strict_number kind = if kind == number_of_kind kinds.Mapping then true else is_space_number kind

-- no kind has the number 0
abbrev pub number_there : Option Body → ℕ
number_there None = 0
number_there (Some b) = number_of_kind (kind_of b)

abbrev pub fields_of : Option Body → List ℕ
fields_of o = fields_by (number_there o)

abbrev pub is_strict : Option Body → Bool
is_strict o = is_strict_number (number_there o)

-- an object to be looked at, by its path in the subtree. The root's own holder isn't looked at
pub record Task : Type 0 where
  pub path : Path
  pub fields : List ℕ
  pub strict : Bool

abbrev pub task_of : World → Path → Task
task_of c [] = record { path = []; fields = []; strict = false }
task_of c (k ∷ q) = record { path = k ∷ q; fields = fields_of (c.body (k ∷ q)); strict = is_strict (c.body (k ∷ q)) }

-- ---- the machine

pub data State : Type 0 where
  -- the places are led down, from a space, by these slots
  Down : (from : ℕ) (ways : List ℕ) (t : Task) (ts : List Task) → State
  -- these fields are left
  Fields : (fs : List ℕ) (t : Task) (ts : List Task) → State
  -- the field leads somewhere: inside, and else to a port of the nester?
  Inside : (n : ℕ) (fs : List ℕ) (t : Task) (ts : List Task) → State
  Beside : (n : ℕ) (fs : List ℕ) (t : Task) (ts : List Task) → State
  Over : (place : Option Place) → State

abbrev pub place_of : ℕ → Task → ℕ → Place
place_of slot t n = record { path = t.path ++ slot ∷ []; field = n }

abbrev pub counting : ℕ → Path → Stage
counting slot [] = CountIn slot slot OWN_SPACE
counting slot (k ∷ q) = CountIn slot PLACES k

abbrev pub reading : Path → ℕ → Stage
reading [] n = GetPtr OWN_SPACE 0 n TARGETS
reading (k ∷ q) n = GetPtr PLACES k n TARGETS

-- the slots from the root down to the space of a path
abbrev pub way_from : List ℕ → Path → List ℕ
way_from below [] = below
way_from below (k ∷ q) = way_from (k ∷ below) q

abbrev pub begin_at : ℕ → Path → Task → List Task → State
begin_at slot [] t ts = Fields t.fields t ts
begin_at slot (k ∷ q) t ts = Down OWN_SPACE (slot ∷ way_from [] q) t ts

-- the fields of these objects are yet to be looked at
abbrev pub begin : ℕ → List Task → State
begin slot [] = Over None
begin slot (t ∷ ts) = begin_at slot t.path t ts

abbrev pub arrive : List ℕ → Task → List Task → State
arrive [] t ts = Fields t.fields t ts
arrive (k ∷ ways) t ts = Down PLACES (k ∷ ways) t ts

-- what it asks for, or the first field that leads out, if one does
abbrev pub head : ℕ → State → Head (Option Place)
head slot (Down from [] t ts) = Stops None
head slot (Down from (k ∷ ways) t ts) = Asks (Point OWN_SPACE PLACES from k) no_words
head slot (Fields [] t ts) = Asks (counting slot t.path) no_words
head slot (Fields (n ∷ fs) t ts) = Asks (reading t.path n) no_words
head slot (Inside n fs t ts) = Asks (Locate TARGETS slot) no_words
head slot (Beside n fs t ts) = Asks (Locate TARGETS OWN_SPACE) no_words
head slot (Over place) = Stops place

abbrev pub is_zero : List ℕ → Bool
is_zero [] = false
is_zero (n ∷ ns) = n == 0

-- a field that leads nowhere, one that leads somewhere, and one of which no reference tells
abbrev pub read : State → State → State → List ℕ → State
read nowhere somewhere other [] = other
read nowhere somewhere other (n ∷ ns) = if n == 0 || n == 1 then nowhere else (if n == 2 then somewhere else other)

-- a port in one of the space's own slots
abbrev pub tells_port : List ℕ → Bool
tells_port (i ∷ far ∷ kind ∷ rest) = far == 0 && kind == number_of_kind kinds.Port
tells_port other = false

-- what becomes of it by an answer
abbrev pub next : ℕ → State → ℕ → List ℕ → State
next slot (Down from [] t ts) status words = Over None
next slot (Down from (k ∷ ways) t ts) status words = arrive ways t ts
next slot (Fields [] t ts) status words = if is_zero words then begin slot ts else Over (Some (place_of slot t led_to_from_outside))
next slot (Fields (n ∷ fs) t ts) status words = read (Fields fs t ts) (Inside n fs t ts) (Over (Some (place_of slot t n))) words
next slot (Inside n fs t ts) status words = if status == OK then Fields fs t ts else (if t.strict then Over (Some (place_of slot t n)) else Beside n fs t ts)
next slot (Beside n fs t ts) status words = if status == OK && tells_port words then Fields fs t ts else Over (Some (place_of slot t n))
next slot (Over place) status words = Over place

abbrev pub seeker : ℕ → Machine State (Option Place)
seeker slot = record { head = head slot; next = next slot }

-- ---- what it finds

-- with the scratch references there
pub record IsScratched (nester : Path) (w : World) : Type 0 where
  pub places : (p : Ptr) × (w.body (PLACES ∷ nester) ≡ Some (Reference p))
  pub targets : (p : Ptr) × (w.body (TARGETS ∷ nester) ≡ Some (Reference p))
  pub steps : (p : Ptr) × (w.body (STEPS ∷ nester) ≡ Some (Reference p))

-- over every interleaving: what it comes to is the first place at which the subtree isn't closed, as it was when it began
abbrev pub ForeignIsExact : Type 0
ForeignIsExact = (nester : Path) (slot : ℕ) (w v : World) (t : State) (es : List Event) (end : Option Place) → IsHolding nester slot w →
    IsSound w → IsScratched nester w →
    Interleaved (seeker slot) nester w (begin slot (map (task_of (cut w nester slot)) ([] ∷ objects (cut w nester slot)))) es v t → head slot t ≡ Stops end →
    end ≡ open_place w nester slot

-- at each of its states the subtree is closed, or not, at the place at which it was
abbrev pub SeekingKeepsOpenPlace : Type 0
SeekingKeepsOpenPlace = (nester : Path) (slot : ℕ) (w v : World) (t : State) (es : List Event) → IsHolding nester slot w →
    IsSound w → IsScratched nester w →
    Interleaved (seeker slot) nester w (begin slot (map (task_of (cut w nester slot)) ([] ∷ objects (cut w nester slot)))) es v t
    → open_place v nester slot ≡ open_place w nester slot

-- ---- a pointer as the image tells it

-- by the way inside, if there is one, and else by what the nester answers: whether it found it, and its words
abbrev pub told_pointer : Option Path → Option (List ℕ) → Ptr
told_pointer (Some y) words = At y
told_pointer None None = Far
told_pointer None (Some []) = Far
told_pointer None (Some (i ∷ words)) = if tells_port (i ∷ words) then Out i else Far

-- what `locate` answers at a place
abbrev pub located_at : World → Path → Path → Option (List ℕ)
located_at w top x = option_map (λ q. way_down q ++ kind_number (kind_at w (At x)) ∷ []) (strip top x)

-- the cut's pointer is what the descent and the nester tell of it
abbrev pub PointerIsTold : Type 0
PointerIsTold = (nester : Path) (slot : ℕ) (w : World) (x : Path) → IsHolding nester slot w → IsValid w →
    cut_ptr (ports_of w nester slot) nester slot (At x) ≡ told_pointer (strip (slot ∷ nester) x) (located_at w nester x)

-- ---- its calls

-- for each field three, for each step down one, and the count
abbrev pub cost_of : Task → ℕ
cost_of t = length t.path + 3 * length t.fields + 1

abbrev pub costs : List Task → ℕ
costs [] = 0
costs (t ∷ ts) = cost_of t + costs ts

-- a seeker makes three calls for each field, one for each step down, and one for each object
abbrev pub ForeignIsBounded : Type 0
ForeignIsBounded = (nester : Path) (slot : ℕ) (w v : World) (t : State) (es : List Event) (ts : List Task) →
    (run : Interleaved (seeker slot) nester w (begin slot ts) es v t) → own_moves run ≤ costs ts

-- ---- its next call

-- is ready wherever nothing outside is held
abbrev pub SeekerIsReady : Type 0
SeekerIsReady = (nester : Path) (slot : ℕ) (w v : World) (t : State) (es : List Event) (stage : Stage) (words : List ℕ) → IsHolding nester slot w → IsSound w →
    IsScratched nester w →
    Interleaved (seeker slot) nester w (begin slot (map (task_of (cut w nester slot)) ([] ∷ objects (cut w nester slot)))) es v t
    → head slot t ≡ Asks stage words →
    IsUnheldOutside (slot ∷ nester) v → IsReadyAt v (call_of nester stage words)
