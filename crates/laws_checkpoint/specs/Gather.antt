-- Where the pointers of a subtree lead, gathered from answers alone: as the cut shows them, object by object.
use Rattle.std.specs.Prelude.{◌≡◌, ℕ, false, IsSome, ◌==◌, List, [], ◌∷◌, ◌++◌, map, Option, Some, None, if◌then◌else◌}
use Rattle.std.specs.List.{flat_map}
use Rattle.fk_model.specs.declared.limits.TheConstants.{OWN_SPACE}
use Rattle.fk_model.specs.declared.names.Kind.TheVariants as kinds
use Rattle.fk_model.specs.declared.stage.Stage.TheVariants.{Point, Locate}
use Rattle.fk_model.specs.declared.statuses.status.TheConstants.{OK}
use Rattle.fk_model.specs.Places.{Path, Ptr}
use Rattle.fk_model.specs.Places.Ptr.{Null, Dead, At, Far}
use Rattle.fk_model.specs.Objects.{Body, kind_of, number_of_kind}
use Rattle.fk_model.specs.Objects.Body.{Space}
use Rattle.fk_model.specs.World.{World}
use Rattle.fk_model.specs.StateRows.{Field, field_of}
use Rattle.fk_model.specs.StateRows.Field.{Pointer, NoThread}
use Rattle.fk_model.specs.Runs.{Event}
use Rattle.fk_model.specs.Cut.{cut, cut_ptr, ports_of}
use Rattle.fk_model.proofs.walks.Members.{IsIn}
use Rattle.laws_moves.specs.Frozen.Holding.{IsHolding}
use Rattle.laws_moves.specs.Savable.Savable.{IsSound}
use Rattle.laws_jobs.specs.Machines.{no_words, Head, Machine, Interleaved}
use Rattle.laws_jobs.specs.Machines.Head.{Stops, Asks}
use Rattle.laws_checkpoint.specs.Foreign.{PLACES, TARGETS, STEPS, Task, reading, way_from, told_pointer, IsScratched}

-- ---- the fields whose pointers an image keeps: with those of a thread also who serves its talk, and who has taken its fault

-- by the number of a kind, but a space's: an image keeps its holder beside its objects
abbrev pub pointers_by : ℕ → List ℕ
pointers_by kind =
    if kind == number_of_kind kinds.Thread then 0 ∷ 1 ∷ 2 ∷ 3 ∷ []
    else (if kind == number_of_kind kinds.Mapping then 0 ∷ []
    else (if kind == number_of_kind kinds.Region then 0 ∷ []
    else (if kind == number_of_kind kinds.Reference then 0 ∷ [] else [])))

abbrev pub pointer_fields : Option Body → List ℕ
pointer_fields None = []
pointer_fields (Some (Space birth holder)) = 0 ∷ []
pointer_fields (Some other) = pointers_by (number_of_kind (kind_of other))

-- of the root none
abbrev pub pointer_task : World → Path → Task
pointer_task c [] = record { path = []; fields = []; strict = false }
pointer_task c (k ∷ q) = record { path = k ∷ q; fields = pointer_fields (c.body (k ∷ q)); strict = false }

-- what a field leads to, as the subtree sees it. A peer that is native or parked leads far
abbrev pub field_as : (Ptr → Ptr) → Option Field → Ptr
field_as see None = Null
field_as see (Some (Pointer p)) = see p
field_as see (Some NoThread) = Far

abbrev pub body_as : (Ptr → Ptr) → ℕ → Option Body → Ptr
body_as see n None = Null
body_as see n (Some b) = field_as see (field_of n b)

unfoldable pub shown_at : World → Path → ℕ → Path → ℕ → Ptr
shown_at w nester slot q n = body_as (cut_ptr (ports_of w nester slot) nester slot) n (w.body (q ++ slot ∷ nester))

-- ---- the root is named by its own slot, any other space down to which a descent has come by its reference

abbrev pub place_at : ℕ → Path → ℕ
place_at slot [] = slot
place_at slot (k ∷ p) = STEPS

-- ---- the machine: what is gathered so far is the last argument

pub data State : Type 0 where
  Down : (from : ℕ) (ways : List ℕ) (t : Task) (ts : List Task) (got : List Ptr) → State
  Fields : (n : ℕ) (fs : List ℕ) (t : Task) (ts : List Task) (got : List Ptr) → State
  Looks : (at : Path) (n : ℕ) (fs : List ℕ) (t : Task) (ts : List Task) (got : List Ptr) → State
  Leads : (k : ℕ) (at : Path) (n : ℕ) (fs : List ℕ) (t : Task) (ts : List Task) (got : List Ptr) → State
  Beside : (n : ℕ) (fs : List ℕ) (t : Task) (ts : List Task) (got : List Ptr) → State
  Over : (got : List Ptr) → State

abbrev pub begin_at : ℕ → Path → List ℕ → Task → List Task → List Ptr → State → State
begin_at slot [] fs t ts got rest = rest
begin_at slot (k ∷ q) [] t ts got rest = rest
begin_at slot (k ∷ q) (n ∷ fs) t ts got rest = Down OWN_SPACE (slot ∷ way_from [] q) t ts got

-- objects without pointers are passed by
abbrev pub begin : ℕ → List Task → List Ptr → State
begin slot [] got = Over got
begin slot (t ∷ ts) got = begin_at slot t.path t.fields t ts got (begin slot ts got)

abbrev pub go_on : ℕ → List ℕ → Task → List Task → List Ptr → State
go_on slot [] t ts got = begin slot ts got
go_on slot (n ∷ fs) t ts got = Fields n fs t ts got

abbrev pub arrive : ℕ → List ℕ → Task → List Task → List Ptr → State
arrive slot [] t ts got = go_on slot t.fields t ts got
arrive slot (k ∷ ways) t ts got = Down PLACES (k ∷ ways) t ts got

-- what it asks for, or the pointers that it has read
abbrev pub head : ℕ → State → Head (List Ptr)
head slot (Down from [] t ts got) = Stops got
head slot (Down from (k ∷ ways) t ts got) = Asks (Point OWN_SPACE PLACES from k) no_words
head slot (Fields n fs t ts got) = Asks (reading t.path n) no_words
head slot (Looks at n fs t ts got) = Asks (Locate TARGETS (place_at slot at)) no_words
head slot (Leads k at n fs t ts got) = Asks (Point OWN_SPACE STEPS (place_at slot at) k) no_words
head slot (Beside n fs t ts got) = Asks (Locate TARGETS OWN_SPACE) no_words
head slot (Over got) = Stops got

abbrev pub takes : ℕ → Ptr → List ℕ → Task → List Task → List Ptr → State
takes slot p fs t ts got = go_on slot fs t ts (got ++ p ∷ [])

abbrev pub read : ℕ → ℕ → List ℕ → Task → List Task → List Ptr → List ℕ → State
read slot n fs t ts got [] = Over got
read slot n fs t ts got (m ∷ ms) =
    if m == 0 then takes slot Null fs t ts got else (if m
    == 1 then takes slot Dead fs t ts got else (if m == 2 then Looks [] n fs t ts got else takes slot Far fs t ts got))

abbrev pub looked : ℕ → Path → ℕ → List ℕ → Task → List Task → List Ptr → List ℕ → State
looked slot at n fs t ts got (k ∷ far ∷ rest) =
    if far == 0 then (if k == OWN_SPACE then takes slot (At at) fs t ts got else takes slot (At (k ∷ at)) fs t ts got) else Leads k at n fs t ts got
looked slot at n fs t ts got other = Over got

-- what becomes of it by an answer
abbrev pub next : ℕ → State → ℕ → List ℕ → State
next slot (Down from [] t ts got) status words = Over got
next slot (Down from (k ∷ ways) t ts got) status words = arrive slot ways t ts got
next slot (Fields n fs t ts got) status words = read slot n fs t ts got words
next slot (Looks at n fs t ts got) status words = if status == OK then looked slot at n fs t ts got words else Beside n fs t ts got
next slot (Leads k at n fs t ts got) status words = Looks (k ∷ at) n fs t ts got
next slot (Beside n fs t ts got) status words = takes slot (told_pointer None (if status == OK then Some words else None)) fs t ts got
next slot (Over got) status words = Over got

abbrev pub gatherer : ℕ → Machine State (List Ptr)
gatherer slot = record { head = head slot; next = next slot }

-- ---- what it gathers

abbrev pub pointers_of : (Path → ℕ → Ptr) → Task → List ℕ → List Ptr
pointers_of show t fs = map (show t.path) fs

abbrev pub all_pointers : (Path → ℕ → Ptr) → List Task → List Ptr
all_pointers show ts = flat_map (λ (t : Task). pointers_of show t t.fields) ts

-- over every interleaving: of any objects it is where the fields lead, as the subtree saw it when it began
abbrev pub PointersAreGathered : Type 0
PointersAreGathered = (nester : Path) (slot : ℕ) (w v : World) (t : State) (es : List Event) (got : List Ptr) (qs : List Path) → IsHolding nester slot w →
    IsSound w → IsScratched nester w → ((q : Path) → IsIn q qs → IsSome ((cut w nester slot).body q)) →
    Interleaved (gatherer slot) nester w (begin slot (map (pointer_task (cut w nester slot)) qs) []) es v t → head slot t ≡ Stops got →
    got ≡ all_pointers (shown_at w nester slot) (map (pointer_task (cut w nester slot)) qs)
