-- Objects: create, destroy, rename, search, point, clear, locate, count_in.
use Rattle.std.specs.Prelude.{ℕ, Bool, false, not, ◌&&◌, ◌==◌, nat_le, is_some, List, [], ◌∷◌, ◌++◌, filter, sum_by, length, Option, Some, None, Result, Ok}
use Rattle.std.specs.Prelude.{Err, option_map, if◌then◌else◌, replicate}
use Rattle.std.specs.List.{flat_map, list_any}
use Rattle.fk_model.specs.declared.limits.TheConstants.{OWN_SPACE, SLOTS, LAST_USER_SLOT, FIRST_SCRATCH_SLOT, LAST_SCRATCH_SLOT}
use Rattle.fk_model.specs.declared.names.Kind.{Kind}
use Rattle.fk_model.specs.declared.statuses.status.TheConstants as status
use Rattle.fk_model.specs.declared.thread.Turn.{Turn}
use Rattle.fk_model.specs.declared.thread.Turn.TheVariants as turns
use Rattle.fk_model.specs.Places.{Path, same_path, strip, is_within, parent, slot_of, Ptr}
use Rattle.fk_model.specs.Places.Ptr.{Null, Dead, At, Out, Outside, Far}
use Rattle.fk_model.specs.Objects.{Talk, Body, kind_of, same_kind, number_of_kind, reference_of, is_served}
use Rattle.fk_model.specs.Objects.Mode.{Running}
use Rattle.fk_model.specs.Objects.Body.{Mutex, Cond, Mapping, Region, Port, Portset, Thread_of, Reference}
use Rattle.fk_model.specs.World.{World, Change}
use Rattle.fk_model.specs.World.Change.{Alter, Make, MakeSpace, Kill, Move}
use Rattle.fk_model.specs.World.Edit.{SetPointer}
use Rattle.fk_model.specs.Searches.{lowest, has_residents, objects, leaf, clients_at, client_at, pointers_to}
use Rattle.fk_model.specs.Holds.{is_frozen_for}
use Rattle.fk_model.specs.Outcomes.{Said, Outcome, ◌>>=◌, refuse, or_refuse, Caller, path_of, last_slot, done, done_at, stays, telling}
use Rattle.fk_model.specs.Outcomes.Said.{Nothing, Ended}
use Rattle.fk_model.specs.Readers.{and_read, slot_for, object_in, anything, space_argument, kind_at}
use Rattle.fk_model.specs.Talks.{line, Line, ends_beyond, talking_end}
use Rattle.fk_model.specs.LinkRows.{end_all, told_end}
use Rattle.fk_model.specs.StateRows.{referable}

-- ---- create

-- a new object of a kind's number: it is unlocked, leads nowhere, is in no set; a thread is stopped once
abbrev pub new_object : Path → ℕ → Option Change
new_object x kind =
    if kind == 1 then Some (Make x (Mutex false)) else
    (if kind == 2 then Some (Make x Cond) else
    (if kind == 3 then Some (Make x (Mapping (record { first = 0; count = 1; offset = 0; write = false; region = Null }))) else
    (if kind == 4 then Some (Make x (Region (record { first = 0; count = 1; write = false; keeper = Null }))) else
    (if kind == 5 then Some (Make x (Port None false)) else
    (if kind == 6 then Some (Make x Portset) else
    (if kind == 7 then Some (MakeSpace x None) else
    (if kind == 8 then Some (Make x (Thread_of (record { mode = Running (replicate 16 0); counter = 0; stops = 1; talk = None; fault = None }))) else
    (if kind == 9 then Some (Make x (Reference Null)) else None))))))))

-- create: a new object of a kind's number in an empty slot of a space
unfoldable pub create : World → Caller → ℕ → ℕ → ℕ → Outcome
create w c s x kind = do
  space ← space_argument w c s
  _ ← slot_for c x
  _ ← refuse status.HELD (is_frozen_for w (path_of c) space)
  made ← or_refuse status.WRONGKIND (new_object (x ∷ space) kind)
  _ ← refuse status.OCCUPIED (is_some (w.body (x ∷ space)))
  done c (made ∷ []) []

-- ---- destroy: each stage destroys one object, the residents of a space before it

abbrev pub ends_in : World → Turn → Option Line → List Path
ends_in w side None = []
ends_in w side (Some l) = ends_beyond w side l

-- whose call ends with the talk in which a thread acts on a side: the other end's
abbrev pub ends_on : World → Path → Turn → List Path
ends_on w x side = ends_in w side (line w x side)

-- both ends of a client's talk
abbrev pub ends_of_client : World → Path → List Path
ends_of_client w client = talking_end w turns.Client (At client) ++ ends_on w client turns.Client

-- whose calls end with an object: the other ends of a thread's talks, both ends of each talk at a port
abbrev pub ends_with : World → Path → Option Body → List Path
ends_with w x (Some (Thread_of t)) = ends_on w x turns.Client ++ ends_on w x turns.Server
ends_with w x (Some (Port set served)) = flat_map (ends_of_client w) (clients_at w x)
ends_with w x other = []

abbrev pub told_client : Option Talk → Said
told_client None = Nothing
told_client (Some talk) = told_end talk talk.peer

abbrev pub told_port : Path → Option Path → Said
told_port port None = Nothing
told_port port (Some client) = Ended (At port)

-- the native server, if one loses its client or its port
abbrev pub told_with : World → Path → Option Body → Said
told_with w x (Some (Thread_of t)) = told_client t.talk
told_with w x (Some (Port set served)) = told_port x (client_at w x)
told_with w x other = Nothing

-- the changes by which an object is destroyed: it goes, and talks and faults end that end with it
abbrev pub kills : World → Path → List Change
kills w x = Kill x ∷ end_all (ends_with w x (w.body x))

-- done when the named object itself is destroyed
abbrev pub destroys : World → Caller → Path → Path → Outcome
destroys w c x gone =
    telling (told_with w gone (w.body gone)) (if same_path gone x then done c (kills w gone) [] else stays c (kills w gone))

-- destroy: an object goes, and what lies in it before it, one object a move
unfoldable pub destroy : World → Caller → ℕ → ℕ → Outcome
destroy w c s x = do
  space ← space_argument w c s
  _ ← object_in w c anything space x
  _ ← refuse status.HELD (is_frozen_for w (path_of c) (x ∷ space))
  _ ← refuse status.DENIED (is_within (x ∷ space) c.space)
  _ ← refuse status.HELD (is_frozen_for w (path_of c) (leaf w (x ∷ space)))
  destroys w c (x ∷ space) (leaf w (x ∷ space))

-- ---- rename: every pointer follows, and the set of each port whose port set is renamed

-- a thread that renames itself ends its call in its new slot
abbrev pub renamed : Path → Path → Path → Path
renamed x y me = if same_path me x then y else me

-- rename: an object gets another slot of its space, and all that leads to it follows
unfoldable pub rename : World → Caller → ℕ → ℕ → ℕ → Outcome
rename w c s x y = do
  space ← space_argument w c s
  b ← object_in w c anything space x
  _ ← refuse status.HELD (is_frozen_for w (path_of c) (x ∷ space))
  _ ← refuse status.BADHANDLE (not (nat_le y LAST_USER_SLOT))
  _ ← refuse status.DENIED (is_served b)
  _ ← refuse status.OCCUPIED (is_some (w.body (y ∷ space)))
  _ ← refuse status.NOTEMPTY (has_residents w (x ∷ space))
  done_at (renamed (x ∷ space) (y ∷ space) (path_of c)) c (Move (x ∷ space) y ∷ []) []

-- ---- search: the first taken slot at or above a number, and the kind there. Users see no slot above 239

abbrev pub taken_from : World → Path → ℕ → ℕ → ℕ → Option (ℕ × ℕ)
taken_from w space last from k = if nat_le from k && nat_le k last then option_map (λ b. (k, number_of_kind (kind_of b))) (w.body (k ∷ space)) else None

-- search: the first taken slot of a space from a number on, and its kind
unfoldable pub search : World → Caller → ℕ → ℕ → Outcome
search w c s from = do
  space ← space_argument w c s
  found ← or_refuse status.NONE (lowest SLOTS (taken_from w space (last_slot c) from))
  done c [] (found.0 ∷ found.1 ∷ [])

-- ---- point and clear

-- a pointer to an object of a kind to which references lead; a reference's pointer is copied
abbrev pub pointer_to : Path → Body → Option Ptr
pointer_to x (Reference to) = Some to
pointer_to x b = if list_any (same_kind (kind_of b)) referable then Some (At x) else None

-- to what a reference leads that stands in a slot, or to the object that stands there itself
abbrev pub pointer_in : World → Caller → Path → ℕ → Result Ptr ℕ
pointer_in w c space x = object_in w c (pointer_to (x ∷ space)) space x

-- point: a reference leads to an object, or where another reference leads
unfoldable pub point : World → Caller → ℕ → ℕ → ℕ → ℕ → Outcome
point w c s x s2 x2 = do
  space ← space_argument w c s
  _ ← object_in w c reference_of space x
  space2 ← space_argument w c s2
  to ← pointer_in w c space2 x2
  _ ← refuse status.HELD (is_frozen_for w (path_of c) (x ∷ space))
  done c (Alter (x ∷ space) (SetPointer to) ∷ []) []

-- clear: a reference leads nowhere
unfoldable pub clear : World → Caller → ℕ → ℕ → Outcome
clear w c s x = do
  space ← space_argument w c s
  _ ← object_in w c reference_of space x
  _ ← refuse status.HELD (is_frozen_for w (path_of c) (x ∷ space))
  done c (Alter (x ∷ space) (SetPointer Null) ∷ []) []

-- ---- locate: where in or beneath a space the object lies to which a reference leads

abbrev pub target_of : Ptr → Result Ptr ℕ
target_of Null = Err status.NULLREF
target_of Dead = Err status.DEAD
target_of (At x) = Ok (At x)
target_of (Out slot) = Ok (Out slot)
target_of Outside = Ok Outside
target_of Far = Ok Far

-- the outermost slot on a way down
abbrev pub outermost : Path → ℕ
outermost [] = OWN_SPACE
outermost (k ∷ []) = k
outermost (k ∷ j ∷ q) = outermost (j ∷ q)

-- the space itself is 256; deeper than the space's own slots is 1
abbrev pub way_down : Path → List ℕ
way_down q = outermost q ∷ (if nat_le (length q) 1 then 0 else 1) ∷ []

abbrev pub way_to : Path → Ptr → Option (List ℕ)
way_to space (At x) = option_map way_down (strip space x)
way_to space other = None

abbrev pub kind_number : Option Kind → ℕ
kind_number None = 0
kind_number (Some kind) = number_of_kind kind

-- locate: where in or beneath a space the object lies to which a reference leads: its slot or 256, whether deeper, its kind
unfoldable pub locate : World → Caller → ℕ → ℕ → Outcome
locate w c reference s = do
  p ← object_in w c reference_of c.space reference
  space ← space_argument w c s
  to ← target_of p
  way ← or_refuse status.NONE (way_to space to)
  done c [] (way ++ kind_number (kind_at w to) ∷ [])

-- ---- count_in, for porters: how many pointers lead to an object from outside a subtree, the porter's scratch left out

abbrev pub is_scratch : Path → Path → Bool
is_scratch nester q = same_path (parent q) nester && nat_le FIRST_SCRATCH_SLOT (slot_of q) && nat_le (slot_of q) LAST_SCRATCH_SLOT

abbrev pub counts_from : Path → Path → Path → Bool
counts_from base nester q = not (is_within base q) && not (is_scratch nester q)

-- how many pointers lead to an object, from the objects that count
abbrev pub pointer_count : World → Path → Path → Path → ℕ
pointer_count w base nester x = sum_by (λ q. pointers_to x (w.body q)) (filter (counts_from base nester) ([] ∷ objects w))

-- the object in a slot of a space, or the space itself
abbrev pub object_or_space : World → Caller → Path → ℕ → Result Path ℕ
object_or_space w c space x = if x == OWN_SPACE then Ok space else and_read (object_in w c anything space x) (λ b. Ok (x ∷ space))

-- count_in: how many pointers lead to an object from outside a subtree
unfoldable pub count_in : World → Caller → ℕ → ℕ → ℕ → Outcome
count_in w c base s x = do
  top ← space_argument w c base
  space ← space_argument w c s
  to ← object_or_space w c space x
  done c [] (pointer_count w top c.space to ∷ [])
