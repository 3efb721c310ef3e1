-- State: get_state, set_state, get_ptr, set_ptr.
use Rattle.std.specs.Prelude.{ℕ, ◌%◌, Bool, true, false, not, ◌&&◌, ◌||◌, ◌==◌, List, [], ◌∷◌, map, take, drop, Option, Some, None, if◌then◌else◌}
use Rattle.std.specs.List.{list_any}
use Rattle.fk_model.specs.declared.limits.TheConstants.{RECORD_WORDS, PAGE_WORDS}
use Rattle.fk_model.specs.declared.names.Kind.{Kind}
use Rattle.fk_model.specs.declared.names.Kind.TheVariants as kinds
use Rattle.fk_model.specs.declared.statuses.status.TheConstants as status
use Rattle.fk_model.specs.Places.{Path, Ptr}
use Rattle.fk_model.specs.Places.Ptr.{Null, Dead, At, Out, Outside, Far}
use Rattle.fk_model.specs.Objects.{Peer, Talk, Fault, Thread, Body, same_kind, reference_of, and_then}
use Rattle.fk_model.specs.Objects.Peer.{Server, Service, Parked}
use Rattle.fk_model.specs.Objects.Body.{Mapping, Region, Space, Thread_of, Reference}
use Rattle.fk_model.specs.World.{World}
use Rattle.fk_model.specs.World.Change.{Alter, PutPage}
use Rattle.fk_model.specs.World.Edit.{SetPointer}
use Rattle.fk_model.specs.Reach.{words_at}
use Rattle.fk_model.specs.Holds.{is_frozen_for, is_decided_by, is_porter}
use Rattle.fk_model.specs.Outcomes.{Outcome, ◌>>=◌, refuse, or_refuse, Caller, path_of, done}
use Rattle.fk_model.specs.Readers.{object_in, anything, space_argument, own_page, kind_at}
use Rattle.fk_model.specs.TransferRows.{overwritten}
use Rattle.fk_model.specs.Records.{record_of, set_edits, takes_state}

-- ---- get_state: the record of an object, as it is before the move, goes to the caller's memory. Anybody may read

abbrev pub is_bad_record_address : Caller → ℕ → Bool
is_bad_record_address c address = not c.is_porter && not (address % RECORD_WORDS == 0)

abbrev pub shows : World → Caller → Body → ℕ → Path → ℕ → Outcome
shows w c b address s page = done c (PutPage s page (overwritten (words_at w s page) (address % PAGE_WORDS) (record_of b)) ∷ []) []

abbrev pub shows_to : World → Caller → Body → ℕ → Outcome
shows_to w c b address =
    if c.is_porter then done c [] (record_of b) else own_page w c address true (shows w c b address)

-- get_state: the record of an object goes to the caller's memory
unfoldable pub get_state : World → Caller → ℕ → ℕ → ℕ → Outcome
get_state w c s x address = do
  space ← space_argument w c s
  b ← object_in w c anything space x
  _ ← refuse status.BADADDRESS (is_bad_record_address c address)
  shows_to w c b address

-- ---- set_state: an object becomes what a record says. A thread has to be stopped, or frozen by the caller

abbrev pub is_native : Body → Bool
is_native (Thread_of t) = is_porter t.mode
is_native other = false

abbrev pub is_still : World → Caller → Path → Body → Bool
is_still w c x (Thread_of t) = not (t.stops == 0) || is_decided_by w (path_of c) x
is_still w c x other = true

abbrev pub sets_record : World → Caller → Path → Path → Body → List ℕ → Outcome
sets_record w c space x b words = do
  _ ← refuse status.NOTSTOPPED (not (is_still w c x b))
  _ ← refuse status.BADSTATE (not (takes_state w space b words))
  done c (map (Alter x) (set_edits b words)) []

-- the record at an address, which is within one page
abbrev pub record_at : List ℕ → ℕ → List ℕ
record_at page address = take RECORD_WORDS (drop (address % PAGE_WORDS) page)

abbrev pub sets_from : World → Caller → Path → Path → Body → ℕ → Outcome
sets_from w c space x b address =
    if c.is_porter then sets_record w c space x b c.words
    else own_page w c address false (λ s page. sets_record w c space x b (record_at (words_at w s page) address))

-- set_state: an object takes the state that a record in the caller's memory has
unfoldable pub set_state : World → Caller → ℕ → ℕ → ℕ → Outcome
set_state w c s x address = do
  space ← space_argument w c s
  b ← object_in w c anything space x
  _ ← refuse status.HELD (is_frozen_for w (path_of c) (x ∷ space))
  _ ← refuse status.DENIED (is_native b)
  _ ← refuse status.BADADDRESS (is_bad_record_address c address)
  sets_from w c space (x ∷ space) b address

-- ---- pointer fields

pub data Field : Type 0 where
  Pointer : (to : Ptr) → Field
  -- a peer or a taker that is native, or parked
  NoThread : Field

abbrev pub peer_field : Peer → Field
peer_field (Server thread) = Pointer thread
peer_field Service = NoThread
peer_field Parked = NoThread

-- where there is nothing the field is null
abbrev pub or_null : Option Field → Field
or_null None = Pointer Null
or_null (Some field) = field

abbrev pub thread_field : Thread → ℕ → Option Field
thread_field t n =
    if n == 0 then Some (or_null (and_then (λ (talk : Talk). Some (Pointer talk.port)) t.talk)) else
    (if n == 1 then Some (or_null (and_then (λ (talk : Talk). Some (peer_field talk.peer)) t.talk)) else
    (if n == 2 then Some (or_null (and_then (λ (fault : Fault). Some (Pointer fault.port)) t.fault)) else
    (if n == 3 then Some (or_null (and_then (λ (fault : Fault). and_then (λ taker. Some (peer_field taker)) fault.taker) t.fault)) else None)))

abbrev pub first_field : ℕ → Field → Option Field
first_field n field = if n == 0 then Some field else None

-- a pointer field of an object, by its number; none that its kind lacks
abbrev pub field_of : ℕ → Body → Option Field
field_of n (Mapping m) = first_field n (Pointer m.region)
field_of n (Region r) = first_field n (Pointer r.keeper)
field_of n (Reference to) = first_field n (Pointer to)
field_of n (Space birth holder) = first_field n (or_null (and_then (λ p. Some (Pointer p)) holder))
field_of n (Thread_of t) = thread_field t n
field_of n other = None

-- a space's and a thread's fields aren't for users
abbrev pub is_inner : Body → Bool
is_inner (Space birth holder) = true
is_inner (Thread_of t) = true
is_inner other = false

-- what a field holds, as a number, and the pointer that a reference gets
abbrev pub field_number : Field → ℕ
field_number (Pointer Null) = 0
field_number (Pointer Dead) = 1
field_number (Pointer (At x)) = 2
field_number (Pointer (Out slot)) = 2
field_number (Pointer Outside) = 3
field_number (Pointer Far) = 2
field_number NoThread = 3

-- where a field leads; nowhere, where it is that of a talk without a thread
abbrev pub field_pointer : Field → Ptr
field_pointer (Pointer to) = to
field_pointer NoThread = Null

-- get_ptr: a reference of the caller's leads where a field of an object does
unfoldable pub get_ptr : World → Caller → ℕ → ℕ → ℕ → ℕ → Outcome
get_ptr w c s x field reference = do
  space ← space_argument w c s
  b ← object_in w c anything space x
  _ ← object_in w c reference_of c.space reference
  found ← or_refuse status.BADSTATE (field_of field b)
  _ ← refuse status.DENIED (not c.is_porter && is_inner b)
  done c (Alter (reference ∷ c.space) (SetPointer (field_pointer found)) ∷ []) (field_number found ∷ [])

-- the kinds to which a reference may lead
abbrev pub referable : List Kind
referable = kinds.Mapping ∷ kinds.Region ∷ kinds.Port ∷ kinds.Space ∷ kinds.Thread ∷ []

-- the kinds to which a pointer of an object may lead
abbrev pub held_kinds : Body → List Kind
held_kinds (Mapping m) = kinds.Region ∷ []
held_kinds (Region r) = kinds.Port ∷ []
held_kinds (Reference to) = referable
held_kinds other = []

abbrev pub is_of_kinds : List Kind → Option Kind → Bool
is_of_kinds wanted None = true
is_of_kinds wanted (Some kind) = list_any (same_kind kind) wanted

-- set_ptr: a field of an object leads where a reference of the caller's does
unfoldable pub set_ptr : World → Caller → ℕ → ℕ → ℕ → ℕ → Outcome
set_ptr w c s x field reference = do
  space ← space_argument w c s
  b ← object_in w c anything space x
  to ← object_in w c reference_of c.space reference
  _ ← refuse status.HELD (is_frozen_for w (path_of c) (x ∷ space))
  _ ← or_refuse status.BADSTATE (field_of field b)
  _ ← refuse status.DENIED (is_inner b)
  _ ← refuse status.WRONGKIND (not (is_of_kinds (held_kinds b) (kind_at w to)))
  done c (Alter (x ∷ space) (SetPointer to) ∷ []) []
