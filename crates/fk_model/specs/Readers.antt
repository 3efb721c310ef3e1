-- Readers: what a row reads of the world. Each is refused with the status that says what was wrong.
--
-- A slot that the caller can't name, and an empty one, is BADHANDLE; an object of another kind is WRONGKIND. Where a
-- reference is followed one to nothing is NULLREF, one to what was destroyed is DEAD, and then the kind counts again.
use Rattle.std.specs.Prelude.{ℕ, Bool, true, false, ◌==◌, nat_le, [], ◌∷◌, Option, Some, None, Result, Ok, Err, if◌then◌else◌}
use Rattle.fk_model.specs.declared.limits.TheConstants.{OWN_SPACE}
use Rattle.fk_model.specs.declared.names.Kind.{Kind}
use Rattle.fk_model.specs.declared.names.Kind.TheVariants as kinds
use Rattle.fk_model.specs.declared.statuses.halt.TheConstants.{BAD_ADDRESS, MISSING_PAGE}
use Rattle.fk_model.specs.declared.statuses.status.TheConstants.{BADHANDLE, WRONGKIND, NULLREF, DEAD, BADADDRESS}
use Rattle.fk_model.specs.Places.{Path, Ptr}
use Rattle.fk_model.specs.Places.Ptr.{Null, Dead, At, Out, Outside, Far}
use Rattle.fk_model.specs.Objects.{Body, kind_of, same_kind, reference_of, and_then}
use Rattle.fk_model.specs.Objects.Body.{Reference}
use Rattle.fk_model.specs.World.{World, Change}
use Rattle.fk_model.specs.World.Change.{Alter}
use Rattle.fk_model.specs.World.Edit.{SetFault}
use Rattle.fk_model.specs.Reach.{Reach, reach_word}
use Rattle.fk_model.specs.Reach.Reach.{Home, Missing, Bad}
use Rattle.fk_model.specs.Outcomes.{Outcome, Caller, path_of, last_slot, or_refuse}
use Rattle.fk_model.specs.Outcomes.Said.{Nothing}
use Rattle.fk_model.specs.Outcomes.Outcome.{Refused, Waits, Goes}

-- ---- slots and objects

abbrev pub and_read : {A B : Type 0} → Result A ℕ → (A → Result B ℕ) → Result B ℕ
and_read (Ok a) go = go a
and_read (Err status) go = Err status

-- a slot that the caller can name
abbrev pub slot_for : Caller → ℕ → Result ℕ ℕ
slot_for c k = if nat_le k (last_slot c) then Ok k else Err BADHANDLE

-- what stands there, seen as an object of one kind
abbrev pub seen_as : {A : Type 0} → (Body → Option A) → Option Body → Result A ℕ
seen_as view None = Err BADHANDLE
seen_as view (Some b) = or_refuse WRONGKIND (view b)

-- an object of whatever kind
abbrev pub anything : Body → Option Body
anything b = Some b

-- the object in a slot of a space, seen by `view`. A reference is not followed
unfoldable pub object_in : {A : Type 0} → World → Caller → (Body → Option A) → Path → ℕ → Result A ℕ
object_in w c view s k = and_read (slot_for c k) (λ k. seen_as view (w.body (k ∷ s)))

-- ---- handles: a slot of the caller's own space that holds an object, or a reference to it

-- the kind of what a pointer leads to. What leads out of a subtree that is seen alone leads to a port
abbrev pub kind_at : World → Ptr → Option Kind
kind_at w (At x) = and_then (λ b. Some (kind_of b)) (w.body x)
kind_at w (Out slot) = Some kinds.Port
kind_at w other = None

abbrev pub is_kind : Kind → Option Kind → Bool
is_kind wanted None = false
is_kind wanted (Some kind) = same_kind wanted kind

-- a pointer that leads to an object of this kind
abbrev pub led_to : World → Kind → Ptr → Result Ptr ℕ
led_to w wanted Null = Err NULLREF
led_to w wanted Dead = Err DEAD
led_to w wanted (At x) = if is_kind wanted (kind_at w (At x)) then Ok (At x) else Err WRONGKIND
led_to w wanted (Out slot) = if is_kind wanted (kind_at w (Out slot)) then Ok (Out slot) else Err WRONGKIND
led_to w wanted Outside = Err WRONGKIND
led_to w wanted Far = Err WRONGKIND

abbrev pub handled : World → Kind → Path → Option Body → Result Ptr ℕ
handled w wanted x None = Err BADHANDLE
handled w wanted x (Some (Reference to)) = led_to w wanted to
handled w wanted x (Some b) = if same_kind wanted (kind_of b) then Ok (At x) else Err WRONGKIND

-- the object of a wanted kind that a handle names: it stands in the caller's slot, or a reference there leads to it
unfoldable pub handle : World → Caller → Kind → ℕ → Result Ptr ℕ
handle w c wanted h = and_read (slot_for c h) (λ h. handled w wanted (h ∷ c.space) (w.body (h ∷ c.space)))

-- a handle of what has a path
abbrev pub path_at : Ptr → Result Path ℕ
path_at (At x) = Ok x
path_at other = Err WRONGKIND

-- a place: the caller's own space, or a handle of a space
unfoldable pub space_argument : World → Caller → ℕ → Result Path ℕ
space_argument w c s = if s == OWN_SPACE then Ok c.space else and_read (handle w c kinds.Space s) path_at

-- the pointer of a reference in a slot of the caller's own space, followed to an object of one kind
unfoldable pub referred : World → Caller → Kind → ℕ → Result Ptr ℕ
referred w c wanted k = and_read (object_in w c reference_of c.space k) (led_to w wanted)

-- ---- memory

-- the fault of a thread on a missing page, which its keeper takes
abbrev pub fault_on : Path → ℕ → Bool → Ptr → Change
fault_on me page write port = Alter me (SetFault (Some (record { page = page; write = write; port = port; taker = None })))

abbrev pub missed : Outcome → Path → ℕ → Bool → Option Ptr → Outcome
missed otherwise me page write (Some port) = Goes (fault_on me page write port ∷ []) Nothing
missed otherwise me page write None = otherwise

-- an access of an instruction: a missing page is a fault, or halts the thread where nobody keeps it
abbrev pub accessed : Path → Bool → (ℕ → Outcome) → (Path → ℕ → Outcome) → Reach → Outcome
accessed me write halts go (Home s page) = go s page
accessed me write halts go (Missing s page keeper) = missed (halts MISSING_PAGE) me page write keeper
accessed me write halts go Bad = halts BAD_ADDRESS

-- an access of a call's own address: a missing page is a fault, or BADADDRESS where nobody keeps it
abbrev pub own_page_at : Path → Bool → (Path → ℕ → Outcome) → Reach → Outcome
own_page_at me write go (Home s page) = go s page
own_page_at me write go (Missing s page keeper) = missed (Refused BADADDRESS) me page write keeper
own_page_at me write go Bad = Refused BADADDRESS

-- goes on with the page of the caller's own memory that an address names, where it can be read or written; else the caller gets a fault
abbrev pub own_page : World → Caller → ℕ → Bool → (Path → ℕ → Outcome) → Outcome
own_page w c address write go = own_page_at (path_of c) write go (reach_word w c.space address write)

-- an access of the other side's address: it waits until the page is there
abbrev pub their_page_at : (Path → ℕ → Outcome) → Reach → Outcome
their_page_at go (Home s page) = go s page
their_page_at go (Missing s page keeper) = Waits
their_page_at go Bad = Waits

abbrev pub their_page : World → Path → ℕ → (Path → ℕ → Outcome) → Outcome
their_page w space address go = their_page_at go (reach_word w space address true)
