-- State records: the 32 words that say all of an object but its pointers, and what it is to set them.
use Rattle.std.specs.Prelude.{ℕ, ◌+◌, ◌-◌, Bool, true, not, ◌&&◌, ◌||◌, ◌==◌, nat_le, nat_lt, is_none, is_some, List, [], ◌∷◌, ◌++◌, length, take, drop}
use Rattle.std.specs.Prelude.{replicate, Option, Some, None, if◌then◌else◌, slice_index}
use Rattle.fk_model.specs.declared.limits.TheConstants.{RECORD_WORDS, PAGES, SLOTS, MOST_STOPS}
use Rattle.fk_model.specs.declared.stage.Stage.{Stage}
use Rattle.fk_model.specs.Places.{Path}
use Rattle.fk_model.specs.Calls.{todo_of, rest_of}
use Rattle.fk_model.specs.Objects.{Mode, Talk, Fault, Body, registers_of, number_of_kind, kind_of, flag_of}
use Rattle.fk_model.specs.Objects.Mode.{Running, Calling, Halted, Native}
use Rattle.fk_model.specs.Objects.Body.{Mutex, Mapping, Region, Port, Thread_of}
use Rattle.fk_model.specs.World.{World, Edit, edited}
use Rattle.fk_model.specs.World.Edit.{SetLocked, SetWindow, SetExtent, SetMember, Proceed, SetStops}
use Rattle.fk_model.specs.LinkRows.{turn_number, portset_of}
use Rattle.fk_model.specs.Objects.{and_then}

-- ---- the record of an object

-- what a thread is at, by its number in a record
abbrev pub mode_number : Mode → ℕ
mode_number (Running g) = 0
mode_number (Calling todo rest) = 1
mode_number (Halted g code) = 2
mode_number (Native g) = 3

-- with what code a thread has halted, 0 where it hasn't
abbrev pub halt_code : Mode → ℕ
halt_code (Halted g code) = code
halt_code other = 0

-- whose turn it is, and the words moved
abbrev pub talk_words : Option Talk → List ℕ
talk_words None = 0 ∷ 0 ∷ []
talk_words (Some talk) = turn_number talk.turn ∷ talk.moved ∷ []

-- raised or taken, the page, and whether a write missed it
abbrev pub fault_words : Option Fault → List ℕ
fault_words None = 0 ∷ 0 ∷ 0 ∷ []
fault_words (Some fault) = (if is_none fault.taker then 1 else 2) ∷ fault.page ∷ flag_of fault.write ∷ []

abbrev pub member_word : Option ℕ → ℕ
member_word None = 0
member_word (Some set) = 1 + set

abbrev pub state_words : Body → List ℕ
state_words (Mutex locked) = flag_of locked ∷ []
state_words (Mapping m) = m.first ∷ m.count ∷ m.offset ∷ flag_of m.write ∷ []
state_words (Region r) = r.first ∷ r.count ∷ flag_of r.write ∷ []
state_words (Port set served) = member_word set ∷ []
state_words (Thread_of t) =
    registers_of t.mode ++ (t.counter ∷ mode_number t.mode ∷ halt_code t.mode ∷ t.stops ∷ []) ++ talk_words t.talk ++ fault_words t.fault
state_words other = []

-- words not named are 0
abbrev pub padded : ℕ → List ℕ → List ℕ
padded n words = words ++ replicate (n - length words) 0

-- the record of an object: its kind's number, its state, and zeros behind that
unfoldable pub record_of : Body → List ℕ
record_of b = padded RECORD_WORDS (number_of_kind (kind_of b) ∷ state_words b)

-- ---- what a record sets. The words that show the talk and the fault are not set

-- one word of a record
abbrev pub word : List ℕ → ℕ → ℕ
word words i = slice_index words i

abbrev pub is_flag : ℕ → Bool
is_flag n = nat_le n 1

-- pages that a mapping or a region can have
abbrev pub is_page_range : ℕ → ℕ → Bool
is_page_range first count = nat_le 1 count && nat_le count PAGES && nat_le (first + count) PAGES

-- 0, or 1 and the slot of a port set of the space; 0 alone for a served port
abbrev pub is_member_word : World → Path → Bool → ℕ → Bool
is_member_word w space served n = n == 0 || (not served && nat_le n SLOTS && is_some (and_then portset_of (w.body ((n - 1) ∷ space))))

abbrev pub member_by : ℕ → Option ℕ
member_by n = if n == 0 then None else Some (n - 1)

-- the registers in a thread's record
abbrev pub record_registers : List ℕ → List ℕ
record_registers words = take 16 (drop 1 words)

abbrev pub calling_by : List ℕ → Option (List Stage) → Mode
calling_by g (Some todo) = Calling todo (rest_of todo g)
calling_by g None = Running g

-- the mode that a record says
abbrev pub mode_of_record : ℕ → List ℕ → ℕ → Mode
mode_of_record n g code = if n == 0 then Running g else (if n == 1 then calling_by g (todo_of g) else Halted g code)

-- a mode, and a code that goes with it
abbrev pub is_mode : List ℕ → ℕ → ℕ → Bool
is_mode g n code = nat_le n 2 && (not (n == 1) || is_some (todo_of g)) && nat_le code 255 && (code == 0 || n == 2)

-- what set_state does to an object, where the record is one that its kind takes
abbrev pub set_edits : Body → List ℕ → List Edit
set_edits (Mutex locked) words = SetLocked (word words 1 == 1) ∷ []
set_edits (Mapping m) words = SetWindow (word words 1) (word words 2) (word words 3) (word words 4 == 1) ∷ []
set_edits (Region r) words = SetExtent (word words 1) (word words 2) (word words 3 == 1) ∷ []
set_edits (Port set served) words = SetMember (member_by (word words 1)) ∷ []
set_edits (Thread_of t) words =
    Proceed (mode_of_record (word words 18) (record_registers words) (word words 19)) (word words 17) ∷ SetStops (word words 20) ∷ []
set_edits other words = []

abbrev pub edited_by : List Edit → Body → Body
edited_by [] b = b
edited_by (edit ∷ edits) b = edited_by edits (edited edit b)

-- an object of which a record was set
unfoldable pub set : Body → List ℕ → Body
set b words = edited_by (set_edits b words) b

-- the record is of this kind, and its numbers are such as the kind takes
abbrev pub is_state : World → Path → Body → List ℕ → Bool
is_state w space (Mutex locked) words = is_flag (word words 1)
is_state w space (Mapping m) words = is_page_range (word words 1) (word words 2) && nat_lt (word words 3) PAGES && is_flag (word words 4)
is_state w space (Region r) words = is_page_range (word words 1) (word words 2) && is_flag (word words 3)
is_state w space (Port set served) words = is_member_word w space served (word words 1)
is_state w space (Thread_of t) words = is_mode (record_registers words) (word words 18) (word words 19) && nat_le (word words 20) MOST_STOPS
is_state w space other words = true

-- an object may take the state that a record has: it is of that kind, and each number is in its range
unfoldable pub takes_state : World → Path → Body → List ℕ → Bool
takes_state w space b words = word words 0 == number_of_kind (kind_of b) && is_state w space b words
