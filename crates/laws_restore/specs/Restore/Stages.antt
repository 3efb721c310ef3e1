-- What stands when, between the passes of a restorer: objects that are made, objects with their records, and then with some of
-- their pointers.
use Rattle.std.specs.Prelude.{ℕ, Bool, true, false, ◌&&◌, ◌||◌, ◌==◌, nat_lt, List, [], ◌∷◌, Option, Some, None, option_map, if◌then◌else◌, replicate}
use Rattle.std.specs.List.{list_any}
use Rattle.fk_model.specs.Places.{Path, same_path, Ptr}
use Rattle.fk_model.specs.Places.Ptr.{Null, Out}
use Rattle.fk_model.specs.Objects.{Talk, Fault, Body}
use Rattle.fk_model.specs.Objects.Mode.{Running}
use Rattle.fk_model.specs.Objects.Body.{Mutex, Cond, Mapping, Region, Port, Portset, Space, Thread_of, Reference}
use Rattle.fk_model.specs.World.{World, through}
use Rattle.fk_model.specs.Rebind.{rebinding}
use Rattle.laws_restore.specs.Restore.Script.{stays_inside}

-- which pointers are led already: those of mappings, regions and references; talks and faults, by their ports; holders
pub record Mask : Type 0 where
  pub pointer : Ptr → Bool
  pub talk : Ptr → Bool
  pub fault : Ptr → Bool
  pub holder : Bool

abbrev pub shown_ptr : (Ptr → Bool) → Ptr → Ptr
shown_ptr test p = if test p then p else Null

abbrev pub shown_talk : (Ptr → Bool) → Option Talk → Option Talk
shown_talk test None = None
shown_talk test (Some talk) = if test talk.port then Some talk else None

abbrev pub shown_fault : (Ptr → Bool) → Option Fault → Option Fault
shown_fault test None = None
shown_fault test (Some fault) = if test fault.port then Some fault else None

-- a body with these pointers alone
abbrev pub shown : Mask → Body → Body
shown m (Mapping w) = Mapping (record w { region = shown_ptr m.pointer w.region })
shown m (Region r) = Region (record r { keeper = shown_ptr m.pointer r.keeper })
shown m (Reference to) = Reference (shown_ptr m.pointer to)
shown m (Thread_of t) = Thread_of (record t { talk = shown_talk m.talk t.talk; fault = shown_fault m.fault t.fault })
shown m (Space birth holder) = Space birth (if m.holder then holder else None)
shown m b = b

abbrev pub nowhere : Ptr → Bool
nowhere p = false

abbrev pub anywhere : Ptr → Bool
anywhere p = true

-- out to a slot of the nester below this one
abbrev pub is_out_below : ℕ → Ptr → Bool
is_out_below i (Out j) = nat_lt j i
is_out_below i other = false

abbrev pub is_led_below : ℕ → Ptr → Bool
is_led_below i p = stays_inside p || is_out_below i p

abbrev pub nothing_led : Mask
nothing_led = record { pointer = nowhere; talk = nowhere; fault = nowhere; holder = false }

abbrev pub led_below : ℕ → Mask
led_below i = record { pointer = is_led_below i; talk = is_out_below i; fault = is_out_below i; holder = false }

abbrev pub all_led : Bool → Mask
all_led holder = record { pointer = anywhere; talk = anywhere; fault = anywhere; holder = holder }

-- ---- new objects, and their records

abbrev pub blank : Body → Body
blank (Mutex locked) = Mutex false
blank Cond = Cond
blank (Mapping m) = Mapping (record { first = 0; count = 1; offset = 0; write = false; region = Null })
blank (Region r) = Region (record { first = 0; count = 1; write = false; keeper = Null })
blank (Port set served) = Port None false
blank Portset = Portset
blank (Space birth holder) = Space 0 None
blank (Thread_of t) = Thread_of (record { mode = Running (replicate 16 0); counter = 0; stops = 1; talk = None; fault = None })
blank (Reference to) = Reference Null

abbrev pub recorded : Body → Body
recorded b = shown nothing_led b

abbrev pub is_among : Path → List Path → Bool
is_among y xs = list_any (same_path y) xs

-- a page of a space, by its number
abbrev pub is_given : Path → ℕ → List (Path × ℕ) → Bool
is_given q n given = list_any (λ p. same_path q p.0 && n == p.1) given

-- the root, what is made of the rest, what of that has its record, and the pages that are given
abbrev pub built_at : World → List Path → List Path → Path → Option Body
built_at c made set [] = Some (Space 0 None)
built_at c made set (k ∷ q) =
    if is_among (k ∷ q) made then option_map (λ b. if is_among (k ∷ q) set then recorded b else blank b) (c.body (k ∷ q)) else None

abbrev pub building : World → List Path → List Path → List (Path × ℕ) → World
building c made set given = record {
  body = built_at c made set;
  page = λ q n. if is_given q n given then c.page q n else None;
  next = 0;
}

-- ---- pointers

abbrev pub bound : (ℕ → ℕ) → Mask → Path → Body → Body
bound bind m y b = through (rebinding bind) y (shown m b)

-- all that is to stand, those that are done with one mask and the others with another
abbrev pub leading : (ℕ → ℕ) → World → Mask → Mask → List Path → World
leading bind c new old done = record {
  body = λ y. option_map (λ b. if is_among y done then bound bind new y b else bound bind old y b) (c.body y);
  page = c.page;
  next = 0;
}
