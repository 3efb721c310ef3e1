-- What the code's walk and its search stand for.
use Rattle.std.specs.Prelude.{◌≡◌, ℕ, zero, suc, ◌<◌, List, [], ◌∷◌, map, drop, reverse, slice_index, slice_get, vec_len, vec_capacity, Bool, true, false}
use Rattle.std.specs.Prelude.{Option, Some, None}
use Rattle.fk_model.specs.declared.limits.TheConstants.{OWN_SPACE}
use Rattle.fk_model.specs.Places.{Path}
use Rattle.laws_checkpoint.specs.Foreign.{PLACES, Task, place_of}
use Rattle.laws_checkpoint.specs.Foreign as seeks
use Rattle.laws_checkpoint.specs.Walk as walks
use Rattle.laws_checkpoint.specs.Walk.{Met}
use Rattle.laws_checkpoint.specs.Assembly.{met_task}
use Rattle.fk_checkpoint.specs.declared.seeking.met.Met.{Met as CodeMet}
use Rattle.fk_checkpoint.specs.Seeking.Fields.{fields_in}
use Rattle.fk_checkpoint.specs.declared.seeking.seek.Look.{Look}
use Rattle.fk_checkpoint.specs.declared.seeking.seek.Look.TheVariants as looks
use Rattle.fk_checkpoint.specs.declared.seeking.seek.Seek.{Seek}
use Rattle.fk_checkpoint.specs.declared.seeking.seek.Sought.{Sought}
use Rattle.fk_checkpoint.specs.declared.seeking.seek.Sought.TheVariants as sought
use Rattle.fk_checkpoint.specs.declared.seeking.walk.Step.{Step}
use Rattle.fk_checkpoint.specs.declared.seeking.walk.Step.TheVariants as steps
use Rattle.fk_checkpoint.specs.declared.seeking.walk.Walk.{Walk}
pub use Rattle.fk_model.specs.Outcomes.{answered}

-- ---- places: the slots from the root down, and the path from the object outwards

-- a place as a path
abbrev pub up : List ℕ → Path
up place = reverse place

-- the slot by which a descent goes on
abbrev pub way_at : ℕ → List ℕ → ℕ → ℕ
way_at slot place zero = slot
way_at slot place (suc n) = slice_index place n

-- it begins in the nester's own space
abbrev pub from_at : ℕ → ℕ
from_at zero = OWN_SPACE
from_at (suc n) = PLACES

-- ---- the walk

abbrev pub met_of : CodeMet → Met
met_of m = record { path = m.slot ∷ up m.place; kind = m.kind }

-- the objects that were met
abbrev pub mets_of : List CodeMet → List Met
mets_of mets = map met_of mets

abbrev pub step_of : ℕ → List ℕ → List CodeMet → Step → walks.State
step_of slot path mets (steps.Down gone from) = walks.Down (from_at gone) (way_at slot path gone ∷ drop gone path) (up path) from (mets_of mets)
step_of slot path mets (steps.Searches from) = walks.Searches (up path) from (mets_of mets)

-- how far a walk has come
abbrev pub walk_of : ℕ → Walk → walks.State
walk_of slot w = step_of slot w.path.items w.mets.items w.step

-- it goes on, or is over
abbrev pub walked : Bool → ℕ → Walk → walks.State
walked true slot w = walks.Over (mets_of w.mets.items)
walked false slot w = walk_of slot w

-- room for an object
pub record HasRoomAt (w : Walk) : Type 0 where
  pub spare : w.spare ≡ Some w.path.items
  pub path : vec_len w.path < vec_capacity w.path
  pub mets : vec_len w.mets < vec_capacity w.mets

abbrev pub HasRoomFor : Step → Walk → Type 0
HasRoomFor (steps.Down gone from) w = Unit {0}
HasRoomFor (steps.Searches from) w = HasRoomAt w

-- there is room for what one answer brings
abbrev pub HasRoom : Walk → Type 0
HasRoom w = HasRoomFor w.step w

-- ---- the search

-- the root comes first, and then those that were met
abbrev pub met_at : List CodeMet → ℕ → Option CodeMet
met_at mets zero = None
met_at mets (suc n) = slice_get mets n

-- what is looked at of an object that was met; of the root nothing is
abbrev pub task_for : Option CodeMet → Task
task_for None = record { path = []; fields = []; strict = false }
task_for (Some m) = met_task (met_of m)

abbrev pub place_for : Option CodeMet → List ℕ
place_for None = []
place_for (Some m) = m.place

abbrev pub task_at : List CodeMet → ℕ → Task
task_at mets at = task_for (met_at mets at)

abbrev pub tasks_behind : List CodeMet → ℕ → List Task
tasks_behind mets at = map met_task (mets_of (drop at mets))

abbrev pub look_of : ℕ → List ℕ → Task → List Task → Look → seeks.State
look_of slot place t ts (looks.Down gone) = seeks.Down (from_at gone) (way_at slot place gone ∷ drop gone place) t ts
look_of slot place t ts (looks.Reads fields) = seeks.Fields (fields_in fields) t ts
look_of slot place t ts (looks.Inside field fields) = seeks.Inside field (fields_in fields) t ts
look_of slot place t ts (looks.Beside field fields) = seeks.Beside field (fields_in fields) t ts

-- how far a search has come
abbrev pub seek_of : ℕ → List CodeMet → Seek → seeks.State
seek_of slot mets s = look_of slot (place_for (met_at mets s.at)) (task_at mets s.at) (tasks_behind mets s.at) s.look

-- what comes of a search by an answer
abbrev pub sought_of : ℕ → List CodeMet → ℕ → Sought → seeks.State
sought_of slot mets at (sought.Goes s) = seek_of slot mets s
sought_of slot mets at sought.Closed = seeks.Over None
sought_of slot mets at (sought.Open field) = seeks.Over (Some (place_of slot (task_at mets at) field))
