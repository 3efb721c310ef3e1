-- The objects whose pointers are asked for.
use Rattle.std.specs.Prelude.{ℕ, suc, List, [], ◌∷◌, ◌++◌, map, take, drop, slice_get, false, Option, Some, None}
use Rattle.fk_model.specs.declared.limits.TheConstants.{OWN_SPACE}
use Rattle.fk_model.specs.Places.{Path, Ptr}
use Rattle.laws_checkpoint.specs.Foreign.{Task}
use Rattle.laws_checkpoint.specs.Gather as gathers
use Rattle.laws_checkpoint.specs.Assembly.{item_task, gathered_tasks}
use Rattle.fk_checkpoint.specs.Seeking.Seeking.{up}
use Rattle.fk_checkpoint.specs.declared.gathering.content.Item.{Item as CodeItem}
use Rattle.fk_checkpoint.specs.declared.gathering.content.Content.{Content as CodeContent}
use Rattle.fk_checkpoint.specs.declared.gathering.todo.Todo.{Todo}
use Rattle.fk_checkpoint.specs.Seeking.Fields.{fields_in}
use Rattle.fk_checkpoint.specs.Gathering.Gathering.{items_of, contents_of}

abbrev pub path_of : Option CodeContent → List ℕ
path_of None = []
path_of (Some c) = c.path

-- the place of a space that was gathered
abbrev pub path_at : List CodeContent → ℕ → List ℕ
path_at contents space = path_of (slice_get contents space)

abbrev pub objects_of : Option CodeContent → List CodeItem
objects_of None = []
objects_of (Some c) = c.objects

abbrev pub objects_at : List CodeContent → ℕ → List CodeItem
objects_at contents space = objects_of (slice_get contents space)

-- the objects of a space from a place on, and what comes behind them
abbrev pub tasks_in : Path → List CodeItem → ℕ → List Task → List Task
tasks_in q objects from ts = map (item_task q) (items_of (drop from objects)) ++ ts

abbrev pub later_spaces : List CodeContent → ℕ → List Task
later_spaces contents space = gathered_tasks (contents_of (drop (suc space) contents))

-- whose pointers are left, from an object of a space on
abbrev pub behind : List CodeContent → ℕ → ℕ → List Task
behind contents space next = tasks_in (up (path_at contents space)) (objects_at contents space) next (later_spaces contents space)

abbrev pub place_of : List CodeContent → Todo → List ℕ
place_of contents todo = take todo.deep (path_at contents todo.space)

abbrev pub task_of : List CodeContent → Todo → Task
task_of contents todo = record { path = todo.slot ∷ up (place_of contents todo); fields = fields_in todo.fields; strict = false }

-- at the beginning of an object, or behind the last one
abbrev pub found : ℕ → List CodeContent → List Ptr → Option Todo → gathers.State
found slot contents got None = gathers.Over got
found slot contents got (Some todo) = gathers.Down OWN_SPACE (slot ∷ place_of contents todo) (task_of contents todo) (behind contents todo.space todo.next) got
