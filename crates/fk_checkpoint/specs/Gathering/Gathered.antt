-- What the code's gatherer stands for.
use Rattle.std.specs.Prelude.{ℕ, ◌<◌, List, ◌∷◌, drop, vec_len, vec_capacity, Bool, true, false}
use Rattle.laws_checkpoint.specs.Foreign.{Task}
use Rattle.laws_checkpoint.specs.Gather as gathers
use Rattle.fk_checkpoint.specs.Seeking.Seeking.{up, way_at, from_at}
use Rattle.fk_checkpoint.specs.declared.gathering.content.Content.{Content as CodeContent}
use Rattle.fk_checkpoint.specs.declared.gathering.gather.Gather.{Gather}
use Rattle.fk_checkpoint.specs.declared.gathering.gather.Step.{Step}
use Rattle.fk_checkpoint.specs.declared.gathering.gather.Step.TheVariants as steps
use Rattle.fk_checkpoint.specs.Seeking.Fields.{fields_in}
use Rattle.fk_checkpoint.specs.Gathering.Gathering.{leads_of}
use Rattle.fk_checkpoint.specs.Gathering.Todos.{place_of, task_of, behind}

abbrev pub task_at : List CodeContent → Gather → Task
task_at contents g = task_of contents g.todo

abbrev pub tasks_behind : List CodeContent → Gather → List Task
tasks_behind contents g = behind contents g.todo.space g.todo.next

abbrev pub step_of : ℕ → List CodeContent → Gather → Step → gathers.State
step_of slot contents g (steps.Down gone) =
    gathers.Down (from_at gone) (way_at slot (place_of contents g.todo) gone ∷ drop gone (place_of contents g.todo)) (task_at contents g)
    (tasks_behind contents g) (leads_of g.leads.items)
step_of slot contents g (steps.Reads field fields) =
    gathers.Fields field (fields_in fields) (task_at contents g) (tasks_behind contents g) (leads_of g.leads.items)
step_of slot contents g (steps.Looks field fields) =
    gathers.Looks (up g.at.items) field (fields_in fields) (task_at contents g) (tasks_behind contents g) (leads_of g.leads.items)
step_of slot contents g (steps.Leads way field fields) =
    gathers.Leads way (up g.at.items) field (fields_in fields) (task_at contents g) (tasks_behind contents g) (leads_of g.leads.items)
step_of slot contents g (steps.Beside field fields) =
    gathers.Beside field (fields_in fields) (task_at contents g) (tasks_behind contents g) (leads_of g.leads.items)

-- what has been read of pointers so far
abbrev pub gather_of : ℕ → List CodeContent → Gather → gathers.State
gather_of slot contents g = step_of slot contents g g.step

-- it goes on, or is over
abbrev pub gathered : Bool → ℕ → List CodeContent → Gather → gathers.State
gathered true slot contents g = gathers.Over (leads_of g.leads.items)
gathered false slot contents g = gather_of slot contents g

-- there is room for one slot on the way, and for one pointer
pub record HasRoom (g : Gather) : Type 0 where
  pub at : vec_len g.at < vec_capacity g.at
  pub leads : vec_len g.leads < vec_capacity g.leads
