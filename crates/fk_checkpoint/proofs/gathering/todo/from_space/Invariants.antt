use Rattle.std.proofs.Common.{◌≡◌, ℕ, List, drop}
use Rattle.fk_model.specs.Places.{Ptr}
use Rattle.laws_checkpoint.specs.Assembly.{gathered_tasks}
use Rattle.laws_checkpoint.specs.Gather as gathers
use Rattle.fk_checkpoint.specs.Gathering.Gathering.{contents_of}
use Rattle.fk_checkpoint.proofs.gathering.todo.from_space.Given as goal

-- the spaces looked at so far have no objects with pointers
abbrev pub invariant-loop-space : goal.invariant-loop-space
invariant-loop-space l = (slot : ℕ) (got : List Ptr) →
    gathers.begin slot (gathered_tasks (contents_of (drop l.first l.contents))) got
    ≡ gathers.begin slot (gathered_tasks (contents_of (drop l.space l.contents))) got
