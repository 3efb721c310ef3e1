use Rattle.std.proofs.Common.{◌≡◌, ℕ, List}
use Rattle.fk_model.specs.Places.{Ptr}
use Rattle.laws_checkpoint.specs.Gather as gathers
use Rattle.fk_checkpoint.specs.Gathering.Todos.{behind}
use Rattle.fk_checkpoint.proofs.gathering.todo.in_space.Given as goal

-- what is behind the objects looked at so far is still to come
abbrev pub invariant-loop-place : goal.invariant-loop-place
invariant-loop-place l = (slot : ℕ) (got : List Ptr) → gathers.begin slot (behind l.contents l.space l.next) got
    ≡ gathers.begin slot (behind l.contents l.space l.place) got
