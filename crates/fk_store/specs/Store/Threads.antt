-- Threads: what a call on a thread finds at a path.
use Rattle.std.specs.Prelude.{Bool, List, [], Option, Some, None}
use Rattle.fk_model.specs.declared.stage.Stage.{Stage}
use Rattle.fk_model.specs.Places.{Path, parent}
use Rattle.fk_model.specs.Objects.{Mode, Thread, holds}
use Rattle.fk_model.specs.Objects.Mode.{Calling}
use Rattle.fk_model.specs.World.{World}
use Rattle.fk_model.specs.Holds.{is_free}
use Rattle.fk_model.specs.Searches.{thread_at}

-- the stages that a thread has before it
abbrev pub todo_of_mode : Mode → List Stage
todo_of_mode (Calling todo rest) = todo
todo_of_mode other = []

abbrev pub todo_of_thread : Option Thread → List Stage
todo_of_thread None = []
todo_of_thread (Some t) = todo_of_mode t.mode

-- the stages that the thread at a path has before it; none where it is in no call
unfoldable pub todo_at : World → Path → List Stage
todo_at w x = todo_of_thread (thread_at w x)

-- a free user thread is at the path
unfoldable pub is_free_at : World → Path → Bool
is_free_at w x = holds (is_free w (parent x)) (thread_at w x)
