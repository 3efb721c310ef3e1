-- A job that never ends: whatever it is told, it asks the same again.
use Rattle.std.specs.Prelude.{ℕ, ◌≤◌}
use Rattle.fk_model.specs.declared.limits.TheConstants.{OWN_SPACE}
use Rattle.fk_model.specs.declared.stage.Stage.TheVariants.{SpaceRelease}
use Rattle.fk_model.specs.Places.{Path}
use Rattle.fk_model.specs.World.{World}
use Rattle.laws_jobs.specs.Machines.{no_words, Machine, AtWork, calls_made}
use Rattle.laws_jobs.specs.Machines.Head.{Asks}

-- it releases the subtree in slot 1, which it doesn't hold
abbrev pub asks_again : Machine ℕ ℕ
asks_again = record { head = λ s. Asks (SpaceRelease OWN_SPACE 1) no_words; next = λ s status words. s }

-- at work from a world on, ended or not, a job makes no more calls than this
abbrev pub CallsAtMost : {S A : Type 0} → Machine S A → Path → World → S → ℕ → Type 0
CallsAtMost {S = S} m nester w s most = (v : World) (t : S) (work : AtWork m nester w s v t) → calls_made work ≤ most
