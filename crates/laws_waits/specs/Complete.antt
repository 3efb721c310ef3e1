-- Complete: while no space is held, every thread that isn't ready has one of the reasons, and not the last.
use Rattle.std.specs.Prelude.{◌≡◌, ℕ, ◌≤◌, Bool, true, false, List, [], ◌∷◌, Option, Some, None}
use Rattle.std.specs.List.{list_any}
use Rattle.fk_model.specs.declared.moves.Ask.TheVariants as asks
use Rattle.fk_model.specs.Places.{Path, Ptr}
use Rattle.fk_model.specs.Places.Ptr.{Null, Dead, At, Out, Outside, Far}
use Rattle.fk_model.specs.Objects.{Thread}
use Rattle.fk_model.specs.Objects.Mode.{Calling}
use Rattle.fk_model.specs.World.{World}
use Rattle.fk_model.specs.Searches.{thread_at, depth}
use Rattle.fk_model.specs.Holds.{decider}
use Rattle.fk_model.specs.Freezing.{body_pointers}
use Rattle.fk_model.specs.Moves.{IsReady}
use Rattle.fk_model.specs.Valid.{IsValid}
use Rattle.laws_waits.specs.Stuck.{Reason, IsStuck}
use Rattle.laws_waits.specs.Stuck.Reason.{Barred, Resting}

abbrev pub is_outer : Ptr → Bool
is_outer (Out slot) = true
is_outer Outside = true
is_outer Far = true
is_outer Null = false
is_outer Dead = false
is_outer (At x) = false

-- the world is no subtree that is seen alone: no pointer leads out of it
abbrev pub IsWholeWorld : World → Type 0
IsWholeWorld w = (x : Path) → list_any is_outer (body_pointers (w.body x)) ≡ false

abbrev pub is_barred : Reason → Bool
is_barred Barred = true
is_barred Resting = false
is_barred other = false

pub record HasReason (w : World) (x : Path) : Type 0 where
  pub reason : Reason
  pub stuck : IsStuck w x reason
  pub named : is_barred reason ≡ false

-- while no space is held, every thread that isn't ready has a reason, and it isn't the last
abbrev pub UnheldThreadsHaveReasons : Type 0
UnheldThreadsHaveReasons = (w : World) (k : ℕ) (s : Path) (t : Thread) → IsValid w → w.next ≤ depth → IsWholeWorld w → ((q : Path) → decider w q ≡ None) →
    thread_at w (k ∷ s) ≡ Some t → ((rest : List ℕ) → t.mode ≡ Calling [] rest → ⊥) → ((pick : Option Path) → IsReady w (k ∷ s) pick asks.Run → ⊥) →
    HasReason w (k ∷ s)
