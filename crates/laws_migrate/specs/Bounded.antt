-- How many calls each porter makes, whatever comes between them and however it ends.
use Rattle.std.specs.Prelude.{ℕ, ◌+◌, ◌*◌, ◌≤◌, List}
use Rattle.fk_model.specs.World.{World}
use Rattle.fk_model.specs.Cut.{cut}
use Rattle.fk_image.specs.declared.image.image.Image.{Image}
use Rattle.laws_jobs.specs.Machines.{LiesWithin}
use Rattle.laws_checkpoint.specs.Bounded.{count_of}
use Rattle.laws_handover.specs.Packets.{Codec}
use Rattle.laws_migrate.specs.Migration.{top, Step, is_near_own, is_far_own, counted_from}
use Rattle.laws_migrate.specs.Laws.{Happens}

-- the subtree had so many bodies and pages at the hold, none deeper
abbrev pub NearIsBounded : Type 0 → Type 0
NearIsBounded P = (codec : Codec Image P) (slot : ℕ) (w v : World) (es : List (Step codec slot)) (h : World) (d : ℕ) → Happens codec slot w v es h →
    LiesWithin (cut h top slot) d → counted_from is_near_own 0 es ≤ 101 * ((count_of (cut h top slot) + 1) * (d + 1))

-- ended or not, the far porter makes at most 41 (n + 1) (d + 1) calls
abbrev pub FarIsBounded : Type 0 → Type 0
FarIsBounded P = (codec : Codec Image P) (slot : ℕ) (w v : World) (es : List (Step codec slot)) (h : World) (d : ℕ) → Happens codec slot w v es h →
    LiesWithin (cut h top slot) d → counted_from is_far_own 0 es ≤ 41 * ((count_of (cut h top slot) + 1) * (d + 1))

-- both together
abbrev pub BothAreBounded : Type 0 → Type 0
BothAreBounded P = (codec : Codec Image P) (slot : ℕ) (w v : World) (es : List (Step codec slot)) (h : World) (d : ℕ) → Happens codec slot w v es h →
    LiesWithin (cut h top slot) d →
    counted_from is_near_own 0 es + counted_from is_far_own 0 es ≤ 142 * ((count_of (cut h top slot) + 1) * (d + 1))
