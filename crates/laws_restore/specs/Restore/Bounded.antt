-- How long the script of a subtree is, and how many calls its restore makes: for each body and page so many as the subtree is deep,
-- times a constant.
use Rattle.std.specs.Prelude.{ℕ, zero, suc, ◌+◌, ◌*◌, ◌≤◌, List, [], ◌∷◌, length}
use Rattle.fk_model.specs.Places.{Path}
use Rattle.fk_model.specs.World.{World}
use Rattle.laws_jobs.specs.Machines.{AtWork, calls_made, LiesWithin}
use Rattle.laws_restore.specs.Restore.Rooms.{Room}
use Rattle.laws_restore.specs.Restore.Script.{script}
use Rattle.laws_restore.specs.Restore.Roomed.{IsRoomed}
use Rattle.laws_restore.specs.Restore.Restore.{State, restore}
use Rattle.laws_restore.specs.Restore.Restore.State.{Makes}

-- bodies and pages of the picture: spaces, what stands in each, and its pages
abbrev pub count_of : List Room → ℕ
count_of [] = zero
count_of (r ∷ rs) = suc (length r.items + length r.sheets) + count_of rs

-- the script of n bodies and pages, none deeper than d, has at most 30 (n + 1) (d + 1) orders
abbrev pub ScriptIsBounded : Type 0
ScriptIsBounded = (slot : ℕ) (bind : ℕ → ℕ) (c : World) (rooms : List Room) (d : ℕ) → IsRoomed bind c rooms → LiesWithin c d
    → length (script slot bind rooms) ≤ 30 * ((count_of rooms + 1) * (d + 1))

-- in every run, however it ends
abbrev pub RestoreIsBounded : Type 0
RestoreIsBounded = (slot : ℕ) (bind : ℕ → ℕ) (c : World) (rooms : List Room) (d : ℕ) (w v : World) (nester : Path) (t : State) → IsRoomed bind c rooms
    → LiesWithin c d →
    (work : AtWork (restore slot bind rooms) nester w Makes v t) → calls_made work ≤ 40 * ((count_of rooms + 1) * (d + 1))
