-- What the script of a subtree's rooms makes, by itself and over every interleaving.
use Rattle.std.specs.Prelude.{◌≡◌, ℕ, true, List, ◌∷◌, None}
use Rattle.fk_model.specs.Places.{Path}
use Rattle.fk_model.specs.World.{World}
use Rattle.fk_model.specs.ObjectRows.{is_scratch}
use Rattle.fk_model.specs.Runs.{Event}
use Rattle.fk_model.specs.Rebind.{rebound}
use Rattle.fk_model.specs.Cut.{cut}
use Rattle.laws_jobs.specs.Machines.{Interleaved}
use Rattle.laws_jobs.specs.Machines.Head.{Stops}
use Rattle.laws_restore.specs.Sites.Orders.{Site, Shows, does_all, MayAll, State, head, restorer}
use Rattle.laws_restore.specs.Sites.Orders.State.{Working}
use Rattle.laws_restore.specs.Sites.Orders.Pin.{NoPin}
use Rattle.laws_restore.specs.Sites.Orders.End.{Done, Lost}
use Rattle.laws_restore.specs.Sites.Begun.{first}
use Rattle.laws_restore.specs.Restore.Rooms.{Room}
use Rattle.laws_restore.specs.Restore.Script.{script}
use Rattle.laws_restore.specs.Restore.Roomed.{IsRoomed}

-- all of it stands with its ports bound, and no scratch is left
abbrev pub finished : (ℕ → ℕ) → World → Site
finished bind c = record { built = rebound bind c; spot = λ k. None; pin = NoPin }

-- the script may be given order by order to a new space, and ends so
abbrev pub ScriptMakes : Type 0
ScriptMakes = (slot : ℕ) (bind : ℕ → ℕ) (c : World) (rooms : List Room) → IsRoomed bind c rooms →
    MayAll slot (script slot bind rooms) first × (does_all (script slot bind rooms) first ≡ finished bind c)

-- whatever others do between its calls, a restorer that comes to its end has made the subtree, and left nothing else
abbrev pub RestoresPicture : Type 0
RestoresPicture = (nester : Path) (slot : ℕ) (bind : ℕ → ℕ) (c : World) (rooms : List Room) (es : List Event) (w v : World) (t : State)
    → IsRoomed bind c rooms → Shows nester slot first w →
    Interleaved (restorer slot) nester w (Working (script slot bind rooms)) es v t → head slot t ≡ Stops Done →
    (cut v nester slot ≡ rebound bind c) × ((k : ℕ) → is_scratch nester (k ∷ nester) ≡ true → v.body (k ∷ nester) ≡ None)

-- and it never gets an answer for which it has no end
abbrev pub NeverLost : Type 0
NeverLost = (nester : Path) (slot : ℕ) (bind : ℕ → ℕ) (c : World) (rooms : List Room) (es : List Event) (w v : World) (t : State) → IsRoomed bind c rooms
    → Shows nester slot first w →
    Interleaved (restorer slot) nester w (Working (script slot bind rooms)) es v t → head slot t ≡ Stops Lost → ⊥
