-- What a restorer has built, whatever others do between its calls.
use Rattle.std.specs.Prelude.{◌≡◌, ℕ, ◌≤◌, List, ◌∷◌, ◌++◌, length, Ok}
use Rattle.fk_model.specs.Places.{Path}
use Rattle.fk_model.specs.World.{World}
use Rattle.fk_model.specs.Runs.{Event, after}
use Rattle.fk_model.specs.Cut.{cut}
use Rattle.fk_model.specs.Readers.{space_argument}
use Rattle.laws_moves.specs.Frozen.Holding.{IsUsersMove}
use Rattle.laws_jobs.specs.Machines.{Interleaved, own_moves, porter}
use Rattle.laws_jobs.specs.Machines.Head.{Stops}
use Rattle.laws_restore.specs.Sites.Orders.{Site, Shows, IsPlace, Order, does_all, MayAll, State, head, restorer}
use Rattle.laws_restore.specs.Sites.Orders.State.{Working}
use Rattle.laws_restore.specs.Sites.Orders.Pin.{NoPin}
use Rattle.laws_restore.specs.Sites.Orders.End.{Done, Lost}

-- whatever others do between its calls, a restorer that comes to its end has built what its orders say
abbrev pub RestoresBuilt : Type 0
RestoresBuilt = (nester : Path) (slot : ℕ) (os : List Order) (g : Site) (es : List Event) (w v : World) (t : State) → Shows nester slot g w → MayAll slot os g →
    Interleaved (restorer slot) nester w (Working os) es v t → head slot t ≡ Stops Done → Shows nester slot (does_all os g) v

-- a restorer never gets an answer for which it has no end
abbrev pub NeverLost : Type 0
NeverLost = (nester : Path) (slot : ℕ) (os : List Order) (g : Site) (es : List Event) (w v : World) (t : State) → Shows nester slot g w → MayAll slot os g →
    Interleaved (restorer slot) nester w (Working os) es v t → head slot t ≡ Stops Lost → ⊥

-- a restorer makes no more calls than it has orders
abbrev pub CallsBounded : Type 0
CallsBounded = (nester : Path) (slot : ℕ) (os : List Order) (g : Site) (es : List Event) (w v : World) (t : State) → Shows nester slot g w → MayAll slot os g →
    (run : Interleaved (restorer slot) nester w (Working os) es v t) → own_moves run ≤ length os

-- others keep the site at which a restorer stands
abbrev pub OthersKeepSites : Type 0
OthersKeepSites = (nester : Path) (slot : ℕ) (g : Site) (w : World) (e : Event) → Shows nester slot g w → IsUsersMove nester w e
    → Shows nester slot g (after w e)

-- a place that a site names is named so in the world
abbrev pub PlacesAreNamed : Type 0
PlacesAreNamed = (nester : Path) (slot : ℕ) (g : Site) (w : World) → Shows nester slot g w → (words : List ℕ) (s : ℕ) (q : Path) → IsPlace g slot s q
    → space_argument w (porter nester words) s ≡ Ok (q ++ slot ∷ nester)

-- without a pin, what a site has built is the subtree seen alone
abbrev pub BuiltIsCut : Type 0
BuiltIsCut = (nester : Path) (slot : ℕ) (g : Site) (w : World) → Shows nester slot g w → g.pin ≡ NoPin → cut w nester slot ≡ g.built
