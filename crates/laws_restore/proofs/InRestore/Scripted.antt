-- What the script makes, over every interleaving.
use Rattle.std.proofs.Common.{◌≡◌, ℕ, List, None, refl, subst, ◌∙◌}
use Rattle.fk_model.specs.Places.{Path}
use Rattle.fk_model.specs.World.{World}
use Rattle.fk_model.specs.Runs.{Event}
use Rattle.laws_jobs.specs.Machines.{Interleaved}
use Rattle.laws_jobs.specs.Machines.Head.{Stops}
use Rattle.laws_restore.specs.Sites.Orders.{Site, Shows, State, head, restorer, does_all}
use Rattle.laws_restore.specs.Sites.Orders.State.{Working}
use Rattle.laws_restore.specs.Sites.Orders.End.{Done}
use Rattle.laws_restore.specs.Sites.Begun.{first}
use Rattle.laws_restore.proofs.InSites.Ended.{built_is_cut}
use Rattle.laws_restore.proofs.InSites.Restored.{restores_built, never_lost}
use Rattle.laws_restore.specs.Sites.Owed.{SuitsAll}
use Rattle.laws_restore.specs.Restore.Rooms.{Room}
use Rattle.laws_restore.specs.Restore.Script.{script}
use Rattle.laws_restore.specs.Restore.Roomed.{IsRoomed}
use Rattle.laws_restore.specs.Restore.Laws.{finished, ScriptMakes, RestoresPicture, NeverLost}
use Rattle.laws_restore.proofs.InRestore.Ways.{Grouped, SafeAll}
use Rattle.laws_restore.proofs.InRestore.Asked.{IsAsked}
use Rattle.laws_restore.proofs.InRestore.Whole.{script_ends}

module _ (slot : ℕ) (bind : ℕ → ℕ) (c : World) (rooms : List Room) (its : IsRoomed bind c rooms) where
  makes : does_all (script slot bind rooms) first ≡ finished bind c
  makes =
      let end = script_ends bind c rooms its slot in
      end.runs.end ∙ same end.site end.built end.spots end.pin
    where
      same : (g : Site) → g.built ≡ (finished bind c).built → ((k : ℕ) → g.spot k ≡ None) → g.pin ≡ (finished bind c).pin → g ≡ finished bind c
      same g built spots pin = λ i. record { built = built i; spot = λ k. spots k i; pin = pin i }

pub script_makes : ScriptMakes
script_makes slot bind c rooms its = ((script_ends bind c rooms its slot).runs.may, makes slot bind c rooms its)

pub script_suits : (slot : ℕ) (bind : ℕ → ℕ) (c : World) (rooms : List Room) → IsRoomed bind c rooms → SuitsAll (script slot bind rooms) first
script_suits slot bind c rooms its = (script_ends bind c rooms its slot).runs.suits

pub script_safe : (slot : ℕ) (bind : ℕ → ℕ) (c : World) (rooms : List Room) → IsRoomed bind c rooms
    → SafeAll (IsAsked bind c rooms) (script slot bind rooms) first
script_safe slot bind c rooms its = (script_ends bind c rooms its slot).runs.safe

pub script_grouped : (slot : ℕ) (bind : ℕ → ℕ) (c : World) (rooms : List Room) → IsRoomed bind c rooms → Grouped (script slot bind rooms)
script_grouped slot bind c rooms its = (script_ends bind c rooms its slot).runs.grouped

pub restored_shows : (nester : Path) (slot : ℕ) (bind : ℕ → ℕ) (c : World) (rooms : List Room) (es : List Event) (w v : World) (t : State)
    → IsRoomed bind c rooms → Shows nester slot first w →
    Interleaved (restorer slot) nester w (Working (script slot bind rooms)) es v t → head slot t ≡ Stops Done → Shows nester slot (finished bind c) v
restored_shows nester slot bind c rooms es w v t its shows run over =
    let both = script_makes slot bind c rooms its in
    subst (λ (g : Site). Shows nester slot g v) both.1 (restores_built nester slot (script slot bind rooms) first es w v t shows both.0 run over)

pub restores_picture : RestoresPicture
restores_picture nester slot bind c rooms es w v t its shows run over =
    let end = restored_shows nester slot bind c rooms es w v t its shows run over in
    (built_is_cut nester slot (finished bind c) v end refl, λ k scratch. end.spots k scratch)

pub no_lost : NeverLost
no_lost nester slot bind c rooms es w v t its shows = never_lost nester slot (script slot bind rooms) first es w v t shows
    (script_makes slot bind c rooms its).0
