-- A stranger beside a subtree: moves there, and statements that are nearly integrity and nearly noninterference.
use Rattle.std.specs.Prelude.{◌≡◌, ℕ, true, false, List, [], ◌∷◌, replicate, Option, None}
use Rattle.fk_model.specs.declared.stage.Stage.TheVariants.{PageTake}
use Rattle.fk_model.specs.Places.{Path, is_within}
use Rattle.fk_model.specs.Places.Ptr.{Null, At, Out}
use Rattle.fk_model.specs.Objects.{Body}
use Rattle.fk_model.specs.Objects.Body.{Mapping, Region, Space}
use Rattle.fk_model.specs.World.{World}
use Rattle.fk_model.specs.Moves.{IsReady}
use Rattle.fk_model.specs.Runs.{Event, after}
use Rattle.fk_model.specs.Valid.{is_fit}
use Rattle.fk_model.specs.Whole.{IsWhole}
use Rattle.fk_model.specs.Cut.{cut, IsPlain}
use Rattle.fk_model.specs.Further.{Onward, Told, IsFurther}
use Rattle.fk_model.specs.Further.Onward.{Own}
use Rattle.fk_model.specs.Further.Told.{ToldWords}
use Rattle.laws_subtrees.specs.Further.Strangers.{HasNoWindow}
use Rattle.laws_isolation.specs.Integrity.{IsStrangersMove}
use Rattle.examples_moves.specs.Worked.{world_of, numbers_from, page_with, stores_at_r2, running, accepts, goes, makes}
use Rattle.examples_premises.specs.Premises.{premises, nesters_porter, within, objects_of, pages_of, strangers_port, strangers_client, with_stranger}
use Rattle.examples_subtrees.specs.Further.{further_worlds}

-- a native server in another space accepts its client
abbrev pub accepts_there : Event
accepts_there = accepts strangers_port strangers_client

-- the nester's porter takes page 2 of the subtree
abbrev pub takes_page : Event
takes_page = makes nesters_porter (PageTake 1 2 0) (replicate 64 0)

-- integrity with "outside" for "a stranger"
abbrev pub OutsidersLeaveTheCut : Type 0
OutsidersLeaveTheCut = (w : World) (nester : Path) (slot : ℕ) (e : Event) → IsWhole w → IsPlain w nester slot → HasNoWindow w nester slot →
    is_fit w e.mover e.ask ≡ true → IsReady w e.mover e.pick e.ask → is_within (slot ∷ nester) e.mover ≡ false →
    cut (after w e) nester slot ≡ cut w nester slot

-- the thread of the space in slot 2 stores 7 at the begin of page 10, which leads by a mapping to page 20 of the space in slot 3, and that one's
-- by a mapping to page 2 of the subtree
abbrev pub storer : Path
storer = 0 ∷ 2 ∷ []

abbrev pub window : Path → ℕ → Path → Path × Body
window x first region = (x, Mapping (record { first = first; count = 1; offset = 0; write = true; region = At region }))

abbrev pub windows : List (Path × Body)
windows =
    (2 ∷ [], Space 3 None) ∷ (3 ∷ [], Space 4 None) ∷ (storer, running 0 (0 ∷ 7 ∷ 640 ∷ [])) ∷ window (6 ∷ 2 ∷ []) 10 (5 ∷ 3 ∷ [])
    ∷ (5 ∷ 3 ∷ [], Region (record { first = 20; count = 1; write = true; keeper = Null })) ∷ window (6 ∷ 3 ∷ []) 20 (within 7) ∷ objects_of None

unfoldable pub with_windows : World
with_windows = world_of windows (page_with (2 ∷ []) 0 stores_at_r2 ∷ pages_of)

-- integrity with mappings of others
abbrev pub StrangersLeaveTheCutThroughWindows : Type 0
StrangersLeaveTheCutThroughWindows = (w : World) (nester : Path) (slot : ℕ) (e : Event) → IsWhole w → IsPlain w nester slot →
    is_fit w e.mover e.ask ≡ true → IsReady w e.mover e.pick e.ask → IsStrangersMove w nester slot e →
    cut (after w e) nester slot ≡ cut w nester slot

-- the thread in slot 0 of the subtree sends, and port 9 of the nester takes 64 words of it
abbrev pub sends_block : Event
sends_block = goes (within 0)

abbrev pub block : Onward
block = Own (0 ∷ []) None 64

abbrev pub TellsBlock : Type 0
TellsBlock = (told : List Told) (later : World) → IsFurther (cut with_stranger [] 1) (block ∷ []) told later →
    told ≡ ToldWords (0 ∷ []) (Out 9) (numbers_from 1128 64) ∷ []

-- noninterference without what the outside takes: what is told is a function of the cut and of who moves inside
abbrev pub TakersDontMatter : Type 0
TakersDontMatter = (c later also : World) (x : Path) (pick : Option Path) (taken more : ℕ) (told heard : List Told) →
    IsFurther c (Own x pick taken ∷ []) told later → IsFurther c (Own x pick more ∷ []) heard also → told ≡ heard

-- ---- to compute in these worlds is to unfold these
unfoldable pub isolated_worlds : Unit {0}
unfolding premises further_worlds with_windows
isolated_worlds = tt
