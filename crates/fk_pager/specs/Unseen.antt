-- A pager is hidden: what users and native servers do beside it they do in the filled world, in which every page of its list is home.
use Rattle.std.specs.Prelude.{◌≡◌, ℕ, ◌≤◌, true, false, List, length}
use Rattle.fk_model.specs.declared.limits.TheConstants.{LAST_USER_SLOT}
use Rattle.fk_model.specs.declared.moves.Move.{Move}
use Rattle.fk_model.specs.Valid.{IsValid}
use Rattle.fk_model.specs.World.{World}
use Rattle.laws_filled.specs.Filled.{filled}
use Rattle.laws_filled.specs.Pager as pagers
use Rattle.laws_filled.specs.Pager.{Desk, paging, is_opening, AreWithin, HasAll, IsClear, IsFirst}
use Rattle.fk_pager.specs.Desks.{HasDesk, desk_of_root}
use Rattle.fk_pager.specs.Runs.{Moment, IsRun, is_dark, struck, Scene, IsPlainRun}

-- a moment at which a pager begins: its subtree may be paged, nobody has a fault, and it has done nothing yet
pub record IsBeginning (slot port set : ℕ) (first : Moment) : Type 0 where
  pub desk : HasDesk first.world slot port set
  pub valid : IsValid first.world
  pub clear : IsClear first.world
  pub state : first.state ≡ pagers.first
  pub opened : first.opened ≡ 0

abbrev pub scene_of : Moment → Scene
scene_of at = record { world = at.world; services = at.services }

abbrev pub filled_scene : Desk → Moment → Scene
filled_scene d at = record { world = filled (paging d at.state) at.world; services = at.services }

pub record IsHidden (d : Desk) (first : Moment) (others : List Move) (at : Moment) : Type 0 where
  -- the moves of others, without those that raise a fault of the pager's, are a run of their own in the first world, and come to the filled one with the same
  -- servers
  pub run : IsPlainRun (scene_of first) others (filled_scene d at)
  -- from the opening on the pages of the list that are home are among those that are in, at most so many
  pub within : is_opening at.state.phase ≡ false → AreWithin d at.world at.state × (length at.state.inside ≤ d.room)

-- up to the first move that peeks
abbrev pub PagersAreHidden : Type 0
PagersAreHidden = (slot port set room : ℕ) (first : Moment) (moves : List Move) (at : Moment) → slot ≤ LAST_USER_SLOT → 1 ≤ room →
    IsBeginning slot port set first → (run : IsRun (desk_of_root slot port set room) first moves at) → is_dark run ≡ true →
    IsHidden (desk_of_root slot port set room) first (struck run) at

-- when the opening is done its list is the pages that were home at first, and none of them is home
abbrev pub OpeningsTakeAll : Type 0
OpeningsTakeAll = (slot port set room : ℕ) (first : Moment) (moves : List Move) (at : Moment) → slot ≤ LAST_USER_SLOT → 1 ≤ room →
    IsBeginning slot port set first → IsRun (desk_of_root slot port set room) first moves at → is_opening at.state.phase ≡ false →
    length moves ≡ at.opened → HasAll (desk_of_root slot port set room) first.world at.world at.state

-- where a subtree may be paged, and nobody has a fault, its pager may begin
abbrev pub DesksAreFirst : Type 0
DesksAreFirst = (slot port set room : ℕ) (w : World) → HasDesk w slot port set → IsValid w → IsClear w → IsFirst (desk_of_root slot port set room) w
