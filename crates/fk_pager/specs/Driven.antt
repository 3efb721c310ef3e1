-- What a driver in code shows: the moment at which its host and its pager are, and what it keeps.
use Rattle.std.specs.Prelude.{◌≡◌, ◌<◌, ◌≤◌, ℕ, Bool, true, false, length}
use Rattle.fk_model.specs.declared.moves.Ask.{Ask}
use Rattle.fk_host.specs.Kernels.{world_of as world}
use Rattle.laws_filled.specs.Pager.{Desk, Phase, is_opening, hears}
use Rattle.laws_filled.specs.Pager.Phase.{Waiting}
use Rattle.fk_model.specs.declared.moves.Said as says_of
use Rattle.fk_model.specs.declared.moves.Said.TheVariants as says
use Rattle.fk_model.specs.Places.{Path}
use Rattle.fk_store.specs.Store.Moves.{said_by}
use Rattle.fk_paging.specs.declared.pager.Pager.{Pager}
use Rattle.fk_paging.specs.Pagers.{answered, desk_of, state_of}
use Rattle.fk_pager.specs.declared.driver.PagedRun as driver
use Rattle.fk_pager.specs.declared.driver.Turn.{Turn}
use Rattle.fk_pager.specs.declared.driver.Turn.TheVariants as turns
use Rattle.fk_pager.specs.Desks.{root}
use Rattle.fk_pager.specs.Runs.{Moment, IsOthersMove, IsPagersMove, GoesOn}
use Rattle.fk_pager.specs.Sane.{IsSane, IsGoodAnswer}
use Rattle.laws_migrate.specs.Porters.{HasPorter}

-- a driven host as the laws of pagers see it
abbrev pub moment : {S : Type 0} → driver.PagedRun S → Moment
moment r = record { world = world r.host.kernel; services = r.host.services.list; state = state_of r.pager; opened = r.opened }

-- where its pager is at work: at a slot of the root, by this port
abbrev pub desk : {S : Type 0} → driver.PagedRun S → Desk
desk r = desk_of root r.port r.pager

-- its pager's numbers are in range, its opening has made no more moves than there are, and while it opens its porter stands
pub record IsDriven {S : Type 0} (r : driver.PagedRun S) : Type 0 where
  pub sane : IsSane r.pager
  pub few : r.opened ≤ length r.history.items
  pub porter : is_opening (state_of r.pager).phase ≡ true → HasPorter (world r.host.kernel)

-- it waits for a fault
abbrev pub is_waiting : Phase → Bool
is_waiting Waiting = true
is_waiting other = false

-- a pager hears what a move tells, wherever its nester and its port are, and spaces are
abbrev pub Heard : Pager → says_of.Said → Pager → Type 0
Heard before said after = (nester : Path) (port : ℕ) (paths : ℕ → Path) →
    state_of after ≡ hears (desk_of nester port before) (state_of before) (said_by paths said)

-- and counts on it
abbrev pub HearsWell : Pager → says_of.Said → Type 0
HearsWell p (says.Answer answer) = IsGoodAnswer (state_of p).phase answer.status (answered answer)
HearsWell p other = Unit {0}

-- a turn is ready
abbrev pub IsTurnReady : Desk → Moment → Turn → Type 0
IsTurnReady d at (turns.Pager m) = IsPagersMove d at m
IsTurnReady d at (turns.Other m) = (ask : Ask) × IsOthersMove at m ask

-- the same run goes on, at the same desk
pub record Drives {S : Type 0} (old new : driver.PagedRun S) : Type 0 where
  pub same : desk new ≡ desk old
  pub run : GoesOn (desk old) old.history.items (moment old) new.history.items (moment new)

-- moves were made, at least one and no more than there are to be in all; or none
abbrev pub HasGrown : Bool → (most before after : ℕ) → Type 0
HasGrown true most before after = (before < after) × (after ≤ most)
HasGrown false most before after = after ≡ before
