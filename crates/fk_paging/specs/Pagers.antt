-- What the code's pager stands for.
use Rattle.std.specs.Prelude.{◌≡◌, ◌<◌, ℕ, List, Option, Some, None, if◌then◌else◌, length, vec_len, vec_capacity}
use Rattle.std.specs.List.{slice_get}
use Rattle.fk_model.specs.declared.moves.Answer.{Answer}
use Rattle.fk_model.specs.declared.moves.Ask.{Ask}
use Rattle.fk_model.specs.declared.moves.Ask.TheVariants as asks
use Rattle.fk_model.specs.declared.statuses.status.TheConstants.{OK}
use Rattle.fk_model.specs.Objects.{and_then}
use Rattle.fk_model.specs.Places.{Path}
use Rattle.laws_filled.specs.Pager as pagers
use Rattle.laws_filled.specs.Pager.{Desk, State, stage_of, words_of, next}
use Rattle.fk_paging.specs.declared.pager.Page.{Page}
use Rattle.fk_paging.specs.declared.pager.Pager.{Pager}
use Rattle.fk_paging.specs.declared.pager.Phase.{Phase}
use Rattle.fk_paging.specs.declared.pager.Phase.TheVariants as phases
pub use Rattle.fk_model.specs.Outcomes.{answered}

abbrev pub page_words : Page → Option (List ℕ)
page_words page = if page.listed then Some page.words else None

-- the words that a pager keeps for a page, if it has taken that
abbrev pub backing_of : List Page → ℕ → Option (List ℕ)
backing_of pages g = and_then page_words (slice_get pages g)

abbrev pub phase_of : Phase → pagers.Phase
phase_of (phases.Seeking from) = pagers.Seeking from
phase_of (phases.Taking page) = pagers.Taking page
phase_of phases.Waiting = pagers.Waiting
phase_of (phases.Looking page) = pagers.Looking page
phase_of (phases.Evicting old page) = pagers.Evicting old page
phase_of (phases.Giving page) = pagers.Giving page
phase_of (phases.Ending page) = pagers.Ending page

-- what a pager has come to
abbrev pub state_of : Pager → State
state_of p = record { backing = backing_of p.pages.items; inside = p.inside.items; faults = p.faults; phase = phase_of p.phase }

-- at a nester, and a port there
abbrev pub desk_of : Path → ℕ → Pager → Desk
desk_of nester port p = record { nester = nester; slot = p.slot; port = port; set = p.set; room = p.room }

-- what it asks in a state
abbrev pub asked_by : Desk → State → Ask
asked_by d s = asks.Call (stage_of d s.phase) (words_of s s.phase)

-- in a phase it hears an answer, and is then as the machine says, wherever its nester and its port are
abbrev pub Hears : Pager → pagers.Phase → Answer → Pager → Type 0
Hears before phase a after =
    (nester : Path) (port : ℕ) → state_of after ≡ next (desk_of nester port before) (state_of before) phase a.status (answered a)

-- an answer that a pager may hear: a page that is taken is one of a space, and whole; and there is room for one that is given
abbrev pub MayHear : Pager → Phase → Answer → Type 0
MayHear p (phases.Taking page) a = (page < 256) × (a.status ≡ OK → length (answered a) ≡ 64)
MayHear p (phases.Evicting old page) a = (old < 256) × (a.status ≡ OK → length (answered a) ≡ 64)
MayHear p (phases.Giving page) a = vec_len p.inside < vec_capacity p.inside
MayHear p other a = Unit {0}

-- what a pager keeps from its beginning on: its slots, its room, and the room of its lists
pub record IsStill (a b : Pager) : Type 0 where
  pub slot : b.slot ≡ a.slot
  pub set : b.set ≡ a.set
  pub room : b.room ≡ a.room
  pub pages : length b.pages.items ≡ length a.pages.items
  pub inside : vec_capacity b.inside ≡ vec_capacity a.inside
