-- A pair of sides as the code has it, and the runs that it may be of.
use Rattle.std.specs.Prelude.{◌≡◌, ℕ, List, ◌∷◌, ◌++◌, [], Some}
use Rattle.fk_model.specs.declared.moves.Rule.{Rule}
use Rattle.fk_model.specs.World.{World}
use Rattle.fk_packets.specs.declared.events.Event.{Event as PairEvent}
use Rattle.fk_served.specs.Served.{Services, AllFit}
use Rattle.fk_sides.specs.declared.far.Makes.{Makes}
use Rattle.fk_sides.specs.Fars.{IsFar}
use Rattle.fk_sides.specs.Sides.{FarSide}
use Rattle.laws_checkpoint.specs.Checkpoint.State.{Holds}
use Rattle.laws_handover.specs.NearSide.Near.{Saves as AtWork}
use Rattle.laws_handover.specs.FarSide.Far.{Listens}
use Rattle.laws_migrate.specs.Images.{image_codec}
use Rattle.laws_migrate.specs.Migration.{MayMigrate, IsReadyIn}
use Rattle.fk_migrate.specs.Turns.{NearPart, FarPart}
use Rattle.fk_migrate.specs.Runs.{Run, Step, near_part, far_part, step_of, next_run, IsRun, IsReadyEvent, first_run}
use Rattle.fk_migrate.specs.Parts.{near_seen, far_seen}
use Rattle.fk_migrate.specs.Places.{no_places, counted, places_of}
use Rattle.fk_migrate.specs.declared.places.Places.{Places}
use Rattle.fk_migrate.specs.declared.pair.Pair as pairs

-- both kernels with their sides, and the events that were taken
pub record Shown : Type 0 where
  pub slot : ℕ
  pub far_slot : ℕ
  pub near : NearPart
  pub far : FarPart
  pub makes : Makes
  pub events : List PairEvent
  pub places : Places

-- a pair as its contracts see it: its slots, and what either side has come to
abbrev pub shown : {S : Type 0} → pairs.Pair S → Shown
shown p = record {
  slot = p.sender.near.slot;
  far_slot = p.receiver.far.slot;
  near = near_seen p.sender;
  far = far_seen p.receiver;
  makes = p.receiver.far.makes;
  events = p.events.items;
  places = p.places;
}

-- ---- the run that it is

-- the two kernels of which it was made
pub record Start : Type 0 where
  pub slot : ℕ
  pub near : World
  pub near_servers : Services
  pub far : World
  pub far_servers : Services
  pub may : MayMigrate slot near far

abbrev pub begun : Start → Run
begun from = first_run from.slot from.near from.near_servers from.far from.far_servers

-- it stands where a run has come to. Of the pieces that have come the far side knows what they show alone
pub record Stands (s : Shown) (r : Run) : Type 0 where
  pub near : s.near ≡ near_part r
  pub far : s.far ≡ far_part r
  pub far_side : IsFar s.makes r.pair.far

-- it is the run of its events from these kernels
pub record IsRunOf (s : Shown) (from : Start) : Type 0 where
  pub slot : s.slot ≡ from.slot
  pub far_slot : s.far_slot ≡ from.slot
  pub steps : List Step
  pub run : Run
  pub ran : IsRun from.slot (begun from) s.events steps run
  pub stands : Stands s run
  pub places : s.places ≡ places_of steps

-- of some kernels
pub record IsSomeRun (s : Shown) : Type 0 where
  pub from : Start
  pub its : IsRunOf s from

-- no event was taken yet, and nothing was heard
pub record IsNew (s : Shown) : Type 0 where
  pub slots : s.far_slot ≡ s.slot
  pub near : s.near.side ≡ AtWork Holds
  pub far : IsFar s.makes (Listens [])
  pub events : s.events ≡ []
  pub places : s.places ≡ no_places

-- the kernels of which it was made
abbrev pub made_of : (s : Shown) → MayMigrate s.slot s.near.world s.far.world → Start
made_of s may = record {
  slot = s.slot;
  near = s.near.world;
  near_servers = s.near.servers;
  far = s.far.world;
  far_servers = s.far.servers;
  may = may;
}

-- it is a run of these, where it may be made of them
abbrev pub IsBegun : Shown → Type 0
IsBegun s = (may : MayMigrate s.slot s.near.world s.far.world) → IsRunOf s (made_of s may)

-- ---- events

-- an event is ready, of whichever run it is
abbrev pub IsReady : Shown → PairEvent → Type 0
IsReady s e = (from : Start) (its : IsRunOf s from) → IsReadyEvent from.slot its.run e

-- it stands where a ready event leads
pub record Leads (s : Shown) (e : PairEvent) (t : Shown) (from : Start) (its : IsRunOf s from) : Type 0 where
  pub slot : t.slot ≡ from.slot
  pub far_slot : t.far_slot ≡ from.slot
  pub step : Step
  pub is : step_of its.run e ≡ Some step
  pub ready : IsReadyIn image_codec from.slot its.run.pair step
  pub stands : Stands t (next_run from.slot its.run step)

-- of whichever run it is
abbrev pub LeadsTo : Shown → PairEvent → Shown → Type 0
LeadsTo s e t = (from : Start) (its : IsRunOf s from) → Leads s e t from its

-- these are the places once an event is made, of whichever run it is
abbrev pub Counts : Shown → PairEvent → Places → Type 0
Counts s e places = (from : Start) (its : IsRunOf s from) (step : Step) → step_of its.run e ≡ Some step → places ≡ counted s.places step

-- with one event more noted
abbrev pub with_event : Shown → PairEvent → Places → Shown
with_event s e places = record s { events = s.events ++ e ∷ []; places = places }

-- it is the same run, with one event more
pub record GoesOn (s : Shown) (e : PairEvent) (t : Shown) : Type 0 where
  pub events : t.events ≡ s.events ++ e ∷ []
  pub leads : LeadsTo s e t
  pub counts : Counts s e t.places

-- nothing that is seen of it has changed
pub record IsSame (s t : Shown) : Type 0 where
  pub slot : t.slot ≡ s.slot
  pub far_slot : t.far_slot ≡ s.far_slot
  pub near : t.near ≡ s.near
  pub far : t.far ≡ s.far
  pub makes : (f : FarSide) → IsFar s.makes f → IsFar t.makes f
  pub events : t.events ≡ s.events
  pub places : t.places ≡ s.places

-- ---- a pair that is driven

-- it is a run, and the table fits the servers of both kernels
pub record IsDriven (rules : List Rule) (s : Shown) : Type 0 where
  pub run : IsSomeRun s
  pub near : AllFit rules s.near.servers
  pub far : AllFit rules s.far.servers

-- it is the same run, further on
pub record Drives (rules : List Rule) (s t : Shown) : Type 0 where
  pub driven : IsDriven rules t
  pub run : (from : Start) → IsRunOf s from → IsRunOf t from
