-- The run of a pair's events from its two kernels: the handover of the laws, and what the servers of each kernel hear.
use Rattle.std.specs.Prelude.{◌≡◌, ℕ, List, [], ◌∷◌, ◌++◌, map, Option, Some, None, option_map, if◌then◌else◌}
use Rattle.fk_model.specs.declared.limits.TheConstants.{LAST_PORTER_SLOT}
use Rattle.fk_model.specs.declared.moves.Ask.{Ask}
use Rattle.fk_model.specs.declared.moves.Move.{Move}
use Rattle.fk_model.specs.declared.names.Who.{Who}
use Rattle.fk_model.specs.Runs.{Event}
use Rattle.fk_model.specs.Who.{event_of}
use Rattle.fk_model.specs.World.{World}
use Rattle.fk_image.specs.declared.image.image.Image.{Image}
use Rattle.fk_packets.specs.declared.events.Event.{Event as PairEvent}
use Rattle.fk_packets.specs.declared.events.Event.TheVariants as events
use Rattle.fk_served.specs.Served.{Services, asked, hears_of}
use Rattle.fk_sides.specs.Sides.{both, near_call, far_call}
use Rattle.laws_handover.specs.Handover as handover
use Rattle.laws_handover.specs.Handover.{Pair, next, first}
use Rattle.laws_handover.specs.Pieces.{Piece}
use Rattle.laws_checkpoint.specs.Checkpoint as checks
use Rattle.laws_migrate.specs.Images.{image_codec}
use Rattle.laws_migrate.specs.Migration.{Why, Job, top, IsReadyIn}
use Rattle.fk_migrate.specs.Turns.{is_porters, NearPart, FarPart}

-- both kernels and both sides, as the laws see them, and the servers of each kernel
pub record Run : Type 0 where
  pub pair : Pair World checks.State World Job Image Piece Why
  pub near_servers : Services
  pub far_servers : Services

-- what a run has come to in each kernel
abbrev pub near_part : Run → NearPart
near_part r = record { world = r.pair.near_world; servers = r.near_servers; side = r.pair.near }

abbrev pub far_part : Run → FarPart
far_part r = record { world = r.pair.far_world; servers = r.far_servers }

-- a step of the handover
abbrev pub Step : Type 0
Step = handover.Event Event Event

-- before the first event
abbrev pub first_run : ℕ → World → Services → World → Services → Run
first_run slot w near_servers v far_servers = record { pair = first (both slot) w v; near_servers = near_servers; far_servers = far_servers }

-- ---- the step of the handover that an event is

-- a porter picks nobody
abbrev pub own_step : Step → Option Who → Option Step
own_step step None = Some step
own_step step (Some who) = None

abbrev pub near_step : World → Services → Move → Option Step
near_step w servers m =
    if is_porters w m then own_step handover.NearOwn m.pick else option_map (λ ask. handover.OfNear (event_of w ask m)) (asked servers w m.who)

abbrev pub far_step : World → Services → Move → Option Step
far_step w servers m =
    if is_porters w m then own_step handover.FarOwn m.pick else option_map (λ ask. handover.OfFar (event_of w ask m)) (asked servers w m.who)

abbrev pub step_of : Run → PairEvent → Option Step
step_of r (events.Near m) = near_step r.pair.near_world r.near_servers m
step_of r (events.Far m) = far_step r.pair.far_world r.far_servers m
step_of r (events.ToFar number) = Some (handover.ToFar number)
step_of r (events.ToNear number) = Some (handover.ToNear number)
step_of r events.GiveUp = Some handover.GiveUp

-- ---- what it makes of the servers

abbrev pub own_event : Option Ask → Option Event
own_event None = None
own_event (Some ask) = Some (record { mover = LAST_PORTER_SLOT ∷ top; pick = None; ask = ask })

-- a kernel's move, if the step is one
abbrev pub near_event : ℕ → Run → Step → Option Event
near_event slot r (handover.OfNear e) = Some e
near_event slot r handover.NearOwn = own_event (near_call slot r.pair.near)
near_event slot r (handover.OfFar e) = None
near_event slot r handover.FarOwn = None
near_event slot r (handover.ToFar number) = None
near_event slot r (handover.ToNear number) = None
near_event slot r handover.GiveUp = None

abbrev pub far_event : ℕ → Run → Step → Option Event
far_event slot r (handover.OfFar e) = Some e
far_event slot r handover.FarOwn = own_event (far_call slot r.pair.far)
far_event slot r (handover.OfNear e) = None
far_event slot r handover.NearOwn = None
far_event slot r (handover.ToFar number) = None
far_event slot r (handover.ToNear number) = None
far_event slot r handover.GiveUp = None

abbrev pub heard : World → Services → Option Event → Services
heard w servers None = servers
heard w servers (Some e) = map (hears_of w e) servers

abbrev pub next_run : ℕ → Run → Step → Run
next_run slot r s = record {
  pair = next (both slot) r.pair s;
  near_servers = heard r.pair.near_world r.near_servers (near_event slot r s);
  far_servers = heard r.pair.far_world r.far_servers (far_event slot r s);
}

-- ---- runs

abbrev pub IsReadyAs : ℕ → Run → Option Step → Type 0
IsReadyAs slot r None = ⊥
IsReadyAs slot r (Some s) = IsReadyIn image_codec slot r.pair s

-- an event is ready
abbrev pub IsReadyEvent : ℕ → Run → PairEvent → Type 0
IsReadyEvent slot r e = IsReadyAs slot r (step_of r e)

-- after a list of events, each ready at its place, which are these steps
pub data IsRun (slot : ℕ) (from : Run) : List PairEvent → List Step → Run → Type 0 where
  Before : IsRun slot from [] [] from
  After : (es : List PairEvent) (ss : List Step) (r : Run) (e : PairEvent) (s : Step) → IsRun slot from es ss r → step_of r e ≡ Some s →
      IsReadyIn image_codec slot r.pair s → IsRun slot from (es ++ e ∷ []) (ss ++ s ∷ []) (next_run slot r s)
