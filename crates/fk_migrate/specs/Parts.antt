-- What a sender and a receiver in code have come to, and what a turn and a packet make of it.
use Rattle.std.specs.Prelude.{◌≡◌, ℕ, Some}
use Rattle.fk_model.specs.declared.moves.Move.{Move}
use Rattle.fk_packets.specs.declared.events.Event.TheVariants as events
use Rattle.fk_packets.specs.declared.packet.Packet.{Packet}
use Rattle.fk_served.specs.Kernels.{world_of as world}
use Rattle.fk_sides.specs.declared.far.Makes.{Makes}
use Rattle.fk_sides.specs.Fars.{IsFar}
use Rattle.fk_sides.specs.Nears.{saves_of}
use Rattle.fk_sides.specs.Sides.{both, packet_of}
use Rattle.laws_handover.specs.Handover.{near_told, gives_up}
use Rattle.fk_migrate.specs.Runs.{Run, Step, near_part, far_part, next_run, step_of}
use Rattle.fk_migrate.specs.Turns.{NearPart, FarPart}
use Rattle.fk_migrate.specs.declared.sender.Sender as senders
use Rattle.fk_migrate.specs.declared.receiver.Receiver as receivers

-- the near part of a sender in code
abbrev pub near_seen : {S : Type 0} → senders.Sender S → NearPart
near_seen s = record { world = world s.host.kernel; servers = s.host.services.list; side = saves_of s.near.saves }

-- the far part of a receiver in code
abbrev pub far_seen : {S : Type 0} → receivers.Receiver S → FarPart
far_seen r = record { world = world r.host.kernel; servers = r.host.services.list }

-- a turn is a step of the handover, of whichever run this is
abbrev pub NearLands : ℕ → NearPart → Move → NearPart → Type 0
NearLands slot p m q = (r : Run) (step : Step) → p ≡ near_part r → step_of r (events.Near m) ≡ Some step → q ≡ near_part (next_run slot r step)

pub record HasFarLanded (slot : ℕ) (q : FarPart) (new : Makes) (r : Run) (step : Step) : Type 0 where
  pub part : q ≡ far_part (next_run slot r step)
  pub side : IsFar new (next_run slot r step).pair.far

-- a turn of the far part is a step of the handover, of whichever run this is
abbrev pub FarLands : ℕ → FarPart → Makes → Move → FarPart → Makes → Type 0
FarLands slot p makes m q new = (r : Run) (step : Step) → p ≡ far_part r → IsFar makes r.pair.far → step_of r (events.Far m) ≡ Some step
    → HasFarLanded slot q new r step

-- what a packet, and giving up, make of the near side
abbrev pub told_near : ℕ → NearPart → Packet → NearPart
told_near slot p packet = record p { side = near_told (both slot) p.side (packet_of packet) }

-- what giving up makes of the near part
abbrev pub given_up : ℕ → NearPart → NearPart
given_up slot p = record p { side = gives_up (both slot) p.side }
