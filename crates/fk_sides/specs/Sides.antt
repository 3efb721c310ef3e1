-- A side of a migration in the words of the laws: the call for which it asks, and what it makes of the answer; and the packets of the code.
use Rattle.std.specs.Prelude.{ℕ, zero, suc, false, List, [], ◌∷◌, Option, Some, None}
use Rattle.fk_model.specs.declared.limits.TheConstants.{OWN_SPACE}
use Rattle.fk_model.specs.declared.moves.Ask.{Ask}
use Rattle.fk_model.specs.declared.moves.Ask.TheVariants as asks
use Rattle.fk_model.specs.declared.stage.Stage.{Stage}
use Rattle.fk_model.specs.declared.stage.Stage.TheVariants.{Destroy, SpaceRelease}
use Rattle.fk_model.specs.World.{World}
use Rattle.fk_model.specs.Runs.{Event}
use Rattle.fk_image.specs.declared.image.image.Image.{Image}
use Rattle.fk_checkpoint.specs.Checkpoint.Checkpoints.{shown_place}
use Rattle.fk_packets.specs.declared.packet.Packet.{Packet as CodePacket}
use Rattle.fk_packets.specs.declared.packet.Packet.TheVariants as packets
use Rattle.fk_packets.specs.declared.packet.Why.{Why as CodeWhy}
use Rattle.fk_packets.specs.declared.packet.Why.TheVariants as whys
use Rattle.laws_jobs.specs.Machines.{no_words, Head}
use Rattle.laws_jobs.specs.Machines.Head.{Stops, Asks}
use Rattle.laws_checkpoint.specs.Checkpoint as checks
use Rattle.laws_restore.specs.Restore.Restore as restores
use Rattle.laws_restore.specs.Restore.Restore.{objects}
use Rattle.laws_restore.specs.Rooms.Rooms.{rooms_of}
use Rattle.laws_restore.specs.Rooms.Restoring.{restore_of}
use Rattle.laws_handover.specs.NearSide as near
use Rattle.laws_handover.specs.NearSide.{Near, Saved}
use Rattle.laws_handover.specs.FarSide as far
use Rattle.laws_handover.specs.FarSide.{Far, Made}
use Rattle.laws_handover.specs.Packets.{Packet}
use Rattle.laws_handover.specs.Packets.Packet.{Piece as PieceOf, Ready, Refused, Gone, Cancel}
use Rattle.laws_handover.specs.Pieces.{Piece}
use Rattle.laws_handover.specs.Handover.{Kernels}
use Rattle.laws_migrate.specs.Migration.{Why, Job, checked, made, of_job, kernels}
use Rattle.laws_migrate.specs.Migration.Why.{Dead, Foreign, Occupied, NoPort, GaveUp}
use Rattle.laws_migrate.specs.Images.{image_codec}

-- ---- packets

abbrev pub why_of : CodeWhy → Why
why_of whys.Dead = Dead
why_of (whys.Foreign place) = Foreign (shown_place place)
why_of whys.Occupied = Occupied
why_of (whys.NoPort port) = NoPort port
why_of whys.GaveUp = GaveUp

-- a packet in code as the laws see it
abbrev pub packet_of : CodePacket → Packet Piece Why
packet_of (packets.Piece number total bytes len) = PieceOf (record { number = number; total = total; bytes = bytes; len = len })
packet_of packets.Ready = Ready
packet_of (packets.Refused why) = Refused (why_of why)
packet_of packets.Gone = Gone
packet_of packets.Cancel = Cancel

abbrev pub option_list : {A : Type 0} → Option A → List A
option_list None = []
option_list (Some x) = x ∷ []

-- ---- what a side has come to

abbrev pub NearSide : Type 0
NearSide = Near checks.State Image Why

-- the far side of a migration: it restores an image
abbrev pub FarSide : Type 0
FarSide = Far Job Image Piece Why

-- the kernels of a migration from a slot
abbrev pub both : ℕ → Kernels World Event checks.State World Event Job Image Piece Why
both slot = kernels image_codec slot

-- ---- the call for which it asks

-- with no words
abbrev pub bare : Stage → Ask
bare stage = asks.Call stage no_words

-- the call of this stage with these words, if there is a stage
abbrev pub call_with : Option Stage → List ℕ → Option Ask
call_with None words = None
call_with (Some stage) words = Some (asks.Call stage words)

-- what a machine asks for next, if it has not ended
abbrev pub asks_for : {A : Type 0} → Head A → Option Ask
asks_for (Asks stage words) = Some (asks.Call stage words)
asks_for (Stops end) = None

-- the call for which the near side asks
abbrev pub near_call : ℕ → NearSide → Option Ask
near_call slot (near.Saves s) = asks_for (checks.head slot s)
near_call slot (near.Clears i more) = Some (bare (Destroy OWN_SPACE slot))
near_call slot (near.Cancels i why) = Some (bare (SpaceRelease OWN_SPACE slot))
near_call slot (near.Waits i) = None
near_call slot (near.Cleared i) = None
near_call slot (near.Cancelled i why) = None
near_call slot (near.Failed why) = None

-- the call for which the far side asks
abbrev pub far_call : ℕ → FarSide → Option Ask
far_call slot (far.Makes i j) = asks_for (restores.head slot j.state)
far_call slot (far.Undoes i j) = asks_for (restores.head slot j.state)
far_call slot (far.Releases i) = Some (bare (SpaceRelease OWN_SPACE slot))
far_call slot (far.Clears i more ready) = Some (bare (Destroy OWN_SPACE slot))
far_call slot (far.Listens got) = None
far_call slot (far.Built i) = None
far_call slot (far.Moved i) = None
far_call slot (far.Refuses i why) = None
far_call slot (far.Ended image ready) = None

-- ---- what it makes of the answer

-- where a checkpoint stands
abbrev pub saved_so : Saved checks.State Image Why → NearSide
saved_so (near.Goes s) = near.Saves s
saved_so (near.Gathers i) = near.Waits i
saved_so (near.Fails why) = near.Failed why

abbrev pub near_at : checks.State → NearSide
near_at s = saved_so (checked s)

-- the near side once its call is answered
abbrev pub near_heard : ℕ → NearSide → ℕ → List ℕ → NearSide
near_heard slot (near.Saves s) status words = near_at (checks.next slot s status words)
near_heard slot (near.Clears i zero) status words = near.Cleared i
near_heard slot (near.Clears i (suc more)) status words = near.Clears i more
near_heard slot (near.Cancels i why) status words = near.Cancelled i why
near_heard slot (near.Waits i) status words = near.Waits i
near_heard slot (near.Cleared i) status words = near.Cleared i
near_heard slot (near.Cancelled i why) status words = near.Cancelled i why
near_heard slot (near.Failed why) status words = near.Failed why

-- where a restore stands; and one that was cancelled
abbrev pub made_so : Image → Made Job Why → FarSide
made_so i (far.Goes j) = far.Makes i j
made_so i far.Builds = far.Built i
made_so i (far.Fails why) = far.Refuses i why

abbrev pub undone_so : Image → Made Job Why → FarSide
undone_so i (far.Goes j) = far.Undoes i j
undone_so i far.Builds = far.Clears i (objects (rooms_of i)) false
undone_so i (far.Fails why) = far.Ended (Some i) false

abbrev pub restored : ℕ → Job → ℕ → List ℕ → Made Job Why
restored slot j status words = of_job j.image (made ((restore_of slot j.image []).next j.state status words))

-- the far side once its call is answered
abbrev pub far_heard : ℕ → FarSide → ℕ → List ℕ → FarSide
far_heard slot (far.Makes i j) status words = made_so i (restored slot j status words)
far_heard slot (far.Undoes i j) status words = undone_so i (restored slot j status words)
far_heard slot (far.Releases i) status words = far.Moved i
far_heard slot (far.Clears i zero ready) status words = far.Ended (Some i) ready
far_heard slot (far.Clears i (suc more) ready) status words = far.Clears i more ready
far_heard slot (far.Listens got) status words = far.Listens got
far_heard slot (far.Built i) status words = far.Built i
far_heard slot (far.Moved i) status words = far.Moved i
far_heard slot (far.Refuses i why) status words = far.Refuses i why
far_heard slot (far.Ended image ready) status words = far.Ended image ready
