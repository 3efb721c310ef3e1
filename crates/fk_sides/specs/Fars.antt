-- The far side of the code as the laws see it.
use Rattle.std.specs.Prelude.{◌≡◌, ℕ, List, Option, None, Some, false}
use Rattle.fk_image.specs.declared.image.image.Image.{Image}
use Rattle.fk_restore.specs.Restore.Restores.{Restoring}
use Rattle.laws_restore.specs.Restore.Restore.{State}
use Rattle.laws_restore.specs.Restore.Restore.State.{Makes as First}
use Rattle.laws_handover.specs.FarSide as far
use Rattle.laws_handover.specs.FarSide.{Made}
use Rattle.laws_handover.specs.Pieces.{Piece}
use Rattle.laws_migrate.specs.Migration.{Why, Job}
use Rattle.laws_migrate.specs.Migration.Why.{Occupied, NoPort, GaveUp}
use Rattle.fk_sides.specs.declared.far.Look.{Look}
use Rattle.fk_sides.specs.declared.far.Look.TheVariants as looks
use Rattle.fk_sides.specs.declared.far.Stand.{Stand}
use Rattle.fk_sides.specs.declared.far.Stand.TheVariants as stands
use Rattle.fk_sides.specs.declared.far.Refusal.{Refusal}
use Rattle.fk_sides.specs.declared.far.Refusal.TheVariants as refusals
use Rattle.fk_sides.specs.declared.far.Makes.{Makes}
use Rattle.fk_sides.specs.declared.far.Makes.TheVariants as makes
use Rattle.fk_sides.specs.Sides.{FarSide}
use Rattle.fk_sides.specs.declared.came.Came.{Came}
use Rattle.fk_sides.specs.Cames.{IsCome}

abbrev pub refusal_of : Refusal → Why
refusal_of refusals.Occupied = Occupied
refusal_of (refusals.NoPort port) = NoPort port
refusal_of refusals.Never = GaveUp

abbrev pub fails_so : Refusal → Made State Why
fails_so refusal = far.Fails (refusal_of refusal)

-- a restore as a job that knows its image
abbrev pub job_of : Restoring → Job
job_of r = record { image = r.image; state = r.state }

-- where a restore stands after an answer
abbrev pub look_of : Restoring → Look → Made Job Why
look_of r looks.Goes = far.Goes (job_of r)
look_of r looks.Builds = far.Builds
look_of r (looks.Fails why) = far.Fails (refusal_of why)

abbrev pub stand_of : Restoring → Stand → FarSide
stand_of r stands.Works = far.Makes r.image (job_of r)
stand_of r stands.Built = far.Built r.image
stand_of r stands.Releases = far.Releases r.image
stand_of r stands.Moved = far.Moved r.image
stand_of r (stands.Refuses why) = far.Refuses r.image (refusal_of why)
stand_of r stands.Undoes = far.Undoes r.image (job_of r)
stand_of r (stands.Clears more ready) = far.Clears r.image more ready
stand_of r (stands.Ended ready) = far.Ended (Some r.image) ready

-- what it has come to is this one. Of the pieces that have come it knows what they show alone
abbrev pub IsFar : Makes → FarSide → Type 0
IsFar (makes.Listens came) f = (got : List Piece) × (f ≡ far.Listens got) × IsCome came got
IsFar makes.Never f = f ≡ far.Ended None false
IsFar (makes.Restores r stand) f = f ≡ stand_of r stand

-- the slot of its restore, or this one
abbrev pub slot_in : ℕ → Makes → ℕ
slot_in slot (makes.Listens came) = slot
slot_in slot makes.Never = slot
slot_in slot (makes.Restores r stand) = r.slot

-- with what it goes on: what has come, if there is nothing else
abbrev pub gone_on : Came → Option Makes → Makes
gone_on came None = makes.Listens came
gone_on came (Some m) = m

-- the restore of an image is about to begin, if there is one
abbrev pub Restores : Option Makes → ℕ → Image → Type 0
Restores None slot i = ⊥
Restores (Some m) slot i = IsFar m (far.Makes i (record { image = i; state = First })) × (slot_in slot m ≡ slot)

abbrev pub Begins : Option Makes → ℕ → Option Image → Type 0
Begins o slot None = o ≡ None
Begins o slot (Some i) = Restores o slot i
