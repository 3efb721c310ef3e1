-- The briefest job: it holds a subtree and releases it.
use Rattle.std.specs.Prelude.{ℕ, ◌==◌, ◌≤◌, Bool, true, false, List, None, if◌then◌else◌}
use Rattle.fk_model.specs.declared.limits.TheConstants.{OWN_SPACE, LAST_USER_SLOT}
use Rattle.fk_model.specs.declared.stage.Stage.TheVariants.{SpaceHold, SpaceRelease}
use Rattle.fk_model.specs.declared.statuses.status.TheConstants.{OK}
use Rattle.fk_model.specs.World.{World}
use Rattle.laws_jobs.specs.Machines.{no_words, Head, Machine}
use Rattle.laws_jobs.specs.Machines.Head.{Stops, Asks}
use Rattle.laws_jobs.specs.Jobs.{MeetsContract}
use Rattle.examples_premises.specs.Premises.{full_of_all}

pub data Brief : Type 0 where
  Holds : Brief
  Releases : Brief
  Over : (done : Bool) → Brief

abbrev pub head : ℕ → Brief → Head Bool
head slot Holds = Asks (SpaceHold OWN_SPACE slot) no_words
head slot Releases = Asks (SpaceRelease OWN_SPACE slot) no_words
head slot (Over done) = Stops done

abbrev pub next : Brief → ℕ → List ℕ → Brief
next Holds status words = if status == OK then Releases else Over false
next Releases status words = Over true
next (Over done) status words = Over done

abbrev pub brief : ℕ → Machine Brief Bool
brief slot = record { head = head slot; next = next }

abbrev pub BriefMeetsContract : Type 0
BriefMeetsContract = (slot birth : ℕ) → slot ≤ LAST_USER_SLOT → MeetsContract (brief slot) birth Holds

-- a world with something of all in a subtree that nobody holds, in the slot 1 of a nester that has a porter
abbrev pub full : World
full = full_of_all None
