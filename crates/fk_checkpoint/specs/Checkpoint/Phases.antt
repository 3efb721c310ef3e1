-- The machine's state that a checkpoint in code is in.
use Rattle.std.specs.Prelude.{◌≡◌, ℕ, Bool, true, false, List, [], ◌∷◌}
use Rattle.laws_checkpoint.specs.Foreign.{PLACES, TARGETS, STEPS}
use Rattle.laws_checkpoint.specs.Walk as walks
use Rattle.laws_checkpoint.specs.Contents as reads
use Rattle.laws_checkpoint.specs.Gather as gathers
use Rattle.laws_checkpoint.specs.Assembly.{spaces_met}
use Rattle.laws_checkpoint.specs.Checkpoint.{State, walking, reading, ends_as, gathering as gathers_on}
use Rattle.laws_checkpoint.specs.Checkpoint.State.{Holds, Readies, Walks, Seeks, Reads, Gathers, Drops, Releases, Over}
use Rattle.fk_checkpoint.specs.Seeking.Seeking as seeking
use Rattle.fk_checkpoint.specs.Gathering.Gathering as gathering
use Rattle.fk_checkpoint.specs.Gathering.Gathered as gathered
use Rattle.fk_checkpoint.specs.declared.checkpoint.checkpoint.Scratch.{Scratch}
use Rattle.fk_checkpoint.specs.declared.checkpoint.checkpoint.Scratch.TheVariants as scratches
use Rattle.fk_checkpoint.specs.declared.checkpoint.checkpoint.Phase.{Phase}
use Rattle.fk_checkpoint.specs.declared.checkpoint.checkpoint.Phase.TheVariants as phases
use Rattle.fk_checkpoint.specs.declared.checkpoint.checkpoint.Checkpoint.{Checkpoint}
use Rattle.fk_checkpoint.specs.declared.checkpoint.checkpoint.Heard.{Heard}
use Rattle.fk_checkpoint.specs.declared.checkpoint.checkpoint.Heard.TheVariants as hears
use Rattle.fk_checkpoint.specs.Checkpoint.Checkpoints.{end_of, ending_of}

abbrev pub slot_of : Scratch → ℕ
slot_of scratches.Places = PLACES
slot_of scratches.Targets = TARGETS
slot_of scratches.Steps = STEPS

-- those that are made after one, and those that are destroyed after one
abbrev pub made_after : Scratch → List ℕ
made_after scratches.Places = TARGETS ∷ STEPS ∷ []
made_after scratches.Targets = STEPS ∷ []
made_after scratches.Steps = []

abbrev pub dropped_after : Scratch → List ℕ
dropped_after scratches.Places = []
dropped_after scratches.Targets = PLACES ∷ []
dropped_after scratches.Steps = TARGETS ∷ PLACES ∷ []

abbrev pub phase_of : ℕ → Phase → State
phase_of slot phases.Holds = Holds
phase_of slot (phases.Readies scratch) = Readies (slot_of scratch) (made_after scratch)
phase_of slot (phases.Walks walk) = Walks (seeking.walk_of slot walk)
phase_of slot (phases.Seeks walk seek) = Seeks (seeking.mets_of walk.mets.items) (seeking.seek_of slot walk.mets.items seek)
phase_of slot (phases.Closed walk) = Reads (reads.begin slot (spaces_met (seeking.mets_of walk.mets.items)) [])
phase_of slot (phases.Reads read) = Reads (gathering.read_of slot read)
phase_of slot (phases.Gathers contents gather) = Gathers (gathering.contents_of contents.items) (gathered.gather_of slot contents.items gather)
phase_of slot (phases.Ends ending) = ends_as (ending_of slot ending)
phase_of slot (phases.Drops scratch end) = Drops (slot_of scratch) (dropped_after scratch) (end_of end)
phase_of slot (phases.Releases end) = Releases (end_of end)
phase_of slot (phases.Over end) = Over (end_of end)

-- what comes of a part that has come to its end
abbrev pub over_of : ℕ → Phase → State
over_of slot (phases.Walks walk) = walking slot (walks.Over (seeking.mets_of walk.mets.items))
over_of slot (phases.Reads read) = reading slot (reads.Over (gathering.contents_of read.contents.items))
over_of slot (phases.Gathers contents gather) =
    gathers_on slot (gathering.contents_of contents.items) (gathers.Over (gathering.leads_of gather.leads.items))
over_of slot other = phase_of slot other

-- a part that is long hears each answer where it stands; any other phase is brief
abbrev pub IsBrief : Phase → Type 0
IsBrief (phases.Walks walk) = ⊥
IsBrief (phases.Reads read) = ⊥
IsBrief (phases.Gathers contents gather) = ⊥
IsBrief other = Unit {0}

abbrev pub heard_by : Bool → Heard
heard_by true = hears.IsOver
heard_by false = hears.GoesOn

-- so it has gone on, or has come to its end; or an answer is still to be heard
abbrev pub HasHeard : ℕ → Heard → Phase → Phase → State → Type 0
HasHeard slot hears.GoesOn old new next = phase_of slot new ≡ next
HasHeard slot hears.IsOver old new next = over_of slot new ≡ next
HasHeard slot hears.Waits old new next = IsBrief old × (new ≡ old)

-- the state of the machine
abbrev pub state_of : Checkpoint → State
state_of c = phase_of c.slot c.phase

-- room for one answer
abbrev pub HasRoomIn : Phase → Type 0
HasRoomIn phases.Holds = Unit {0}
HasRoomIn (phases.Readies scratch) = Unit {0}
HasRoomIn (phases.Walks walk) = seeking.HasRoom walk
HasRoomIn (phases.Seeks walk seek) = Unit {0}
HasRoomIn (phases.Closed walk) = ⊥
HasRoomIn (phases.Reads read) = gathering.HasRoom read
HasRoomIn (phases.Gathers contents gather) = gathered.HasRoom gather
HasRoomIn (phases.Ends ending) = ⊥
HasRoomIn (phases.Drops scratch end) = Unit {0}
HasRoomIn (phases.Releases end) = Unit {0}
HasRoomIn (phases.Over end) = Unit {0}

-- a checkpoint has room for an answer
abbrev pub HasRoom : Checkpoint → Type 0
HasRoom c = HasRoomIn c.phase

-- its spaces are listed, where it is closed; and what it ends with is made, where it has seen that
abbrev pub IsOpened : Phase → Type 0
IsOpened (phases.Closed walk) = ⊥
IsOpened (phases.Ends ending) = ⊥
IsOpened phases.Holds = Unit {0}
IsOpened (phases.Readies scratch) = Unit {0}
IsOpened (phases.Walks walk) = Unit {0}
IsOpened (phases.Seeks walk seek) = Unit {0}
IsOpened (phases.Reads read) = Unit {0}
IsOpened (phases.Gathers contents gather) = Unit {0}
IsOpened (phases.Drops scratch end) = Unit {0}
IsOpened (phases.Releases end) = Unit {0}
IsOpened (phases.Over end) = Unit {0}

-- a part has come to its end
abbrev pub IsOver : Phase → Type 0
IsOver (phases.Over end) = Unit {0}
IsOver (phases.Closed walk) = ⊥
IsOver phases.Holds = ⊥
IsOver (phases.Readies scratch) = ⊥
IsOver (phases.Walks walk) = ⊥
IsOver (phases.Seeks walk seek) = ⊥
IsOver (phases.Reads read) = ⊥
IsOver (phases.Gathers contents gather) = ⊥
IsOver (phases.Ends ending) = ⊥
IsOver (phases.Drops scratch end) = ⊥
IsOver (phases.Releases end) = ⊥
