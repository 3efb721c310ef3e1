-- A checkpoint that hasn't ended has a call to make.
use Rattle.std.proofs.Common.{◌≡◌, ℕ, List, refl}
use Rattle.laws_jobs.specs.Machines.{IsAtCall}
use Rattle.laws_checkpoint.specs.Foreign.{Task}
use Rattle.laws_checkpoint.specs.Walk.{Met}
use Rattle.laws_checkpoint.specs.Contents.{Content}
use Rattle.laws_checkpoint.specs.Checkpoint.{checkpoint}
use Rattle.laws_checkpoint.specs.Checkpoint.State.{Walks, Seeks, Reads, Gathers}
use Rattle.fk_checkpoint.specs.declared.seeking.met.Met.{Met as CodeMet}
use Rattle.fk_checkpoint.specs.declared.seeking.fields.Fields.TheVariants as fields
use Rattle.fk_checkpoint.specs.declared.seeking.walk.Step.{Step as WalkStep}
use Rattle.fk_checkpoint.specs.declared.seeking.walk.Step.TheVariants as walk_steps
use Rattle.fk_checkpoint.specs.declared.seeking.seek.Look.{Look}
use Rattle.fk_checkpoint.specs.declared.seeking.seek.Look.TheVariants as looks
use Rattle.fk_checkpoint.specs.Seeking.Seeking as seeking
use Rattle.fk_checkpoint.specs.declared.gathering.content.Content.{Content as CodeContent}
use Rattle.fk_checkpoint.specs.declared.gathering.read.Read.{Read}
use Rattle.fk_checkpoint.specs.declared.gathering.read.Reading.{Reading}
use Rattle.fk_checkpoint.specs.declared.gathering.read.Reading.TheVariants as read_steps
use Rattle.fk_checkpoint.specs.declared.gathering.gather.Gather.{Gather}
use Rattle.fk_checkpoint.specs.declared.gathering.gather.Step.{Step as GatherStep}
use Rattle.fk_checkpoint.specs.declared.gathering.gather.Step.TheVariants as gather_steps
use Rattle.fk_checkpoint.specs.Gathering.Gathering as gathering
use Rattle.fk_checkpoint.specs.Gathering.Gathered as gathered
use Rattle.fk_checkpoint.specs.declared.checkpoint.end.CheckpointEnd.{CheckpointEnd}
use Rattle.fk_checkpoint.specs.declared.checkpoint.checkpoint.Phase.{Phase}
use Rattle.fk_checkpoint.specs.declared.checkpoint.checkpoint.Phase.TheVariants as phases
use Rattle.fk_checkpoint.specs.Checkpoint.Phases.{phase_of}

at_walk : (slot : ℕ) (path : List ℕ) (mets : List CodeMet) (step : WalkStep) → IsAtCall (checkpoint slot) (Walks (seeking.step_of slot path mets step))
at_walk slot path mets (walk_steps.Down gone from) = (_, _, refl)
at_walk slot path mets (walk_steps.Searches from) = (_, _, refl)

at_seek : (slot : ℕ) (mets : List Met) (place : List ℕ) (t : Task) (ts : List Task) (look : Look)
    → IsAtCall (checkpoint slot) (Seeks mets (seeking.look_of slot place t ts look))
at_seek slot mets place t ts (looks.Down gone) = (_, _, refl)
at_seek slot mets place t ts (looks.Reads fields.Nothing) = (_, _, refl)
at_seek slot mets place t ts (looks.Reads fields.Zero) = (_, _, refl)
at_seek slot mets place t ts (looks.Reads fields.Two) = (_, _, refl)
at_seek slot mets place t ts (looks.Reads fields.Three) = (_, _, refl)
at_seek slot mets place t ts (looks.Reads fields.ZeroTwo) = (_, _, refl)
at_seek slot mets place t ts (looks.Reads fields.TwoThree) = (_, _, refl)
at_seek slot mets place t ts (looks.Reads fields.OneToThree) = (_, _, refl)
at_seek slot mets place t ts (looks.Reads fields.ZeroToThree) = (_, _, refl)
at_seek slot mets place t ts (looks.Inside field left) = (_, _, refl)
at_seek slot mets place t ts (looks.Beside field left) = (_, _, refl)

at_read : (slot : ℕ) (r : Read) (step : Reading) → IsAtCall (checkpoint slot) (Reads (gathering.reading_of slot r step))
at_read slot r (read_steps.Down gone) = (_, _, refl)
at_read slot r (read_steps.Searches from) = (_, _, refl)
at_read slot r (read_steps.Record j) = (_, _, refl)
at_read slot r (read_steps.Looks from) = (_, _, refl)
at_read slot r (read_steps.Copies page) = (_, _, refl)

at_gather : (slot : ℕ) (shown : List Content) (contents : List CodeContent) (g : Gather) (step : GatherStep) →
    IsAtCall (checkpoint slot) (Gathers shown (gathered.step_of slot contents g step))
at_gather slot shown contents g (gather_steps.Down gone) = (_, _, refl)
at_gather slot shown contents g (gather_steps.Reads field left) = (_, _, refl)
at_gather slot shown contents g (gather_steps.Looks field left) = (_, _, refl)
at_gather slot shown contents g (gather_steps.Leads way field left) = (_, _, refl)
at_gather slot shown contents g (gather_steps.Beside field left) = (_, _, refl)

pub at_call : (slot : ℕ) (phase : Phase) → ((end : CheckpointEnd) → phase ≡ phases.Over end → ⊥) → IsAtCall (checkpoint slot) (phase_of slot phase)
at_call slot phases.Holds over = (_, _, refl)
at_call slot (phases.Readies scratch) over = (_, _, refl)
at_call slot (phases.Walks walk) over = at_walk slot walk.path.items walk.mets.items walk.step
at_call slot (phases.Seeks walk seek) over =
    at_seek slot (seeking.mets_of walk.mets.items) (seeking.place_for (seeking.met_at walk.mets.items seek.at)) (seeking.task_at walk.mets.items seek.at)
    (seeking.tasks_behind walk.mets.items seek.at) seek.look
at_call slot (phases.Closed walk) over = (_, _, refl)
at_call slot (phases.Reads read) over = at_read slot read read.step
at_call slot (phases.Gathers contents gather) over = at_gather slot (gathering.contents_of contents.items) contents.items gather gather.step
at_call slot (phases.Ends ending) over = (_, _, refl)
at_call slot (phases.Drops scratch end) over = (_, _, refl)
at_call slot (phases.Releases end) over = (_, _, refl)
at_call slot (phases.Over end) over = absurd (over end refl)
