-- A part that hears an answer where it stands.
use Rattle.std.proofs.Common.{◌≡◌, ℕ, Bool, true, false, List, Vec, refl, ap, ◌∙◌}
use Rattle.std.specs.declared.alloc.Global.{Global}
use Rattle.laws_checkpoint.specs.Walk as walks
use Rattle.laws_checkpoint.specs.Contents as reads
use Rattle.laws_checkpoint.specs.Contents.{Content}
use Rattle.laws_checkpoint.specs.Gather as gathers
use Rattle.laws_checkpoint.specs.Checkpoint.{walking, reading, gathering as gathers_on}
use Rattle.laws_checkpoint.specs.Checkpoint.State.{Walks, Reads, Gathers}
use Rattle.fk_checkpoint.specs.declared.seeking.met.Met.{Met as CodeMet}
use Rattle.fk_checkpoint.specs.declared.seeking.walk.Step.{Step as WalkStep}
use Rattle.fk_checkpoint.specs.declared.seeking.walk.Step.TheVariants as walk_steps
use Rattle.fk_checkpoint.specs.declared.seeking.walk.Walk.{Walk}
use Rattle.fk_checkpoint.specs.Seeking.Seeking as seeking
use Rattle.fk_checkpoint.specs.declared.gathering.content.Content.{Content as CodeContent}
use Rattle.fk_checkpoint.specs.declared.gathering.read.Read.{Read}
use Rattle.fk_checkpoint.specs.declared.gathering.read.Reading.{Reading}
use Rattle.fk_checkpoint.specs.declared.gathering.read.Reading.TheVariants as read_steps
use Rattle.fk_checkpoint.specs.declared.gathering.gather.Gather.{Gather}
use Rattle.fk_checkpoint.specs.declared.gathering.gather.Step.{Step as GatherStep}
use Rattle.fk_checkpoint.specs.declared.gathering.gather.Step.TheVariants as gather_steps
use Rattle.fk_checkpoint.specs.Gathering.Gathering as gathering
use Rattle.fk_checkpoint.specs.Gathering.Gathered as gathered
use Rattle.fk_checkpoint.specs.declared.checkpoint.checkpoint.Phase.{Phase}
use Rattle.fk_checkpoint.specs.declared.checkpoint.checkpoint.Phase.TheVariants as phases
use Rattle.fk_checkpoint.specs.Checkpoint.Phases.{heard_by, HasHeard}

walk_on : (slot : ℕ) (path : List ℕ) (mets : List CodeMet) (step : WalkStep) →
    Walks (seeking.step_of slot path mets step) ≡ walking slot (seeking.step_of slot path mets step)
walk_on slot path mets (walk_steps.Down gone from) = refl
walk_on slot path mets (walk_steps.Searches from) = refl

pub walk_heard : (slot : ℕ) (over : Bool) (old : Phase) (new : Walk) (next : walks.State) → seeking.walked over slot new ≡ next →
    HasHeard slot (heard_by over) old (phases.Walks new) (walking slot next)
walk_heard slot true old new next is = ap (walking slot) is
walk_heard slot false old new next is = walk_on slot new.path.items new.mets.items new.step ∙ ap (walking slot) is

read_on : (slot : ℕ) (r : Read) (step : Reading) → Reads (gathering.reading_of slot r step) ≡ reading slot (gathering.reading_of slot r step)
read_on slot r (read_steps.Down gone) = refl
read_on slot r (read_steps.Searches from) = refl
read_on slot r (read_steps.Record j) = refl
read_on slot r (read_steps.Looks from) = refl
read_on slot r (read_steps.Copies page) = refl

pub read_heard : (slot : ℕ) (over : Bool) (old : Phase) (new : Read) (next : reads.State) → gathering.was_read over slot new ≡ next →
    HasHeard slot (heard_by over) old (phases.Reads new) (reading slot next)
read_heard slot true old new next is = ap (reading slot) is
read_heard slot false old new next is = read_on slot new new.step ∙ ap (reading slot) is

gather_on : (slot : ℕ) (shown : List Content) (contents : List CodeContent) (g : Gather) (step : GatherStep) →
    Gathers shown (gathered.step_of slot contents g step) ≡ gathers_on slot shown (gathered.step_of slot contents g step)
gather_on slot shown contents g (gather_steps.Down gone) = refl
gather_on slot shown contents g (gather_steps.Reads field left) = refl
gather_on slot shown contents g (gather_steps.Looks field left) = refl
gather_on slot shown contents g (gather_steps.Leads way field left) = refl
gather_on slot shown contents g (gather_steps.Beside field left) = refl

pub gather_heard : (slot : ℕ) (over : Bool) (old : Phase) (contents : Vec CodeContent Global) (new : Gather) (next : gathers.State) →
    gathered.gathered over slot contents.items new ≡ next →
    HasHeard slot (heard_by over) old (phases.Gathers contents new) (gathers_on slot (gathering.contents_of contents.items) next)
gather_heard slot true old contents new next is = ap (gathers_on slot (gathering.contents_of contents.items)) is
gather_heard slot false old contents new next is =
    gather_on slot (gathering.contents_of contents.items) contents.items new new.step ∙ ap (gathers_on slot (gathering.contents_of contents.items)) is
