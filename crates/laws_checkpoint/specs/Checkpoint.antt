-- The checkpoint of the subtree in a slot of a nester, as a machine: it holds the subtree, meets its objects, seeks the first
-- place where it isn't closed, and if there is none reads its spaces and gathers its pointers; it drops its scratch and releases.
use Rattle.std.specs.Prelude.{ℕ, ◌==◌, List, [], ◌∷◌, Option, Some, None, if◌then◌else◌}
use Rattle.fk_model.specs.declared.limits.TheConstants.{OWN_SPACE}
use Rattle.fk_model.specs.declared.names.Kind.TheVariants as kinds
use Rattle.fk_model.specs.declared.stage.Stage.TheVariants.{Create, Destroy, SpaceHold, SpaceRelease}
use Rattle.fk_model.specs.declared.statuses.status.TheConstants.{OK}
use Rattle.fk_model.specs.Places.{Ptr}
use Rattle.fk_model.specs.Objects.{number_of_kind}
use Rattle.fk_model.specs.Closed.{Place}
use Rattle.fk_image.specs.declared.image.image.Image.{Image}
use Rattle.laws_jobs.specs.Machines.{no_words, Head, Machine}
use Rattle.laws_jobs.specs.Machines.Head.{Stops, Asks}
use Rattle.laws_checkpoint.specs.Foreign.{PLACES, TARGETS, STEPS}
use Rattle.laws_checkpoint.specs.Foreign as seeks
use Rattle.laws_checkpoint.specs.Walk.{Met}
use Rattle.laws_checkpoint.specs.Walk as walks
use Rattle.laws_checkpoint.specs.Contents.{Content}
use Rattle.laws_checkpoint.specs.Contents as reads
use Rattle.laws_checkpoint.specs.Gather as gathers
use Rattle.laws_checkpoint.specs.Assembly.{spaces_met, sought_tasks, gathered_tasks, assembled}
use Rattle.laws_checkpoint.specs.Narrow.{narrowed}

-- how it ends: the slot held no space; the subtree isn't closed, first here; or its image
pub data End : Type 0 where
  Gone : End
  Foreign : (place : Place) → End
  Done : (image : Image) → End

pub data State : Type 0 where
  Holds : State
  -- this reference is made next, and then those
  Readies : (r : ℕ) (rest : List ℕ) → State
  Walks : (s : walks.State) → State
  Seeks : (mets : List Met) (s : seeks.State) → State
  Reads : (s : reads.State) → State
  Gathers : (contents : List Content) (s : gathers.State) → State
  -- this reference is destroyed next, and then those
  Drops : (r : ℕ) (rest : List ℕ) (end : End) → State
  Releases : (end : End) → State
  Over : (end : End) → State

-- ---- a part that asks, or has come to something

abbrev pub asks_as : {A : Type 0} → Head A → Head End
asks_as (Asks stage words) = Asks stage words
asks_as (Stops end) = Stops Gone

-- what was made last is dropped first
abbrev pub ends_as : End → State
ends_as end = Drops STEPS (TARGETS ∷ PLACES ∷ []) end

abbrev pub gathers_on : List Content → gathers.State → Head (List Ptr) → State
gathers_on contents s (Asks stage words) = Gathers contents s
gathers_on contents s (Stops ps) = ends_as (Done (narrowed (assembled contents ps)))

abbrev pub gathering : ℕ → List Content → gathers.State → State
gathering slot contents s = gathers_on contents s (gathers.head slot s)

abbrev pub reads_on : ℕ → reads.State → Head (List Content) → State
reads_on slot s (Asks stage words) = Reads s
reads_on slot s (Stops contents) = gathering slot contents (gathers.begin slot (gathered_tasks contents) [])

abbrev pub reading : ℕ → reads.State → State
reading slot s = reads_on slot s (reads.head slot s)

abbrev pub sought : ℕ → List Met → Option Place → State
sought slot mets (Some place) = ends_as (Foreign place)
sought slot mets None = reading slot (reads.begin slot (spaces_met mets) [])

abbrev pub seeks_on : ℕ → List Met → seeks.State → Head (Option Place) → State
seeks_on slot mets s (Asks stage words) = Seeks mets s
seeks_on slot mets s (Stops place) = sought slot mets place

abbrev pub seeking : ℕ → List Met → seeks.State → State
seeking slot mets s = seeks_on slot mets s (seeks.head slot s)

abbrev pub walks_on : ℕ → walks.State → Head (List Met) → State
walks_on slot s (Asks stage words) = Walks s
walks_on slot s (Stops mets) = seeking slot mets (seeks.begin slot (sought_tasks mets))

abbrev pub walking : ℕ → walks.State → State
walking slot s = walks_on slot s (walks.head slot s)

-- ---- the machine

-- what it asks for, or with what it ends
abbrev pub head : ℕ → State → Head End
head slot Holds = Asks (SpaceHold OWN_SPACE slot) no_words
head slot (Readies r rest) = Asks (Create OWN_SPACE r (number_of_kind kinds.Reference)) no_words
head slot (Walks s) = asks_as (walks.head slot s)
head slot (Seeks mets s) = asks_as (seeks.head slot s)
head slot (Reads s) = asks_as (reads.head slot s)
head slot (Gathers contents s) = asks_as (gathers.head slot s)
head slot (Drops r rest end) = Asks (Destroy OWN_SPACE r) no_words
head slot (Releases end) = Asks (SpaceRelease OWN_SPACE slot) no_words
head slot (Over end) = Stops end

abbrev pub readied : ℕ → List ℕ → State
readied slot [] = walking slot walks.begin
readied slot (r ∷ rest) = Readies r rest

abbrev pub dropped : List ℕ → End → State
dropped [] end = Releases end
dropped (r ∷ rest) end = Drops r rest end

-- what becomes of it by an answer
abbrev pub next : ℕ → State → ℕ → List ℕ → State
next slot Holds status words = if status == OK then Readies PLACES (TARGETS ∷ STEPS ∷ []) else Over Gone
next slot (Readies r rest) status words = readied slot rest
next slot (Walks s) status words = walking slot (walks.next slot s status words)
next slot (Seeks mets s) status words = seeking slot mets (seeks.next slot s status words)
next slot (Reads s) status words = reading slot (reads.next slot s status words)
next slot (Gathers contents s) status words = gathering slot contents (gathers.next slot s status words)
next slot (Drops r rest end) status words = dropped rest end
next slot (Releases end) status words = Over end
next slot (Over end) status words = Over end

-- the checkpoint of the subtree in a slot of its nester
abbrev pub checkpoint : ℕ → Machine State End
checkpoint slot = record { head = head slot; next = next slot }
