-- What the outside is told of a move of the subtree's own, exactly: each talk there that is gone, each fault that is newly
-- raised there, and what the move says.
use Rattle.std.specs.Prelude.{◌≡◌, ◌⊎◌, ℕ, Bool, true, false, List, [], ◌∷◌, Option, Some, None}
use Rattle.fk_model.specs.Places.{Path, Ptr}
use Rattle.fk_model.specs.Objects.{Talk}
use Rattle.fk_model.specs.World.{World, Change}
use Rattle.fk_model.specs.World.Change.{Move}
use Rattle.fk_model.specs.Searches.{talk_at, fault_at}
use Rattle.fk_model.specs.Outcomes.{listed}
use Rattle.fk_model.specs.Outcomes.Said.{Words, Passed}
use Rattle.fk_model.specs.Cut.{is_out}
use Rattle.fk_model.specs.Further.{Touch, Onward, Told, onward_row, IsOnward, carried_by}
use Rattle.fk_model.specs.Further.Onward.{Own, ByOthers}
use Rattle.fk_model.specs.Further.Told.{ToldWords, ToldOver, ToldEnd, ToldFault}
use Rattle.fk_model.specs.Seen.{outcome_said}
use Rattle.laws_subtrees.specs.Cut.Likeness.{IsCutWorld}

abbrev pub IsTold : Told → List Told → Type 0
IsTold t [] = ⊥
IsTold t (u ∷ us) = (u ≡ t) ⊎ IsTold t us

-- ---- ends and faults

-- a thread's talk at a port outside was there, and is not
pub record IsTalkLost (c d : World) (q : Path) (port : Ptr) : Type 0 where
  pub talk : Talk
  pub was : talk_at c q ≡ Some talk
  pub at : talk.port ≡ port
  pub outward : is_out port ≡ true
  pub gone : talk_at d q ≡ None

-- a thread that had no fault has raised one, on a page that a port outside keeps
pub record IsFaultRaised (c d : World) (q : Path) (port : Ptr) (page : ℕ) (write : Bool) : Type 0 where
  pub outward : is_out port ≡ true
  pub none : fault_at c q ≡ None
  pub raised : fault_at d q ≡ Some (record { page = page; write = write; port = port; taker = None })

-- an object gets another slot, and its talk and its fault with it
abbrev pub renames : List Change → Bool
renames [] = false
renames (Move x slot ∷ cs) = true
renames (c ∷ cs) = renames cs

abbrev pub renames_by : World → Onward → Bool
renames_by c m = renames (listed (onward_row c m))

-- the outside is told of an end exactly for each talk at a port there that was and is no more, also where its thread died
abbrev pub EndsAreTold : Type 0
EndsAreTold = (c d : World) (x : Path) (pick : Option Path) (taken : ℕ) (told : List Told) → IsCutWorld c → IsOnward c (Own x pick taken) told d →
    renames_by c (Own x pick taken) ≡ false → (q : Path) (port : Ptr) →
    (IsTold (ToldEnd q port) told → IsTalkLost c d q port) × (IsTalkLost c d q port → IsTold (ToldEnd q port) told)

-- the outside is told of a fault exactly where a thread that had none has raised one there
abbrev pub FaultsAreTold : Type 0
FaultsAreTold = (c d : World) (x : Path) (pick : Option Path) (taken : ℕ) (told : List Told) → IsCutWorld c → IsOnward c (Own x pick taken) told d →
    renames_by c (Own x pick taken) ≡ false → (q : Path) (port : Ptr) (page : ℕ) (write : Bool) →
    (IsTold (ToldFault q port page write) told → IsFaultRaised c d q port page write) × (IsFaultRaised c d q port page write →
    IsTold (ToldFault q port page write) told)

-- a rename ends no talk and raises no fault
abbrev pub RenamesTellNoEnds : Type 0
RenamesTellNoEnds = (c d : World) (x : Path) (pick : Option Path) (taken : ℕ) (told : List Told) → IsCutWorld c → IsOnward c (Own x pick taken) told d →
    renames_by c (Own x pick taken) ≡ true → (q : Path) (port : Ptr) (page : ℕ) (write : Bool) →
    (IsTold (ToldEnd q port) told → ⊥) × (IsTold (ToldFault q port page write) told → ⊥)

-- ---- words and overs, and what the outside does itself

-- it is told of the mover's words, and of its Over with the pointer that goes with it, as the move says them
abbrev pub WordsAreTold : Type 0
WordsAreTold = (c d : World) (x : Path) (pick : Option Path) (taken : ℕ) (told : List Told) → IsOnward c (Own x pick taken) told d →
    (q : Path) (port : Ptr) (words : List ℕ) →
    (IsTold (ToldWords q port words) told → (q ≡ x) × (outcome_said (onward_row c (Own x pick taken)) ≡ Words port words))
    × ((q ≡ x) × (outcome_said (onward_row c (Own x pick taken)) ≡ Words port words) → IsTold (ToldWords q port words) told)

-- the outside is told of words and of an Over exactly as the move says them
abbrev pub OversAreTold : Type 0
OversAreTold = (c d : World) (x : Path) (pick : Option Path) (taken : ℕ) (told : List Told) → IsOnward c (Own x pick taken) told d →
    (q : Path) (port : Ptr) (carried : Option Ptr) →
    (IsTold (ToldOver q port carried) told → (q ≡ x) × (outcome_said (onward_row c (Own x pick taken)) ≡ Passed port) × (carried ≡ carried_by c x))
    × ((q ≡ x) × (outcome_said (onward_row c (Own x pick taken)) ≡ Passed port) × (carried ≡ carried_by c x) → IsTold (ToldOver q port carried) told)

-- of what the outside does itself it is told nothing
abbrev pub TouchesTellNothing : Type 0
TouchesTellNothing = (c d : World) (touch : Touch) (told : List Told) → IsOnward c (ByOthers touch) told d → told ≡ []
