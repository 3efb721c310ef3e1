-- Laws: what holds of these definitions, as statements that are proved.
use Rattle.std.specs.Prelude.{◌≡◌, ℕ, ◌≤◌, true, false, List, length, map, Option, Some}
use Rattle.fk_model.specs.declared.moves.Ask.{Ask}
use Rattle.fk_model.specs.declared.limits.TheConstants.{RECORD_WORDS}
use Rattle.fk_model.specs.declared.stage.Stage.{Stage}
use Rattle.fk_model.specs.Places.{Path}
use Rattle.fk_model.specs.Calls.{words, todo_of, rest_of, IsTodo, IsRest}
use Rattle.fk_model.specs.Objects.{Body}
use Rattle.fk_model.specs.World.{World, apply_all}
use Rattle.fk_model.specs.World.Change.{Alter}
use Rattle.fk_model.specs.Records.{record_of, set_edits, set, takes_state}
use Rattle.fk_model.specs.StateRows.{is_native}
use Rattle.fk_model.specs.Searches.{depth}
use Rattle.fk_model.specs.Shapes.{IsShaped, IsInRange}
use Rattle.fk_model.specs.Moves.{step}
use Rattle.fk_model.specs.Valid.{IsValid, is_fit}

-- ---- the registers of a calling thread

-- the registers in which a call's stages and a rest are written show these stages, and this rest
abbrev pub WordsReadBack : Type 0
WordsReadBack = (todo : List Stage) (rest : List ℕ) →
    IsTodo todo → IsRest todo rest → (todo_of (words todo rest) ≡ Some todo) × (rest_of todo (words todo rest) ≡ rest)

-- 16 registers that show stages show those of a call, with a rest; and these, written, are the same registers
abbrev pub TodoWritesBack : Type 0
TodoWritesBack = (g : List ℕ) (todo : List Stage) →
    length g ≡ 16 → todo_of g ≡ Some todo → IsTodo todo × IsRest todo (rest_of todo g) × (words todo (rest_of todo g) ≡ g)

-- stages are written into as many registers as the rest has
abbrev pub WordsKeepLength : Type 0
WordsKeepLength = (todo : List Stage) (rest : List ℕ) → length (words todo rest) ≡ length rest

-- ---- state records

-- the record of an object fills a record
abbrev pub RecordIsFull : Type 0
RecordIsFull = (b : Body) → IsShaped b → length (record_of b) ≡ RECORD_WORDS

-- an object takes the record that it shows
abbrev pub RecordIsTaken : Type 0
RecordIsTaken = (w : World) (space : Path) (b : Body) → IsShaped b → IsInRange w space b → is_native b ≡ false → takes_state w space b (record_of b) ≡ true

-- an object that is set to the record that it shows stays as it is
abbrev pub RecordSetsNothing : Type 0
RecordSetsNothing = (b : Body) → IsShaped b → is_native b ≡ false → set b (record_of b) ≡ b

-- and so does the world
abbrev pub RecordChangesNothing : Type 0
RecordChangesNothing = (w : World) (x : Path) (b : Body) →
    w.body x ≡ Some b → IsShaped b → is_native b ≡ false → apply_all (map (Alter x) (set_edits b (record_of b))) w ≡ w

-- ---- validity

-- a fit move keeps a world valid and rooted, whoever moves and whatever it picks. No more birth numbers are given out
-- than the longest walk has steps
abbrev pub StepKeepsValid : Type 0
StepKeepsValid = (w : World) (x : Path) (pick : Option Path) (ask : Ask) → IsValid w → w.next ≤ depth → is_fit w x ask ≡ true →
    IsValid (step w x pick ask).world
