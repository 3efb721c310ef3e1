-- What can be saved stays so: each proper move keeps a world savable, where a porter's call gives what it owes.
use Rattle.std.specs.Prelude.{◌≡◌, ℕ, ◌+◌, ◌≤◌, Bool, true, false, ◌&&◌, ◌||◌, ◌==◌, nat_le, IsSome, List, [], ◌∷◌, length, Ok}
use Rattle.fk_model.specs.declared.limits.TheConstants.{LAST_USER_SLOT, LAST_SCRATCH_SLOT, LAST_PORTER_SLOT}
use Rattle.fk_model.specs.declared.moves.Ask.{Ask}
use Rattle.fk_model.specs.declared.moves.Ask.TheVariants as asks
use Rattle.fk_model.specs.declared.names.Kind.TheVariants as kinds
use Rattle.fk_model.specs.declared.stage.Stage.{Stage}
use Rattle.fk_model.specs.declared.stage.Stage.TheVariants.{Create, Destroy, Rename, SpaceRelease, HoldSet, SpaceMakeHeld}
use Rattle.fk_model.specs.Places.{Path, is_within}
use Rattle.fk_model.specs.Places.Ptr.{At}
use Rattle.fk_model.specs.World.{World}
use Rattle.fk_model.specs.Searches.{depth}
use Rattle.fk_model.specs.Outcomes.{Caller}
use Rattle.fk_model.specs.Readers.{space_argument, referred}
use Rattle.fk_model.specs.Moves.{porter_at}
use Rattle.fk_model.specs.Runs.{Event, after, run}
use Rattle.fk_model.specs.Objects.{holds}
use Rattle.fk_model.specs.StateRows.{is_native}
use Rattle.fk_model.specs.Whole.{is_scratch_slot, is_porters, IsWhole, IsSavable}
use Rattle.laws_moves.specs.Frozen.Users.{is_users}
use Rattle.laws_moves.specs.Whole.Runnable.{has_all_words, IsProper}

-- a user's slot, or for a reference a slot of scratch where a porter may have it
abbrev pub may_make : World → Path → ℕ → ℕ → Bool
may_make w space x kind = nat_le x LAST_USER_SLOT || (kind == 9 && nat_le x LAST_SCRATCH_SLOT && is_porters w space)

abbrev pub MayMake : World → Caller → ℕ → ℕ → ℕ → Type 0
MayMake w c s x kind = (space : Path) → space_argument w c s ≡ Ok space → may_make w space x kind ≡ true

-- the holder that a porter names doesn't live in or beneath the space that it is to hold
abbrev pub NamesHolderOutside : World → Caller → ℕ → ℕ → ℕ → Type 0
NamesHolderOutside w c s x thread = (space y : Path) → space_argument w c s ≡ Ok space → referred w c kinds.Thread thread ≡ Ok (At y) →
    is_within (x ∷ space) y ≡ false

-- there is no scratch in the space but that of a porter of its own
abbrev pub LeavesNoScratch : World → Caller → ℕ → ℕ → Type 0
LeavesNoScratch w c s x = (space : Path) → space_argument w c s ≡ Ok space → (k : ℕ) → is_scratch_slot k ≡ true → IsSome (w.body (k ∷ x ∷ space)) →
    holds is_native (w.body (LAST_PORTER_SLOT ∷ x ∷ space)) ≡ true

-- what a porter's call owes: it makes users' objects in users' slots and references in those of scratch, in its space or one that it holds
-- there, renames no porter's object, destroys no porter but with its space, and names a holder that is outside; and it takes its scratch out
-- of a space before it gives up the hold
abbrev pub OwesStage : World → Caller → Stage → Type 0
OwesStage w c (Create s x kind) = MayMake w c s x kind
OwesStage w c (Destroy s x) = nat_le x LAST_SCRATCH_SLOT ≡ true
OwesStage w c (Rename s x y) = nat_le x LAST_USER_SLOT ≡ true
OwesStage w c (SpaceRelease s x) = LeavesNoScratch w c s x
OwesStage w c (HoldSet s x thread) = NamesHolderOutside w c s x thread × LeavesNoScratch w c s x
OwesStage w c (SpaceMakeHeld x) = nat_le x LAST_USER_SLOT ≡ true
OwesStage w c other = Unit {0}

-- users and native servers owe nothing
abbrev pub OwesAsk : World → Path → Ask → Type 0
OwesAsk w x (asks.Call stage words) = OwesStage w (porter_at x words) stage
OwesAsk w x other = Unit {0}

abbrev pub Owes : World → Event → Type 0
Owes w e = OwesAsk w e.mover e.ask

-- a proper move keeps a world savable
abbrev pub ProperMoveKeepsSavable : Type 0
ProperMoveKeepsSavable = (w : World) (e : Event) → IsWhole w → IsSavable w → IsProper w e → Owes w e → IsSavable (after w e)

-- so do all moves of users, and of native servers that give words
abbrev pub UsersMoveKeepsSavable : Type 0
UsersMoveKeepsSavable = (w : World) (e : Event) → IsWhole w → IsSavable w → is_users e.ask ≡ true → has_all_words e.ask ≡ true → IsSavable (after w e)

-- each move is proper at its place, and gives what it owes
abbrev pub AreOwed : World → List Event → Type 0
AreOwed w [] = Unit {0}
AreOwed w (e ∷ es) = IsProper w e × Owes w e × AreOwed (after w e) es

-- what can be saved: a world that is whole and savable
pub record IsSound (w : World) : Type 0 where
  pub whole : IsWhole w
  pub savable : IsSavable w

-- a run of such moves ends in such a world where it begins in one, with a birth number left for each of its moves
abbrev pub RunKeepsSavable : Type 0
RunKeepsSavable = (w : World) (es : List Event) → IsSound w → w.next + length es ≤ depth → AreOwed w es → IsSound (run w es)
