-- What a world keeps while a machine runs: it is whole, and each thread has its registers. A run supplies this at each of
-- its moves, from its beginning alone.
use Rattle.std.specs.Prelude.{◌≡◌, ◌+◌, ◌≤◌, Bool, true, false, ◌&&◌, ◌==◌, List, [], ◌∷◌, length, Some}
use Rattle.fk_model.specs.declared.limits.TheConstants.{PAGE_WORDS}
use Rattle.fk_model.specs.declared.moves.Ask.{Ask}
use Rattle.fk_model.specs.declared.moves.Ask.TheVariants as asks
use Rattle.fk_model.specs.Places.{Path}
use Rattle.fk_model.specs.Objects.{Thread, registers_of, thread_of, and_then}
use Rattle.fk_model.specs.World.{World, Change}
use Rattle.fk_model.specs.World.Change.{MakeSpace}
use Rattle.fk_model.specs.Searches.{depth}
use Rattle.fk_model.specs.Outcomes.{listed}
use Rattle.fk_model.specs.Moves.{outcome}
use Rattle.fk_model.specs.Runs.{Event, after, run}
use Rattle.fk_model.specs.Valid.{IsValid, is_fit}
use Rattle.fk_model.specs.Whole.{are_words, IsWhole, IsYounger, IsSavable}

-- every thread has 16 registers
abbrev pub HasRegisters : World → Type 0
HasRegisters w = (x : Path) (t : Thread) → and_then thread_of (w.body x) ≡ Some t → length (registers_of t.mode) ≡ 16

-- a run may begin in this world: it is whole, and each thread has its registers
pub record IsRunnable (w : World) : Type 0 where
  pub whole : IsWhole w
  pub registers : HasRegisters w

-- a porter gives 64 words, and a native server gives words
abbrev pub has_all_words : Ask → Bool
has_all_words (asks.Call stage words) = length words == PAGE_WORDS && are_words words
has_all_words (asks.Give words len) = are_words words
has_all_words other = true

-- a proper move, which a machine may make: it is fit, and what a porter or a native server gives is words, a porter's 64
pub record IsProper (w : World) (e : Event) : Type 0 where
  pub fit : is_fit w e.mover e.ask ≡ true
  pub words : has_all_words e.ask ≡ true

-- it gives out one birth number at most
abbrev pub ProperMoveGivesOneNumber : Type 0
ProperMoveGivesOneNumber = (w : World) (e : Event) → IsRunnable w → IsProper w e → (after w e).next ≤ w.next + 1

-- and keeps a world runnable, where a birth number is left
abbrev pub ProperMoveKeepsRunnable : Type 0
ProperMoveKeepsRunnable = (w : World) (e : Event) → IsRunnable w → IsProper w e → w.next + 1 ≤ depth → IsRunnable (after w e)

-- each move is proper at its place
abbrev pub AreProper : World → List Event → Type 0
AreProper w [] = Unit {0}
AreProper w (e ∷ es) = IsProper w e × AreProper (after w e) es

-- a run ends in a runnable world where it begins in one, with a birth number left for each of its moves
abbrev pub RunKeepsRunnable : Type 0
RunKeepsRunnable = (w : World) (es : List Event) → IsRunnable w → w.next + length es ≤ depth → AreProper w es → IsRunnable (run w es)

-- a world that is whole and can be saved is runnable
abbrev pub SavableIsRunnable : Type 0
SavableIsRunnable = (w : World) → IsWhole w → IsSavable w → IsRunnable w

-- ---- birth numbers

abbrev pub makes_space : List Change → Bool
makes_space [] = false
makes_space (MakeSpace x holder ∷ cs) = true
makes_space (c ∷ cs) = makes_space cs

-- a move that makes no space gives out no birth number
abbrev pub OnlySpacesAreNumbered : Type 0
OnlySpacesAreNumbered = (w : World) (e : Event) → makes_space (listed (outcome w e.mover e.pick e.ask)) ≡ false → (after w e).next ≡ w.next

-- each space stays younger than the one in which it lies, with every fit move
abbrev pub FitMoveKeepsYounger : Type 0
FitMoveKeepsYounger = (w : World) (e : Event) → IsValid w → w.next ≤ depth → is_fit w e.mover e.ask ≡ true → IsYounger w → IsYounger (after w e)
