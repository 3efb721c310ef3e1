-- A stranger to a subtree: nothing of its moves is seen there.
use Rattle.std.specs.Prelude.{◌≡◌, ℕ, Bool, true, false, ◌∷◌}
use Rattle.fk_model.specs.declared.moves.Ask.{Ask}
use Rattle.fk_model.specs.declared.moves.Ask.TheVariants as asks
use Rattle.fk_model.specs.Places.{Path, is_within, parent}
use Rattle.fk_model.specs.Moves.{IsReady}
use Rattle.fk_model.specs.Objects.{Window, mapping_of, and_then, holds}
use Rattle.fk_model.specs.World.{World}
use Rattle.fk_model.specs.Runs.{Event}
use Rattle.fk_model.specs.Valid.{is_fit}
use Rattle.fk_model.specs.Whole.{IsWhole}
use Rattle.fk_model.specs.Cut.{IsPlain}
use Rattle.fk_model.specs.Seen.{IsSeen, leads_inside, IsStranger}
use Rattle.fk_model.specs.Seen.Seen.{Unseen}

-- no mapping outside leads to a region inside
abbrev pub HasNoWindow : World → Path → ℕ → Type 0
HasNoWindow w nester slot = (x : Path) → is_within (slot ∷ nester) x ≡ false →
    holds (λ (m : Window). leads_inside (slot ∷ nester) m.region) (and_then mapping_of (w.body x)) ≡ false

-- a thread moves, a user's or a porter
abbrev pub is_of_thread : Ask → Bool
is_of_thread asks.Run = true
is_of_thread (asks.Call stage words) = true
is_of_thread other = false

-- a move of a stranger isn't seen, where no mapping outside leads to a region inside
abbrev pub StrangersMoveUnseen : Type 0
StrangersMoveUnseen = (w : World) (nester : Path) (slot : ℕ) (e : Event) → IsWhole w → IsPlain w nester slot → HasNoWindow w nester slot →
    IsStranger w nester slot e.mover → is_of_thread e.ask ≡ true → is_fit w e.mover e.ask ≡ true → IsSeen w nester slot e Unseen

-- ---- native servers

abbrev pub is_of_server : Ask → Bool
is_of_server asks.Accept = true
is_of_server (asks.Give words len) = true
is_of_server asks.Over = true
is_of_server other = false

-- a port outside, in a space that isn't above the subtree
pub record IsStrangersPort (w : World) (nester : Path) (slot : ℕ) (port : Path) : Type 0 where
  pub outside : is_within (slot ∷ nester) port ≡ false
  pub aside : is_within (parent port) (slot ∷ nester) ≡ false

-- an act of a native server whose port is a stranger's isn't seen
abbrev pub StrangersActUnseen : Type 0
StrangersActUnseen = (w : World) (nester : Path) (slot : ℕ) (e : Event) → IsWhole w → IsPlain w nester slot → HasNoWindow w nester slot →
    IsStrangersPort w nester slot e.mover → is_of_server e.ask ≡ true → IsReady w e.mover e.pick e.ask → IsSeen w nester slot e Unseen
