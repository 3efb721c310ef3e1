-- What becomes of a player to whom cores are lent.
use Rattle.std.specs.Prelude.{◌≡◌, Bool, Result, Ok, Err}
use Rattle.fk_core.specs.Cores.Cores.{RunCore}

-- one call was made of it, with such a core, and this is its answer; or there was no core, and it is as before
abbrev pub IsPlayed : {P E : Type 0} → (plays : P → RunCore → Bool → P → Type 0) → (IsLent : RunCore → Type 0) → P → Result Bool E → P → Type 0
IsPlayed plays IsLent before (Ok answer) after = (core : RunCore) × IsLent core × plays before core answer after
IsPlayed plays IsLent before (Err lacking) after = after ≡ before

-- such calls were made of it one after the other, or none
pub data ArePlayed {P : Type 0} (plays : P → RunCore → Bool → P → Type 0) (IsLent : RunCore → Type 0) (before : P) : P → Type 0 where
  Begins : ArePlayed plays IsLent before before
  Goes : (now : P) (core : RunCore) (answer : Bool) (after : P) → ArePlayed plays IsLent before now → IsLent core → plays now core answer after →
      ArePlayed plays IsLent before after
