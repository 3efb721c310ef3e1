-- What users and native servers can name: no slot above 239, no porter's mode, and no space above a porter's hold as one to hold.
use Rattle.std.specs.Prelude.{◌≡◌, Bool, true, false, nat_le, List, [], ◌∷◌, Option, Some, None}
use Rattle.std.specs.List.{list_any}
use Rattle.fk_model.specs.declared.limits.TheConstants.{LAST_USER_SLOT}
use Rattle.fk_model.specs.declared.moves.Ask.{Ask}
use Rattle.fk_model.specs.declared.moves.Ask.TheVariants as asks
use Rattle.fk_model.specs.Places.{Path, slot_of}
use Rattle.fk_model.specs.Objects.{holds}
use Rattle.fk_model.specs.World.{World, Change, Edit}
use Rattle.fk_model.specs.World.Change.{Alter, Make, MakeSpace, Kill, Move, PutPage, DropPage}
use Rattle.fk_model.specs.World.Edit.{SetPointer, SetHolder, Proceed}
use Rattle.fk_model.specs.Searches.{beneath, leaf}
use Rattle.fk_model.specs.Holds.{is_porter}
use Rattle.fk_model.specs.StateRows.{is_native}
use Rattle.fk_model.specs.SpaceRows.{has_porter}
use Rattle.fk_model.specs.Moves.{outcome}
use Rattle.fk_model.specs.Outcomes.{listed}
use Rattle.fk_model.specs.Valid.{IsRooted}

abbrev pub is_low : Path → Bool
is_low x = nat_le (slot_of x) LAST_USER_SLOT

abbrev pub IsUsersEdit : World → Path → Edit → Type 0
IsUsersEdit w x (SetPointer to) = is_low x ≡ true
IsUsersEdit w x (SetHolder (Some holder)) = list_any (has_porter w) (beneath w x) ≡ false
IsUsersEdit w x (Proceed mode counter) = (holds is_native (w.body x) ≡ false) × (is_porter mode ≡ false)
IsUsersEdit w x other = Unit {0}

-- what a user destroys is the first leaf of what it names
pub record IsLeafOf (w : World) (x : Path) : Type 0 where
  pub named : Path
  pub low : is_low named ≡ true
  pub leaf : leaf w named ≡ x

abbrev pub IsUsers : World → Change → Type 0
IsUsers w (Alter x edit) = IsUsersEdit w x edit
IsUsers w (Make x body) = (is_low x ≡ true) × (is_native body ≡ false)
IsUsers w (MakeSpace x holder) = (is_low x ≡ true) × (holder ≡ None)
IsUsers w (Kill x) = IsLeafOf w x
IsUsers w (Move x slot) = (is_low x ≡ true) × (nat_le slot LAST_USER_SLOT ≡ true)
IsUsers w (PutPage space page words) = Unit {0}
IsUsers w (DropPage space page) = Unit {0}

abbrev pub AreUsers : World → List Change → Type 0
AreUsers w [] = Unit {0}
AreUsers w (c ∷ cs) = IsUsers w c × AreUsers w cs

-- an ask of a user or of a native server
abbrev pub is_users : Ask → Bool
is_users (asks.Call stage words) = false
is_users other = true

-- users and native servers name no slot above 239, make no porter, and hold no space above one that a porter holds
abbrev pub UsersNameLow : Type 0
UsersNameLow = (w : World) (x : Path) (pick : Option Path) (ask : Ask) → IsRooted w → is_users ask ≡ true → AreUsers w (listed (outcome w x pick ask))
