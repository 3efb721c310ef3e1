-- Named: where a name leads after a move.
use Rattle.std.specs.Prelude.{◌≡◌, ◌≤◌, ℕ, true, false, Option, Some, IsSome}
use Rattle.fk_model.specs.declared.moves.Ask.{Ask}
use Rattle.fk_model.specs.declared.names.Who.{Who}
use Rattle.fk_model.specs.Moves.{outcome, step}
use Rattle.fk_model.specs.Outcomes.{listed}
use Rattle.fk_model.specs.Places.{Path}
use Rattle.fk_model.specs.Searches.{depth}
use Rattle.fk_model.specs.Valid.{birth_at, is_fit, IsValid}
use Rattle.fk_model.specs.Who.{named, space_born}
use Rattle.fk_model.specs.World.{World}
use Rattle.laws_moves.specs.Users.Stood.{put, taken}

-- a name of something that isn't taken away leads where it led
abbrev pub NamesStay : Type 0
NamesStay = (w : World) (x : Path) (pick : Option Path) (ask : Ask) → IsValid w → w.next ≤ depth → is_fit w x ask ≡ true →
    (step w x pick ask).world.next ≤ depth → (who : Who) → IsSome (w.body (named w who)) → taken (listed (outcome w x pick ask)) (named w who) ≡ false →
    named (step w x pick ask).world who ≡ named w who

-- a name of something that wasn't put there led there before
abbrev pub NamesStood : Type 0
NamesStood = (w : World) (x : Path) (pick : Option Path) (ask : Ask) → IsValid w → w.next ≤ depth → is_fit w x ask ≡ true →
    (step w x pick ask).world.next ≤ depth → (who : Who) → IsSome ((step w x pick ask).world.body (named (step w x pick ask).world who)) →
    put (listed (outcome w x pick ask)) (named (step w x pick ask).world who) ≡ false → named (step w x pick ask).world who ≡ named w who

-- a space that isn't taken away stays where it is
abbrev pub SpacesStay : Type 0
SpacesStay = (w : World) (x : Path) (pick : Option Path) (ask : Ask) → IsValid w → w.next ≤ depth → is_fit w x ask ≡ true →
    (step w x pick ask).world.next ≤ depth → (y : Path) (birth : ℕ) → birth_at w y ≡ Some birth → taken (listed (outcome w x pick ask)) y ≡ false →
    (birth_at (step w x pick ask).world y ≡ Some birth) × (space_born (step w x pick ask).world birth ≡ y)
