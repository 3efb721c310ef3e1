-- What stands in which slots stays with the moves of users and of native servers.
use Rattle.std.specs.Prelude.{◌≡◌, ◌≤◌, true}
use Rattle.fk_model.specs.World.{World}
use Rattle.fk_model.specs.Searches.{depth}
use Rattle.fk_model.specs.Runs.{Event, after}
use Rattle.fk_model.specs.Valid.{IsValid, is_fit}
use Rattle.fk_model.specs.Whole.{KeepsSlots}
use Rattle.laws_moves.specs.Frozen.Users.{is_users}

-- after a move of a user or a native server porters stand in last slots alone, references alone in those of scratch, and no porter elsewhere, if it was so
-- before
abbrev pub UsersKeepSlots : Type 0
UsersKeepSlots = (w : World) (e : Event) → IsValid w → w.next ≤ depth → is_fit w e.mover e.ask ≡ true → is_users e.ask ≡ true → KeepsSlots w →
    KeepsSlots (after w e)
