-- Spaces in preorder: a space before those in it, and the spaces in one space by rising slot.
--
-- The open path is the last space and those above it, from it upwards, each with the lowest slot in which a space may
-- follow. What follows lies in a space of the open path, in a slot from that one on.
use Rattle.std.specs.Prelude.{ℕ, suc, ◌+◌, Bool, false, not, nat_lt, ◌==◌, if◌then◌else◌, List, [], ◌∷◌, ◌++◌, length, Option, Some, None}
use Rattle.fk_image.specs.declared.image.image.SpaceRec.{SpaceRec}
use Rattle.fk_image.specs.declared.image.open.Open.{Open}

-- the open path from a space upwards
unfoldable pub from : ℕ → List Open → List Open
from space [] = []
from space (o ∷ up) = if o.space == space then o ∷ up else from space up

abbrev pub first_floor : List Open → Option ℕ
first_floor [] = None
first_floor (o ∷ up) = Some o.floor

-- the lowest slot of a space in which a space may follow, where it is on the open path
abbrev pub room_under : List Open → ℕ → Option ℕ
room_under path space = first_floor (from space path)

abbrev pub has_room : Option ℕ → ℕ → Bool
has_room None slot = false
has_room (Some floor) slot = not (nat_lt slot floor)

abbrev pub root_path : List Open
root_path = record { space = 0; floor = 0 } ∷ []

-- the open path behind a space with this number, in a slot of the last space of a path
abbrev pub after_entering : ℕ → ℕ → List Open → List Open
after_entering number slot [] = []
after_entering number slot (o ∷ up) = record { space = number; floor = 0 } ∷ record { space = o.space; floor = slot + 1 } ∷ up

abbrev pub path_after : List SpaceRec → SpaceRec → List Open → List Open
path_after [] s path = path
path_after (d ∷ done) s path = after_entering (length (d ∷ done)) s.slot (from s.parent path)

-- the spaces so far and the open path, and what becomes of them with one more
abbrev pub after_space : List SpaceRec × List Open → SpaceRec → List SpaceRec × List Open
after_space before s = (before.0 ++ s ∷ [], path_after before.0 s before.1)

-- ---- beneath

-- how many spaces, from the front, lie in a space with this number or beneath those: their parents' numbers aren't lower
unfoldable pub run_beneath : ℕ → List SpaceRec → ℕ
run_beneath space [] = 0
run_beneath space (s ∷ ss) = if nat_lt s.parent space then 0 else suc (run_beneath space ss)
