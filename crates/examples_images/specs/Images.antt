-- Small images: spaces with nothing in them, and one space with a port and threads.
use Rattle.std.specs.Prelude.{◌≡◌, ◌<◌, ℕ, suc, List, [], ◌∷◌, length, take, replicate, Option, Some, None, slice_get}
use Rattle.fk_image.specs.declared.image.image.Link.TheVariants.{Null, In}
use Rattle.fk_image.specs.declared.image.image.TalkRec.{TalkRec}
use Rattle.fk_image.specs.declared.image.image.Rec.{Rec}
use Rattle.fk_image.specs.declared.image.image.Rec.TheVariants.{Mapping, Port, Thread}
use Rattle.fk_image.specs.declared.image.image.ObjectRec.{ObjectRec}
use Rattle.fk_image.specs.declared.image.image.SpaceRec.{SpaceRec}
use Rattle.fk_image.specs.Form.Order.{LiesIn, AreInOrder}

-- ---- spaces

abbrev pub with_objects : ℕ → ℕ → List ObjectRec → SpaceRec
with_objects parent slot objects = record { parent = parent; slot = slot; holder = Null; objects = objects; pages = [] }

abbrev pub space : ℕ → ℕ → SpaceRec
space parent slot = with_objects parent slot []

abbrev pub root : List ObjectRec → SpaceRec
root objects = with_objects 4294967295 0 objects

-- space 1 in slot 3 of the root, 2 and 3 in it, and 4 in slot 5 of the root
abbrev pub by_depth : List SpaceRec
by_depth = root [] ∷ space 0 3 ∷ space 1 1 ∷ space 1 9 ∷ space 0 5 ∷ []

-- both of the root's spaces, and then one in the first of them
abbrev pub by_breadth : List SpaceRec
by_breadth = root [] ∷ space 0 3 ∷ space 0 5 ∷ space 1 9 ∷ []

abbrev pub falling : List SpaceRec
falling = root [] ∷ space 0 5 ∷ space 0 3 ∷ []

-- nearly the form's order: each space behind its parent, and brothers by rising slot
pub record ComesBehind (before : List SpaceRec) (s : SpaceRec) : Type 0 where
  pub parent : s.parent < length before
  pub rises : (slot number : ℕ) → LiesIn before s.parent slot number → slot < s.slot

abbrev pub BehindParentsIsInOrder : Type 0
BehindParentsIsInOrder = (spaces : List SpaceRec) →
    ((n : ℕ) (s : SpaceRec) → slice_get spaces (suc n) ≡ Some s → ComesBehind (take (suc n) spaces) s) → AreInOrder spaces

-- ---- objects

abbrev pub thread : Option TalkRec → Rec
thread talk = Thread (record { regs = replicate 16 0; pc = 0; mode = 0; code = 0; stops = 0; talk = talk; fault = None })

-- whom the thread in a slot of the root serves, at the port in slot 0
abbrev pub served_by : ℕ → Option TalkRec
served_by slot = Some (record { turn = 1; moved = 0; port = In 0 0; server = In slot 0 })

abbrev pub object : ℕ → Rec → ObjectRec
object slot body = record { slot = slot; body = body }

abbrev pub clients_of : ℕ → ℕ → List SpaceRec
clients_of one other = root (object 0 (Port 0) ∷ object 1 (thread (served_by one)) ∷ object 2 (thread None) ∷ object 3 (thread (served_by other)) ∷
    object 4 (thread None) ∷ []) ∷ []

abbrev pub two_servers : List SpaceRec
two_servers = clients_of 2 4

abbrev pub one_server : List SpaceRec
one_server = clients_of 2 2

abbrev pub maps_a_port : List SpaceRec
maps_a_port = root (object 0 (Port 0) ∷ object 1 (Mapping 0 1 0 0 (In 0 0)) ∷ []) ∷ []
