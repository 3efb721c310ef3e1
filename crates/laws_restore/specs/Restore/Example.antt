-- A small subtree and its rooms, by hand: a port, a region kept by a port outside, a client in talk with a server beside it that
-- has a fault at that outer port, and a space that the client holds, with a dead reference and a page. And, smaller still, the
-- whole script of a space with one reference out.
use Rattle.std.specs.Prelude.{◌≡◌, ℕ, true, false, ◌&&◌, ◌==◌, List, [], ◌∷◌, Option, Some, None, if◌then◌else◌, replicate}
use Rattle.fk_model.specs.declared.names.Kind.TheVariants as kinds
use Rattle.fk_model.specs.declared.thread.Turn.TheVariants as turns
use Rattle.fk_model.specs.Places.{Path, same_path}
use Rattle.fk_model.specs.Places.Ptr.{Dead, At, Out}
use Rattle.fk_model.specs.Objects.{Body}
use Rattle.fk_model.specs.Objects.Peer.{Server}
use Rattle.fk_model.specs.Objects.Mode.{Running}
use Rattle.fk_model.specs.Objects.Body.{Region, Port, Space, Thread_of, Reference}
use Rattle.fk_model.specs.World.{World}
use Rattle.laws_restore.specs.Sites.Orders.{Order}
use Rattle.laws_restore.specs.Sites.Orders.Order.{Readies, Leads, LeadsTop, Makes, Sets, Points, MakesPin, Pins, Takes, Checks, Drops, DropsPin, Deadens}
use Rattle.laws_restore.specs.Restore.Rooms.{Room}
use Rattle.laws_restore.specs.Restore.Script.{script}
use Rattle.laws_restore.specs.Restore.Roomed.{IsRoomed}

abbrev pub small_region : Body
small_region = Region (record { first = 2; count = 3; write = true; keeper = Out 9 })

abbrev pub small_client : Body
small_client = Thread_of (record {
  mode = Running (replicate 16 7);
  counter = 8;
  stops = 0;
  talk = Some (record { port = At (1 ∷ []); peer = Server (At (4 ∷ [])); turn = turns.Client; moved = 3 });
  fault = None;
})

abbrev pub small_server : Body
small_server = Thread_of (record {
  mode = Running (replicate 16 0);
  counter = 0;
  stops = 2;
  talk = None;
  fault = Some (record { port = Out 9; taker = None; page = 5; write = true });
})

abbrev pub small_at : Path → Option Body
small_at y =
    if same_path y [] then Some (Space 0 None) else
    (if same_path y (0 ∷ 5 ∷ []) then Some (Reference Dead) else
    (if same_path y (4 ∷ []) then Some small_server else
    (if same_path y (3 ∷ []) then Some small_client else
    (if same_path y (2 ∷ []) then Some small_region else
    (if same_path y (1 ∷ []) then Some (Port None false) else
    (if same_path y (5 ∷ []) then Some (Space 0 (Some (At (3 ∷ [])))) else None))))))

abbrev pub small : World
small = record { body = small_at; page = λ q n. if same_path q (5 ∷ []) && n == 7 then Some (replicate 64 6) else None; next = 0 }

abbrev pub outer_room : Room
outer_room = record {
  path = [];
  holder = None;
  items = record { slot = 1; body = Port None false } ∷ record { slot = 2; body = small_region } ∷ record { slot = 3; body = small_client }
      ∷ record { slot = 4; body = small_server } ∷ [];
  sheets = [];
}

abbrev pub inner_room : Room
inner_room = record {
  path = 5 ∷ [];
  holder = Some (At (3 ∷ []));
  items = record { slot = 0; body = Reference Dead }
      ∷ [];
  sheets = record { number = 7; words = replicate 64 6 } ∷ [];
}

abbrev pub small_rooms : List Room
small_rooms = outer_room ∷ inner_room ∷ []

-- the nester's port in slot 9 is bound to slot 10
abbrev pub small_bind : ℕ → ℕ
small_bind i = if i == 9 then 10 else i

-- a small subtree with a talk, a fault, a hold, a page and pointers of each sort is such as the laws suppose
abbrev pub SmallIsRoomed : Type 0
SmallIsRoomed = IsRoomed small_bind small small_rooms

-- ---- a space with one reference, to the nester's port in slot 9, restored in slot 2

abbrev pub one_room : List Room
one_room = record { path = []; holder = None; items = record { slot = 6; body = Reference (Out 9) } ∷ []; sheets = [] } ∷ []

abbrev pub one_script : List Order
one_script =
    -- scratch; D leads to what was destroyed; the pin; P stands at the space
    Readies 240 ∷ Readies 241 ∷ Readies 242 ∷ Readies 243 ∷ Makes 2 [] 0 kinds.Region ∷ Leads 243 2 [] 0 ∷ Deadens 243 ∷ MakesPin ∷ LeadsTop 240
    -- the reference, with its record, which says nothing
    ∷ Makes 240 [] 6 kinds.Reference ∷ Sets 240 [] 6 (9 ∷ replicate 63 0)
    -- the pin finds the port of slot 10, T too, and it is one; the reference is led there, and T in again
    ∷ Pins 10 ∷ Takes 241 ∷ Checks 241 10 ∷ Points 240 [] 6 241 ∷ LeadsTop 241
    -- scratch goes
    ∷ LeadsTop 241 ∷ LeadsTop 242 ∷ DropsPin ∷ Drops 240 ∷ Drops 241 ∷ Drops 242 ∷ Drops 243 ∷ []

-- the script of a space with one reference out, order by order
abbrev pub OneScript : Type 0
OneScript = script 2 small_bind one_room ≡ one_script
