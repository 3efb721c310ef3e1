-- Rebinding: the outward ports of a subtree that is seen alone get other names.
use Rattle.std.specs.Prelude.{ℕ, Some, option_map}
use Rattle.fk_model.specs.Places.{Ptr}
use Rattle.fk_model.specs.Places.Ptr.{Null, Dead, At, Out, Outside, Far}
use Rattle.fk_model.specs.Objects.{Peer}
use Rattle.fk_model.specs.Objects.Peer.{Server, Service, Parked}
use Rattle.fk_model.specs.World.{World, Sweep, through}
use Rattle.fk_model.specs.Further.{Told, Touch, Onward}
use Rattle.fk_model.specs.Further.Touch.{HandedWith}
use Rattle.fk_model.specs.Further.Onward.{Own, ByOthers}
use Rattle.fk_model.specs.Further.Told.{ToldWords, ToldOver, ToldEnd, ToldFault}

-- slot i of the nester becomes slot `bind i`
abbrev pub rebound_ptr : (ℕ → ℕ) → Ptr → Ptr
rebound_ptr bind (Out slot) = Out (bind slot)
rebound_ptr bind Null = Null
rebound_ptr bind Dead = Dead
rebound_ptr bind (At x) = At x
rebound_ptr bind Outside = Outside
rebound_ptr bind Far = Far

abbrev pub rebound_peer : (ℕ → ℕ) → Peer → Peer
rebound_peer bind (Server thread) = Server (rebound_ptr bind thread)
rebound_peer bind Service = Service
rebound_peer bind Parked = Parked

abbrev pub rebinding : (ℕ → ℕ) → Sweep
rebinding bind = record {
  pointer = rebound_ptr bind;
  holder = λ p. Some (rebound_ptr bind p);
  talk = λ talk. Some (record talk { port = rebound_ptr bind talk.port; peer = rebound_peer bind talk.peer });
  fault = λ fault. Some (record fault { port = rebound_ptr bind fault.port; taker = option_map (rebound_peer bind) fault.taker });
  set = λ port set. Some set;
}

-- the subtree with every outward port renamed. Nothing else of it changes
unfoldable pub rebound : (ℕ → ℕ) → World → World
rebound bind c = record {
  body = λ q. option_map (through (rebinding bind) q) (c.body q);
  page = c.page;
  next = c.next;
}

-- what is told names the port by its new name, and so does what goes with it
abbrev pub rebound_told : (ℕ → ℕ) → Told → Told
rebound_told bind (ToldWords thread port words) = ToldWords thread (rebound_ptr bind port) words
rebound_told bind (ToldOver thread port carried) = ToldOver thread (rebound_ptr bind port) (option_map (rebound_ptr bind) carried)
rebound_told bind (ToldEnd thread port) = ToldEnd thread (rebound_ptr bind port)
rebound_told bind (ToldFault thread port page write) = ToldFault thread (rebound_ptr bind port) page write

-- a move names a port only where a pointer is handed over
abbrev pub touch_by : (Ptr → Ptr) → Touch → Touch
touch_by see (HandedWith thread pointer) = HandedWith thread (see pointer)
touch_by see other = other

abbrev pub rebound_move : (ℕ → ℕ) → Onward → Onward
rebound_move bind (Own mover pick taken) = Own mover pick taken
rebound_move bind (ByOthers touch) = ByOthers (touch_by (rebound_ptr bind) touch)
