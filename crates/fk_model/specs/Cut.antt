-- A subtree seen alone: what lies at and beneath a slot of a nester, with all that leads out named by where it leads.
--
-- Paths begin at the subtree's root. A pointer to a port in a slot of the nester becomes Out of that slot; the peer of a
-- talk there, or the taker of a fault there, becomes Outside, whoever it is. Every other pointer that leads out becomes
-- Far. Birth numbers, and who holds the root, aren't part of it; nor is whether a port is served.
use Rattle.std.specs.Prelude.{◌≡◌, ℕ, zero, Bool, true, false, not, ◌&&◌, ◌||◌, ◌==◌, [], ◌∷◌, ◌++◌, Option, Some, None, option_map, if◌then◌else◌}
use Rattle.std.specs.List.{list_any}
use Rattle.fk_model.specs.Places.{Path, same_path, strip, is_within, Ptr}
use Rattle.fk_model.specs.Places.Ptr.{Null, Dead, At, Out, Outside, Far}
use Rattle.fk_model.specs.Objects.{Peer, Talk, Fault, Thread, Body, port_of, thread_of, and_then, holds, is_served}
use Rattle.fk_model.specs.Objects.Body.{Port, Space}
use Rattle.fk_model.specs.Objects.Peer.{Server, Service, Parked}
use Rattle.fk_model.specs.World.{World, Sweep, through}
use Rattle.fk_model.specs.Searches.{pointers}
use Rattle.fk_model.specs.StateRows.{is_native}

-- ---- pointers

abbrev pub is_port : Option Body → Bool
is_port body = holds (λ (port : Option ℕ × Bool). true) (and_then port_of body)

-- the slots of the nester that hold a port; the subtree's own slot is none of them
abbrev pub ports_of : World → Path → ℕ → ℕ → Bool
ports_of w nester slot i = not (i == slot) && is_port (w.body (i ∷ nester))

-- a pointer that leads out of the subtree, as the subtree sees it: to a port of its nester by the port's slot, else far
abbrev pub cut_out : (ℕ → Bool) → Path → Path → Ptr
cut_out ports nester [] = Far
cut_out ports nester (i ∷ x) = if same_path x nester && ports i then Out i else Far

abbrev pub cut_to : (ℕ → Bool) → Path → Path → Option Path → Ptr
cut_to ports nester x (Some q) = At q
cut_to ports nester x None = cut_out ports nester x

abbrev pub cut_ptr : (ℕ → Bool) → Path → ℕ → Ptr → Ptr
cut_ptr ports nester slot (At x) = cut_to ports nester x (strip (slot ∷ nester) x)
cut_ptr ports nester slot Null = Null
cut_ptr ports nester slot Dead = Dead
cut_ptr ports nester slot other = Far

-- a pointer leads to a port of the nester
abbrev pub is_out : Ptr → Bool
is_out (Out i) = true
is_out other = false

-- a peer at a port that leads out is outside, also where it is native or parked
abbrev pub cut_peer : (ℕ → Bool) → Path → ℕ → Bool → Peer → Peer
cut_peer ports nester slot true peer = Server Outside
cut_peer ports nester slot false (Server thread) = Server (cut_ptr ports nester slot thread)
cut_peer ports nester slot false Service = Service
cut_peer ports nester slot false Parked = Parked

abbrev pub cut_talk : (ℕ → Bool) → Path → ℕ → Talk → Talk
cut_talk ports nester slot talk =
    let port = cut_ptr ports nester slot talk.port in
    record talk { port = port; peer = cut_peer ports nester slot (is_out port) talk.peer }

abbrev pub cut_fault : (ℕ → Bool) → Path → ℕ → Fault → Fault
cut_fault ports nester slot fault =
    let port = cut_ptr ports nester slot fault.port in
    record fault { port = port; taker = option_map (cut_peer ports nester slot (is_out port)) fault.taker }

-- what a cut makes of each pointer
abbrev pub cutting : (ℕ → Bool) → Path → ℕ → Sweep
cutting ports nester slot = record {
  pointer = cut_ptr ports nester slot;
  holder = λ p. Some (cut_ptr ports nester slot p);
  talk = λ talk. Some (cut_talk ports nester slot talk);
  fault = λ fault. Some (cut_fault ports nester slot fault);
  set = λ port set. Some set;
}

-- ---- bodies and worlds

-- without its birth number, and unserved
abbrev pub unborn : Body → Body
unborn (Space birth holder) = Space 0 holder
unborn (Port set served) = Port set false
unborn other = other

-- a body of which each pointer is seen by a sweep
unfoldable pub seen_by : Sweep → Body → Body
seen_by f b = unborn (through f [] b)

-- who holds the root of a subtree is no part of it
abbrev pub unheld : Path → Body → Body
unheld [] (Space birth holder) = Space birth None
unheld q b = b

abbrev pub cut_by : (ℕ → Bool) → World → Path → ℕ → World
cut_by ports w nester slot = record {
  body = λ q. option_map (λ b. unheld q (seen_by (cutting ports nester slot) b)) (w.body (q ++ slot ∷ nester));
  page = λ q page. w.page (q ++ slot ∷ nester) page;
  next = zero;
}

-- the subtree in a slot of a nester, seen alone
unfoldable pub cut : World → Path → ℕ → World
cut w nester slot = cut_by (ports_of w nester slot) w nester slot

-- ---- plain subtrees: nothing leads anywhere but inside or to the nester's ports, and nothing inside serves the outside

abbrev pub is_far : Ptr → Bool
is_far Far = true
is_far other = false

abbrev pub has_far : Option Body → Bool
has_far body = holds (λ b. list_any is_far (pointers b)) body

abbrev pub is_outer : Ptr → Bool
is_outer Outside = true
is_outer other = false

-- a peer that is a thread inside
abbrev pub is_inner_peer : Path → Peer → Bool
is_inner_peer root (Server (At x)) = is_within root x
is_inner_peer root other = false

-- an outside thread whose talk or fault an inside thread serves
abbrev pub is_served_by : Path → Option Body → Bool
is_served_by root body =
    holds (λ (t : Thread). holds (λ (talk : Talk). is_inner_peer root talk.peer) t.talk
    || holds (λ (fault : Fault). holds (is_inner_peer root) fault.taker) t.fault) (and_then thread_of body)

pub record IsPlain (w : World) (nester : Path) (slot : ℕ) : Type 0 where
  pub birth : ℕ
  pub holder : Option Ptr
  pub root : w.body (slot ∷ nester) ≡ Some (Space birth holder)
  pub near : (q : Path) → has_far ((cut w nester slot).body q) ≡ false
  pub no_porter : (q : Path) → holds is_native (w.body (q ++ slot ∷ nester)) ≡ false
  pub unserved : (q : Path) → holds is_served (w.body (q ++ slot ∷ nester)) ≡ false
  pub served_inside : (x : Path) → is_within (slot ∷ nester) x ≡ false → is_served_by (slot ∷ nester) (w.body x) ≡ false
