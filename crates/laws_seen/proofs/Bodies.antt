-- Bodies: two worlds that can't differ are the same.
use Rattle.std.proofs.Common.{◌≡◌, ◌⊎◌, inl, inr, ℕ, Bool, List, Option, refl}
use Rattle.fk_model.specs.declared.stage.Stage.{Stage}
use Rattle.fk_model.specs.contracts.stage.Stage as stage
use Rattle.fk_model.specs.contracts.thread.Turn as turn
use Rattle.fk_model.specs.Places.{Ptr}
use Rattle.fk_model.specs.Places.Ptr.{Null, Dead, At, Out, Outside, Far}
use Rattle.fk_model.specs.Objects.{Mode, Peer, Talk, Fault, Thread, Window, Extent, Body}
use Rattle.fk_model.specs.Objects.Mode.{Running, Calling, Halted, Native}
use Rattle.fk_model.specs.Objects.Peer.{Server, Service, Parked}
use Rattle.fk_model.specs.Objects.Body.{Mutex, Cond, Mapping, Region, Port, Portset, Space, Thread_of, Reference}
use Rattle.fk_model.specs.World.{World}
use Rattle.laws_seen.proofs.Stable.{Stable, stable_by, stable_unit, stable_ℕ, stable_bool, stable×, stable⊎, stable_list, stable_option, stable_each}
use Rattle.laws_seen.proofs.Stable.{stable_coded}

-- ---- pointers

abbrev Ptr_parts : Type 0
Ptr_parts = Unit {0} ⊎ (Unit {0} ⊎ (List ℕ ⊎ (ℕ ⊎ (Unit {0} ⊎ Unit {0}))))

ptr_parts : Ptr → Ptr_parts
ptr_parts Null = inl tt
ptr_parts Dead = inr (inl tt)
ptr_parts (At x) = inr (inr (inl x))
ptr_parts (Out slot) = inr (inr (inr (inl slot)))
ptr_parts Outside = inr (inr (inr (inr (inl tt))))
ptr_parts Far = inr (inr (inr (inr (inr tt))))

ptr_of : Ptr_parts → Ptr
ptr_of (inl _) = Null
ptr_of (inr (inl _)) = Dead
ptr_of (inr (inr (inl x))) = At x
ptr_of (inr (inr (inr (inl slot)))) = Out slot
ptr_of (inr (inr (inr (inr (inl _))))) = Outside
ptr_of (inr (inr (inr (inr (inr _))))) = Far

ptr_whole : (p : Ptr) → ptr_of (ptr_parts p) ≡ p
unfolding ptr_parts ptr_of
ptr_whole Null = refl
ptr_whole Dead = refl
ptr_whole (At x) = refl
ptr_whole (Out slot) = refl
ptr_whole Outside = refl
ptr_whole Far = refl

stable_ptr : Stable Ptr
stable_ptr = stable_by
    (stable⊎ stable_unit (stable⊎ stable_unit (stable⊎ (stable_list stable_ℕ) (stable⊎ stable_ℕ (stable⊎ stable_unit stable_unit))))) ptr_parts ptr_of ptr_whole

abbrev Peer_parts : Type 0
Peer_parts = Ptr ⊎ (Unit {0} ⊎ Unit {0})

peer_parts : Peer → Peer_parts
peer_parts (Server thread) = inl thread
peer_parts Service = inr (inl tt)
peer_parts Parked = inr (inr tt)

peer_of : Peer_parts → Peer
peer_of (inl thread) = Server thread
peer_of (inr (inl _)) = Service
peer_of (inr (inr _)) = Parked

peer_whole : (p : Peer) → peer_of (peer_parts p) ≡ p
unfolding peer_parts peer_of
peer_whole (Server thread) = refl
peer_whole Service = refl
peer_whole Parked = refl

stable_peer : Stable Peer
stable_peer = stable_by (stable⊎ stable_ptr (stable⊎ stable_unit stable_unit)) peer_parts peer_of peer_whole

-- ---- threads

abbrev Mode_parts : Type 0
Mode_parts = List ℕ ⊎ ((List Stage × List ℕ) ⊎ ((List ℕ × ℕ) ⊎ List ℕ))

mode_parts : Mode → Mode_parts
mode_parts (Running g) = inl g
mode_parts (Calling todo rest) = inr (inl (todo, rest))
mode_parts (Halted g code) = inr (inr (inl (g, code)))
mode_parts (Native g) = inr (inr (inr g))

mode_of : Mode_parts → Mode
mode_of (inl g) = Running g
mode_of (inr (inl call)) = Calling call.0 call.1
mode_of (inr (inr (inl halt))) = Halted halt.0 halt.1
mode_of (inr (inr (inr g))) = Native g

mode_whole : (m : Mode) → mode_of (mode_parts m) ≡ m
unfolding mode_parts mode_of
mode_whole (Running g) = refl
mode_whole (Calling todo rest) = refl
mode_whole (Halted g code) = refl
mode_whole (Native g) = refl

stable_numbers : Stable (List ℕ)
stable_numbers = stable_list stable_ℕ

stable_mode : Stable Mode
stable_mode = stable_by (stable⊎ stable_numbers (stable⊎ (stable× (stable_list (stable_coded stage.the_row.coded)) stable_numbers)
    (stable⊎ (stable× stable_numbers stable_ℕ) stable_numbers))) mode_parts mode_of mode_whole

stable_talk : Stable Talk
stable_talk = stable_by (stable× stable_ptr (stable× stable_peer (stable× (stable_coded turn.the_row.coded) stable_ℕ)))
    (λ (t : Talk). (t.port, (t.peer, (t.turn, t.moved))))
    (λ p. record { port = p.0; peer = p.1.0; turn = p.1.1.0; moved = p.1.1.1 }) (λ t. refl)

stable_fault : Stable Fault
stable_fault = stable_by (stable× stable_ℕ (stable× stable_bool (stable× stable_ptr (stable_option stable_peer))))
    (λ (f : Fault). (f.page, (f.write, (f.port, f.taker))))
    (λ p. record { page = p.0; write = p.1.0; port = p.1.1.0; taker = p.1.1.1 }) (λ f. refl)

stable_thread : Stable Thread
stable_thread = stable_by (stable× stable_mode (stable× stable_ℕ (stable× stable_ℕ (stable× (stable_option stable_talk) (stable_option stable_fault)))))
    (λ (t : Thread). (t.mode, (t.counter, (t.stops, (t.talk, t.fault)))))
    (λ p. record { mode = p.0; counter = p.1.0; stops = p.1.1.0; talk = p.1.1.1.0; fault = p.1.1.1.1 }) (λ t. refl)

-- ---- objects

stable_window : Stable Window
stable_window = stable_by (stable× stable_ℕ (stable× stable_ℕ (stable× stable_ℕ (stable× stable_bool stable_ptr))))
    (λ (m : Window). (m.first, (m.count, (m.offset, (m.write, m.region)))))
    (λ p. record { first = p.0; count = p.1.0; offset = p.1.1.0; write = p.1.1.1.0; region = p.1.1.1.1 }) (λ m. refl)

stable_extent : Stable Extent
stable_extent = stable_by (stable× stable_ℕ (stable× stable_ℕ (stable× stable_bool stable_ptr)))
    (λ (r : Extent). (r.first, (r.count, (r.write, r.keeper))))
    (λ p. record { first = p.0; count = p.1.0; write = p.1.1.0; keeper = p.1.1.1 }) (λ r. refl)

abbrev Body_parts : Type 0
Body_parts = Bool ⊎ (Unit {0} ⊎ (Window ⊎ (Extent ⊎ ((Option ℕ × Bool) ⊎ (Unit {0} ⊎ ((ℕ × Option Ptr) ⊎ (Thread ⊎ Ptr)))))))

body_parts : Body → Body_parts
body_parts (Mutex locked) = inl locked
body_parts Cond = inr (inl tt)
body_parts (Mapping m) = inr (inr (inl m))
body_parts (Region r) = inr (inr (inr (inl r)))
body_parts (Port set served) = inr (inr (inr (inr (inl (set, served)))))
body_parts Portset = inr (inr (inr (inr (inr (inl tt)))))
body_parts (Space birth holder) = inr (inr (inr (inr (inr (inr (inl (birth, holder)))))))
body_parts (Thread_of t) = inr (inr (inr (inr (inr (inr (inr (inl t)))))))
body_parts (Reference to) = inr (inr (inr (inr (inr (inr (inr (inr to)))))))

body_of : Body_parts → Body
body_of (inl locked) = Mutex locked
body_of (inr (inl _)) = Cond
body_of (inr (inr (inl m))) = Mapping m
body_of (inr (inr (inr (inl r)))) = Region r
body_of (inr (inr (inr (inr (inl port))))) = Port port.0 port.1
body_of (inr (inr (inr (inr (inr (inl _)))))) = Portset
body_of (inr (inr (inr (inr (inr (inr (inl space))))))) = Space space.0 space.1
body_of (inr (inr (inr (inr (inr (inr (inr (inl t)))))))) = Thread_of t
body_of (inr (inr (inr (inr (inr (inr (inr (inr to)))))))) = Reference to

body_whole : (b : Body) → body_of (body_parts b) ≡ b
unfolding body_parts body_of
body_whole (Mutex locked) = refl
body_whole Cond = refl
body_whole (Mapping m) = refl
body_whole (Region r) = refl
body_whole (Port set served) = refl
body_whole Portset = refl
body_whole (Space birth holder) = refl
body_whole (Thread_of t) = refl
body_whole (Reference to) = refl

stable_body : Stable Body
stable_body = stable_by (stable⊎ stable_bool (stable⊎ stable_unit (stable⊎ stable_window (stable⊎ stable_extent
    (stable⊎ (stable× (stable_option stable_ℕ) stable_bool) (stable⊎ stable_unit
    (stable⊎ (stable× stable_ℕ (stable_option stable_ptr)) (stable⊎ stable_thread stable_ptr)))))))) body_parts body_of body_whole

-- ---- worlds

pub stable_world : Stable World
stable_world = stable_by (stable× (stable_each (stable_option stable_body)) (stable× (stable_each (stable_each (stable_option stable_numbers))) stable_ℕ))
    (λ (w : World). (w.body, (w.page, w.next)))
    (λ p. record { body = p.0; page = p.1.0; next = p.1.1 }) (λ w. refl)
