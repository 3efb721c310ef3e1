-- Faulted: threads with a fault, as candidates.
use Rattle.std.proofs.Common.{◌≡◌, ℕ, true, false, Some, None, option_map, refl, sym}
use Rattle.fk_model.specs.declared.thread.Fault as faults_of
use Rattle.fk_model.specs.declared.thread.Thread as threads_of
use Rattle.fk_model.specs.LinkRows.{Faulting, faulting, is_open, slot_in_set}
use Rattle.fk_model.specs.Places.{Path}
use Rattle.fk_model.specs.Places.Ptr.{At}
use Rattle.fk_model.specs.World.{World}
use Rattle.fk_store.specs.Store.Bodies.{fault_by, peer_by, thread_by}
use Rattle.fk_store.specs.Store.Paths.{place}

-- with one that somebody has taken
pub faulting_closed : (p : ℕ → Path) (w : World) (s : Path) (set : ℕ) (t : threads_of.Thread) (f : faults_of.Fault) →
    t.fault ≡ Some f → is_open (option_map (peer_by p) f.taker) ≡ false → None ≡ faulting w s set (thread_by p t)
faulting_closed p w s set t f is closed = rw (is, closed) refl

-- with one that is raised or parked on a port of the set
pub faulting_open : (p : ℕ → Path) (w : World) (s : Path) (set slot : ℕ) (t : threads_of.Thread) (f : faults_of.Fault) →
    t.fault ≡ Some f → is_open (option_map (peer_by p) f.taker) ≡ true → Some slot ≡ slot_in_set w s set (At (place p f.port)) →
    Some (Faulting slot (fault_by p f)) ≡ faulting w s set (thread_by p t)
faulting_open p w s set slot t f is open_ there = rw (is, open_, sym there) refl
