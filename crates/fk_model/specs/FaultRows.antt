-- Faults: their end, and what a porter restores. They are raised where memory is reached, and taken by wait.
use Rattle.std.specs.Prelude.{ℕ, ◌==◌, [], ◌∷◌, Option, Some, None, Result, Ok, if◌then◌else◌, slice_index}
use Rattle.fk_model.specs.declared.limits.TheConstants.{OWN_SPACE}
use Rattle.fk_model.specs.declared.names.Kind.TheVariants as kinds
use Rattle.fk_model.specs.declared.statuses.status.TheConstants.{NOTLINKED, HELD}
use Rattle.fk_model.specs.Places.{Path, parent, Ptr}
use Rattle.fk_model.specs.Places.Ptr.{At}
use Rattle.fk_model.specs.Objects.{Peer, Fault, port_of, thread_of}
use Rattle.fk_model.specs.Objects.Peer.{Server, Parked}
use Rattle.fk_model.specs.World.{World}
use Rattle.fk_model.specs.World.Change.{Alter}
use Rattle.fk_model.specs.World.Edit.{SetFault}
use Rattle.fk_model.specs.Searches.{faulter_of}
use Rattle.fk_model.specs.Holds.{is_unheld, is_frozen_for}
use Rattle.fk_model.specs.Outcomes.{Outcome, ◌>>=◌, refuse, or_refuse, when, Caller, path_of, done}
use Rattle.fk_model.specs.Readers.{and_read, object_in, space_argument, referred}

-- ---- fault_done: the fault that the caller has taken ends, and its thread tries again. Not while that thread is held

abbrev pub frees : World → Caller → Path → Outcome
frees w c x = when (is_unheld w (parent x)) (done c (Alter x (SetFault None) ∷ []) [])

-- fault_done: the fault that the caller has taken ends, and its thread goes on
unfoldable pub fault_done : World → Caller → Outcome
fault_done w c = or_refuse NOTLINKED (faulter_of w (path_of c)) >>= frees w c

-- ---- a porter makes a fault again: `words` are the page, and 1 for a write

abbrev pub given_fault : Caller → Ptr → Option Peer → Option Fault
given_fault c port taker = Some (record { page = slice_index c.words 0; write = slice_index c.words 1 == 1; port = port; taker = taker })

-- the taker: none where the register says so, else the thread to which a reference leads
abbrev pub named_taker : World → Caller → ℕ → Result (Option Peer) ℕ
named_taker w c taker = if taker == OWN_SPACE then Ok None else and_read (referred w c kinds.Thread taker) (λ thread. Ok (Some (Server thread)))

-- fault_set: a thread gets a fault again that is raised at a port, and whoever took it there, or nobody
unfoldable pub fault_set : World → Caller → ℕ → ℕ → ℕ → ℕ → Outcome
fault_set w c s x port taker = do
  space ← space_argument w c s
  _ ← object_in w c thread_of space x
  at ← referred w c kinds.Port port
  by ← named_taker w c taker
  _ ← refuse HELD (is_frozen_for w (path_of c) (x ∷ space))
  done c (Alter (x ∷ space) (SetFault (given_fault c at by)) ∷ []) []

-- raised on a port of the porter's space, or parked there
unfoldable pub fault_park : World → Caller → ℕ → ℕ → ℕ → ℕ → Outcome
fault_park w c s x port taken = do
  space ← space_argument w c s
  _ ← object_in w c thread_of space x
  _ ← object_in w c port_of c.space port
  _ ← refuse HELD (is_frozen_for w (path_of c) (x ∷ space))
  done c (Alter (x ∷ space) (SetFault (given_fault c (At (port ∷ c.space)) (if taken == 1 then Some Parked else None))) ∷ []) []
