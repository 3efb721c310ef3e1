-- Restored: a porter's stages that make a talk or a fault again are ready whatever words it gives.
use Rattle.std.proofs.Common.{◌≡◌, ℕ, Bool, true, false, ◌&&◌, ◌↔◌, List, [], ◌∷◌, Option, Some, None, Result, Ok, Err, if◌then◌else◌, ◌==◌}
use Rattle.fk_model.specs.declared.moves.Ask.TheVariants as asks
use Rattle.fk_model.specs.declared.names.Kind.TheVariants as kinds
use Rattle.fk_model.specs.declared.stage.Stage.{Stage}
use Rattle.fk_model.specs.declared.stage.Stage.TheVariants.{LinkSet, LinkPark, FaultSet, FaultPark}
use Rattle.fk_model.specs.declared.statuses.status.TheConstants.{HELD}
use Rattle.fk_model.specs.FaultRows.{given_fault, named_taker, fault_set, fault_park}
use Rattle.fk_model.specs.Holds.{is_frozen_for, is_porter, is_unheld}
use Rattle.fk_model.specs.LinkRows.{given_talk, link_set, link_park}
use Rattle.fk_model.specs.Moves.{call_row, closed, with_pick, porter_at, porter_move, outcome, GoesAllowed, IsReady}
use Rattle.fk_model.specs.Objects.{Peer, Thread, port_of, thread_of}
use Rattle.fk_model.specs.Objects.Peer.{Server, Parked}
use Rattle.fk_model.specs.Outcomes.{Outcome, ◌>>=◌, done, path_of, refuse, when}
use Rattle.fk_model.specs.Outcomes.Outcome.{Refused}
use Rattle.fk_model.specs.Places.{Path, Ptr, parent}
use Rattle.fk_model.specs.Places.Ptr.{At}
use Rattle.fk_model.specs.Readers.{handle, object_in, referred, space_argument}
use Rattle.fk_model.specs.Searches.{thread_at}
use Rattle.fk_model.specs.World.{World}
use Rattle.fk_model.specs.World.Change.{Alter}
use Rattle.fk_model.specs.World.Edit.{SetFault, SetTalk}
use Rattle.fk_calls.specs.Calls.Rows.{restores}

-- what the porter at a path comes to with some words is ready where what it comes to with others is
abbrev AreOne : World → Path → Option Path → List ℕ → List ℕ → Outcome → Outcome → Type 0
AreOne w x pick a b o p = GoesAllowed w x (closed (porter_at x a) (with_pick false pick o)) ↔ GoesAllowed w x (closed (porter_at x b) (with_pick false pick p))

module _ (w : World) (x : Path) (a b : List ℕ) where
  refused : (pick : Option Path) (status : ℕ) → AreOne w x pick a b (Refused status) (Refused status)
  refused None status = ((λ h. h), (λ h. h))
  refused (Some q) status = ((λ h. h), (λ h. h))

  -- where they read the same
  reads : {A : Type 0} (pick : Option Path) (r : Result A ℕ) (f g : A → Outcome) →
      ((found : A) → AreOne w x pick a b (f found) (g found)) → AreOne w x pick a b (r >>= f) (r >>= g)
  reads pick (Ok found) f g same = same found
  reads pick (Err status) f g same = refused pick status

  -- talks at one port, with one peer
  talks : (pick : Option Path) (at : Path) (port : Ptr) (peer : Peer) →
      AreOne w x pick a b (done (porter_at x a) (Alter at (SetTalk (given_talk (porter_at x a) port peer)) ∷ []) [])
      (done (porter_at x b) (Alter at (SetTalk (given_talk (porter_at x b) port peer)) ∷ []) [])
  talks None at port peer = (
    (λ h. (record { object = h.0.object; changed = h.0.changed; made = h.0.made }, tt)),
    (λ h. (record { object = h.0.object; changed = h.0.changed; made = h.0.made }, tt)),
  )
  talks (Some q) at port peer = ((λ h. h), (λ h. h))

  -- faults on one port, with one taker
  faults : (pick : Option Path) (at : Path) (port : Ptr) (taker : Option Peer) →
      AreOne w x pick a b (done (porter_at x a) (Alter at (SetFault (given_fault (porter_at x a) port taker)) ∷ []) [])
      (done (porter_at x b) (Alter at (SetFault (given_fault (porter_at x b) port taker)) ∷ []) [])
  faults None at port taker = (
    (λ h. (record { object = h.0.object; changed = h.0.changed; made = h.0.made }, tt)),
    (λ h. (record { object = h.0.object; changed = h.0.changed; made = h.0.made }, tt)),
  )
  faults (Some q) at port taker = ((λ h. h), (λ h. h))

  -- ---- the rows

  link_sets : (pick : Option Path) (s k port server : ℕ) →
      AreOne w x pick a b (link_set w (porter_at x a) s k port server) (link_set w (porter_at x b) s k port server)
  unfolding link_set space_argument handle referred object_in
  link_sets pick s k port server =
      reads pick (space_argument w (porter_at x a) s) _ _ (λ space.
      reads pick (object_in w (porter_at x a) thread_of space k) _ _ (λ t.
      reads pick (referred w (porter_at x a) kinds.Port port) _ _ (λ at.
      reads pick (referred w (porter_at x a) kinds.Thread server) _ _ (λ thread.
      reads pick (refuse HELD (is_frozen_for w (path_of (porter_at x a)) (k ∷ space))) _ _ (λ free. talks pick (k ∷ space) at (Server thread))))))

  link_parks : (pick : Option Path) (s k port : ℕ) →
      AreOne w x pick a b (link_park w (porter_at x a) s k port) (link_park w (porter_at x b) s k port)
  unfolding link_park space_argument handle object_in
  link_parks pick s k port =
      reads pick (space_argument w (porter_at x a) s) _ _ (λ space.
      reads pick (object_in w (porter_at x a) thread_of space k) _ _ (λ t.
      reads pick (object_in w (porter_at x a) port_of (parent x) port) _ _ (λ p.
      reads pick (refuse HELD (is_frozen_for w (path_of (porter_at x a)) (k ∷ space))) _ _ (λ free. talks pick (k ∷ space) (At (port ∷ parent x)) Parked))))

  fault_sets : (pick : Option Path) (s k port taker : ℕ) →
      AreOne w x pick a b (fault_set w (porter_at x a) s k port taker) (fault_set w (porter_at x b) s k port taker)
  unfolding fault_set space_argument handle referred object_in
  fault_sets pick s k port taker =
      reads pick (space_argument w (porter_at x a) s) _ _ (λ space.
      reads pick (object_in w (porter_at x a) thread_of space k) _ _ (λ t.
      reads pick (referred w (porter_at x a) kinds.Port port) _ _ (λ at.
      reads pick (named_taker w (porter_at x a) taker) _ _ (λ by.
      reads pick (refuse HELD (is_frozen_for w (path_of (porter_at x a)) (k ∷ space))) _ _ (λ free. faults pick (k ∷ space) at by)))))

  fault_parks : (pick : Option Path) (s k port taken : ℕ) →
      AreOne w x pick a b (fault_park w (porter_at x a) s k port taken) (fault_park w (porter_at x b) s k port taken)
  unfolding fault_park space_argument handle object_in
  fault_parks pick s k port taken =
      reads pick (space_argument w (porter_at x a) s) _ _ (λ space.
      reads pick (object_in w (porter_at x a) thread_of space k) _ _ (λ t.
      reads pick (object_in w (porter_at x a) port_of (parent x) port) _ _ (λ p.
      reads pick (refuse HELD (is_frozen_for w (path_of (porter_at x a)) (k ∷ space))) _ _ (λ free.
      faults pick (k ∷ space) (At (port ∷ parent x)) (if taken == 1 then Some Parked else None)))))

  calls : (pick : Option Path) (stage : Stage) → restores stage ≡ true →
      GoesAllowed w x (call_row w (porter_at x a) pick stage) ↔ GoesAllowed w x (call_row w (porter_at x b) pick stage)
  unfolding call_row
  calls pick (LinkSet s k port server) is = link_sets pick s k port server
  calls pick (LinkPark s k port) is = link_parks pick s k port
  calls pick (FaultSet s k port taker) is = fault_sets pick s k port taker
  calls pick (FaultPark s k port taken) is = fault_parks pick s k port taken
  calls pick other is = absurd (cc)

-- ---- the move

both_when : (w : World) (x : Path) (test : Bool) (o p : Outcome) → (GoesAllowed w x o ↔ GoesAllowed w x p) →
    GoesAllowed w x (when test o) ↔ GoesAllowed w x (when test p)
both_when w x true o p same = same
both_when w x false o p same = ((λ h. h), (λ h. h))

pub ready_again : (w : World) (x : Path) (pick : Option Path) (stage : Stage) (a b : List ℕ) → restores stage ≡ true →
    IsReady w x pick (asks.Call stage a) ↔ IsReady w x pick (asks.Call stage b)
unfolding outcome
ready_again w x pick stage a b is = by (thread_at w x)
  where
    by : (o : Option Thread) → GoesAllowed w x (porter_move w x pick stage a o) ↔ GoesAllowed w x (porter_move w x pick stage b o)
    by None = ((λ h. h), (λ h. h))
    by (Some t) =
        both_when w x (is_porter t.mode && is_unheld w (parent x)) _ _ (calls w x a b pick stage is)
