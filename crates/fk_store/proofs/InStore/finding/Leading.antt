-- Leading: every pointer of a store's world leads somewhere in it, or nowhere.
use Rattle.std.proofs.Common.{◌≡◌, ℕ, Bool, false, List, [], ◌∷◌, ◌++◌, Option, Some, None, option_map, refl}
use Rattle.std.proofs.lemmas.List.Folds.{list_any-append}
use Rattle.std.specs.FinMap.{get}
use Rattle.std.specs.List.{list_any}
use Rattle.fk_model.specs.declared.names.Ptr as ptrs_of
use Rattle.fk_model.specs.declared.names.Ptr.TheVariants as pointers_of
use Rattle.fk_model.specs.declared.thread.Peer as peers_of
use Rattle.fk_model.specs.declared.thread.Peer.TheVariants as peers
use Rattle.fk_model.specs.declared.thread.Talk as talks_of
use Rattle.fk_model.specs.declared.thread.Fault as faults_of
use Rattle.fk_model.specs.declared.names.Who.{Who}
use Rattle.fk_model.specs.declared.body.Body as bodies_of
use Rattle.fk_model.specs.declared.body.Body.TheVariants as bodies
use Rattle.fk_model.specs.Freezing.{body_pointers}
use Rattle.fk_model.specs.Objects.{and_then}
use Rattle.fk_model.specs.Places.{Path, Ptr}
use Rattle.fk_model.specs.Places.Ptr.{Null, Dead, At}
use Rattle.fk_model.specs.Searches.{pointers, option_list, talk_pointers, fault_pointers, peer_pointer}
use Rattle.fk_store.specs.Store.Names.{at}
use Rattle.fk_store.specs.Store.Contents.{Contents}
use Rattle.fk_store.specs.Store.Paths.{path, place, space_at}
use Rattle.fk_store.specs.Store.Bodies.{pointer_by, peer_by, talk_by, fault_by, body_by}
use Rattle.fk_store.specs.Store.World.{world}

module _ (test : Ptr → Bool) (null : test Null ≡ false) (dead : test Dead ≡ false) (leads : (x : Path) → test (At x) ≡ false) where
  both : (ps qs : List Ptr) → list_any test ps ≡ false → list_any test qs ≡ false → list_any test (ps ++ qs) ≡ false
  both ps qs h g = rw (list_any-append test ps qs, h, g) refl

  module _ (p : ℕ → Path) where
    of_place : (who : Who) → list_any test (At (place p who) ∷ []) ≡ false
    of_place who = rw (leads (place p who)) refl

    of_pointer : (to : ptrs_of.Ptr) → list_any test (pointer_by p to ∷ []) ≡ false
    of_pointer pointers_of.Null = rw null refl
    of_pointer pointers_of.Dead = rw dead refl
    of_pointer (pointers_of.At who) = of_place who

    of_peer : (peer : peers_of.Peer) → list_any test (peer_pointer (peer_by p peer)) ≡ false
    of_peer (peers.Thread who) = of_place who
    of_peer peers.Service = refl
    of_peer peers.Parked = refl

    of_taker : (taker : Option peers_of.Peer) → list_any test (option_list peer_pointer (option_map (peer_by p) taker)) ≡ false
    of_taker None = refl
    of_taker (Some peer) = of_peer peer

    of_talk : (o : Option talks_of.Talk) → list_any test (option_list talk_pointers (option_map (talk_by p) o)) ≡ false
    of_talk None = refl
    of_talk (Some talk) = both (At (place p talk.port) ∷ []) (peer_pointer (peer_by p talk.peer)) (of_place talk.port) (of_peer talk.peer)

    of_fault : (o : Option faults_of.Fault) → list_any test (option_list fault_pointers (option_map (fault_by p) o)) ≡ false
    of_fault None = refl
    of_fault (Some fault) =
        both (At (place p fault.port) ∷ []) (option_list peer_pointer (option_map (peer_by p) fault.taker)) (of_place fault.port) (of_taker fault.taker)

    of_holder : (holder : Option Who) → list_any test (option_list (λ p. p ∷ []) (option_map (λ who. At (place p who)) holder)) ≡ false
    of_holder None = refl
    of_holder (Some who) = of_place who

    of_body : (b : bodies_of.Body) → list_any test (pointers (body_by p b)) ≡ false
    of_body (bodies.Mutex locked) = refl
    of_body bodies.Cond = refl
    of_body (bodies.Mapping first count offset write region) = of_pointer region
    of_body (bodies.Region first count write keeper) = of_pointer keeper
    of_body (bodies.Port set served) = refl
    of_body bodies.Portset = refl
    of_body (bodies.Space birth holder) = of_holder holder
    of_body (bodies.Thread thread) = both (option_list talk_pointers (option_map (talk_by p) thread.talk))
        (option_list fault_pointers (option_map (fault_by p) thread.fault)) (of_talk thread.talk) (of_fault thread.fault)
    of_body (bodies.Reference to) = of_pointer to

  pub leading : (m : Contents) (x : Path) → list_any test (body_pointers ((world m).body x)) ≡ false
  unfolding world
  leading m [] = refl
  leading m (k ∷ s) = by (space_at m s)
    where
      under : (o : Option bodies_of.Body) → list_any test (body_pointers (option_map (body_by (path m)) o)) ≡ false
      under None = refl
      under (Some b) = of_body (path m) b

      by : (o : Option ℕ) → list_any test (body_pointers (and_then (λ n. option_map (body_by (path m)) (get m.bodies (at n k))) o)) ≡ false
      by None = refl
      by (Some n) = under (get m.bodies (at n k))
