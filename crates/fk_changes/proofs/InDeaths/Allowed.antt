-- Allowed: where the freezing rule allows a death, it allows the ends of calls that go with it.
use Rattle.std.proofs.Common.{◌≡◌, ◌↔◌, ◌⊎◌, inl, inr, Bool, true, false, cond, not, ◌&&◌, ◌||◌, List, [], ◌∷◌, ◌++◌, Option, Some, None, refl, ap, subst}
use Rattle.std.proofs.lemmas.List.Folds.{list_any-append}
use Rattle.std.specs.List.{flat_map, list_any}
use Rattle.fk_model.specs.declared.statuses.status.TheConstants.{ENDED}
use Rattle.fk_model.specs.declared.thread.Turn.{Turn}
use Rattle.fk_model.specs.declared.thread.Turn.TheVariants as turns
use Rattle.fk_model.specs.Freezing.{AreAllowed, MayKill, are_unfrozen, is_swept, lost_with, may_be_swept}
use Rattle.fk_model.specs.Holds.{is_frozen_for, leads_to_frozen}
use Rattle.fk_model.specs.LinkRows.{end_all}
use Rattle.fk_model.specs.ObjectRows.{ends_in, ends_of_client, ends_on, ends_with, kills}
use Rattle.fk_model.specs.Objects.{Peer, Talk, Thread, Body, thread_of, and_then, holds}
use Rattle.fk_model.specs.Objects.Peer.{Server, Service, Parked}
use Rattle.fk_model.specs.Objects.Body.{Mutex, Cond, Mapping, Region, Port, Portset, Space, Thread_of, Reference}
use Rattle.fk_model.specs.Places.{Path, Ptr, leads_to}
use Rattle.fk_model.specs.Places.Ptr.{Null, Dead, At, Out, Outside, Far}
use Rattle.fk_model.specs.Searches.{client_of, clients_at, fault_pointers, objects, option_list, peer_pointer, pointers, talk_at, talk_pointers}
use Rattle.fk_model.specs.Talks.{if_talking, is_talking, line, line_from, served_end, talking_end}
use Rattle.fk_model.specs.World.{World, serves}
use Rattle.fk_model.specs.World.Edit.{End}
use Rattle.fk_model.proofs.walks.Members.{IsIn, any_in, find_some, in_either, of_filter, of_flat_map}
use Rattle.fk_store.proofs.InStore.finding.Freedom.{may_alter}
use Rattle.fk_changes.proofs.InDeaths.Clients.{has_talk_at}

-- ---- pointers that aren't frozen

unfrozen_left : (w : World) (me : Path) (ps qs : List Ptr) → are_unfrozen w me (ps ++ qs) ≡ true → are_unfrozen w me ps ≡ true
unfrozen_left w me ps qs h = by (list_any (leads_to_frozen w me) ps) (list_any (leads_to_frozen w me) qs)
    (rw (list_any-append (leads_to_frozen w me) ps qs) at h)
  where
    by : (a b : Bool) → not (a || b) ≡ true → not a ≡ true
    by true b h = h
    by false b h = refl

unfrozen_in : (w : World) (me e : Path) (ps : List Ptr) → are_unfrozen w me ps ≡ true → IsIn (At e) ps → is_frozen_for w me e ≡ false
unfrozen_in w me e ps h i = by (is_frozen_for w me e) refl
  where
    by : (b : Bool) → is_frozen_for w me e ≡ b → b ≡ false
    by true on = let any = any_in (leads_to_frozen w me) (At e) ps i on in absurd (cc)
    by false on = refl

-- ---- who is at the end of a talk

-- a thread whose call ends is the one that the pointer leads to
pub ended_led : (w : World) (side : Turn) (p : Ptr) (e : Path) → IsIn e (talking_end w side p) → p ≡ At e
ended_led w side (At y) e h = by (and_then thread_of (w.body y)) h
  where
    here : (b : Bool) → IsIn e (cond b (y ∷ []) []) → At y ≡ At e
    here true (inl same) = ap At same
    here true (inr none) = absurd none
    here false none = absurd none

    by : (o : Option Thread) → IsIn e (if_talking side (and_then (λ (t : Thread). Some (y, t)) o)) → At y ≡ At e
    by None h = absurd h
    by (Some t) h = here (is_talking side t.mode) h
ended_led w side Null e h = absurd h
ended_led w side Dead e h = absurd h
ended_led w side (Out slot) e h = absurd h
ended_led w side Outside e h = absurd h
ended_led w side Far e h = absurd h

ended_server : (w : World) (peer : Peer) (e : Path) → IsIn e (served_end w peer) → peer ≡ Server (At e)
ended_server w (Server p) e h = ap Server (ended_led w turns.Server p e h)
ended_server w Service e h = absurd h
ended_server w Parked e h = absurd h

-- by the client's side, it serves the talk
pub by_client : (w : World) (c e : Path) → IsIn e (ends_on w c turns.Client) → (talk : Talk) × (talk_at w c ≡ Some talk) × (talk.peer ≡ Server (At e))
unfolding line
by_client w c e h = by (talk_at w c) refl h
  where
    by : (o : Option Talk) → talk_at w c ≡ o → IsIn e (ends_in w turns.Client (line_from c (λ talk. talk.peer) o)) →
        (talk : Talk) × (talk_at w c ≡ Some talk) × (talk.peer ≡ Server (At e))
    by None is h = absurd h
    by (Some talk) is h = (talk, is, ended_server w talk.peer e h)

-- by the server's side, it is the client
by_server : (w : World) (x e : Path) → IsIn e (ends_on w x turns.Server) → (talk : Talk) × (talk_at w e ≡ Some talk) × (serves x talk.peer ≡ true)
unfolding line client_of
by_server w x e h = by (client_of w x) refl h
  where
    at : (c : Path) → holds (λ (talk : Talk). serves x talk.peer) (talk_at w c) ≡ true → (o : Option Talk) → talk_at w c ≡ o →
        IsIn e (ends_in w turns.Server (line_from c (λ talk. Server (At c)) o)) → (talk : Talk) × (talk_at w e ≡ Some talk) × (serves x talk.peer ≡ true)
    at c serving None is h = absurd h
    at c serving (Some talk) is h =
        let same = ended_led w turns.Client (At c) e h in
        let here : c ≡ e = cc in
        (talk, subst (λ y. talk_at w y ≡ Some talk) here is, rw is at serving)

    by : (o : Option Path) → client_of w x ≡ o →
        IsIn e (ends_in w turns.Server (and_then (λ client. line_from client (λ talk. Server (At client)) (talk_at w client)) o)) →
        (talk : Talk) × (talk_at w e ≡ Some talk) × (serves x talk.peer ≡ true)
    by None is h = absurd h
    by (Some c) is h = at c (find_some _ c (objects w) is).1 (talk_at w c) refl h

-- ---- what the death of x changes of a thread with a talk

talk_there : (b : Option Body) (talk : Talk) → and_then (λ (t : Thread). t.talk) (and_then thread_of b) ≡ Some talk →
    (t : Thread) × (b ≡ Some (Thread_of t)) × (t.talk ≡ Some talk)
talk_there None talk is = absurd (cc)
talk_there (Some (Mutex locked)) talk is = absurd (cc)
talk_there (Some Cond) talk is = absurd (cc)
talk_there (Some (Mapping window)) talk is = absurd (cc)
talk_there (Some (Region extent)) talk is = absurd (cc)
talk_there (Some (Port set served)) talk is = absurd (cc)
talk_there (Some Portset) talk is = absurd (cc)
talk_there (Some (Space birth holder)) talk is = absurd (cc)
talk_there (Some (Thread_of t)) talk is = (t, refl, is)
talk_there (Some (Reference to)) talk is = absurd (cc)

serves_any : (x : Path) (peer : Peer) → serves x peer ≡ list_any (leads_to x) (peer_pointer peer)
serves_any x (Server p) = by (leads_to x p)
  where
    by : (b : Bool) → b ≡ (b || false)
    by true = refl
    by false = refl
serves_any x Service = refl
serves_any x Parked = refl

module _ (w : World) (me x c : Path) (may : may_be_swept w me x c ≡ true)
    (talk : Talk) (is : talk_at w c ≡ Some talk) (ends : (leads_to x talk.port || serves x talk.peer) ≡ true) where
  abbrev of_fault : Thread → List Ptr
  of_fault t = option_list fault_pointers t.fault

  swept : (t : Thread) → t.talk ≡ Some talk → is_swept x c (Some (Thread_of t)) ≡ true
  swept t has = rw (has, list_any-append (leads_to x) (talk_pointers talk) (of_fault t), ← serves_any x talk.peer, ends) refl

  both : (t : Thread) → w.body c ≡ Some (Thread_of t) → t.talk ≡ Some talk →
      (is_frozen_for w me c ≡ false) × (are_unfrozen w me (lost_with x (Some (Thread_of t))) ≡ true)
  both t there has = by (is_frozen_for w me c) (rw (there, swept t has) at may)
    where
      by : (b : Bool) → (not b && are_unfrozen w me (lost_with x (Some (Thread_of t)))) ≡ true →
          (b ≡ false) × (are_unfrozen w me (lost_with x (Some (Thread_of t))) ≡ true)
      by true h = absurd (cc)
      by false h = (refl, h)

  -- it isn't frozen, and its talk leads nowhere that is
  pub swept_free : (is_frozen_for w me c ≡ false) × (are_unfrozen w me (talk_pointers talk) ≡ true)
  swept_free =
      let thread = talk_there (w.body c) talk is in
      let free = both thread.0 thread.1 thread.2 in
      (free.0, unfrozen_left w me (talk_pointers talk) _ (rw (thread.2, ends) at free.1))

-- ---- the ends of calls

at_port : (x : Path) (talk : Talk) → leads_to x talk.port ≡ true → (leads_to x talk.port || serves x talk.peer) ≡ true
at_port x talk h = rw h refl

at_server : (x : Path) (talk : Talk) → serves x talk.peer ≡ true → (leads_to x talk.port || serves x talk.peer) ≡ true
at_server x talk h = by (leads_to x talk.port)
  where
    by : (b : Bool) → (b || serves x talk.peer) ≡ true
    by true = refl
    by false = h

peer_in : (talk : Talk) (e : Path) → talk.peer ≡ Server (At e) → IsIn (At e) (talk_pointers talk)
peer_in talk e is = rw is (inr (inl refl))

module _ (w : World) (me x : Path) (may : MayKill w me x) where
  of_thread : (t : Thread) → w.body x ≡ Some (Thread_of t) → (e : Path) →
      IsIn e (ends_on w x turns.Client) ⊎ IsIn e (ends_on w x turns.Server) → is_frozen_for w me e ≡ false
  of_thread t there e (inl h) =
      let talk = by_client w x e h in
      let has : t.talk ≡ Some talk.0 = rw there at talk.1 in
      let free : are_unfrozen w me (pointers (Thread_of t)) ≡ true = rw there at may.changed in
      unfrozen_in w me e (talk_pointers talk.0) (unfrozen_left w me (talk_pointers talk.0) _ (rw has at free)) (peer_in talk.0 e talk.2)
  of_thread t there e (inr h) =
      let talk = by_server w x e h in
      (swept_free w me x e (may.others e) talk.0 talk.1 (at_server x talk.0 talk.2)).0

  of_client : (c : Path) → has_talk_at w x c ≡ true → (e : Path) →
      IsIn e (talking_end w turns.Client (At c)) ⊎ IsIn e (ends_on w c turns.Client) → is_frozen_for w me e ≡ false
  of_client c on e h = by (talk_at w c) refl on h
    where
      free : (talk : Talk) → talk_at w c ≡ Some talk → leads_to x talk.port ≡ true →
          (is_frozen_for w me c ≡ false) × (are_unfrozen w me (talk_pointers talk) ≡ true)
      free talk is on = swept_free w me x c (may.others c) talk is (at_port x talk on)

      by : (o : Option Talk) → talk_at w c ≡ o → holds (λ (talk : Talk). leads_to x talk.port) o ≡ true →
          IsIn e (talking_end w turns.Client (At c)) ⊎ IsIn e (ends_on w c turns.Client) → is_frozen_for w me e ≡ false
      by None is on h = absurd (cc)
      by (Some talk) is on (inl h) =
          let same = ended_led w turns.Client (At c) e h in
          let here : c ≡ e = cc in
          subst (λ y. is_frozen_for w me y ≡ false) here (free talk is on).0
      by (Some talk) is on (inr h) =
          let served = by_client w c e h in
          let same : served.0 ≡ talk = cc in
          unfrozen_in w me e (talk_pointers talk) (free talk is on).1 (peer_in talk e (rw same at served.2))

  of_port : (e : Path) → IsIn e (flat_map (ends_of_client w) (clients_at w x)) → is_frozen_for w me e ≡ false
  unfolding clients_at
  of_port e h =
      let client = of_flat_map (ends_of_client w) e (clients_at w x) h in
      let on = of_filter (has_talk_at w x) client.0 (objects w) client.1 in
      of_client client.0 on.1 e (in_either e (talking_end w turns.Client (At client.0)) _ client.2)

  free_end : (e : Path) → IsIn e (ends_with w x (w.body x)) → is_frozen_for w me e ≡ false
  free_end e h = by (w.body x) refl h
    where
      by : (b : Option Body) → w.body x ≡ b → IsIn e (ends_with w x b) → is_frozen_for w me e ≡ false
      by None is h = absurd h
      by (Some (Mutex locked)) is h = absurd h
      by (Some Cond) is h = absurd h
      by (Some (Mapping window)) is h = absurd h
      by (Some (Region extent)) is h = absurd h
      by (Some (Port set served)) is h = of_port e h
      by (Some Portset) is h = absurd h
      by (Some (Space birth holder)) is h = absurd h
      by (Some (Thread_of t)) is h = of_thread t is e (in_either e (ends_on w x turns.Client) (ends_on w x turns.Server) h)
      by (Some (Reference to)) is h = absurd h

  may_end : (xs : List Path) → ((e : Path) → IsIn e xs → is_frozen_for w me e ≡ false) → AreAllowed w me (end_all xs)
  may_end [] free = tt
  may_end (e ∷ xs) free =
      (may_alter w me e (End ENDED []) (record { changed = λ b. refl; made = refl }) (free e (inl refl)), may_end xs (λ y i. free y (inr i)))

-- the freezing rule allows all changes of a death where it allows the death itself
pub killing_iff : (w : World) (me x : Path) → MayKill w me x ↔ AreAllowed w me (kills w x)
killing_iff w me x = ((λ may. (may, may_end w me x may (ends_with w x (w.body x)) (free_end w me x may))), (λ all. all.0))
