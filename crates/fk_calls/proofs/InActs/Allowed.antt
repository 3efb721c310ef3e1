-- Allowed: what the freezing rule says of an act.
use Rattle.std.proofs.Common.{◌≡◌, ℕ, Bool, true, false, not, ◌&&◌, ◌↔◌, IsTrue, List, [], ◌∷◌, Option, Some, None, refl}
use Rattle.std.proofs.lemmas.Bool.{and_parts}
use Rattle.fk_model.specs.declared.names.Who.{Who}
use Rattle.fk_model.specs.Freezing.{changed_pointers, AreAllowed, MayAlter}
use Rattle.fk_model.specs.Holds.{holder_of, is_frozen, is_frozen_for, is_unheld}
use Rattle.fk_model.specs.LinkRows.{is_parked, new_talk}
use Rattle.fk_model.specs.NativeRows.{is_serving_port}
use Rattle.fk_model.specs.Objects.{Peer, Talk, Thread, Body, port_of, thread_of, and_then, holds}
use Rattle.fk_model.specs.Objects.Body.{Mutex, Cond, Mapping, Region, Port, Portset, Space, Thread_of, Reference}
use Rattle.fk_model.specs.Objects.Peer.{Server, Service, Parked}
use Rattle.fk_model.specs.Places.{Path}
use Rattle.fk_model.specs.Places.Ptr.{At}
use Rattle.fk_model.specs.Searches.{option_list, talk_at}
use Rattle.fk_model.specs.World.{World, Edit}
use Rattle.fk_model.specs.World.Edit.{CountMoved, End, Finish, PassTurn, SetPeer, SetTalk, Shift}
use Rattle.fk_store.specs.Store.Contents.{Contents}
use Rattle.fk_store.specs.Store.Paths.{path, place}
use Rattle.fk_store.specs.Store.Threads.{is_free_at}
use Rattle.fk_store.specs.Store.World.{world}
use Rattle.fk_store.proofs.InStore.finding.Freedom.{IsPlain, free_space, free_thread, may_alter, unfrozen_object, unheld_thread}
use Rattle.fk_changes.specs.Threads.Answers.{came_answers}
use Rattle.fk_calls.specs.declared.acts.act.Act.{Act}
use Rattle.fk_calls.specs.declared.acts.act.Act.TheVariants as acts
use Rattle.fk_calls.specs.Acts.Acts.{changes_of, is_act_allowed, IsAct}

flip : (b : Bool) → not b ≡ true → b ≡ false
flip true is = absurd (cc)
flip false is = refl

-- a free thread is frozen for nobody
unfrozen_client : (w : World) (me : Path) (k : ℕ) (s : Path) → is_free_at w (k ∷ s) ≡ true → is_frozen_for w me (k ∷ s) ≡ false
unfrozen_client w me k s free =
    let there = free_thread w k s free in
    unfrozen_object w me k s (free_space w k s free) (unheld_thread w (k ∷ s) there.0 there.1)

-- nor is the port of a server that is free
unheld_port : (b : Option Body) → holds (λ (state : Option ℕ × Bool). state.1) (and_then port_of b) ≡ true → holder_of b ≡ None
unheld_port None is = refl
unheld_port (Some (Mutex locked)) is = refl
unheld_port (Some Cond) is = refl
unheld_port (Some (Mapping window)) is = refl
unheld_port (Some (Region extent)) is = refl
unheld_port (Some (Port set served)) is = refl
unheld_port (Some Portset) is = refl
unheld_port (Some (Space birth holder)) is = absurd (cc)
unheld_port (Some (Thread_of thread)) is = refl
unheld_port (Some (Reference to)) is = refl

unfrozen_port : (w : World) (me : Path) (k : ℕ) (s : Path) → is_serving_port w (k ∷ s) ≡ true → is_frozen_for w me (k ∷ s) ≡ false
unfrozen_port w me k s serving =
    let both = and_parts (holds (λ (state : Option ℕ × Bool). state.1) (and_then port_of (w.body (k ∷ s)))) (is_unheld w s) serving in
    unfrozen_object w me k s (flip (is_frozen w s) both.1) (unheld_port (w.body (k ∷ s)) both.0)

-- the pointers of a talk that isn't there, or that nobody serves yet
no_talk : (n : Option Talk) (b : Option Body) → and_then (λ (t : Thread). t.talk) (and_then thread_of b) ≡ None →
    option_list (changed_pointers (SetTalk n)) b ≡ []
no_talk n (Some (Thread_of t)) none = rw none refl
no_talk n (Some b) none = refl
no_talk n None none = refl

no_peer : (peer : Peer) (b : Option Body) →
    holds (λ (talk : Talk). is_parked (Some talk.peer)) (and_then (λ (t : Thread). t.talk) (and_then thread_of b)) ≡ true →
    option_list (changed_pointers (SetPeer peer)) b ≡ []
no_peer peer (Some (Thread_of t)) parked = by t.talk refl parked
  where
    of_peer : (talk : Talk) (q : Peer) → t.talk ≡ Some talk → talk.peer ≡ q → is_parked (Some q) ≡ true →
        option_list (changed_pointers (SetPeer peer)) (Some (Thread_of t)) ≡ []
    of_peer talk Parked e is parked = rw (e, is) refl
    of_peer talk Service e is parked = absurd (cc)
    of_peer talk (Server thread) e is parked = absurd (cc)

    by : (o : Option Talk) → t.talk ≡ o → holds (λ (talk : Talk). is_parked (Some talk.peer)) o ≡ true →
        option_list (changed_pointers (SetPeer peer)) (Some (Thread_of t)) ≡ []
    by None e parked = absurd (cc)
    by (Some talk) e parked = of_peer talk talk.peer e refl parked
no_peer peer (Some b) parked = refl
no_peer peer None parked = refl

module _ (m : Contents) (port : Who) (words : List ℕ) where
  abbrev w : World
  w = world m

  abbrev me : Path
  me = place (path m) port

  plain : (client : Who) (e : Edit) → IsPlain e → is_free_at w (place (path m) client) ≡ true → MayAlter w me (place (path m) client) e
  plain client e is free = may_alter w me (place (path m) client) e is (unfrozen_client w me client.slot (path m client.space) free)

  begins : (client : Who) → is_serving_port w me ≡ true → is_free_at w (place (path m) client) ≡ true → talk_at w (place (path m) client) ≡ None →
      MayAlter w me (place (path m) client) (SetTalk (Some (new_talk (At me) Service)))
  begins client serving free none = record {
    object = unfrozen_client w me client.slot (path m client.space) free;
    changed = rw (no_talk (Some (new_talk (At me) Service)) (w.body (place (path m) client)) none) refl;
    made = rw (unfrozen_port w me port.slot (path m port.space) serving) refl;
  }

  resumes : (client : Who) → is_free_at w (place (path m) client) ≡ true →
      holds (λ (talk : Talk). is_parked (Some talk.peer)) (talk_at w (place (path m) client)) ≡ true →
      MayAlter w me (place (path m) client) (SetPeer Service)
  resumes client free parked = record {
    object = unfrozen_client w me client.slot (path m client.space) free;
    changed = rw (no_peer Service (w.body (place (path m) client)) parked) refl;
    made = refl;
  }

  pub allowed_iff : (act : Act) → IsAct m port words act →
      IsTrue (is_act_allowed w me (path m) act) ↔ AreAllowed w me (changes_of w (path m) port words act)
  allowed_iff (acts.Takes client) is = (
    (λ h. (begins client is.serving is.for_whom.0 is.for_whom.1, (plain client (Finish []) (record { changed = λ b. refl; made = refl }) is.for_whom.0, tt))),
    (λ h. refl),
  )
  allowed_iff (acts.Resumes client turn moved) is = ((λ h. (resumes client is.for_whom.0 is.for_whom.1, tt)), (λ h. refl))
  allowed_iff acts.GivesNothing is = ((λ h. tt), (λ h. refl))
  allowed_iff (acts.Gives client to into count) is = by (is_frozen_for w me (path m to.0)) refl
    where
      by : (b : Bool) → is_frozen_for w me (path m to.0) ≡ b →
          IsTrue (not b) ↔ AreAllowed w me (changes_of w (path m) port words (acts.Gives client to into count))
      by true e = ((λ h. absurd (cc)), (λ h. let off = h.0 in absurd (cc)))
      by false e = (
        (λ h. (
          e,
          (
            plain client (CountMoved count) (record { changed = λ b. refl; made = refl }) is.for_whom.0,
            (plain client (Shift count) (record { changed = λ b. refl; made = refl }) is.for_whom.0, tt),
          ),
        )),
        (λ h. refl),
      )
  allowed_iff (acts.Fills client) is = ((λ h. (plain client _ (record { changed = λ b. refl; made = refl }) is.for_whom, tt)), (λ h. refl))
  allowed_iff (acts.Passes client came) is = (
    (λ h. (
      plain client _ (record { changed = λ b. refl; made = refl }) is.for_whom,
      (plain client (Finish (came_answers came)) (record { changed = λ b. refl; made = refl }) is.for_whom, tt),
    )),
    (λ h. refl),
  )
