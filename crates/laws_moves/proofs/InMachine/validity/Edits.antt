-- A safe edit keeps a world valid.
use Rattle.std.proofs.Common.{◌≡◌, ℕ, ◌+◌, min, Bool, true, ◌&&◌, nat_lt, List, [], ◌∷◌, Option, Some, None, option_map, refl, ap}
use Rattle.std.proofs.lemmas.Bool.{and_parts, and_from}
use Rattle.fk_model.specs.declared.limits.TheConstants.{PAGES, MOST_MOVED}
use Rattle.fk_model.specs.declared.names.Kind.{Kind}
use Rattle.fk_model.specs.declared.names.Kind.TheVariants as kinds
use Rattle.fk_model.specs.Places.{Path, Ptr}
use Rattle.fk_model.specs.Objects.{Mode, Peer, Talk, Fault, Thread, Body, thread_of, and_then}
use Rattle.fk_model.specs.Objects.Mode.{Calling}
use Rattle.fk_model.specs.Objects.Peer.{Server, Service, Parked}
use Rattle.fk_model.specs.Objects.Body.{Mutex, Mapping, Region, Port, Space, Thread_of, Reference}
use Rattle.fk_model.specs.World.{World, Edit, apply, at_path, edited, on_thread, on_talk, on_fault, at_mode, shifted_in, replaced_in, with_pointer, with_locked}
use Rattle.fk_model.specs.World.{with_window, with_extent, with_member, with_holder, finished_in, ended_in}
use Rattle.fk_model.specs.World.Edit.{SetLocked, SetWindow, SetExtent, SetMember, SetPointer, SetHolder, Proceed, Shift, Finish, End, Replace, SetStops}
use Rattle.fk_model.specs.World.Edit.{SetTalk, CountMoved, PassTurn, SetPeer, SetFault, SetTaker}
use Rattle.fk_model.specs.World.Change.{Alter}
use Rattle.fk_model.specs.Searches.{talk_at, fault_at}
use Rattle.fk_model.specs.Records.{is_page_range}
use Rattle.fk_model.specs.Valid.{IsConsistent, kind_there, leads_there, may_lead, all_in, is_good, is_good_peer, is_good_talk, is_good_fault, is_served_port}
use Rattle.laws_moves.proofs.InMachine.validity.Ties.{Tie, tie_of, claim_of, body_tie, body_claim, tie_at, claim_at, facts, services-load, tie_some}
use Rattle.laws_moves.proofs.InMachine.validity.Ties.Tie.{Joins}
use Rattle.laws_moves.proofs.InMachine.validity.Outlines.{Outline, outline_of, put_kept, valid-at, valid-at_quiet}
use Rattle.laws_moves.proofs.InMachine.validity.TieLaws.{IsFit, IsFitTalk, put_talk, put_claim}
use Rattle.laws_moves.proofs.InMachine.safety.Safe.{IsSafeServer, IsSafePeer, IsSafeTaker, IsSafeTalk, IsSafeFault, IfAny, takes_set, takes_pointer, IsSafeEdit}

-- ---- threads

outline-on_thread : (f : Thread → Thread) (b : Body) → outline_of (on_thread f b) ≡ outline_of b
outline-on_thread f (Thread_of t) = refl
outline-on_thread f b = refl

-- the talk may count other words, and have another turn
pub record IsLight (f : Thread → Thread) : Type 0 where
  pub talk : (t : Thread) → option_map tie_of (f t).talk ≡ option_map tie_of t.talk
  pub fault : (t : Thread) → (f t).fault ≡ t.fault

tie-light : (f : Thread → Thread) → IsLight f → (b : Body) → body_tie (Some (on_thread f b)) ≡ body_tie (Some b)
tie-light f light (Thread_of t) = light.talk t
tie-light f light b = refl

claim-light : (f : Thread → Thread) → IsLight f → (b : Body) → body_claim (Some (on_thread f b)) ≡ body_claim (Some b)
claim-light f light (Thread_of t) = ap (and_then claim_of) (light.fault t)
claim-light f light b = refl

abbrev good_tie : (Path → Option Kind) → Tie → Bool
good_tie there (Joins port peer) = leads_there there (kinds.Port ∷ []) port && is_good_peer there peer

good-tie : (there : Path → Option Kind) (o : Option Talk) → all_in (is_good_talk there) o ≡ all_in (good_tie there) (option_map tie_of o)
good-tie there None = refl
good-tie there (Some talk) = refl

good-light : (there : Path → Option Kind) (x : Path) (f : Thread → Thread) →
    IsLight f → (b : Body) → is_good there x b ≡ true → is_good there x (on_thread f b) ≡ true
good-light there x f light (Thread_of t) h = rw (good-tie there (f t).talk, light.talk t, ← good-tie there t.talk, light.fault t) h
good-light there x f light b h = h

valid-light : (w : World) (x : Path) (f : Thread → Thread) → IsLight f → IsConsistent w → IsConsistent (at_path x (option_map (on_thread f)) w)
valid-light w x f light valid =
    valid-at_quiet w x (on_thread f) (outline-on_thread f) (tie-light f light) (claim-light f light) (λ b e h. good-light (kind_there w) x f light b h) valid

ended-talk : (status : ℕ) (answers : List ℕ) (t : Thread) (m : Mode) → (ended_in status answers t m).talk ≡ t.talk
ended-talk status answers t (Calling todo rest) = refl
ended-talk status answers t m = refl

ended-fault : (status : ℕ) (answers : List ℕ) (t : Thread) (m : Mode) → (ended_in status answers t m).fault ≡ t.fault
ended-fault status answers t (Calling todo rest) = refl
ended-fault status answers t m = refl

finished-talk : (answers : List ℕ) (t : Thread) (m : Mode) → (finished_in answers t m).talk ≡ t.talk
finished-talk answers t (Calling (stage ∷ next_stage ∷ todo) rest) = refl
finished-talk answers t m = refl

finished-fault : (answers : List ℕ) (t : Thread) (m : Mode) → (finished_in answers t m).fault ≡ t.fault
finished-fault answers t (Calling (stage ∷ next_stage ∷ todo) rest) = refl
finished-fault answers t m = refl

same_tie : (f : Talk → Talk) → ((talk : Talk) → tie_of (f talk) ≡ tie_of talk) → (o : Option Talk) → option_map tie_of (option_map f o) ≡ option_map tie_of o
same_tie f same None = refl
same_tie f same (Some talk) = ap Some (same talk)

-- ---- other objects

pub record Seen : Type 0 where
  pub outline : Outline
  pub tie : Option Tie
  pub claim : Option Tie

abbrev seen_of : Body → Seen
seen_of b = record { outline = outline_of b; tie = body_tie (Some b); claim = body_claim (Some b) }

valid-seen : (w : World) (x : Path) (f : Body → Body) → ((b : Body) → seen_of (f b) ≡ seen_of b) →
    ((b : Body) → w.body x ≡ Some b → is_good (kind_there w) x b ≡ true → is_good (kind_there w) x (f b) ≡ true) →
    IsConsistent w → IsConsistent (at_path x (option_map f) w)
valid-seen w x f same keeps valid = valid-at_quiet w
    x f (λ b. ap (λ (s : Seen). s.outline) (same b)) (λ b. ap (λ (s : Seen). s.tie) (same b)) (λ b. ap (λ (s : Seen). s.claim) (same b)) keeps valid

seen-locked : (locked : Bool) (b : Body) → seen_of (with_locked locked b) ≡ seen_of b
seen-locked locked (Mutex old) = refl
seen-locked locked b = refl

seen-window : (first count offset : ℕ) (write : Bool) (b : Body) → seen_of (with_window first count offset write b) ≡ seen_of b
seen-window first count offset write (Mapping m) = refl
seen-window first count offset write b = refl

seen-extent : (first count : ℕ) (write : Bool) (b : Body) → seen_of (with_extent first count write b) ≡ seen_of b
seen-extent first count write (Region r) = refl
seen-extent first count write b = refl

seen-member : (set : Option ℕ) (b : Body) → seen_of (with_member set b) ≡ seen_of b
seen-member set (Port old served) = refl
seen-member set b = refl

seen-holder : (holder : Option Ptr) (b : Body) → seen_of (with_holder holder b) ≡ seen_of b
seen-holder holder (Space birth old) = refl
seen-holder holder b = refl

seen-pointer : (to : Ptr) (b : Body) → seen_of (with_pointer to b) ≡ seen_of b
seen-pointer to (Mapping m) = refl
seen-pointer to (Region r) = refl
seen-pointer to (Reference old) = refl
seen-pointer to b = refl

-- what is good stays so

module _ (there : Path → Option Kind) (x : Path) where
  good-locked : (locked : Bool) (b : Body) → is_good there x b ≡ true → is_good there x (with_locked locked b) ≡ true
  good-locked locked (Mutex old) h = refl
  good-locked locked b h = h

  good-window : (first count offset : ℕ) (write : Bool) → (is_page_range first count && nat_lt offset PAGES) ≡ true →
      (b : Body) → is_good there x b ≡ true → is_good there x (with_window first count offset write b) ≡ true
  good-window first count offset write safe (Mapping m) h = and_from _ _ safe (and_parts _ (may_lead there (kinds.Region ∷ []) m.region) h).1
  good-window first count offset write safe b h = h

  good-extent : (first count : ℕ) (write : Bool) →
      is_page_range first count ≡ true → (b : Body) → is_good there x b ≡ true → is_good there x (with_extent first count write b) ≡ true
  good-extent first count write safe (Region r) h = and_from _ _ safe (and_parts _ (may_lead there (kinds.Port ∷ []) r.keeper) h).1
  good-extent first count write safe b h = h

  good-holder : (holder : Option Ptr) →
      all_in (leads_there there (kinds.Thread ∷ [])) holder ≡ true → (b : Body) → is_good there x b ≡ true → is_good there x (with_holder holder b) ≡ true
  good-holder holder safe (Space birth old) h = safe
  good-holder holder safe b h = h

good-member : (w : World) (x : Path) (set : Option ℕ) (b : Body) →
    takes_set w x set b ≡ true → is_good (kind_there w) x b ≡ true → is_good (kind_there w) x (with_member set b) ≡ true
good-member w x set (Port old served) safe h = safe
good-member w x set b safe h = h

good-pointer : (w : World) (x : Path) (to : Ptr) (b : Body) →
    takes_pointer w to b ≡ true → is_good (kind_there w) x b ≡ true → is_good (kind_there w) x (with_pointer to b) ≡ true
good-pointer w x to (Mapping m) safe h = and_from _ _ (and_parts _ (may_lead (kind_there w) (kinds.Region ∷ []) m.region) h).0 safe
good-pointer w x to (Region r) safe h = and_from _ _ (and_parts _ (may_lead (kind_there w) (kinds.Port ∷ []) r.keeper) h).0 safe
good-pointer w x to (Reference old) safe h = safe
good-pointer w x to b safe h = h

-- the test of what stands there
at_body : (test : Body → Bool) (o : Option Body) (b : Body) → o ≡ Some b → all_in test o ≡ true → test b ≡ true
at_body test o b e h = rw e at h

-- ---- talks and faults

fit-none : (a b : Path → Option Tie) → IsFit a b None
fit-none a b = record { near = λ port server h. cc; idle = λ s h. cc }

fit-server : (w : World) (port server : Ptr) → IsSafeServer w port server → IsFit (tie_at w) (claim_at w) (Some (Joins port (Server server)))
fit-server w port server safe = record {
  near = λ p s h. let same : p ≡ port = cc in let same_server : s ≡ server = cc in rw (same, same_server) safe.near;
  idle = λ s h q. rw (← services-load w s q) (safe.idle s q h);
}

fit-service : (a b : Path → Option Tie) (port : Ptr) → IsFit a b (Some (Joins port Service))
fit-service a b port = record { near = λ p s h. cc; idle = λ s h. cc }

fit-parked : (a b : Path → Option Tie) (port : Ptr) → IsFit a b (Some (Joins port Parked))
fit-parked a b port = record { near = λ p s h. cc; idle = λ s h. cc }

fit_talk-none : (served : Ptr → Bool) (a b : Path → Option Tie) (x : Path) → IsFitTalk served a b x None
fit_talk-none served a b x = record { fit = fit-none a b; at_served = λ port h. cc; alone = λ port q h g. cc }

fit_talk-peer : (w : World) (x : Path) (port : Ptr) (peer : Peer) →
    IsSafePeer w x port peer → IsFitTalk (is_served_port w) (tie_at w) (claim_at w) x (Some (Joins port peer))
fit_talk-peer w x port (Server server) safe = record { fit = fit-server w port server safe; at_served = λ p h. cc; alone = λ p q h g. cc }
fit_talk-peer w x port Service safe = record {
  fit = fit-service (tie_at w) (claim_at w) port;
  at_served = λ p h. let same : p ≡ port = cc in rw same safe.served;
  alone = λ p q h g. let same : p ≡ port = cc in safe.alone q (tie_some (talk_at w q) port Service (rw same at g));
}
fit_talk-peer w x port Parked safe = record { fit = fit-parked (tie_at w) (claim_at w) port; at_served = λ p h. cc; alone = λ p q h g. cc }

fit-taker : (w : World) (port : Ptr) (taker : Option Peer) → IsSafeTaker w port taker → IsFit (tie_at w) (claim_at w) (option_map (Joins port) taker)
fit-taker w port None safe = fit-none (tie_at w) (claim_at w)
fit-taker w port (Some (Server server)) safe = fit-server w port server safe
fit-taker w port (Some Service) safe = fit-service (tie_at w) (claim_at w) port
fit-taker w port (Some Parked) safe = fit-parked (tie_at w) (claim_at w) port

kept : {A : Type 0} (h : Option Body → A) (f : Body → Body) → ((b : Body) → h (Some (f b)) ≡ h (Some b)) → (o : Option Body) → h (option_map f o) ≡ h o
kept h f same None = refl
kept h f same (Some b) = same b

tie-on_thread : (g : Thread → Thread) → ((t : Thread) → (g t).talk ≡ t.talk) → (b : Body) → body_tie (Some (on_thread g b)) ≡ body_tie (Some b)
tie-on_thread g same (Thread_of t) = ap (option_map tie_of) (same t)
tie-on_thread g same b = refl

claim-on_thread : (g : Thread → Thread) → ((t : Thread) → (g t).fault ≡ t.fault) → (b : Body) → body_claim (Some (on_thread g b)) ≡ body_claim (Some b)
claim-on_thread g same (Thread_of t) = ap (and_then claim_of) (same t)
claim-on_thread g same b = refl

good-on_thread : (there : Path → Option Kind) (x : Path) (g : Thread → Thread) (o : Option Body) →
    ((t : Thread) → o ≡ Some (Thread_of t) → is_good there x (Thread_of t) ≡ true → is_good there x (Thread_of (g t)) ≡ true) →
    (b : Body) → o ≡ Some b → is_good there x b ≡ true → is_good there x (on_thread g b) ≡ true
good-on_thread there x g o keeps (Thread_of t) e h = keeps t e h
good-on_thread there x g o keeps b e h = h

-- another talk, and the same fault
valid-talk : (w : World) (x : Path) (g : Thread → Thread) → ((t : Thread) → (g t).fault ≡ t.fault) →
    IsFitTalk (is_served_port w) (tie_at w) (claim_at w) x (body_tie (option_map (on_thread g) (w.body x))) →
    ((t : Thread) → w.body x ≡ Some (Thread_of t) → is_good (kind_there w) x (Thread_of t) ≡ true → is_good (kind_there w) x (Thread_of (g t)) ≡ true) →
    IsConsistent w → IsConsistent (at_path x (option_map (on_thread g)) w)
valid-talk w x g same fit keeps valid =
    valid-at w x (on_thread g) (outline-on_thread g) (good-on_thread (kind_there w) x g (w.body x) keeps)
    (rw (put_kept x (body_claim (option_map (on_thread g) (w.body x))) (claim_at w) (kept body_claim (on_thread g) (claim-on_thread g same) (w.body x)))
    (put_talk (is_served_port w) (tie_at w) (claim_at w) x (body_tie (option_map (on_thread g) (w.body x))) fit (facts w valid).tied))
    valid

-- another fault, and the same talk
valid-fault : (w : World) (x : Path) (g : Thread → Thread) → ((t : Thread) → (g t).talk ≡ t.talk) →
    IsFit (tie_at w) (claim_at w) (body_claim (option_map (on_thread g) (w.body x))) →
    ((t : Thread) → w.body x ≡ Some (Thread_of t) → is_good (kind_there w) x (Thread_of t) ≡ true → is_good (kind_there w) x (Thread_of (g t)) ≡ true) →
    IsConsistent w → IsConsistent (at_path x (option_map (on_thread g)) w)
valid-fault w x g same fit keeps valid =
    valid-at w x (on_thread g) (outline-on_thread g) (good-on_thread (kind_there w) x g (w.body x) keeps)
    (rw (put_kept x (body_tie (option_map (on_thread g) (w.body x))) (tie_at w) (kept body_tie (on_thread g) (tie-on_thread g same) (w.body x)))
    (put_claim (is_served_port w) (tie_at w) (claim_at w) x (body_claim (option_map (on_thread g) (w.body x))) fit (facts w valid).tied))
    valid

-- ---- each of the four

module _ (w : World) (x : Path) where
  fit-set_talk : (talk : Option Talk) → IfAny (IsSafeTalk w x) talk →
      (o : Option Body) → IsFitTalk (is_served_port w) (tie_at w) (claim_at w) x (body_tie (option_map (on_thread (λ t. record t { talk = talk })) o))
  fit-set_talk None safe (Some (Thread_of t)) = fit_talk-none _ _ _ x
  fit-set_talk (Some talk) safe (Some (Thread_of t)) = fit_talk-peer w x talk.port talk.peer safe.peer
  fit-set_talk talk safe o = fit_talk-none _ _ _ x

  good_peer : (port : Ptr) (peer : Peer) → IsSafePeer w x port peer → is_good_peer (kind_there w) peer ≡ true
  good_peer port (Server server) safe = safe.good
  good_peer port Service safe = refl
  good_peer port Parked safe = refl

  good_taker : (port : Ptr) (taker : Option Peer) → IsSafeTaker w port taker → all_in (is_good_peer (kind_there w)) taker ≡ true
  good_taker port None safe = refl
  good_taker port (Some (Server server)) safe = safe.good
  good_taker port (Some Service) safe = refl
  good_taker port (Some Parked) safe = refl

  good_talk : (talk : Option Talk) → IfAny (IsSafeTalk w x) talk → all_in (is_good_talk (kind_there w)) talk ≡ true
  good_talk None safe = refl
  good_talk (Some talk) safe = and_from _ _ safe.port (good_peer talk.port talk.peer safe.peer)

  good_fault : (fault : Option Fault) → IfAny (IsSafeFault w) fault → all_in (is_good_fault (kind_there w)) fault ≡ true
  good_fault None safe = refl
  good_fault (Some fault) safe = and_from _ _ safe.port (good_taker fault.port fault.taker safe.taker)

  valid-set_talk : (talk : Option Talk) →
      IfAny (IsSafeTalk w x) talk → IsConsistent w → IsConsistent (at_path x (option_map (on_thread (λ t. record t { talk = talk }))) w)
  valid-set_talk talk safe valid = valid-talk w x (λ t. record t { talk = talk }) (λ t. refl)
      (fit-set_talk talk safe (w.body x)) (λ t e h. and_from _ _ (good_talk talk safe) (and_parts (all_in (is_good_talk (kind_there w)) t.talk) _ h).1) valid

  fit-set_fault : (fault : Option Fault) →
      IfAny (IsSafeFault w) fault → (o : Option Body) → IsFit (tie_at w) (claim_at w) (body_claim (option_map (on_thread (λ t. record t { fault = fault })) o))
  fit-set_fault None safe (Some (Thread_of t)) = fit-none _ _
  fit-set_fault (Some fault) safe (Some (Thread_of t)) = fit-taker w fault.port fault.taker safe.taker
  fit-set_fault fault safe o = fit-none _ _

  valid-set_fault : (fault : Option Fault) →
      IfAny (IsSafeFault w) fault → IsConsistent w → IsConsistent (at_path x (option_map (on_thread (λ t. record t { fault = fault }))) w)
  valid-set_fault fault safe valid = valid-fault w x (λ t. record t { fault = fault }) (λ t. refl) (fit-set_fault fault safe (w.body x))
      (λ t e h. and_from _ _ (and_parts _ (all_in (is_good_fault (kind_there w)) t.fault) h).0 (good_fault fault safe)) valid

  abbrev with_peer : Peer → Talk → Talk
  with_peer peer talk = record talk { peer = peer }

  abbrev with_taker : Option Peer → Fault → Fault
  with_taker taker fault = record fault { taker = taker }

  fit-new_peer : (peer : Peer) (o : Option Talk) → ((talk : Talk) → o ≡ Some talk → IsSafePeer w x talk.port peer) →
      IsFitTalk (is_served_port w) (tie_at w) (claim_at w) x (option_map tie_of (option_map (with_peer peer) o))
  fit-new_peer peer None safe = fit_talk-none _ _ _ x
  fit-new_peer peer (Some talk) safe = fit_talk-peer w x talk.port peer (safe talk refl)

  fit-set_peer : (peer : Peer) (o : Option Body) →
      ((talk : Talk) → and_then (λ (t : Thread). t.talk) (and_then thread_of o) ≡ Some talk → IsSafePeer w x talk.port peer) →
      IsFitTalk (is_served_port w) (tie_at w) (claim_at w) x (body_tie (option_map (on_thread (on_talk (with_peer peer))) o))
  fit-set_peer peer (Some (Thread_of t)) safe = fit-new_peer peer t.talk safe
  fit-set_peer peer o safe = fit_talk-none _ _ _ x

  good-new_peer : (peer : Peer) (o : Option Talk) → ((talk : Talk) → o ≡ Some talk → IsSafePeer w x talk.port peer) →
      all_in (is_good_talk (kind_there w)) o ≡ true → all_in (is_good_talk (kind_there w)) (option_map (with_peer peer) o) ≡ true
  good-new_peer peer None safe h = refl
  good-new_peer peer (Some talk) safe h = and_from _ _ (and_parts _ (is_good_peer (kind_there w) talk.peer) h).0 (good_peer talk.port peer (safe talk refl))

  talk_there : (t : Thread) (talk : Talk) → w.body x ≡ Some (Thread_of t) → t.talk ≡ Some talk → talk_at w x ≡ Some talk
  talk_there t talk e h = rw e h

  fault_there : (t : Thread) (fault : Fault) → w.body x ≡ Some (Thread_of t) → t.fault ≡ Some fault → fault_at w x ≡ Some fault
  fault_there t fault e h = rw e h

  valid-set_peer : (peer : Peer) → ((talk : Talk) → talk_at w x ≡ Some talk → IsSafePeer w x talk.port peer) →
      IsConsistent w → IsConsistent (at_path x (option_map (on_thread (on_talk (with_peer peer)))) w)
  valid-set_peer peer safe valid = valid-talk w x (on_talk (with_peer peer)) (λ t. refl) (fit-set_peer peer (w.body x) safe)
      (λ t e h. let both = and_parts (all_in (is_good_talk (kind_there w)) t.talk) (all_in (is_good_fault (kind_there w)) t.fault) h in
      and_from _ _ (good-new_peer peer t.talk (λ talk g. safe talk (talk_there t talk e g)) both.0) both.1) valid

  fit-new_taker : (taker : Option Peer) (o : Option Fault) →
      ((fault : Fault) → o ≡ Some fault → IsSafeTaker w fault.port taker) → IsFit (tie_at w) (claim_at w) (and_then claim_of (option_map (with_taker taker) o))
  fit-new_taker taker None safe = fit-none _ _
  fit-new_taker taker (Some fault) safe = fit-taker w fault.port taker (safe fault refl)

  fit-set_taker : (taker : Option Peer) (o : Option Body) →
      ((fault : Fault) → and_then (λ (t : Thread). t.fault) (and_then thread_of o) ≡ Some fault → IsSafeTaker w fault.port taker) →
      IsFit (tie_at w) (claim_at w) (body_claim (option_map (on_thread (on_fault (with_taker taker))) o))
  fit-set_taker taker (Some (Thread_of t)) safe = fit-new_taker taker t.fault safe
  fit-set_taker taker o safe = fit-none _ _

  good-new_taker : (taker : Option Peer) (o : Option Fault) → ((fault : Fault) → o ≡ Some fault → IsSafeTaker w fault.port taker) →
      all_in (is_good_fault (kind_there w)) o ≡ true → all_in (is_good_fault (kind_there w)) (option_map (with_taker taker) o) ≡ true
  good-new_taker taker None safe h = refl
  good-new_taker taker (Some fault) safe h =
      and_from _ _ (and_parts _ (all_in (is_good_peer (kind_there w)) fault.taker) h).0 (good_taker fault.port taker (safe fault refl))

  valid-set_taker : (taker : Option Peer) → ((fault : Fault) → fault_at w x ≡ Some fault → IsSafeTaker w fault.port taker) →
      IsConsistent w → IsConsistent (at_path x (option_map (on_thread (on_fault (with_taker taker)))) w)
  valid-set_taker taker safe valid = valid-fault w x (on_fault (with_taker taker)) (λ t. refl) (fit-set_taker taker (w.body x) safe)
      (λ t e h. let both = and_parts (all_in (is_good_talk (kind_there w)) t.talk) (all_in (is_good_fault (kind_there w)) t.fault) h in
      and_from _ _ both.0 (good-new_taker taker t.fault (λ fault g. safe fault (fault_there t fault e g)) both.1)) valid

-- ---- every edit

pub valid-edit : (edit : Edit) (w : World) (x : Path) → IsSafeEdit w x edit → IsConsistent w → IsConsistent (apply (Alter x edit) w)
unfolding apply edited
valid-edit (SetLocked locked) w x safe valid = valid-seen w x (with_locked locked) (seen-locked locked) (λ b e. good-locked (kind_there w) x locked b) valid
valid-edit (SetWindow first count offset write) w x safe valid = valid-seen w
    x (with_window first count offset write) (seen-window first count offset write) (λ b e. good-window (kind_there w) x first count offset write safe b) valid
valid-edit (SetExtent first count write) w x safe valid =
    valid-seen w x (with_extent first count write) (seen-extent first count write) (λ b e. good-extent (kind_there w) x first count write safe b) valid
valid-edit (SetMember set) w x safe valid =
    valid-seen w x (with_member set) (seen-member set) (λ b e. good-member w x set b (at_body (takes_set w x set) (w.body x) b e safe)) valid
valid-edit (SetPointer to) w x safe valid =
    valid-seen w x (with_pointer to) (seen-pointer to) (λ b e. good-pointer w x to b (at_body (takes_pointer w to) (w.body x) b e safe)) valid
valid-edit (SetHolder holder) w x safe valid =
    valid-seen w x (with_holder holder) (seen-holder holder) (λ b e. good-holder (kind_there w) x holder safe b) valid
valid-edit (Proceed mode counter) w x safe valid = valid-light w x (λ t. at_mode t mode counter) (record { talk = λ t. refl; fault = λ t. refl }) valid
valid-edit (Shift count) w x safe valid =
    valid-light w x (λ t. at_mode t (shifted_in count t.mode) t.counter) (record { talk = λ t. refl; fault = λ t. refl }) valid
valid-edit (Finish answers) w x safe valid = valid-light w x (λ t. finished_in answers t t.mode)
    (record { talk = λ t. ap (option_map tie_of) (finished-talk answers t t.mode); fault = λ t. finished-fault answers t t.mode }) valid
valid-edit (End status answers) w x safe valid = valid-light w x (λ t. ended_in status answers t t.mode)
    (record { talk = λ t. ap (option_map tie_of) (ended-talk status answers t t.mode); fault = λ t. ended-fault status answers t t.mode }) valid
valid-edit (Replace stage) w x safe valid =
    valid-light w x (λ t. at_mode t (replaced_in stage t.mode) t.counter) (record { talk = λ t. refl; fault = λ t. refl }) valid
valid-edit (SetStops stops) w x safe valid = valid-light w x (λ t. record t { stops = stops }) (record { talk = λ t. refl; fault = λ t. refl }) valid
valid-edit (SetTalk talk) w x safe valid = valid-set_talk w x talk safe valid
valid-edit (CountMoved count) w x safe valid = valid-light w x (on_talk (λ talk. record talk { moved = min MOST_MOVED (talk.moved + count) }))
    (record { talk = λ t. same_tie _ (λ talk. refl) t.talk; fault = λ t. refl }) valid
valid-edit (PassTurn turn) w x safe valid = valid-light w
    x (on_talk (λ talk. record talk { turn = turn; moved = 0 })) (record { talk = λ t. same_tie _ (λ talk. refl) t.talk; fault = λ t. refl }) valid
valid-edit (SetPeer peer) w x safe valid = valid-set_peer w x peer safe valid
valid-edit (SetFault fault) w x safe valid = valid-set_fault w x fault safe valid
valid-edit (SetTaker taker) w x safe valid = valid-set_taker w x taker safe valid

pub outline-edited : (edit : Edit) (b : Body) → outline_of (edited edit b) ≡ outline_of b
unfolding edited
outline-edited (SetLocked locked) b = ap (λ (s : Seen). s.outline) (seen-locked locked b)
outline-edited (SetWindow first count offset write) b = ap (λ (s : Seen). s.outline) (seen-window first count offset write b)
outline-edited (SetExtent first count write) b = ap (λ (s : Seen). s.outline) (seen-extent first count write b)
outline-edited (SetMember set) b = ap (λ (s : Seen). s.outline) (seen-member set b)
outline-edited (SetPointer to) b = ap (λ (s : Seen). s.outline) (seen-pointer to b)
outline-edited (SetHolder holder) b = ap (λ (s : Seen). s.outline) (seen-holder holder b)
outline-edited (Proceed mode counter) b = outline-on_thread (λ t. at_mode t mode counter) b
outline-edited (Shift count) b = outline-on_thread (λ t. at_mode t (shifted_in count t.mode) t.counter) b
outline-edited (Finish answers) b = outline-on_thread (λ t. finished_in answers t t.mode) b
outline-edited (End status answers) b = outline-on_thread (λ t. ended_in status answers t t.mode) b
outline-edited (Replace stage) b = outline-on_thread (λ t. at_mode t (replaced_in stage t.mode) t.counter) b
outline-edited (SetStops stops) b = outline-on_thread (λ t. record t { stops = stops }) b
outline-edited (SetTalk talk) b = outline-on_thread (λ t. record t { talk = talk }) b
outline-edited (CountMoved count) b = outline-on_thread (on_talk (λ talk. record talk { moved = min MOST_MOVED (talk.moved + count) })) b
outline-edited (PassTurn turn) b = outline-on_thread (on_talk (λ talk. record talk { turn = turn; moved = 0 })) b
outline-edited (SetPeer peer) b = outline-on_thread (on_talk (λ talk. record talk { peer = peer })) b
outline-edited (SetFault fault) b = outline-on_thread (λ t. record t { fault = fault }) b
outline-edited (SetTaker taker) b = outline-on_thread (on_fault (λ fault. record fault { taker = taker })) b
