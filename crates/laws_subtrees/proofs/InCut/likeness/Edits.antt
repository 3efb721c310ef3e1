-- An edit acts alike on an object and on what is seen of it, and keeps its pointers such as a likeness has.
use Rattle.std.proofs.Common.{◌≡◌, ℕ, ◌+◌, Bool, false, min, List, [], ◌∷◌, Option, Some, None, IfSome, option_map, refl, ap}
use Rattle.fk_model.specs.declared.limits.TheConstants.{MOST_MOVED}
use Rattle.fk_model.specs.declared.stage.Stage.{Stage}
use Rattle.fk_model.specs.Places.{Ptr}
use Rattle.fk_model.specs.Objects.{Mode, Peer, Talk, Fault, Thread, Body, kind_of, thread_of, and_then}
use Rattle.fk_model.specs.Objects.Mode.{Calling}
use Rattle.fk_model.specs.Objects.Body.{Mutex, Mapping, Region, Port, Space, Thread_of, Reference}
use Rattle.fk_model.specs.Holds.{is_porter}
use Rattle.fk_model.specs.World.{Edit, edited, shifted_in, finished_in, ended_in, replaced_in}
use Rattle.fk_model.specs.World.Edit.{SetLocked, SetWindow, SetExtent, SetMember, SetPointer, SetHolder, Proceed, Shift, Finish, End, Replace, SetTalk}
use Rattle.fk_model.specs.World.Edit.{CountMoved, PassTurn, SetPeer, SetFault, SetTaker}
use Rattle.fk_model.specs.Cut.{is_out, seen_by}
use Rattle.laws_subtrees.specs.Cut.Likeness.{seeing, seen_peer, seen_talk, seen_thread, IfServer, AllInTalk, AllInFault, IsPlainBody}
use Rattle.laws_subtrees.specs.Cut.LikeChanges.{seen_edit}

-- ---- kinds stay

pub kind-edited : (edit : Edit) (b : Body) → kind_of (edited edit b) ≡ kind_of b
unfolding edited
kind-edited (SetLocked locked) (Mutex old) = refl
kind-edited (SetLocked locked) b = refl
kind-edited (SetWindow first count offset write) (Mapping m) = refl
kind-edited (SetWindow first count offset write) b = refl
kind-edited (SetExtent first count write) (Region r) = refl
kind-edited (SetExtent first count write) b = refl
kind-edited (SetMember set) (Port old served) = refl
kind-edited (SetMember set) b = refl
kind-edited (SetPointer to) (Reference old) = refl
kind-edited (SetPointer to) b = refl
kind-edited (SetHolder holder) (Space birth old) = refl
kind-edited (SetHolder holder) b = refl
kind-edited edit (Thread_of t) = refl
kind-edited edit b = refl

-- ---- on a thread

ended-talk : (status : ℕ) (answers : List ℕ) (t : Thread) (mode : Mode) →
    ((ended_in status answers t mode).talk ≡ t.talk) × ((ended_in status answers t mode).fault ≡ t.fault)
ended-talk status answers t (Calling todo rest) = (refl, refl)
ended-talk status answers t mode = (refl, refl)

finished-talk : (answers : List ℕ) (t : Thread) (mode : Mode) → ((finished_in answers t mode).talk ≡ t.talk) × ((finished_in answers t mode).fault ≡ t.fault)
finished-talk answers t (Calling [] rest) = (refl, refl)
finished-talk answers t (Calling (stage ∷ []) rest) = (refl, refl)
finished-talk answers t (Calling (stage ∷ next_stage ∷ todo) rest) = (refl, refl)
finished-talk answers t mode = (refl, refl)

-- nobody becomes a porter by its own steps
ended-users : (status : ℕ) (answers : List ℕ) (t : Thread) (mode : Mode) → is_porter t.mode ≡ false → is_porter (ended_in status answers t mode).mode ≡ false
ended-users status answers t (Calling todo rest) h = refl
ended-users status answers t mode h = h

finished-users : (answers : List ℕ) (t : Thread) (mode : Mode) → is_porter t.mode ≡ false → is_porter (finished_in answers t mode).mode ≡ false
finished-users answers t (Calling [] rest) h = refl
finished-users answers t (Calling (stage ∷ []) rest) h = refl
finished-users answers t (Calling (stage ∷ next_stage ∷ todo) rest) h = refl
finished-users answers t mode h = h

shifted-users : (count : ℕ) (mode : Mode) → is_porter mode ≡ false → is_porter (shifted_in count mode) ≡ false
shifted-users count (Calling [] rest) h = refl
shifted-users count (Calling (stage ∷ todo) rest) h = refl
shifted-users count mode h = h

replaced-users : (stage : Stage) (mode : Mode) → is_porter mode ≡ false → is_porter (replaced_in stage mode) ≡ false
replaced-users stage (Calling [] rest) h = refl
replaced-users stage (Calling (old ∷ todo) rest) h = refl
replaced-users stage mode h = h

module _ (see : Ptr → Ptr) where
  abbrev seen : Body → Body
  seen b = seen_by (seeing see) b

  ended-seen : (status : ℕ) (answers : List ℕ) (t : Thread) (mode : Mode) →
      seen_thread see (ended_in status answers t mode) ≡ ended_in status answers (seen_thread see t) mode
  ended-seen status answers t (Calling todo rest) = refl
  ended-seen status answers t mode = refl

  finished-seen : (answers : List ℕ) (t : Thread) (mode : Mode) → seen_thread see (finished_in answers t mode) ≡ finished_in answers (seen_thread see t) mode
  finished-seen answers t (Calling [] rest) = refl
  finished-seen answers t (Calling (stage ∷ []) rest) = refl
  finished-seen answers t (Calling (stage ∷ next_stage ∷ todo) rest) = refl
  finished-seen answers t mode = refl

  -- what changes no port and no peer
  counted : (f : Talk → Talk) → ((talk : Talk) → seen_talk see (f talk) ≡ f (seen_talk see talk)) →
      (o : Option Talk) → and_then (seeing see).talk (option_map f o) ≡ option_map f (and_then (seeing see).talk o)
  counted f same None = refl
  counted f same (Some talk) = ap Some (same talk)

  peer_set : (out : Bool) (peer : Peer) (o : Option Talk) → IfSome o (λ talk. is_out (see talk.port) ≡ out) →
      and_then (seeing see).talk (option_map (λ (talk : Talk). record talk { peer = peer }) o) ≡ option_map
      (λ (talk : Talk). record talk { peer = seen_peer see out peer }) (and_then (seeing see).talk o)
  peer_set out peer None near = refl
  peer_set out peer (Some talk) near = ap (λ (out : Bool). Some (record talk { port = see talk.port; peer = seen_peer see out peer })) near

  taker_set : (out : Bool) (taker : Option Peer) (o : Option Fault) → IfSome o (λ fault. is_out (see fault.port) ≡ out) →
      and_then (seeing see).fault (option_map (λ (fault : Fault). record fault { taker = taker }) o) ≡ option_map
      (λ (fault : Fault). record fault { taker = option_map (seen_peer see out) taker }) (and_then (seeing see).fault o)
  taker_set out taker None near = refl
  taker_set out taker (Some fault) near = ap (λ (out : Bool). Some (record fault { port = see fault.port; taker = option_map (seen_peer see out) taker })) near

  -- the talk whose peer is set, and the fault whose taker, is at a port outside, or is not
  abbrev pub IsAtPort : Bool → Edit → Body → Type 0
  IsAtPort out (SetPeer peer) b = IfSome (and_then (λ (t : Thread). t.talk) (thread_of b)) (λ talk. is_out (see talk.port) ≡ out)
  IsAtPort out (SetTaker taker) b = IfSome (and_then (λ (t : Thread). t.fault) (thread_of b)) (λ fault. is_out (see fault.port) ≡ out)
  IsAtPort out other b = Unit {0}

  pub edited-seen : (out : Bool) (edit : Edit) (b : Body) → IsAtPort out edit b → seen (edited edit b) ≡ edited (seen_edit see out edit) (seen b)
  unfolding seen_by edited
  edited-seen out (SetLocked locked) (Mutex old) near = refl
  edited-seen out (SetLocked locked) b near = refl
  edited-seen out (SetWindow first count offset write) (Mapping m) near = refl
  edited-seen out (SetWindow first count offset write) b near = refl
  edited-seen out (SetExtent first count write) (Region r) near = refl
  edited-seen out (SetExtent first count write) b near = refl
  edited-seen out (SetMember None) (Port old served) near = refl
  edited-seen out (SetMember (Some set)) (Port old served) near = refl
  edited-seen out (SetMember set) b near = refl
  edited-seen out (SetPointer to) (Reference old) near = refl
  edited-seen out (SetPointer to) b near = refl
  edited-seen out (SetHolder holder) (Space birth old) near = refl
  edited-seen out (SetHolder holder) b near = refl
  edited-seen out (Finish answers) (Thread_of t) near = ap Thread_of (finished-seen answers t t.mode)
  edited-seen out (End status answers) (Thread_of t) near = ap Thread_of (ended-seen status answers t t.mode)
  edited-seen out (CountMoved count) (Thread_of t) near =
      let talk = counted (λ (talk : Talk). record talk { moved = min MOST_MOVED (talk.moved + count) }) (λ talk. refl) t.talk in
      ap (λ (o : Option Talk). Thread_of (record t { talk = o; fault = and_then (seeing see).fault t.fault })) talk
  edited-seen out (PassTurn turn) (Thread_of t) near =
      let talk = counted (λ (talk : Talk). record talk { turn = turn; moved = 0 }) (λ talk. refl) t.talk in
      ap (λ (o : Option Talk). Thread_of (record t { talk = o; fault = and_then (seeing see).fault t.fault })) talk
  edited-seen out (SetPeer peer) (Thread_of t) near =
      ap (λ (o : Option Talk). Thread_of (record t { talk = o; fault = and_then (seeing see).fault t.fault })) (peer_set out peer t.talk near)
  edited-seen out (SetTaker taker) (Thread_of t) near =
      ap (λ (o : Option Fault). Thread_of (record t { talk = and_then (seeing see).talk t.talk; fault = o })) (taker_set out taker t.fault near)
  edited-seen out edit (Thread_of t) near = refl
  edited-seen out edit b near = refl

  -- ---- an object stays such as a likeness has

  module _ (P : Ptr → Type 0) where
    talk_kept : (f : Talk → Talk) → ((talk : Talk) → AllInTalk see P talk → AllInTalk see P (f talk)) →
        (o : Option Talk) → IfSome o (AllInTalk see P) → IfSome (option_map f o) (AllInTalk see P)
    talk_kept f keeps None h = tt
    talk_kept f keeps (Some talk) h = keeps talk h

    peer_kept : (out : Bool) (peer : Peer) (o : Option Talk) → IfSome o (λ talk. is_out (see talk.port) ≡ out) →
        IfServer out peer P → IfSome o (AllInTalk see P) → IfSome (option_map (λ (talk : Talk). record talk { peer = peer }) o) (AllInTalk see P)
    peer_kept out peer None near good h = tt
    peer_kept out peer (Some talk) near good h = (h.0, rw near good)

    taker_kept : (out : Bool) (taker : Option Peer) (o : Option Fault) →
        IfSome o (λ fault. is_out (see fault.port) ≡ out) → IfSome taker (λ taker. IfServer out taker P) →
        IfSome o (AllInFault see P) → IfSome (option_map (λ (fault : Fault). record fault { taker = taker }) o) (AllInFault see P)
    taker_kept out taker None near good h = tt
    taker_kept out taker (Some fault) near good h = (h.0, rw near good)

    -- the pointers and the mode that an edit makes
    abbrev pub IsGood : Bool → Edit → Type 0
    IsGood out (Proceed mode counter) = is_porter mode ≡ false
    IsGood out (SetPointer to) = P to
    IsGood out (SetHolder holder) = IfSome holder P
    IsGood out (SetTalk talk) = IfSome talk (AllInTalk see P)
    IsGood out (SetPeer peer) = IfServer out peer P
    IsGood out (SetFault fault) = IfSome fault (AllInFault see P)
    IsGood out (SetTaker taker) = IfSome taker (λ taker. IfServer out taker P)
    IsGood out other = Unit {0}

    pub edited-kept : (out : Bool) (edit : Edit) (b : Body) → IsAtPort out edit b → IsGood out edit → IsPlainBody see P b → IsPlainBody see P (edited edit b)
    unfolding edited
    edited-kept out (SetLocked locked) (Mutex old) near good h = h
    edited-kept out (SetLocked locked) b near good h = h
    edited-kept out (SetWindow first count offset write) (Mapping m) near good h = h
    edited-kept out (SetWindow first count offset write) b near good h = h
    edited-kept out (SetExtent first count write) (Region r) near good h = h
    edited-kept out (SetExtent first count write) b near good h = h
    edited-kept out (SetMember set) (Port old served) near good h = h
    edited-kept out (SetMember set) b near good h = h
    edited-kept out (SetPointer to) (Mapping m) near good h = good
    edited-kept out (SetPointer to) (Region r) near good h = good
    edited-kept out (SetPointer to) (Reference old) near good h = good
    edited-kept out (SetPointer to) b near good h = h
    edited-kept out (SetHolder holder) (Space birth old) near good h = good
    edited-kept out (SetHolder holder) b near good h = h
    edited-kept out (Proceed mode counter) (Thread_of t) near good h = (h.0, h.1, good)
    edited-kept out (Shift count) (Thread_of t) near good h = (h.0, h.1, shifted-users count t.mode h.2)
    edited-kept out (Replace stage) (Thread_of t) near good h = (h.0, h.1, replaced-users stage t.mode h.2)
    edited-kept out (Finish answers) (Thread_of t) near good h =
        (rw (finished-talk answers t t.mode).0 h.0, rw (finished-talk answers t t.mode).1 h.1, finished-users answers t t.mode h.2)
    edited-kept out (End status answers) (Thread_of t) near good h =
        (rw (ended-talk status answers t t.mode).0 h.0, rw (ended-talk status answers t t.mode).1 h.1, ended-users status answers t t.mode h.2)
    edited-kept out (CountMoved count) (Thread_of t) near good h =
        (talk_kept (λ (talk : Talk). record talk { moved = min MOST_MOVED (talk.moved + count) }) (λ talk h. h) t.talk h.0, h.1, h.2)
    edited-kept out (PassTurn turn) (Thread_of t) near good h =
        (talk_kept (λ (talk : Talk). record talk { turn = turn; moved = 0 }) (λ talk h. h) t.talk h.0, h.1, h.2)
    edited-kept out (SetTalk talk) (Thread_of t) near good h = (good, h.1, h.2)
    edited-kept out (SetPeer peer) (Thread_of t) near good h = (peer_kept out peer t.talk near good h.0, h.1, h.2)
    edited-kept out (SetFault fault) (Thread_of t) near good h = (h.0, good, h.2)
    edited-kept out (SetTaker taker) (Thread_of t) near good h = (h.0, taker_kept out taker t.fault near good h.1, h.2)
    edited-kept out edit (Thread_of t) near good h = h
    edited-kept out edit b near good h = h
