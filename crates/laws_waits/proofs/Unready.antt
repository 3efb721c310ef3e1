-- No move of a stuck thread is ready.
use Rattle.std.proofs.Common.{◌≡◌, ℕ, ◌≤◌, Bool, true, false, not, cond, find, if◌then◌else◌, ◌&&◌, ◌||◌, ◌==◌, nat_le, is_some, List, [], ◌∷◌, Option, Some}
use Rattle.std.proofs.Common.{None, option_map, Ok, refl, ap, sym, subst, ◌∙◌, ◌⊎◌, inl, inr}
use Rattle.std.proofs.lemmas.Bool.{and_parts, eqb-true}
use Rattle.fk_model.specs.declared.limits.TheConstants.{LAST_USER_SLOT}
use Rattle.fk_model.specs.declared.moves.Ask.TheVariants as asks
use Rattle.fk_model.specs.declared.names.Kind.TheVariants as kinds
use Rattle.fk_model.specs.declared.stage.Stage.{Stage}
use Rattle.fk_model.specs.declared.stage.Stage.TheVariants.{SpaceHold, MutexLock, CondAsleep, Connect, Wait, ClientReceive, ClientSend, ClientOver}
use Rattle.fk_model.specs.declared.stage.Stage.TheVariants.{ClientOverRef, ClientReceiveRef}
use Rattle.fk_model.specs.declared.stage.Stage.TheVariants.{ServerReceive, ServerSend, ServerOver, FaultDone, ServerOverRef, ServerReceiveRef}
use Rattle.fk_model.specs.declared.thread.Turn.{Turn}
use Rattle.fk_model.specs.declared.thread.Turn.TheVariants as turns
use Rattle.fk_model.specs.Places.{Path, is_within, parent, Ptr, leads_to}
use Rattle.fk_model.specs.Places.Ptr.{Null, Dead, At, Out, Outside, Far}
use Rattle.fk_model.specs.Objects.{Peer, Talk, Fault, Thread, Body, kind_of, mutex_of, space_of, thread_of, and_then, or_else, holds, Mode, reference_of}
use Rattle.fk_model.specs.Objects.Peer.{Server, Service, Parked}
use Rattle.fk_model.specs.Objects.Body.{Mutex, Cond, Portset, Space, Thread_of}
use Rattle.fk_model.specs.World.{World, serves}
use Rattle.fk_model.specs.Searches.{thread_at, talk_at, depth, is_service, is_serving, client_of, faulter_of, fault_at, objects}
use Rattle.fk_model.specs.Holds.{is_free, is_frozen_for, is_unheld}
use Rattle.fk_model.specs.SpaceRows.{is_held_by_other, space_hold}
use Rattle.fk_model.specs.Reach.{Reach, words_at, reach_word}
use Rattle.fk_model.specs.Reach.Reach.{Home, Missing, Bad}
use Rattle.fk_model.specs.FaultRows.{fault_done}
use Rattle.fk_model.specs.Outcomes.{Outcome, ◌>>=◌, when, done}
use Rattle.fk_model.specs.Outcomes.Outcome.{Waits}
use Rattle.fk_model.specs.Readers.{seen_as, handled, handle, space_argument, own_page_at, own_page, their_page_at, object_in}
use Rattle.fk_model.specs.Talks.{Line, first_stage, receiving, other_side, is_service_free, awaited, is_handled}
use Rattle.fk_model.specs.SyncRows.{cond_of, mutex_lock, cond_asleep}
use Rattle.fk_model.specs.TransferRows.{awaits, receive, sends, sends_to, sends_to_thread, sends_into, send, passes_to, passes_to_thread, over, may_carry}
use Rattle.fk_model.specs.TransferRows.{over_ref, passes_on}
use Rattle.fk_model.specs.TransferRows.{receive_ref}
use Rattle.fk_model.specs.LinkRows.{user_at, connect, connecting_to, is_parked, is_open, portset_of, slot_in_set, Candidate, faulting, connecting, resuming}
use Rattle.fk_model.specs.LinkRows.{candidate_by, candidate, takes_picked, takes_candidate, wait}
use Rattle.fk_model.specs.LinkRows.Candidate.{Faulting, Connecting as Connects, Resuming}
use Rattle.fk_model.specs.Moves.{with_pick, closed, GoesAllowed, call_row, IsReady}
use Rattle.fk_model.specs.Valid.{kind_there, IsValid}
use Rattle.fk_model.proofs.walks.PlaceLaws.{same_path_eq, leads_to_at}
use Rattle.laws_waits.specs.Stuck.{is_resting, IsBeneath, End, talk_place, is_talk_of, is_with, is_at_hand, IsGone, IsTalking, IsTalkingTo, IsReached, IsPlace}
use Rattle.laws_waits.specs.Stuck.{awaits_on}
use Rattle.laws_waits.specs.Stuck.{HasRoom, HasTaken, Reason, IsAtStage, IsStuck, is_served_by, IsSet, is_in, comes_to, comes_connecting, comes_resuming}
use Rattle.laws_waits.specs.Stuck.{is_at_hand_else}
use Rattle.laws_waits.specs.Stuck.{names_slot}
use Rattle.laws_waits.specs.Stuck.End.{Absent, Covered, Unclaimed, Closed, Unnamed}
use Rattle.laws_waits.specs.Stuck.Reason.{Resting, Beneath, Locking, Sleeping, Connecting, Receiving, Passing, Sending, Lacking, Ending, Holding, Waiting}
use Rattle.laws_waits.specs.Stuck.Reason.{WaitingOut, Barred}
use Rattle.laws_waits.specs.Touching.{is_home}
use Rattle.laws_waits.specs.Laws.{StuckIsUnready}
use Rattle.laws_moves.proofs.InMachine.Frame.{or_off}
use Rattle.laws_waits.proofs.Comes.{comes_by}
use Rattle.laws_waits.proofs.Rows.{goes-on, free-resting, free-beneath, held-decider, at-stage, object-ok, serves-is, line_of, turn-ok, reached-home}
use Rattle.laws_moves.proofs.InRows.Handles.{reference-in}
use Rattle.laws_waits.proofs.Rows.{faulter-found, held-some}

-- ---- a stage that waits is no move

waits-unready : (w : World) (x : Path) (b : Bool) (pick : Option Path) (o : Outcome) → o ≡ Waits → GoesAllowed w x (closed (user_at x) (with_pick b pick o)) → ⊥
waits-unready w x b pick o e goes = let none : GoesAllowed w x (closed (user_at x) (with_pick b pick Waits)) = subst
    (λ o. GoesAllowed w x (closed (user_at x) (with_pick b pick o))) e goes in none

-- ---- mutexes and conditions

lock-waits : (w : World) (x : Path) (m : ℕ) → nat_le m LAST_USER_SLOT ≡ true → and_then mutex_of (w.body (m ∷ parent x)) ≡ Some true →
    mutex_lock w (user_at x) m ≡ Waits
unfolding mutex_lock
lock-waits w x m low locked = rw (object-ok w x mutex_of m true low locked) refl

kind-cond : (o : Option Body) → option_map kind_of o ≡ Some kinds.Cond → and_then cond_of o ≡ Some Cond
kind-cond None h = cc
kind-cond (Some Cond) h = refl
kind-cond (Some (Mutex locked)) h = cc
kind-cond (Some b) h = cc

kind-mutex : (o : Option Body) → option_map kind_of o ≡ Some kinds.Mutex → (locked : Bool) × (and_then mutex_of o ≡ Some locked)
kind-mutex None h = cc
kind-mutex (Some (Mutex locked)) h = (locked, refl)
kind-mutex (Some Cond) h = cc
kind-mutex (Some b) h = cc

sleep-waits : (w : World) (x : Path) (c m : ℕ) → nat_le c LAST_USER_SLOT ≡ true → nat_le m LAST_USER_SLOT ≡ true →
    kind_there w (c ∷ parent x) ≡ Some kinds.Cond → kind_there w (m ∷ parent x) ≡ Some kinds.Mutex → cond_asleep w (user_at x) c m ≡ Waits
unfolding cond_asleep kind_there
sleep-waits w x c m low also cond mutex =
    let locked = kind-mutex (w.body (m ∷ parent x)) mutex in
    rw (object-ok w x cond_of c Cond low (kind-cond (w.body (c ∷ parent x)) cond), object-ok w x mutex_of m locked.0 also locked.1) refl

-- ---- talks

-- nothing can be moved to who stands at the other end
pub data Gone (w : World) (side : Turn) (talk : Talk) : Peer → Type 0 where
  ByThread : (y : Path) →
      ((t : Thread) → thread_at w y ≡ Some t → (is_free w (parent y) t && is_some (receiving w (parent y) (other_side side) t.mode)) ≡ false) →
      Gone w side talk (Server (At y))
  ByNobody : Gone w side talk Parked
  ByService : is_service_free w talk.port ≡ false → Gone w side talk Service

-- who isn't at a Receive receives nothing
unawaited : (w : World) (s : Path) (side : Turn) (m : Mode) → is_some (awaits_on side m) ≡ false → is_some (receiving w s side m) ≡ false
unawaited w s side m h = by (is_handled w s (awaited m))
  where
    by : (b : Bool) → is_some (cond b (awaits_on side m) None) ≡ false
    by true = h
    by false = refl

-- nor does who is refused for its handle
unhandled : (w : World) (s : Path) (side : Turn) (m : Mode) → is_handled w s (awaited m) ≡ false → is_some (receiving w s side m) ≡ false
unhandled w s side m h = rw h refl

named-slot : (o : Option ℕ) (k : ℕ) → holds (λ j. j == k) o ≡ true → o ≡ Some k
named-slot None k h = cc
named-slot (Some j) k h = ap (λ n. Some n) (eqb-true j k h)

module _ (w : World) (side : Turn) where
  away-unmet : (y : Path) (t : Thread) → is_at_hand (other_side side) t ≡ false
      → (is_free w (parent y) t && is_some (receiving w (parent y) (other_side side) t.mode)) ≡ false
  away-unmet y t away = by (is_free w (parent y) t) refl
    where
      by : (b : Bool) → is_free w (parent y) t ≡ b → (b && is_some (receiving w (parent y) (other_side side) t.mode)) ≡ false
      by true e = unawaited w (parent y) (other_side side) t.mode
          (ap (λ r. not r && is_some (awaits_on (other_side side) t.mode)) (sym (free-resting w (parent y) t e)) ∙ away)
      by false e = refl

  unnamed-unmet : (y : Path) (k : ℕ) → IsGone w side (Unnamed y k) →
      (t : Thread) → thread_at w y ≡ Some t → (is_free w (parent y) t && is_some (receiving w (parent y) (other_side side) t.mode)) ≡ false
  unnamed-unmet y k gone t at = by (is_at_hand (other_side side) t) refl (ap (holds (is_at_hand_else (other_side side) k)) (sym at) ∙ gone.0)
    where
      off : (b : Bool) → not b ≡ false → b ≡ true
      off true h = refl
      off false h = cc

      free-off : (b c : Bool) → c ≡ false → (b && c) ≡ false
      free-off true c h = h
      free-off false c h = refl

      by : (b : Bool) → is_at_hand (other_side side) t ≡ b → (b && not (names_slot k t)) ≡ false →
          (is_free w (parent y) t && is_some (receiving w (parent y) (other_side side) t.mode)) ≡ false
      by false e h = away-unmet y t e
      by true e h =
          let named = named-slot (awaited t.mode) k (off (names_slot k t) h) in
          free-off (is_free w (parent y) t) _ (unhandled w (parent y) (other_side side) t.mode (ap (is_handled w (parent y)) named ∙ gone.1))

  absent-unmet : (y : Path) → holds (is_at_hand (other_side side)) (thread_at w y) ≡ false →
      (t : Thread) → thread_at w y ≡ Some t → (is_free w (parent y) t && is_some (receiving w (parent y) (other_side side) t.mode)) ≡ false
  absent-unmet y gone t at = away-unmet y t (ap (holds (is_at_hand (other_side side))) (sym at) ∙ gone)

  covered-unmet : (y space : Path) → IsBeneath w space y →
      (t : Thread) → thread_at w y ≡ Some t → (is_free w (parent y) t && is_some (receiving w (parent y) (other_side side) t.mode)) ≡ false
  covered-unmet y space beneath t at = rw (free-beneath w space y t beneath) refl

  service-is : (talk : Talk) (p : Peer) → is_service p ≡ true → p ≡ Service
  service-is talk Service h = refl
  service-is talk (Server thread) h = cc
  service-is talk Parked h = cc

  parked-is : (p : Peer) → is_parked (Some p) ≡ true → p ≡ Parked
  parked-is Parked h = refl
  parked-is (Server thread) h = cc
  parked-is Service h = cc

  closed-service : (port space : Path) (p : Ptr) → leads_to port p ≡ true → IsBeneath w space port → is_service_free w p ≡ false
  closed-service port space p led beneath =
      let at = leads_to_at port p led in
      let frozen = held-decider w space (parent port) beneath.0 beneath.1 in
      rw (at, frozen) refl

clients-gone : (w : World) (client : Path) (end : End) (talk : Talk) → is_with turns.Client client end talk ≡ true → IsGone w turns.Client end →
    Gone w turns.Client talk talk.peer
clients-gone w client (Absent y) talk is gone =
    rw (serves-is y talk.peer is) (ByThread y (absent-unmet w turns.Client y gone))
clients-gone w client (Covered y space) talk is gone =
    rw (serves-is y talk.peer is) (ByThread y (covered-unmet w turns.Client y space gone))
clients-gone w client (Unnamed y k) talk is gone =
    rw (serves-is y talk.peer is) (ByThread y (unnamed-unmet w turns.Client y k gone))
clients-gone w client Unclaimed talk is gone = rw (parked-is w turns.Client talk.peer is) ByNobody
clients-gone w client (Closed port space) talk is gone =
    let both = and_parts _ _ is in
    rw (service-is w turns.Client talk talk.peer both.0) (ByService (closed-service w turns.Client port space talk.port both.1 gone))

servers-gone : (w : World) (client : Path) (end : End) (talk : Talk) → is_with turns.Server client end talk ≡ true → IsGone w turns.Server end →
    Gone w turns.Server talk (Server (At client))
servers-gone w client (Absent y) talk is gone =
    let same = same_path_eq client y is in rw same (ByThread y (absent-unmet w turns.Server y gone))
servers-gone w client (Covered y space) talk is gone =
    let same = same_path_eq client y is in rw same (ByThread y (covered-unmet w turns.Server y space gone))
servers-gone w client (Unnamed y k) talk is gone =
    let same = same_path_eq client y is in rw same (ByThread y (unnamed-unmet w turns.Server y k gone))
servers-gone w client Unclaimed talk is gone = cc
servers-gone w client (Closed port space) talk is gone = cc

line-gone : (w : World) (me client : Path) (side : Turn) (end : End) (talk : Talk) → is_with side client end talk ≡ true → IsGone w side end →
    Gone w side (line_of side me client talk).talk (line_of side me client talk).other
line-gone w me client turns.Client end talk is gone = clients-gone w client end talk is gone
line-gone w me client turns.Server end talk is gone = servers-gone w client end talk is gone

module _ (w : World) (k : ℕ) (s : Path) where
  abbrev me : Path
  me = k ∷ s

  awaits-waits : (into room : ℕ) (far : Bool) → ((room == 0) ≡ true) ⊎ IsReached w s into true far → awaits w (user_at me) into room ≡ Waits
  awaits-waits into room far (inl e) = rw e refl
  awaits-waits into room far (inr home) = by (room == 0)
    where
      by : (b : Bool) → (if b then Waits else own_page_at me true (λ s page. Waits) (reach_word w s into true)) ≡ Waits
      by true = refl
      by false = ap (own_page_at me true (λ s page. Waits)) (reached-home w s into true far home).2

  passes-waits : (side : Turn) (carried : Option Ptr) (l : Line) → Gone w side l.talk l.other → passes_to w (user_at me) side l carried l.other ≡ Waits
  passes-waits side carried l gone = by l.other gone
    where
      met : (y : Path) (o : Option Thread) → ((t : Thread) → o ≡ Some t →
          (is_free w (parent y) t && is_some (receiving w (parent y) (other_side side) t.mode)) ≡ false) →
          passes_to_thread w (user_at me) side l.client carried (and_then (λ t. Some (y, t)) o) ≡ Waits
      met y None unmet = refl
      met y (Some t) unmet = rw (unmet t refl) refl

      by : (p : Peer) → Gone w side l.talk p → passes_to w (user_at me) side l carried p ≡ Waits
      by _ (ByThread y unmet) = met y (thread_at w y) unmet
      by _ ByNobody = refl
      by _ (ByService off) = rw off refl

  into-waits : (side : Turn) (client y : Path) (address count : ℕ) (page : List ℕ) (o : Option (ℕ × ℕ)) → is_some o ≡ false →
      sends_into w (user_at me) client y address count page o ≡ Waits
  into-waits side client y address count page None h = refl
  into-waits side client y address count page (Some receive) h = cc

  sends-waits : (side : Turn) (address count : ℕ) (page : List ℕ) (l : Line) → Gone w side l.talk l.other →
      sends_to w (user_at me) side l address count page l.other ≡ Waits
  sends-waits side address count page l gone = by l.other gone
    where
      free_by : (y : Path) (t : Thread) (b : Bool) → is_free w (parent y) t ≡ b → (b && is_some (receiving w (parent y) (other_side side) t.mode)) ≡ false →
          when b (sends_into w (user_at me) l.client y address count page (receiving w (parent y) (other_side side) t.mode)) ≡ Waits
      free_by y t true e off = into-waits side l.client y address count page (receiving w (parent y) (other_side side) t.mode) off
      free_by y t false e off = refl

      met : (y : Path) (o : Option Thread) →
          ((t : Thread) → o ≡ Some t → (is_free w (parent y) t && is_some (receiving w (parent y) (other_side side) t.mode)) ≡ false) →
          sends_to_thread w (user_at me) side l.client address count page (and_then (λ t. Some (y, t)) o) ≡ Waits
      met y None unmet = refl
      met y (Some t) unmet = free_by y t (is_free w (parent y) t) refl (unmet t refl)

      by : (p : Peer) → Gone w side l.talk p → sends_to w (user_at me) side l address count page p ≡ Waits
      by _ (ByThread y unmet) = met y (thread_at w y) unmet
      by _ ByNobody = refl
      by _ (ByService off) = rw off refl

  module _ (valid : IsValid w) (few : w.next ≤ depth) where
    receive-waits : (side : Turn) (into room : ℕ) (far : Bool) (client : Path) → IsTalking w me side (other_side side) client →
        ((room == 0) ≡ true) ⊎ IsReached w s into true far → receive w (user_at me) side into room ≡ Waits
    unfolding receive
    receive-waits side into room far client talking page =
        let found = held-some (is_talk_of side me (other_side side)) (talk_at w (talk_place side me client)) talking in
        ap (λ r. r >>= (λ l. awaits w (user_at me) into room)) (turn-ok w valid few me client side (other_side side) found.0 found.1 found.2)
        ∙ awaits-waits into room far page

    receive_ref-waits : (side : Turn) (into room reference : ℕ) (far : Bool) (client : Path) → IsTalking w me side (other_side side) client →
        ((room == 0) ≡ true) ⊎ IsReached w s into true far → is_handled w s (Some reference) ≡ true → receive_ref w (user_at me) side into room reference
        ≡ Waits
    unfolding receive_ref
    receive_ref-waits side into room reference far client talking page handled =
        let at = reference-in w s reference handled in
        ap (λ r. r >>= (λ p. receive w (user_at me) side into room))
        (object-ok w me reference_of reference at.old at.low (ap (and_then reference_of) at.there)) ∙ receive-waits side into room far client talking page

    over-waits : (side : Turn) (carried : Option Ptr) (client : Path) (end : End) → IsTalkingTo w me side client end → IsGone w side end →
        over w (user_at me) side carried ≡ Waits
    unfolding over
    over-waits side carried client end talking gone =
        let found = held-some (λ (talk : Talk). is_talk_of side me side talk && is_with side client end talk) (talk_at w (talk_place side me client)) talking in
        let both = and_parts _ _ found.2 in
        ap (λ r. r >>= passes_on w (user_at me) side carried) (turn-ok w valid few me client side side found.0 found.1 both.0)
        ∙ by (may_carry w me carried) (line_of side me client found.0) (line-gone w me client side end found.0 both.1 gone)
      where
        by : (b : Bool) (l : Line) → Gone w side l.talk l.other → when b (passes_to w (user_at me) side l carried l.other) ≡ Waits
        by true l gone = passes-waits side carried l gone
        by false l gone = refl

    over_ref-waits : (side : Turn) (reference : ℕ) (client : Path) (end : End) → IsTalkingTo w me side client end → IsGone w side end →
        is_handled w s (Some reference) ≡ true → over_ref w (user_at me) side reference ≡ Waits
    unfolding over_ref
    over_ref-waits side reference client end talking gone handled =
        let at = reference-in w s reference handled in
        ap (λ r. r >>= (λ p. over w (user_at me) side (Some p)))
        (object-ok w me reference_of reference at.old at.low (ap (and_then reference_of) at.there)) ∙ over-waits side (Some at.old) client end talking gone

    -- a Send comes to what it comes to with the other end
    send-comes : (side : Turn) (address count : ℕ) (far : Bool) (client : Path) (end : End) → (count == 0) ≡ false → IsReached w s address false far →
        IsTalkingTo w me side client end →
        ((talk : Talk) (page : List ℕ) → is_with side client end talk ≡ true →
        sends_to w (user_at me) side (line_of side me client talk) address count page (line_of side me client talk).other ≡ Waits) →
        send w (user_at me) side address count ≡ Waits
    unfolding send
    send-comes side address count far client end more home talking idle =
        let found = held-some (λ (talk : Talk). is_talk_of side me side talk && is_with side client end talk) (talk_at w (talk_place side me client)) talking in
        let both = and_parts _ _ found.2 in
        let l = line_of side me client found.0 in
        let page = reached-home w s address false far home in
        ap (λ r. r >>= (λ l. sends w (user_at me) side address count l)) (turn-ok w valid few me client side side found.0 found.1 both.0)
        ∙ ap (λ b. if b then done (user_at me) [] [] else own_page w (user_at me) address false
        (λ s page. sends_to w (user_at me) side l address count (words_at w s page) l.other)) more
        ∙ ap (own_page_at me false (λ s page. sends_to w (user_at me) side l address count (words_at w s page) l.other)) page.2
        ∙ idle found.0 (words_at w page.0 page.1) both.1

    send-waits : (side : Turn) (address count : ℕ) (far : Bool) (client : Path) (end : End) → (count == 0) ≡ false → IsReached w s address false far →
        IsTalkingTo w me side client end → IsGone w side end → send w (user_at me) side address count ≡ Waits
    send-waits side address count far client end more home talking gone =
        send-comes side address count far client end more home talking
        (λ talk page is. sends-waits side address count page (line_of side me client talk) (line-gone w me client side end talk is gone))

    -- where the page at the other end isn't there
    lack-waits : (side : Turn) (address count : ℕ) (far : Bool) (client y : Path) (into room : ℕ) → (count == 0) ≡ false → IsReached w s address false far →
        IsTalkingTo w me side client (Absent y) → HasRoom w side y into room → is_home (reach_word w (parent y) into true) ≡ false →
        send w (user_at me) side address count ≡ Waits
    lack-waits side address count far client y into room more home talking there away =
        send-comes side address count far client (Absent y) more home talking (λ talk page is. by side talk page is there.0)
      where
        page-waits : (r : Reach) (go : Path → ℕ → Outcome) → is_home r ≡ false → their_page_at go r ≡ Waits
        page-waits (Home t g) go h = cc
        page-waits (Missing t g keeper) go h = refl
        page-waits Bad go h = refl

        room-waits : (client : Path) (page : List ℕ) → sends_into w (user_at me) client y address count page (Some (into, room)) ≡ Waits
        room-waits client page = rw (there.1) (page-waits (reach_word w (parent y) into true) _ away)

        met : (side : Turn) (client : Path) (page : List ℕ) (o : Option Thread)
            → and_then (λ (t : Thread). awaits_on (other_side side) t.mode) o ≡ Some (into, room) →
            sends_to_thread w (user_at me) side client address count page (and_then (λ t. Some (y, t)) o) ≡ Waits
        met side client page None h = refl
        met side client page (Some t) h = free_by (is_free w (parent y) t)
          where
            free_by : (b : Bool) → when b (sends_into w (user_at me) client y address count page (receiving w (parent y) (other_side side) t.mode)) ≡ Waits
            free_by true = handled_by (is_handled w (parent y) (awaited t.mode))
              where
                handled_by : (b : Bool) → sends_into w (user_at me) client y address count page (cond b (awaits_on (other_side side) t.mode) None) ≡ Waits
                handled_by true = ap (sends_into w (user_at me) client y address count page) h ∙ room-waits client page
                handled_by false = refl
            free_by false = refl

        by : (side : Turn) (talk : Talk) (page : List ℕ) → is_with side client (Absent y) talk ≡ true →
            and_then (λ (t : Thread). awaits_on (other_side side) t.mode) (thread_at w y) ≡ Some (into, room) →
            sends_to w (user_at me) side (line_of side me client talk) address count page (line_of side me client talk).other ≡ Waits
        by turns.Client talk page is h =
            let peer = serves-is y talk.peer is in
            ap (sends_to w (user_at me) turns.Client (line_of turns.Client me client talk) address count page) peer ∙ met turns.Client me page (thread_at w y) h
        by turns.Server talk page is h =
            let same = same_path_eq client y is in
            ap (λ z. sends_to w (user_at me) turns.Server (line_of turns.Server me client talk) address count page (Server (At z))) same
            ∙ met turns.Server client page (thread_at w y) h

    end-waits : (y space : Path) → HasTaken w me y → IsBeneath w space y → fault_done w (user_at me) ≡ Waits
    unfolding fault_done
    end-waits y space taken beneath =
        let found = faulter-found w valid few me y taken in
        let frozen = held-decider w space (parent y) beneath.0 beneath.1 in
        rw (found, frozen) refl

-- ---- connect

connect-waits : (w : World) (k : ℕ) (s : Path) (h : ℕ) (port : Path) → nat_le h LAST_USER_SLOT ≡ true → talk_at w (k ∷ s) ≡ None →
    handled w kinds.Port (h ∷ s) (w.body (h ∷ s)) ≡ Ok (At port) → connect w (user_at (k ∷ s)) h ≡ Waits
unfolding connect handle
connect-waits w k s h port low none leads = rw (low, leads, none) refl

-- ---- space_hold

place-ok : (w : World) (k : ℕ) (p : Path) (s : ℕ) (space : Path) → IsPlace w (k ∷ p) s space → space_argument w (user_at (k ∷ p)) s ≡ Ok space
unfolding space_argument handle
place-ok w k p s space (inl own) = rw own.0 (ap Ok (sym own.1))
place-ok w k p s space (inr there) = rw (there.0, there.1, there.2) refl

space-there : (o : Option Body) → is_some (and_then space_of o) ≡ true → (holder : Option Ptr) × (and_then space_of o ≡ Some holder)
space-there None h = cc
space-there (Some (Space birth holder)) h = (holder, refl)
space-there (Some (Mutex locked)) h = cc
space-there (Some b) h = cc

in-space : (w : World) (k : ℕ) (p : Path) (x : ℕ) (space : Path) (holder : Option Ptr) → nat_le x LAST_USER_SLOT ≡ true →
    and_then space_of (w.body (x ∷ space)) ≡ Some holder → object_in w (user_at (k ∷ p)) space_of space x ≡ Ok holder
unfolding object_in
in-space w k p x space holder low seen = rw low (by (w.body (x ∷ space)) seen)
  where
    by : (o : Option Body) → and_then space_of o ≡ Some holder → seen_as space_of o ≡ Ok holder
    by None h = cc
    by (Some b) h = rw h refl

hold-waits : (w : World) (k : ℕ) (p : Path) (s x : ℕ) (space : Path) → nat_le x LAST_USER_SLOT ≡ true → IsPlace w (k ∷ p) s space →
    is_some (and_then space_of (w.body (x ∷ space))) ≡ true → is_frozen_for w (k ∷ p) space ≡ false → is_within (x ∷ space) p ≡ false →
    is_held_by_other w (k ∷ p) (x ∷ space) ≡ true → space_hold w (user_at (k ∷ p)) s x ≡ Waits
unfolding space_hold
hold-waits w k p s x space low place there unfrozen outside held =
    let holder = space-there (w.body (x ∷ space)) there in
    rw (place-ok w k p s space place, in-space w k p x space holder.0 low holder.1, unfrozen, outside, held) refl

-- ---- wait

pub set-there : (o : Option Body) → is_some (and_then portset_of o) ≡ true → and_then portset_of o ≡ Some Portset
set-there None h = cc
set-there (Some Portset) h = refl
set-there (Some (Mutex locked)) h = cc
set-there (Some b) h = cc

module _ (w : World) (k : ℕ) (s : Path) (unserved : (y : Path) → holds (is_served_by (k ∷ s)) (thread_at w y) ≡ false) where
  no-find : (test : Path → Bool) (xs : List Path) → ((y : Path) → test y ≡ false) → find test xs ≡ None
  no-find test [] none = refl
  no-find test (y ∷ ys) none = rw (none y) (no-find test ys none)

  talk-unserved : (o : Option Thread) → holds (is_served_by (k ∷ s)) o ≡ false →
      holds (λ (talk : Talk). serves (k ∷ s) talk.peer) (and_then (λ (t : Thread). t.talk) o) ≡ false
  talk-unserved None h = refl
  talk-unserved (Some t) h = (or_off _ _ h).0

  fault-unserved : (o : Option Thread) → holds (is_served_by (k ∷ s)) o ≡ false →
      holds (λ (fault : Fault). holds (serves (k ∷ s)) fault.taker) (and_then (λ (t : Thread). t.fault) o) ≡ false
  fault-unserved None h = refl
  fault-unserved (Some t) h = (or_off _ _ h).1

  not-serving : is_serving w (k ∷ s) ≡ false
  unfolding client_of faulter_of
  not-serving =
      let no_talk = no-find (λ c. holds (λ (talk : Talk). serves (k ∷ s) talk.peer) (talk_at w c)) (objects w)
      (λ y. talk-unserved (thread_at w y) (unserved y)) in
      let no_fault = no-find (λ c. holds (λ (fault : Fault). holds (serves (k ∷ s)) fault.taker) (fault_at w c)) (objects w)
      (λ y. fault-unserved (thread_at w y) (unserved y)) in
      rw (no_talk, no_fault) refl

-- who doesn't come is no candidate
module _ (w : World) (s : Path) (set : ℕ) (y : Path) where
  pub not-in : (p : Ptr) → is_in w (set ∷ s) p ≡ false → slot_in_set w s set p ≡ None
  not-in (At q) h = rw h refl
  not-in Null h = refl
  not-in Dead h = refl
  not-in (Out slot) h = refl
  not-in Outside h = refl
  not-in Far h = refl

  and-second : (a b : Bool) → a ≡ true → (a && b) ≡ false → b ≡ false
  and-second true b e h = h
  and-second false b e h = cc

  no-faulting : (o : Option Fault) → holds (λ (fault : Fault). is_open fault.taker && is_in w (set ∷ s) fault.port) o ≡ false →
      and_then (λ (fault : Fault). if is_open fault.taker then option_map (λ slot. Faulting slot fault) (slot_in_set w s set fault.port) else None) o ≡ None
  no-faulting None h = refl
  no-faulting (Some fault) h = by (is_open fault.taker) h
    where
      by : (b : Bool) → (b && is_in w (set ∷ s) fault.port) ≡ false →
          cond {A = Option Candidate} b (option_map (λ slot. Faulting slot fault) (slot_in_set w s set fault.port)) None ≡ None
      by true h = ap (option_map (λ slot. Faulting slot fault)) (not-in fault.port h)
      by false h = refl

  no-resuming : (o : Option Talk) → holds (λ (talk : Talk). is_parked (Some talk.peer) && is_in w (set ∷ s) talk.port) o ≡ false →
      and_then (λ (talk : Talk). if is_parked (Some talk.peer) then option_map (λ slot. Resuming slot talk) (slot_in_set w s set talk.port) else None) o ≡ None
  no-resuming None h = refl
  no-resuming (Some talk) h = by (is_parked (Some talk.peer)) h
    where
      by : (b : Bool) → (b && is_in w (set ∷ s) talk.port) ≡ false →
          cond {A = Option Candidate} b (option_map (λ slot. Resuming slot talk) (slot_in_set w s set talk.port)) None ≡ None
      by true h = ap (option_map (λ slot. Resuming slot talk)) (not-in talk.port h)
      by false h = refl

  no-connecting : (o : Option Ptr) → holds (is_in w (set ∷ s)) o ≡ false → option_map Connects (and_then (slot_in_set w s set) o) ≡ None
  no-connecting None h = refl
  no-connecting (Some p) h = ap (option_map Connects) (not-in p h)

  no-candidate : (t : Thread) → comes_by w (set ∷ s) y t ≡ false → candidate_by w s set y t ≡ None
  no-candidate t none =
      let both = or_off _ _ none in
      let fault : faulting w s set t ≡ None = no-faulting t.fault both.0 in
      rw fault (by (is_free w (parent y) t) refl both.1)
    where
      by : (b : Bool) → is_free w (parent y) t ≡ b →
          (not (is_resting t) && (comes_connecting w (set ∷ s) y t || comes_resuming w (set ∷ s) t)) ≡ false →
          cond {A = Option Candidate} b (or_else (connecting w s set y t) (resuming w s set t)) None ≡ None
      by true free off =
          let awake : not (is_resting t) ≡ true = ap not (free-resting w (parent y) t free) in
          let rest = or_off _ _ (and-second _ _ awake off) in
          let calls : connecting w s set y t ≡ None = no-connecting (connecting_to w y t) rest.0 in
          let talks : resuming w s set t ≡ None = no-resuming t.talk rest.1 in
          rw (calls, talks) refl
      by false free off = refl

  no-comer : comes_to w (set ∷ s) y ≡ false → candidate w s set y ≡ None
  unfolding candidate
  no-comer h = by (is_unheld w (parent y)) (thread_at w y) h
    where
      by : (b : Bool) (o : Option Thread) → holds (comes_by w (set ∷ s) y) o ≡ false
          → cond {A = Option Candidate} b (and_then (candidate_by w s set y) o) None ≡ None
      by true None h = refl
      by true (Some t) h = no-candidate t h
      by false o h = refl

  no-covered : (space : Path) → IsBeneath w space y → candidate w s set y ≡ None
  unfolding candidate
  no-covered space beneath = let frozen = held-decider w space (parent y) beneath.0 beneath.1 in rw frozen refl

wait-waits : (w : World) (k : ℕ) (s : Path) (set : ℕ) (pick : Option Path) → IsSet w s set
    → ((y : Path) → holds (is_served_by (k ∷ s)) (thread_at w y) ≡ false) →
    ((y : Path) → candidate w s set y ≡ None) → wait w (user_at (k ∷ s)) pick set ≡ Waits
unfolding wait
wait-waits w k s set pick there unserved nobody =
    let read = object-ok w (k ∷ s) portset_of set Portset there.0 (set-there (w.body (set ∷ s)) there.1) in
    let idle = not-serving w k s unserved in
    rw (read, idle) (by pick)
  where
    by : (pick : Option Path) → takes_picked w (user_at (k ∷ s)) set pick ≡ Waits
    by None = refl
    by (Some y) = ap (takes_candidate (user_at (k ∷ s)) y) (nobody y)

-- ---- all of them

resting-unready : (w : World) (x : Path) → holds is_resting (thread_at w x) ≡ true → (pick : Option Path) → IsReady w x pick asks.Run → ⊥
resting-unready w x resting pick ready =
    let goes = goes-on w x pick ready in
    let on : is_resting goes.thread ≡ true = ap (holds is_resting) (sym goes.there) ∙ resting in
    let off = free-resting w (parent x) goes.thread goes.free in
    absurd (cc)

beneath-unready : (w : World) (x space : Path) → IsBeneath w space x → (pick : Option Path) → IsReady w x pick asks.Run → ⊥
beneath-unready w x space beneath pick ready =
    let goes = goes-on w x pick ready in
    let off = free-beneath w space x goes.thread beneath in
    let on = goes.free in
    absurd (cc)

-- the root is no thread
no-root : (w : World) (stage : Stage) → IsValid w → IsAtStage w [] stage → ⊥
unfolding kind_there
no-root w stage valid at = by (w.body []) valid.rooted.root at
  where
    by : (o : Option Body) → option_map kind_of o ≡ Some kinds.Space → and_then (λ (t : Thread). first_stage t.mode) (and_then thread_of o) ≡ Some stage → ⊥
    by None h g = absurd (cc)
    by (Some (Thread_of t)) h g = absurd (cc)
    by (Some (Mutex locked)) h g = absurd (cc)
    by (Some b) h g = absurd (cc)

module _ (w : World) (k : ℕ) (s : Path) (valid : IsValid w) (few : w.next ≤ depth) where
  unready : (r : Reason) → IsStuck w (k ∷ s) r → (pick : Option Path) → IsReady w (k ∷ s) pick asks.Run → ⊥
  unfolding call_row
  unready Resting stuck pick ready = resting-unready w (k ∷ s) stuck pick ready
  unready (Beneath space) stuck pick ready = beneath-unready w (k ∷ s) space stuck pick ready
  unready (Locking m) stuck pick ready =
      waits-unready w (k ∷ s) false pick _ (lock-waits w (k ∷ s) m stuck.1 stuck.2) (at-stage w (k ∷ s) pick (MutexLock m) stuck.0 ready)
  unready (Sleeping c m) stuck pick ready =
      waits-unready w (k ∷ s) false pick _ (sleep-waits w (k ∷ s) c m stuck.1 stuck.2 stuck.3 stuck.4) (at-stage w (k ∷ s) pick (CondAsleep c m) stuck.0 ready)
  unready (Connecting h port) stuck pick ready =
      waits-unready w (k ∷ s) false pick _ (connect-waits w k s h port stuck.1 stuck.2 stuck.3) (at-stage w (k ∷ s) pick (Connect h) stuck.0 ready)
  unready (Receiving turns.Client into room None far client) stuck pick ready =
      waits-unready w (k ∷ s) false pick _ (receive-waits w k s valid few turns.Client into room far client stuck.1 stuck.2)
      (at-stage w (k ∷ s) pick (ClientReceive into room) stuck.0 ready)
  unready (Receiving turns.Client into room (Some reference) far client) stuck pick ready =
      waits-unready w (k ∷ s) false pick _ (receive_ref-waits w k s valid few turns.Client into room reference far client stuck.1 stuck.2 stuck.3)
      (at-stage w (k ∷ s) pick (ClientReceiveRef into room reference) stuck.0 ready)
  unready (Receiving turns.Server into room None far client) stuck pick ready =
      waits-unready w (k ∷ s) false pick _ (receive-waits w k s valid few turns.Server into room far client stuck.1 stuck.2)
      (at-stage w (k ∷ s) pick (ServerReceive into room) stuck.0 ready)
  unready (Receiving turns.Server into room (Some reference) far client) stuck pick ready =
      waits-unready w (k ∷ s) false pick _ (receive_ref-waits w k s valid few turns.Server into room reference far client stuck.1 stuck.2 stuck.3)
      (at-stage w (k ∷ s) pick (ServerReceiveRef into room reference) stuck.0 ready)
  unready (Passing turns.Client None client end) stuck pick ready =
      waits-unready w (k ∷ s) false pick _ (over-waits w k s valid few turns.Client None client end stuck.1 stuck.2)
      (at-stage w (k ∷ s) pick ClientOver stuck.0 ready)
  unready (Passing turns.Client (Some reference) client end) stuck pick ready =
      waits-unready w (k ∷ s) false pick _ (over_ref-waits w k s valid few turns.Client reference client end stuck.1 stuck.2 stuck.3)
      (at-stage w (k ∷ s) pick (ClientOverRef reference) stuck.0 ready)
  unready (Passing turns.Server None client end) stuck pick ready =
      waits-unready w (k ∷ s) false pick _ (over-waits w k s valid few turns.Server None client end stuck.1 stuck.2)
      (at-stage w (k ∷ s) pick ServerOver stuck.0 ready)
  unready (Passing turns.Server (Some reference) client end) stuck pick ready =
      waits-unready w (k ∷ s) false pick _ (over_ref-waits w k s valid few turns.Server reference client end stuck.1 stuck.2 stuck.3)
      (at-stage w (k ∷ s) pick (ServerOverRef reference) stuck.0 ready)
  unready (Sending turns.Client address count far client end) stuck pick ready =
      waits-unready w (k ∷ s) false pick _ (send-waits w k s valid few turns.Client address count far client end stuck.1 stuck.2 stuck.3 stuck.4)
      (at-stage w (k ∷ s) pick (ClientSend address count) stuck.0 ready)
  unready (Sending turns.Server address count far client end) stuck pick ready =
      waits-unready w (k ∷ s) false pick _ (send-waits w k s valid few turns.Server address count far client end stuck.1 stuck.2 stuck.3 stuck.4)
      (at-stage w (k ∷ s) pick (ServerSend address count) stuck.0 ready)
  unready (Lacking turns.Client address count far client y into room) stuck pick ready =
      waits-unready w (k ∷ s) false pick _ (lack-waits w k s valid few turns.Client address count far client y into room stuck.1 stuck.2 stuck.3 stuck.4
      stuck.5)
      (at-stage w (k ∷ s) pick (ClientSend address count) stuck.0 ready)
  unready (Lacking turns.Server address count far client y into room) stuck pick ready =
      waits-unready w (k ∷ s) false pick _ (lack-waits w k s valid few turns.Server address count far client y into room stuck.1 stuck.2 stuck.3 stuck.4
      stuck.5)
      (at-stage w (k ∷ s) pick (ServerSend address count) stuck.0 ready)
  unready (Ending y space) stuck pick ready =
      waits-unready w (k ∷ s) false pick _ (end-waits w k s valid few y space stuck.1 stuck.2) (at-stage w (k ∷ s) pick FaultDone stuck.0 ready)
  unready Barred stuck pick ready = stuck pick ready
  unready (Holding h x space) stuck pick ready =
      waits-unready w (k ∷ s) false pick _ (hold-waits w k s h x space stuck.1 stuck.2 stuck.3 stuck.4 stuck.5 stuck.6)
      (at-stage w (k ∷ s) pick (SpaceHold h x) stuck.0 ready)
  unready (Waiting set) stuck pick ready =
      waits-unready w (k ∷ s) true pick _ (wait-waits w k s set pick stuck.1 stuck.2 (λ y. no-comer w s set y (stuck.3 y)))
      (at-stage w (k ∷ s) pick (Wait set) stuck.0 ready)
  unready (WaitingOut set) stuck pick ready =
      waits-unready w (k ∷ s) true pick _ (wait-waits w k s set pick stuck.1 stuck.2 (λ y. by y (stuck.3 y)))
      (at-stage w (k ∷ s) pick (Wait set) stuck.0 ready)
    where
      by : (y : Path) → (comes_to w (set ∷ s) y ≡ false) ⊎ ((space : Path) × IsBeneath w space y) → candidate w s set y ≡ None
      by y (inl none) = no-comer w s set y none
      by y (inr covered) = no-covered w s set y covered.0 covered.1

pub stuck_is_unready_lem : StuckIsUnready
stuck_is_unready_lem w (k ∷ s) r valid few stuck pick ready = unready w k s valid few r stuck pick ready
stuck_is_unready_lem w [] Resting valid few stuck pick ready = resting-unready w [] stuck pick ready
stuck_is_unready_lem w [] (Beneath space) valid few stuck pick ready = beneath-unready w [] space stuck pick ready
stuck_is_unready_lem w [] (Locking m) valid few stuck pick ready = no-root w _ valid stuck.0
stuck_is_unready_lem w [] (Sleeping c m) valid few stuck pick ready = no-root w _ valid stuck.0
stuck_is_unready_lem w [] (Connecting h port) valid few stuck pick ready = no-root w _ valid stuck.0
stuck_is_unready_lem w [] (Receiving side into room reference far client) valid few stuck pick ready = no-root w _ valid stuck.0
stuck_is_unready_lem w [] (Passing side reference client end) valid few stuck pick ready = no-root w _ valid stuck.0
stuck_is_unready_lem w [] (Lacking side address count far client y into room) valid few stuck pick ready = no-root w _ valid stuck.0
stuck_is_unready_lem w [] (Ending y space) valid few stuck pick ready = no-root w _ valid stuck.0
stuck_is_unready_lem w [] (Holding h x space) valid few stuck pick ready = no-root w _ valid stuck.0
stuck_is_unready_lem w [] Barred valid few stuck pick ready = stuck pick ready
stuck_is_unready_lem w [] (Sending side address count far client end) valid few stuck pick ready = no-root w _ valid stuck.0
stuck_is_unready_lem w [] (Waiting set) valid few stuck pick ready = no-root w _ valid stuck.0
stuck_is_unready_lem w [] (WaitingOut set) valid few stuck pick ready = no-root w _ valid stuck.0
