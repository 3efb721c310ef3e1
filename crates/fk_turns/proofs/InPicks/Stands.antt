-- Stands: whom a wait may take stands at a port of its set.
use Rattle.std.proofs.Common.{◌≡◌, ◌≢◌, nat_le, ◌<◌, inl, inr, ℕ, Bool, true, false, cond, ◌&&◌, List, [], ◌∷◌, ◌++◌, count_by, Option, Some, None}
use Rattle.std.proofs.Common.{option_map, is_some, IsSome, Result, Ok, Err, if◌then◌else◌, refl, ap, ◌∙◌, arith}
use Rattle.std.proofs.lemmas.List.Sums.{sum_by-append, sum_by-cons}
use Rattle.fk_model.specs.declared.names.Kind.TheVariants as kinds
use Rattle.fk_model.specs.declared.stage.Stage.TheVariants.{Connect}
use Rattle.fk_model.specs.Holds.{is_free, is_unheld}
use Rattle.fk_model.specs.LinkRows.{new_talk, Candidate, Faulting, Connecting, Resuming, candidate, candidate_by, connecting, faulting, resuming}
use Rattle.fk_model.specs.LinkRows.{if_read, is_member, is_open, is_parked, port_named, slot_in_set, user_at}
use Rattle.fk_model.specs.declared.thread.Turn.TheVariants as turns
use Rattle.fk_model.specs.Moves.{GoesAllowed}
use Rattle.fk_model.specs.NativeRows.{accepts_found, accepts_thread, connects_here, parked_here, takes_up}
use Rattle.fk_model.specs.Objects.{Mode, Talk, Fault, Thread, Body, and_then, or_else, holds, thread_of, kind_of, same_kind}
use Rattle.fk_model.specs.Objects.Peer.{Service}
use Rattle.fk_model.specs.Objects.Body.{Port, Space, Thread_of, Reference}
use Rattle.fk_model.specs.Objects.Mode.{Running, Calling, Halted, Native}
use Rattle.fk_model.specs.Places.{Path, parent, slot_of, same_path, leads_to, Ptr}
use Rattle.fk_model.specs.Places.Ptr.{Null, Dead, At, Out, Outside, Far}
use Rattle.fk_model.specs.Readers.{and_read, handle, handled, led_to, is_kind, kind_at}
use Rattle.fk_model.specs.Outcomes.{Outcome, last_slot, when}
use Rattle.fk_model.specs.Outcomes.Outcome.{Goes}
use Rattle.fk_model.specs.Outcomes.Said.{Taken}
use Rattle.fk_model.specs.declared.statuses.status.TheConstants.{WRONGKIND, BADHANDLE}
use Rattle.fk_model.proofs.walks.PlaceLaws.{same_path_refl}
use Rattle.fk_model.specs.Searches.{pointers_to, talk_pointers, fault_pointers, option_list, peer_pointer, thread_at}
use Rattle.fk_model.specs.Talks.{first_stage}
use Rattle.fk_model.specs.Valid.{kind_there}
use Rattle.fk_model.specs.World.{World}
use Rattle.fk_model.specs.World.Change.{Alter}
use Rattle.fk_model.specs.World.Edit.{Finish, SetTalk}
use Rattle.fk_store.specs.Store.Threads.{todo_at, todo_of_mode}
use Rattle.fk_store.proofs.InStore.finding.Walks.{same_path_true}
use Rattle.fk_links.specs.Connects.{connect_first}
use Rattle.fk_turns.specs.Picks.Stands.{IsHandle, StandsAt, StandsIn}
use Rattle.fk_turns.specs.Picks.Stands.StandsAt.{Leads, Connects}

-- ---- pointers are counted

counted_left : (x : Path) (ps qs : List Ptr) → 0 < count_by (leads_to x) ps → 0 < count_by (leads_to x) (ps ++ qs)
counted_left x ps qs some = let all = sum_by-append (λ p. cond {A = ℕ} (leads_to x p) 1 0) ps qs in omega (arith, some, all)

counted_right : (x : Path) (ps qs : List Ptr) → 0 < count_by (leads_to x) qs → 0 < count_by (leads_to x) (ps ++ qs)
counted_right x ps qs some = let all = sum_by-append (λ p. cond {A = ℕ} (leads_to x p) 1 0) ps qs in omega (arith, some, all)

pub counted_first : (x : Path) (p : Ptr) (ps : List Ptr) → p ≡ At x → 0 < count_by (leads_to x) (p ∷ ps)
counted_first x p ps is =
    let all = sum_by-cons (λ p. cond {A = ℕ} (leads_to x p) 1 0) p ps in
    let hit : cond {A = ℕ} (leads_to x p) 1 0 ≡ 1 = rw (is, same_path_refl x) refl in
    omega (arith, hit, all)

pub some_hits : {n : ℕ} → 0 < n → n ≢ 0
some_hits some none = absurd (omega (arith, some, none))

talk_leads : (x : Path) (t : Thread) (talk : Talk) → t.talk ≡ Some talk → talk.port ≡ At x → 0 < pointers_to x (Some (Thread_of t))
talk_leads x t talk is leads =
    rw is (counted_left x (talk_pointers talk) (option_list fault_pointers t.fault) (counted_first x talk.port (peer_pointer talk.peer) leads))

fault_leads : (x : Path) (t : Thread) (fault : Fault) → t.fault ≡ Some fault → fault.port ≡ At x → 0 < pointers_to x (Some (Thread_of t))
fault_leads x t fault is leads =
    let hits = counted_first x fault.port (option_list peer_pointer fault.taker) leads in
    rw is (counted_right x (option_list talk_pointers t.talk) (fault_pointers fault) hits)

-- ---- ports of a set

-- the port at a slot in a set
record IsPortAt (w : World) (s : Path) (set : ℕ) (p : Ptr) : Type 0 where
  slot : ℕ
  member : is_member set (w.body (slot ∷ s)) ≡ true
  at : p ≡ At (slot ∷ s)

both_true : (a b : Bool) → (a && b) ≡ true → (a ≡ true) × (b ≡ true)
both_true true true is = (refl, refl)
both_true true false is = absurd (cc)
both_true false b is = absurd (cc)

-- the root is in no set
rootless : (w : World) (set : ℕ) → kind_there w [] ≡ Some kinds.Space → is_member set (w.body []) ≡ true → ⊥
unfolding kind_there
rootless w set root is = by (w.body []) root is
  where
    by : (o : Option Body) → option_map kind_of o ≡ Some kinds.Space → is_member set o ≡ true → ⊥
    by None root is = absurd (cc)
    by (Some (Space birth holder)) root is = absurd (cc)
    by (Some (Port set served)) root is = absurd (cc)
    by (Some other) root is = absurd (cc)

in_set : (w : World) (s : Path) (set k : ℕ) (p : Ptr) → kind_there w [] ≡ Some kinds.Space → slot_in_set w s set p ≡ Some k → IsPortAt w s set p
in_set w s set k (At x) root is = by x (same_path (parent x) s && is_member set (w.body x)) refl is
  where
    by : (x : Path) (b : Bool) → (same_path (parent x) s && is_member set (w.body x)) ≡ b →
        cond {A = Option ℕ} b (Some (slot_of x)) None ≡ Some k → IsPortAt w s set (At x)
    by x false e is = absurd (cc)
    by [] true e is = absurd (rootless w set root (both_true _ _ e).1)
    by (j ∷ y) true e is =
        let same : y ≡ s = same_path_true y s (both_true _ _ e).0 in
        record { slot = j; member = rw (← same) ((both_true (same_path y s) (is_member set (w.body (j ∷ y))) e).1); at = rw same refl }
in_set w s set k Null root is = absurd (cc)
in_set w s set k Dead root is = absurd (cc)
in_set w s set k (Out slot) root is = absurd (cc)
in_set w s set k Outside root is = absurd (cc)
in_set w s set k Far root is = absurd (cc)

-- ---- handles

-- who names the port by a handle has it there
led_handle : (w : World) (port y : Path) (to : Ptr) → led_to w kinds.Port to ≡ Ok (At port) → w.body y ≡ Some (Reference to) → IsHandle w port y
led_handle w port y (At x) is there = by (is_kind kinds.Port (kind_at w (At x))) is
  where
    by : (b : Bool) → cond {A = Result Ptr ℕ} b (Ok (At x)) (Err WRONGKIND) ≡ Ok (At port) → IsHandle w port y
    by true is = let same : x ≡ port = cc in inr (rw (there, same) refl)
    by false is = absurd (cc)
led_handle w port y (Out slot) is there = absurd (cc)
led_handle w port y Null is there = absurd (cc)
led_handle w port y Dead is there = absurd (cc)
led_handle w port y Outside is there = absurd (cc)
led_handle w port y Far is there = absurd (cc)

own_handle : (w : World) (port y : Path) (b : Bool) → cond {A = Result Ptr ℕ} b (Ok (At y)) (Err WRONGKIND) ≡ Ok (At port) → IsHandle w port y
own_handle w port y true is = inl (cc)
own_handle w port y false is = absurd (cc)

handled_handle : (w : World) (port y : Path) → handled w kinds.Port y (w.body y) ≡ Ok (At port) → IsHandle w port y
handled_handle w port y is = by (w.body y) refl is
  where
    by : (o : Option Body) → w.body y ≡ o → handled w kinds.Port y o ≡ Ok (At port) → IsHandle w port y
    by None there is = absurd (cc)
    by (Some (Reference to)) there is = led_handle w port y to is there
    by (Some other) there is = own_handle w port y (same_kind kinds.Port (kind_of other)) is

named_handle : (w : World) (port q : Path) (h : ℕ) → handle w (user_at q) kinds.Port h ≡ Ok (At port) → IsHandle w port (h ∷ parent q)
unfolding handle
named_handle w port q h is = by (nat_le h (last_slot (user_at q))) is
  where
    by : (b : Bool) →
        and_read (cond {A = Result ℕ ℕ} b (Ok h) (Err BADHANDLE)) (λ h. handled w kinds.Port (h ∷ parent q) (w.body (h ∷ parent q))) ≡ Ok (At port) →
        IsHandle w port (h ∷ parent q)
    by true is = handled_handle w port (h ∷ parent q) is
    by false is = absurd (cc)

-- ---- candidates

abbrev faulting_at : World → Path → ℕ → Fault → Option Candidate
faulting_at w s set fault = cond (is_open fault.taker) (option_map (λ slot. Faulting slot fault) (slot_in_set w s set fault.port)) None

abbrev resuming_at : World → Path → ℕ → Talk → Option Candidate
resuming_at w s set talk = cond (is_parked (Some talk.peer)) (option_map (λ slot. Resuming slot talk) (slot_in_set w s set talk.port)) None

-- by its connect, or else its talk, where it is free
abbrev freed : World → Path → ℕ → Path → Thread → Bool → Option Candidate
freed w s set q t free = cond free (or_else (connecting w s set q t) (resuming w s set t)) None

module _ (w : World) (s : Path) (set : ℕ) (q : Path) (t : Thread) (root : kind_there w [] ≡ Some kinds.Space) (here : thread_at w q ≡ Some t) where
  stands_by : (p : Ptr) (port : IsPortAt w s set p) → StandsAt w (port.slot ∷ s) q → StandsIn w s set q
  stands_by p port at = record { slot = port.slot; member = port.member; stands = at }

  body_here : w.body q ≡ Some (Thread_of t)
  body_here = by (w.body q) here
    where
      by : (o : Option Body) → and_then thread_of o ≡ Some t → o ≡ Some (Thread_of t)
      by (Some (Thread_of other)) here = let same : other ≡ t = cc in rw same refl
      by (Some other) here = absurd (cc)
      by None here = absurd (cc)

  -- a candidate by a pointer to a port, where a test of its peer holds
  pointed : (make : ℕ → Candidate) (p : Ptr) (c : Candidate) (test : Bool) →
      cond {A = Option Candidate} test (option_map make (slot_in_set w s set p)) None ≡ Some c → IsPortAt w s set p
  pointed make p c false is = absurd (cc)
  pointed make p c true is = by (slot_in_set w s set p) refl is
    where
      by : (o : Option ℕ) → slot_in_set w s set p ≡ o → option_map make o ≡ Some c → IsPortAt w s set p
      by (Some k) e is = in_set w s set k p root e
      by None e is = absurd (cc)

  faulting_stands : (c : Candidate) → faulting w s set t ≡ Some c → StandsIn w s set q
  faulting_stands c is = by t.fault refl is
    where
      by : (o : Option Fault) → t.fault ≡ o → and_then (faulting_at w s set) o ≡ Some c → StandsIn w s set q
      by None there is = absurd (cc)
      by (Some fault) there is =
          let port = pointed (λ slot. Faulting slot fault) fault.port c (is_open fault.taker) is in
          stands_by fault.port port (Leads (some_hits (rw body_here (fault_leads (port.slot ∷ s) t fault there port.at))))

  resuming_stands : (c : Candidate) → resuming w s set t ≡ Some c → StandsIn w s set q
  resuming_stands c is = by t.talk refl is
    where
      by : (o : Option Talk) → t.talk ≡ o → and_then (resuming_at w s set) o ≡ Some c → StandsIn w s set q
      by None there is = absurd (cc)
      by (Some talk) there is =
          let port = pointed (λ slot. Resuming slot talk) talk.port c (is_parked (Some talk.peer)) is in
          stands_by talk.port port (Leads (some_hits (rw body_here (talk_leads (port.slot ∷ s) t talk there port.at))))

  first_here : (h : ℕ) → connect_first (todo_of_mode t.mode) ≡ Some h → connect_first (todo_at w q) ≡ Some h
  unfolding todo_at
  first_here h is = rw here is

  named_stands : (h k : ℕ) (p : Ptr) → connect_first (todo_of_mode t.mode) ≡ Some h → handle w (user_at q) kinds.Port h ≡ Ok p →
      slot_in_set w s set p ≡ Some k → StandsIn w s set q
  named_stands h k p first named is =
      let port = in_set w s set k p root is in
      stands_by p port (Connects h (first_here h first) (named_handle w (port.slot ∷ s) q h (rw port.at at named)))

  connecting_stands : (c : Candidate) → connecting w s set q t ≡ Some c → StandsIn w s set q
  connecting_stands c is = by t.mode refl (is_some t.talk) is
    where
      slot : (h k : ℕ) (r : Result Ptr ℕ) → connect_first (todo_of_mode t.mode) ≡ Some h → handle w (user_at q) kinds.Port h ≡ r →
          (o : Option ℕ) → and_then (slot_in_set w s set) (if_read r) ≡ o → option_map Connecting o ≡ Some c → StandsIn w s set q
      slot h k (Ok p) first named (Some j) e is = named_stands h j p first named e
      slot h k (Ok p) first named None e is = absurd (cc)
      slot h k (Err status) first named (Some j) e is = absurd (cc)
      slot h k (Err status) first named None e is = absurd (cc)

      by : (m : Mode) → t.mode ≡ m → (b : Bool) →
          option_map Connecting (and_then (slot_in_set w s set) (cond {A = Option Ptr} b None (and_then (port_named w q) (first_stage m)))) ≡ Some c →
          StandsIn w s set q
      by (Calling (Connect h ∷ todo) rest) e false is = slot h 0 (handle w (user_at q) kinds.Port h) (rw e refl) refl _ refl is
      by (Calling (other ∷ todo) rest) e false is = absurd (cc)
      by (Calling [] rest) e false is = absurd (cc)
      by (Running g) e false is = absurd (cc)
      by (Halted g code) e false is = absurd (cc)
      by (Native g) e false is = absurd (cc)
      by m e true is = absurd (cc)

  by_stands : (free : Bool) (c : Candidate) → or_else (faulting w s set t) (freed w s set q t free) ≡ Some c → StandsIn w s set q
  by_stands free c is = by (faulting w s set t) refl is
    where
      by_talk : (o : Option Candidate) → connecting w s set q t ≡ o → or_else o (resuming w s set t) ≡ Some c → StandsIn w s set q
      by_talk (Some other) e is = connecting_stands other e
      by_talk None e is = resuming_stands c is

      tested : (b : Bool) → freed w s set q t b ≡ Some c → StandsIn w s set q
      tested true is = by_talk (connecting w s set q t) refl is
      tested false is = absurd (cc)

      by : (o : Option Candidate) → faulting w s set t ≡ o → or_else o (freed w s set q t free) ≡ Some c → StandsIn w s set q
      by (Some other) e is = faulting_stands other e
      by None e is = tested free is

-- a candidate stands at a port of the set
pub candidate_stands : (w : World) (s : Path) (set : ℕ) (q : Path) →
    kind_there w [] ≡ Some kinds.Space → IsSome (candidate w s set q) → StandsIn w s set q
unfolding candidate
candidate_stands w s set q root some = by (is_unheld w (parent q)) (thread_at w q) refl some
  where
    chosen : (t : Thread) (o : Option Candidate) → thread_at w q ≡ Some t → candidate_by w s set q t ≡ o → is_some o ≡ true → StandsIn w s set q
    chosen t (Some c) here e some = by_stands w s set q t root here (is_free w (parent q) t) c e
    chosen t None here e some = absurd (cc)

    by : (b : Bool) (o : Option Thread) → thread_at w q ≡ o →
        is_some (cond {A = Option Candidate} b (and_then (candidate_by w s set q) o) None) ≡ true → StandsIn w s set q
    by true (Some t) here some = chosen t (candidate_by w s set q t) here refl some
    by true None here some = absurd (cc)
    by false o here some = absurd (cc)

-- ---- whom a native server may accept

-- a pointer that leads to a port is one to it
leads_at : (port : Path) (p : Ptr) → leads_to port p ≡ true → p ≡ At port
leads_at port (At x) is = ap At (same_path_true x port is)
leads_at port Null is = absurd (cc)
leads_at port Dead is = absurd (cc)
leads_at port (Out slot) is = absurd (cc)
leads_at port Outside is = absurd (cc)
leads_at port Far is = absurd (cc)

module _ (w : World) (port q : Path) (t : Thread) (here : thread_at w q ≡ Some t) where
  thread_here : w.body q ≡ Some (Thread_of t)
  thread_here = by (w.body q) here
    where
      by : (o : Option Body) → and_then thread_of o ≡ Some t → o ≡ Some (Thread_of t)
      by (Some (Thread_of other)) here = let same : other ≡ t = cc in rw same refl
      by (Some other) here = absurd (cc)
      by None here = absurd (cc)

  -- one at its connect to the port
  accepted_connects : connects_here w port q t ≡ true → StandsAt w port q
  unfolding todo_at
  accepted_connects is = by t.mode refl (is_some t.talk) is
    where
      named : (h : ℕ) (r : Result Ptr ℕ) → connect_first (todo_of_mode t.mode) ≡ Some h → handle w (user_at q) kinds.Port h ≡ r →
          holds (leads_to port) (if_read r) ≡ true → StandsAt w port q
      named h (Ok p) first at leads = Connects h (rw here first) (named_handle w port q h (at ∙ ap Ok (leads_at port p leads)))
      named h (Err status) first at leads = absurd (cc)

      by : (m : Mode) → t.mode ≡ m → (b : Bool) →
          holds (leads_to port) (cond {A = Option Ptr} b None (and_then (port_named w q) (first_stage m))) ≡ true → StandsAt w port q
      by (Calling (Connect h ∷ todo) rest) e false is = named h (handle w (user_at q) kinds.Port h) (rw e refl) refl is
      by (Calling (other ∷ todo) rest) e false is = absurd (cc)
      by (Calling [] rest) e false is = absurd (cc)
      by (Running g) e false is = absurd (cc)
      by (Halted g code) e false is = absurd (cc)
      by (Native g) e false is = absurd (cc)
      by m e true is = absurd (cc)

  -- one whose talk is parked there
  accepted_parked : (talk : Talk) → parked_here port t ≡ Some talk → StandsAt w port q
  accepted_parked talk is = by t.talk refl is
    where
      test : (other : Talk) (b : Bool) → t.talk ≡ Some other → (leads_to port other.port && is_parked (Some other.peer)) ≡ b →
          cond {A = Option Talk} b (Some other) None ≡ Some talk → StandsAt w port q
      test other true there e is =
          let leads = leads_at port other.port (both_true (leads_to port other.port) (is_parked (Some other.peer)) e).0 in
          Leads (some_hits (rw thread_here (talk_leads port t other there leads)))
      test other false there e is = absurd (cc)

      by : (o : Option Talk) → t.talk ≡ o →
          and_then (λ (talk : Talk). if leads_to port talk.port && is_parked (Some talk.peer) then Some talk else None) o ≡ Some talk → StandsAt w port q
      by None there is = absurd (cc)
      by (Some other) there is = test other _ there refl is

-- stands at its port
pub accepted_stands : (w : World) (me port q : Path) → GoesAllowed w me (accepts_found w port q (thread_at w q)) → StandsAt w port q
accepted_stands w me port q ready = by (thread_at w q) refl ready
  where
    parked : (t : Thread) → thread_at w q ≡ Some t → (o : Option Talk) → parked_here port t ≡ o → GoesAllowed w me (takes_up port q o) → StandsAt w port q
    parked t here None e ready = absurd ready
    parked t here (Some talk) e ready = accepted_parked w port q t here talk e

    thread : (t : Thread) → thread_at w q ≡ Some t → (b : Bool) → connects_here w port q t ≡ b →
        GoesAllowed w me (cond {A = Outcome} b (Goes (Alter q (SetTalk (Some (new_talk (At port) Service))) ∷ Alter q (Finish []) ∷ []) (Taken (At port) q false turns.Client 0))
        (takes_up port q (parked_here port t))) → StandsAt w port q
    thread t here true e ready = accepted_connects w port q t here e
    thread t here false e ready = parked t here (parked_here port t) refl ready

    free : (t : Thread) → thread_at w q ≡ Some t → (b : Bool) → GoesAllowed w me (when b (accepts_thread w port q t)) → StandsAt w port q
    free t here true ready = thread t here (connects_here w port q t) refl ready
    free t here false ready = absurd ready

    by : (o : Option Thread) → thread_at w q ≡ o → GoesAllowed w me (accepts_found w port q o) → StandsAt w port q
    by None here ready = absurd ready
    by (Some t) here ready = free t here (is_free w (parent q) t) ready
