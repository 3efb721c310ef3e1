-- A wait that isn't ready has nobody who comes to it.
use Rattle.std.proofs.Common.{◌≡◌, ℕ, ◌≤◌, Bool, true, false, not, cond, if◌then◌else◌, ◌&&◌, ◌||◌, ◌==◌, is_some, List, [], ◌∷◌, Option, Some, None}
use Rattle.std.proofs.Common.{option_map, refl, ap, sym, subst, ◌∙◌, ◌⊎◌, inl, inr}
use Rattle.std.proofs.lemmas.Bool.{and_parts, or_parts, or_cases, not-true}
use Rattle.fk_model.specs.declared.moves.Ask.TheVariants as asks
use Rattle.fk_model.specs.declared.names.Kind.TheVariants as kinds
use Rattle.fk_model.specs.declared.stage.Stage.TheVariants.{Wait}
use Rattle.fk_model.specs.Places.{Path, same_path, strip, is_within, parent, slot_of, Ptr}
use Rattle.fk_model.specs.Places.Ptr.{Null, Dead, At, Out, Outside, Far}
use Rattle.fk_model.specs.Objects.{Mode, Peer, Talk, Fault, Thread, Body, kind_of, thread_of, and_then, or_else, holds}
use Rattle.fk_model.specs.Objects.Mode.{Running, Calling}
use Rattle.fk_model.specs.Objects.Peer.{Server, Service, Parked}
use Rattle.fk_model.specs.Objects.Body.{Mutex, Port, Portset}
use Rattle.fk_model.specs.World.{World, Edit, serves}
use Rattle.fk_model.specs.World.Edit.{Finish, End}
use Rattle.fk_model.specs.Searches.{thread_at, is_serving, client_of, faulter_of, depth, option_list, peer_pointer}
use Rattle.fk_model.specs.Holds.{holder_of, decider, is_frozen_for, is_free, is_unheld, is_user}
use Rattle.fk_model.specs.Freezing.{MayAlter, changed_pointers, are_unfrozen}
use Rattle.fk_model.specs.Outcomes.{when}
use Rattle.fk_model.specs.Talks.{first_stage}
use Rattle.fk_model.specs.LinkRows.{user_at, port_named, connecting_to, is_member, is_open, is_parked, portset_of, slot_in_set, Candidate, faulting, connecting}
use Rattle.fk_model.specs.LinkRows.{resuming, candidate_by, candidate, takes_candidate, wait}
use Rattle.fk_model.specs.LinkRows.Candidate.{Faulting, Connecting as Connects, Resuming}
use Rattle.fk_model.specs.Moves.{GoesAllowed, closed, with_pick, goes_on, user_move, call_row, outcome, IsReady}
use Rattle.fk_model.specs.Valid.{kind_there, IsValid}
use Rattle.fk_model.proofs.walks.PlaceLaws.{same_path_eq, same_path_refl}
use Rattle.fk_model.proofs.walks.WalkLaws.{no_client, no_faulter, none_from}
use Rattle.laws_moves.proofs.InMachine.Frame.{or_off}
use Rattle.laws_waits.specs.Stuck.{is_resting, is_held, IsBeneath, is_in, comes_faulting, comes_connecting, comes_resuming, comes_to, is_served_by, IsSet}
use Rattle.laws_waits.specs.Stuck.{IsAtStage}
use Rattle.laws_waits.specs.Found.{IsIdleWait, IdleWaitsAreStuck, UnheldWaitsAreStuck}
use Rattle.laws_waits.proofs.Comes.{comes_by}
use Rattle.laws_waits.proofs.Calm.{thread-is}
use Rattle.laws_waits.proofs.Rows.{object-ok, held-decider}
use Rattle.laws_waits.proofs.Unready.{set-there}

-- ---- a held space above

nothing-of : {A : Type 0} (o : Option A) → not (is_some o) ≡ true → o ≡ None
nothing-of None h = refl
nothing-of (Some a) h = cc

pub holder_above : (w : World) (x : Path) → is_some (decider w x) ≡ true → (space : Path) × (is_within space x ≡ true) × (is_held w space ≡ true)
unfolding decider strip
holder_above w [] h = ([], rw (same_path_refl []) refl, h)
holder_above w (k ∷ x) h = by (decider w x) refl h (holder_above w x)
  where
    within-more : (space : Path) → is_within space x ≡ true
        → is_some (cond {A = Option Path} (same_path (k ∷ x) space) (Some []) (option_map (λ q. k ∷ q) (strip space x))) ≡ true
    within-more space h = on (same_path (k ∷ x) space) (strip space x) h
      where
        on : (b : Bool) (o : Option Path) → is_some o ≡ true → is_some (cond {A = Option Path} b (Some []) (option_map (λ q. k ∷ q) o)) ≡ true
        on true o h = refl
        on false (Some q) h = refl
        on false None h = cc

    by : (o : Option Ptr) → decider w x ≡ o → is_some (or_else o (holder_of (w.body (k ∷ x)))) ≡ true →
        (is_some (decider w x) ≡ true → (space : Path) × (is_within space x ≡ true) × (is_held w space ≡ true)) →
        (space : Path) × (is_some (cond {A = Option Path} (same_path (k ∷ x) space) (Some []) (option_map (λ q. k ∷ q) (strip space x))) ≡ true)
        × (is_held w space ≡ true)
    by (Some p) e h above = let found = above (ap is_some e) in (found.0, within-more found.0 found.1, found.2)
    by None e h above = (k ∷ x, rw (same_path_refl (k ∷ x)) refl, h)

-- ---- who comes is a candidate

module _ (w : World) (s : Path) (set : ℕ) (y : Path) where
  in-slot : (p : Ptr) → is_in w (set ∷ s) p ≡ true → is_some (slot_in_set w s set p) ≡ true
  in-slot (At q) h = rw h refl
  in-slot Null h = cc
  in-slot Dead h = cc
  in-slot (Out slot) h = cc
  in-slot Outside h = cc
  in-slot Far h = cc

  mapped-some : {A B : Type 0} (f : A → B) (o : Option A) → is_some o ≡ true → is_some (option_map f o) ≡ true
  mapped-some f None h = h
  mapped-some f (Some a) h = refl

  else-first : (a b : Option Candidate) → is_some a ≡ true → is_some (or_else a b) ≡ true
  else-first None b h = cc
  else-first (Some c) b h = refl

  else-second : (a b : Option Candidate) → is_some b ≡ true → is_some (or_else a b) ≡ true
  else-second None b h = h
  else-second (Some c) b h = refl

  some-faulting : (o : Option Fault) → holds (λ (fault : Fault). is_open fault.taker && is_in w (set ∷ s) fault.port) o ≡ true →
      is_some (and_then (λ (fault : Fault). if is_open fault.taker then option_map (λ slot. Faulting slot fault)
      (slot_in_set w s set fault.port) else None) o) ≡ true
  some-faulting None h = cc
  some-faulting (Some fault) h =
      let both = and_parts (is_open fault.taker) (is_in w (set ∷ s) fault.port) h in
      let mapped = mapped-some (λ slot. Faulting slot fault) (slot_in_set w s set fault.port) (in-slot fault.port both.1) in
      rw both.0 mapped

  some-resuming : (o : Option Talk) → holds (λ (talk : Talk). is_parked (Some talk.peer) && is_in w (set ∷ s) talk.port) o ≡ true →
      is_some (and_then (λ (talk : Talk). if is_parked (Some talk.peer) then option_map (λ slot. Resuming slot talk)
      (slot_in_set w s set talk.port) else None) o) ≡ true
  some-resuming None h = cc
  some-resuming (Some talk) h =
      let both = and_parts (is_parked (Some talk.peer)) (is_in w (set ∷ s) talk.port) h in
      let mapped = mapped-some (λ slot. Resuming slot talk) (slot_in_set w s set talk.port) (in-slot talk.port both.1) in
      rw both.0 mapped

  some-connecting : (o : Option Ptr) → holds (is_in w (set ∷ s)) o ≡ true → is_some (option_map Connects (and_then (slot_in_set w s set) o)) ≡ true
  some-connecting None h = cc
  some-connecting (Some p) h = mapped-some Connects (slot_in_set w s set p) (in-slot p h)

  pub awake-free : (t : Thread) → is_unheld w (parent y) ≡ true → not (is_resting t) ≡ true → is_free w (parent y) t ≡ true
  awake-free t unheld awake =
      let rests = not-true _ awake in
      let all = or_off _ _ rests in
      let both = or_off _ _ all.0 in
      by (t.stops == 0) (is_some t.fault) (is_user t.mode) both.0 both.1 all.1
    where
      by : (a b c : Bool) → not a ≡ false → b ≡ false → not c ≡ false → (is_unheld w (parent y) && a && not b && c) ≡ true
      by true false true h g f = rw unheld refl
      by false b c h g f = cc
      by true true c h g f = cc
      by true false false h g f = cc

  comes-candidate : (t : Thread) → is_unheld w (parent y) ≡ true → comes_by w (set ∷ s) y t ≡ true → is_some (candidate_by w s set y t) ≡ true
  comes-candidate t unheld comes = by (or_cases (comes_faulting w (set ∷ s) t) _ comes)
    where
      either : (comes_connecting w (set ∷ s) y t ≡ true) ⊎ (comes_resuming w (set ∷ s) t ≡ true)
          → is_some (or_else (connecting w s set y t) (resuming w s set t)) ≡ true
      either (inl h) = else-first (connecting w s set y t) (resuming w s set t) (some-connecting (connecting_to w y t) h)
      either (inr h) = else-second (connecting w s set y t) (resuming w s set t) (some-resuming t.talk h)

      by : (comes_faulting w (set ∷ s) t ≡ true) ⊎ ((not (is_resting t) && (comes_connecting w (set ∷ s) y t || comes_resuming w (set ∷ s) t)) ≡ true) →
          is_some (candidate_by w s set y t) ≡ true
      by (inl h) = else-first (faulting w s set t) _ (some-faulting t.fault h)
      by (inr h) =
          let both = and_parts _ _ h in
          let free = awake-free t unheld both.0 in
          let some = either (or_cases (comes_connecting w (set ∷ s) y t) (comes_resuming w (set ∷ s) t) both.1) in
          else-second (faulting w s set t) _ (rw free some)

  -- who is no candidate doesn't come, or is held
  pub none-comes : candidate w s set y ≡ None → (comes_to w (set ∷ s) y ≡ false) ⊎ ((space : Path) × IsBeneath w space y)
  unfolding candidate
  none-comes none = by (is_unheld w (parent y)) refl none
    where
      on : (o : Option Thread) → is_unheld w (parent y) ≡ true → and_then (candidate_by w s set y) o ≡ None → holds (comes_by w (set ∷ s) y) o ≡ false
      on None unheld h = refl
      on (Some t) unheld h = off (comes_by w (set ∷ s) y t) refl
        where
          off : (b : Bool) → comes_by w (set ∷ s) y t ≡ b → b ≡ false
          off true e = let some = comes-candidate t unheld e in absurd (cc)
          off false e = refl

      by : (b : Bool) → is_unheld w (parent y) ≡ b → cond {A = Option Candidate} b (and_then (candidate_by w s set y) (thread_at w y)) None ≡ None →
          (comes_to w (set ∷ s) y ≡ false) ⊎ ((space : Path) × IsBeneath w space y)
      by true e h = inl (on (thread_at w y) e h)
      by false e h = let found = holder_above w (parent y) (held e) in inr (found.0, (found.1, found.2))
        where
          held : is_unheld w (parent y) ≡ false → is_some (decider w (parent y)) ≡ true
          held e = elim (decider w (parent y)) as (λ o. not (is_some o) ≡ false → is_some o ≡ true) [ None ↦ λ h. cc | Some p ↦ λ h. refl ] e

-- ---- a candidate may be taken

-- a pointer leads to a port of the set
pub record IsMemberAt (w : World) (s : Path) (set slot : ℕ) (p : Ptr) : Type 0 where
  pub at : Path
  pub is : p ≡ At at
  pub near : parent at ≡ s
  pub slot_is : slot_of at ≡ slot
  pub member : is_member set (w.body at) ≡ true

member-at : (w : World) (s : Path) (set slot : ℕ) (p : Ptr) → slot_in_set w s set p ≡ Some slot → IsMemberAt w s set slot p
member-at w s set slot (At q) h = by (same_path (parent q) s && is_member set (w.body q)) refl h
  where
    by : (b : Bool) → (same_path (parent q) s && is_member set (w.body q)) ≡ b → cond {A = Option ℕ} b (Some (slot_of q)) None ≡ Some slot
        → IsMemberAt w s set slot (At q)
    by true e h =
        let both = and_parts (same_path (parent q) s) (is_member set (w.body q)) e in
        let same : slot_of q ≡ slot = cc in
        record { at = q; is = refl; near = same_path_eq (parent q) s both.0; slot_is = same; member = both.1 }
    by false e h = cc
member-at w s set slot Null h = cc
member-at w s set slot Dead h = cc
member-at w s set slot (Out i) h = cc
member-at w s set slot Outside h = cc
member-at w s set slot Far h = cc

module _ (w : World) (valid : IsValid w) (k : ℕ) (s : Path) (me_thread : Thread) (me_there : thread_at w (k ∷ s) ≡ Some me_thread)
    (free : is_free w s me_thread ≡ true) where
  above : decider w s ≡ None
  above = nothing-of (decider w s) ((and_parts _ _ (and_parts _ _ (and_parts _ _ free).0).0).0)

  -- where nothing above is held, what is no space isn't frozen
  plain-unfrozen : (x : Path) → decider w (parent x) ≡ None → holder_of (w.body x) ≡ None → is_frozen_for w (k ∷ s) x ≡ false
  unfolding decider
  plain-unfrozen [] none holder = rw holder refl
  plain-unfrozen (j ∷ x) none holder = rw (none, holder) refl

  no-holder : (o : Option Body) (t : Thread) → and_then thread_of o ≡ Some t → holder_of o ≡ None
  no-holder o t h = let is = thread-is o t h in rw is refl

  me-unfrozen : is_frozen_for w (k ∷ s) (k ∷ s) ≡ false
  me-unfrozen = plain-unfrozen (k ∷ s) above (no-holder (w.body (k ∷ s)) me_thread me_there)

  port-holder : (set : ℕ) (o : Option Body) → is_member set o ≡ true → holder_of o ≡ None
  port-holder set (Some (Port member served)) h = refl
  port-holder set None h = cc
  port-holder set (Some (Mutex locked)) h = cc
  port-holder set (Some b) h = cc

  -- the root is no port
  slot-path : (set slot : ℕ) (at : Path) → parent at ≡ s → slot_of at ≡ slot → is_member set (w.body at) ≡ true → slot ∷ s ≡ at
  unfolding kind_there
  slot-path set slot [] near is member = absurd (by (w.body []) valid.rooted.root member)
    where
      by : (o : Option Body) → option_map kind_of o ≡ Some kinds.Space → is_member set o ≡ true → ⊥
      by None h g = absurd (cc)
      by (Some (Port m served)) h g = absurd (cc)
      by (Some (Mutex locked)) h g = absurd (cc)
      by (Some b) h g = absurd (cc)
  slot-path set slot (j ∷ q) near is member = let a : j ≡ slot = is in let b : q ≡ s = near in rw (a, b) refl

  port-unfrozen : (set slot : ℕ) (p : Ptr) → IsMemberAt w s set slot p → is_frozen_for w (k ∷ s) (slot ∷ s) ≡ false
  port-unfrozen set slot p m =
      let here = slot-path set slot m.at m.near m.slot_is m.member in
      let outer : decider w (parent m.at) ≡ None = ap (decider w) m.near ∙ above in
      ap (is_frozen_for w (k ∷ s)) here ∙ plain-unfrozen m.at outer (port-holder set (w.body m.at) m.member)

  no-pointer : (e : Edit) → ((b : Body) → changed_pointers e b ≡ []) → (o : Option Body) → are_unfrozen w (k ∷ s) (option_list (changed_pointers e) o) ≡ true
  no-pointer e none None = refl
  no-pointer e none (Some b) = rw (none b) refl

  own-end : (answers : List ℕ) → MayAlter w (k ∷ s) (k ∷ s) (End 0 answers)
  own-end answers = record { object = me-unfrozen; changed = no-pointer (End 0 answers) (λ b. refl) (w.body (k ∷ s)); made = refl }

  own-finish : (answers : List ℕ) → MayAlter w (k ∷ s) (k ∷ s) (Finish answers)
  own-finish answers = record { object = me-unfrozen; changed = no-pointer (Finish answers) (λ b. refl) (w.body (k ∷ s)); made = refl }

  module _ (set : ℕ) (y : Path) (t : Thread) (there : thread_at w y ≡ Some t) (unheld : is_unheld w (parent y) ≡ true) where
    their-unfrozen : is_frozen_for w (k ∷ s) y ≡ false
    their-unfrozen = plain-unfrozen y (nothing-of (decider w (parent y)) unheld) (no-holder (w.body y) t there)

    abbrev Taken : Option Candidate → Type 0
    Taken o = GoesAllowed w (k ∷ s) (takes_candidate (user_at (k ∷ s)) y o)

    take-faulting : (slot : ℕ) (fault : Fault) → t.fault ≡ Some fault → is_open fault.taker ≡ true → Taken (Some (Faulting slot fault))
    take-faulting slot fault its untaken =
        let body = thread-is (w.body y) t there in
        (record { object = their-unfrozen; changed = rw (body, its) (none fault.taker untaken); made = rw me-unfrozen refl }, (own-end _, tt))
      where
        none : (o : Option Peer) → is_open o ≡ true → are_unfrozen w (k ∷ s) (option_list peer_pointer o) ≡ true
        none None h = refl
        none (Some Parked) h = refl
        none (Some (Server thread)) h = cc
        none (Some Service) h = cc

    take-resuming : (slot : ℕ) (talk : Talk) → t.talk ≡ Some talk → is_parked (Some talk.peer) ≡ true → Taken (Some (Resuming slot talk))
    take-resuming slot talk its parked =
        let body = thread-is (w.body y) t there in
        (record { object = their-unfrozen; changed = rw (body, its) (none talk.peer parked); made = rw me-unfrozen refl }, (own-end _, tt))
      where
        none : (p : Peer) → is_parked (Some p) ≡ true → are_unfrozen w (k ∷ s) (peer_pointer p) ≡ true
        none Parked h = refl
        none (Server thread) h = cc
        none Service h = cc

    take-connecting : (slot : ℕ) (p : Ptr) → t.talk ≡ None → IsMemberAt w s set slot p → Taken (Some (Connects slot))
    take-connecting slot p its m =
        let body = thread-is (w.body y) t there in (
          record { object = their-unfrozen; changed = rw (body, its) refl; made = rw (port-unfrozen set slot p m, me-unfrozen) refl },
          (record { object = their-unfrozen; changed = no-pointer (Finish []) (λ b. refl) (w.body y); made = refl }, (own-finish _, tt)),
        )

    take-connected : (slot : ℕ) (o : Option Ptr) → connecting_to w y t ≡ o → option_map Connects (and_then (slot_in_set w s set) o) ≡ Some (Connects slot)
        → Taken (Some (Connects slot))
    take-connected slot None e h = cc
    take-connected slot (Some p) e h = by (slot_in_set w s set p) refl h (is_some t.talk) refl e
      where
        no-talk : (o : Option Talk) → is_some o ≡ false → o ≡ None
        no-talk None h = refl
        no-talk (Some talk) h = cc

        by : (o : Option ℕ) → slot_in_set w s set p ≡ o → option_map Connects o ≡ Some (Connects slot) → (b : Bool) → is_some t.talk ≡ b →
            cond {A = Option Ptr} b None (and_then (port_named w y) (first_stage t.mode)) ≡ Some p → Taken (Some (Connects slot))
        by None at h b talk e = cc
        by (Some j) at h true talk e = cc
        by (Some j) at h false talk e =
            let same : j ≡ slot = cc in
            take-connecting slot p (no-talk t.talk talk) (member-at w s set slot p (at ∙ ap Some same))

    -- what kind of candidate it is
    from-fault : (o : Option Fault) → t.fault ≡ o → (c : Candidate) →
        and_then (λ (fault : Fault). if is_open fault.taker then option_map (λ slot. Faulting slot fault) (slot_in_set w s set fault.port) else None) o
        ≡ Some c → Taken (Some c)
    from-fault None its c h = cc
    from-fault (Some fault) its c h = by (is_open fault.taker) refl (slot_in_set w s set fault.port) h
      where
        by : (b : Bool) → is_open fault.taker ≡ b → (o : Option ℕ) → cond {A = Option Candidate} b (option_map (λ slot. Faulting slot fault) o) None ≡ Some c
            → Taken (Some c)
        by true untaken (Some slot) h = let same : Faulting slot fault ≡ c = cc in subst (λ c. Taken (Some c)) same (take-faulting slot fault its untaken)
        by true untaken None h = cc
        by false untaken o h = cc

    from-talk : (o : Option Talk) → t.talk ≡ o → (c : Candidate) →
        and_then (λ (talk : Talk). if is_parked (Some talk.peer) then option_map (λ slot. Resuming slot talk) (slot_in_set w s set talk.port) else None) o
        ≡ Some c → Taken (Some c)
    from-talk None its c h = cc
    from-talk (Some talk) its c h = by (is_parked (Some talk.peer)) refl (slot_in_set w s set talk.port) h
      where
        by : (b : Bool) → is_parked (Some talk.peer) ≡ b → (o : Option ℕ)
            → cond {A = Option Candidate} b (option_map (λ slot. Resuming slot talk) o) None ≡ Some c → Taken (Some c)
        by true parked (Some slot) h = let same : Resuming slot talk ≡ c = cc in subst (λ c. Taken (Some c)) same (take-resuming slot talk its parked)
        by true parked None h = cc
        by false parked o h = cc

    from-connect : (o : Option ℕ) → and_then (slot_in_set w s set) (connecting_to w y t) ≡ o → (c : Candidate) → option_map Connects o ≡ Some c → Taken (Some c)
    from-connect None at c h = cc
    from-connect (Some slot) at c h =
        let same : Connects slot ≡ c = cc in
        subst (λ c. Taken (Some c)) same (take-connected slot (connecting_to w y t) refl (ap (option_map Connects) at))

    candidate-goes : (c : Candidate) → candidate_by w s set y t ≡ Some c → Taken (Some c)
    candidate-goes c h = by (faulting w s set t) refl h
      where
        later : (b : Bool) (a : Option Candidate) → connecting w s set y t ≡ a → cond {A = Option Candidate} b (or_else a (resuming w s set t)) None ≡ Some c
            → Taken (Some c)
        later false a at h = cc
        later true None at h = from-talk t.talk refl c h
        later true (Some d) at h = from-connect (and_then (slot_in_set w s set) (connecting_to w y t)) refl c (at ∙ h)

        by : (o : Option Candidate) → faulting w s set t ≡ o →
            or_else o (cond {A = Option Candidate} (is_free w (parent y) t) (or_else (connecting w s set y t) (resuming w s set t)) None) ≡ Some c
            → Taken (Some c)
        by (Some d) at h = from-fault t.fault refl c (at ∙ h)
        by None at h = later (is_free w (parent y) t) (connecting w s set y t) refl h

  candidate-taken : (set : ℕ) (y : Path) (c : Candidate) → candidate w s set y ≡ Some c → GoesAllowed w (k ∷ s) (takes_candidate (user_at (k ∷ s)) y (Some c))
  unfolding candidate
  candidate-taken set y c h = by (is_unheld w (parent y)) refl (thread_at w y) refl h
    where
      by : (b : Bool) → is_unheld w (parent y) ≡ b → (o : Option Thread) → thread_at w y ≡ o
          → cond {A = Option Candidate} b (and_then (candidate_by w s set y) o) None ≡ Some c →
          GoesAllowed w (k ∷ s) (takes_candidate (user_at (k ∷ s)) y (Some c))
      by true e (Some t) at h = candidate-goes set y t at e c h
      by true e None at h = cc
      by false e o at h = cc

  -- ---- a wait whose pick is a candidate is ready

  pick-ready : (set : ℕ) (y : Path) (c : Candidate) → IsAtStage w (k ∷ s) (Wait set) → IsSet w s set → is_serving w (k ∷ s) ≡ false →
      candidate w s set y ≡ Some c → IsReady w (k ∷ s) (Some y) asks.Run
  unfolding outcome call_row wait
  pick-ready set y c stage there idle found =
      subst (λ o. GoesAllowed w (k ∷ s) (user_move w (k ∷ s) (Some y) o)) (sym me_there)
      (subst (λ b. GoesAllowed w (k ∷ s) (when b (goes_on w (k ∷ s) (Some y) me_thread me_thread.mode))) (sym free) (by me_thread.mode first))
    where
      first : first_stage me_thread.mode ≡ Some (Wait set)
      first = ap (and_then (λ (t : Thread). first_stage t.mode)) (sym me_there) ∙ stage

      row-goes : GoesAllowed w (k ∷ s) (call_row w (user_at (k ∷ s)) (Some y) (Wait set))
      row-goes =
          let read = object-ok w (k ∷ s) portset_of set Portset there.0 (set-there (w.body (set ∷ s)) there.1) in
          let goes = candidate-taken set y c found in
          rw (read, idle, found) (on c goes)
        where
          on : (c : Candidate) → GoesAllowed w (k ∷ s) (takes_candidate (user_at (k ∷ s)) y (Some c)) →
              GoesAllowed w (k ∷ s) (closed (user_at (k ∷ s)) (with_pick true (Some y) (takes_candidate (user_at (k ∷ s)) y (Some c))))
          on (Faulting slot fault) h = h
          on (Connects slot) h = h
          on (Resuming slot talk) h = h

      by : (m : Mode) → first_stage m ≡ Some (Wait set) → GoesAllowed w (k ∷ s) (goes_on w (k ∷ s) (Some y) me_thread m)
      by (Calling (stage ∷ todo) rest) e = let same : stage ≡ Wait set = cc in rw same row-goes
      by (Calling [] rest) e = cc
      by (Running g) e = cc
      by m e = cc

-- ---- the laws

module _ (w : World) (k : ℕ) (s : Path) (set : ℕ) (valid : IsValid w) (few : w.next ≤ depth) (wait_is : IsIdleWait w k s set) where
  nobody-found : (y : Path) → candidate w s set y ≡ None
  nobody-found y = by (candidate w s set y) refl
    where
      by : (o : Option Candidate) → candidate w s set y ≡ o → o ≡ None
      by None e = refl
      by (Some c) e = absurd (wait_is.unready (Some y)
          (pick-ready w valid k s wait_is.thread wait_is.there wait_is.free set y c wait_is.stage wait_is.port_set wait_is.idle e))

  unserved : (y : Path) → holds (is_served_by (k ∷ s)) (thread_at w y) ≡ false
  unserved y =
      let both = or_parts (is_some (client_of w (k ∷ s))) (is_some (faulter_of w (k ∷ s))) wait_is.idle in
      by (thread_at w y) (no_client w valid.consistent valid.rooted few (k ∷ s) (none_from (client_of w (k ∷ s)) both.0) y)
      (no_faulter w valid.consistent valid.rooted few (k ∷ s) (none_from (faulter_of w (k ∷ s)) both.1) y)
    where
      by : (o : Option Thread) → holds (λ (talk : Talk). serves (k ∷ s) talk.peer) (and_then (λ (t : Thread). t.talk) o) ≡ false →
          holds (λ (fault : Fault). holds (serves (k ∷ s)) fault.taker) (and_then (λ (t : Thread). t.fault) o) ≡ false →
          holds (is_served_by (k ∷ s)) o ≡ false
      by None a b = refl
      by (Some t) a b = rw (a, b) refl

pub idle_waits_lem : IdleWaitsAreStuck
idle_waits_lem w k s set valid few wait_is = (
  wait_is.stage,
  wait_is.port_set,
  unserved w k s set valid few wait_is,
  λ y. none-comes w s set y (nobody-found w k s set valid few wait_is y),
)

pub unheld_waits_lem : UnheldWaitsAreStuck
unheld_waits_lem w k s set valid few unheld wait_is = (
  wait_is.stage,
  wait_is.port_set,
  unserved w k s set valid few wait_is,
  λ y. by y (none-comes w s set y (nobody-found w k s set valid few wait_is y)),
)
  where
    frozen : (x space : Path) → is_within space x ≡ true → is_held w space ≡ true → ⊥
    frozen x space within held = let some = held-decider w space x within held in let none = unheld x in absurd (cc)

    by : (y : Path) → (comes_to w (set ∷ s) y ≡ false) ⊎ ((space : Path) × IsBeneath w space y) → comes_to w (set ∷ s) y ≡ false
    by y (inl h) = h
    by y (inr h) = absurd (frozen (parent y) h.0 h.1.0 h.1.1)
