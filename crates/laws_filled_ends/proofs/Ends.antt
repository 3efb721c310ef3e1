-- Whoever has a reason to stay has one in the filled world.
use Rattle.std.proofs.Common.{◌≡◌, ℕ, zero, suc, ◌/◌, ◌≤◌, Bool, true, false, not, cond, ◌&&◌, ◌||◌, ◌==◌, nat_lt, is_some, if◌then◌else◌, List, [], ◌∷◌}
use Rattle.std.proofs.Common.{Option, Some, None, option_map, refl, sym, ap, subst, ◌∙◌, ◌⊎◌, inl, inr}
use Rattle.std.proofs.lemmas.Option.{same_Some}
use Rattle.fk_model.specs.declared.limits.TheConstants.{MAPPINGS, PAGE_WORDS, SPACE_WORDS}
use Rattle.fk_model.specs.declared.moves.Ask.TheVariants as asks
use Rattle.fk_model.specs.declared.stage.Stage.{Stage}
use Rattle.fk_model.specs.declared.stage.Stage.TheVariants.{ClientReceive, ServerReceive}
use Rattle.fk_model.specs.declared.thread.Turn.{Turn}
use Rattle.fk_model.specs.declared.thread.Turn.TheVariants as turns
use Rattle.fk_model.specs.Places.{Path, same_path, parent, Ptr, leads_to}
use Rattle.fk_model.specs.Objects.{Fault, Thread, Body, thread_of, and_then, or_else, holds}
use Rattle.fk_model.specs.Objects.Body.{Thread_of}
use Rattle.fk_model.specs.World.{World}
use Rattle.fk_model.specs.Searches.{thread_at, fault_at, depth}
use Rattle.fk_model.specs.Holds.{holder_of, decider, is_frozen_for}
use Rattle.fk_model.specs.Reach.{Reach, mapped, keeper, mapping_at, led_by, followed, at_home, reach_within, reach, reach_word}
use Rattle.fk_model.specs.Reach.Reach.{Home, Missing, Bad}
use Rattle.fk_model.specs.Talks.{first_stage, receive_on, other_side}
use Rattle.fk_model.specs.Readers.{handle}
use Rattle.fk_model.specs.Moves.{user_move, outcome, GoesAllowed, IsReady}
use Rattle.fk_model.specs.Valid.{IsValid, kind_there}
use Rattle.laws_waits.specs.Touching.{is_home}
use Rattle.laws_waits.specs.Complete.{is_barred, HasReason}
use Rattle.laws_waits.specs.Stuck.{stage_at, is_resting, IsBeneath, is_held, is_at_hand, End, IsAtHome, IsReached, HasRoom, awaits_on, receive_stage}
use Rattle.laws_waits.specs.Stuck.{send_stage, over_stage, Reason, IsStuck}
use Rattle.laws_waits.specs.Stuck.End.{Absent, Unnamed, Covered, Unclaimed, Closed}
use Rattle.laws_waits.specs.Stuck.Reason.{Resting, Beneath, Locking, Sleeping, Connecting, Receiving, Passing, Sending, Lacking, Ending, Holding, Waiting}
use Rattle.laws_waits.specs.Stuck.Reason.{WaitingOut, Barred}
use Rattle.laws_waits.proofs.Complete.{has_reason}
use Rattle.laws_waits.proofs.Unready.{stuck_is_unready_lem}
use Rattle.laws_filled.specs.Filled.{Paging, is_paged, kept_fault, unfaulted, kept_back, filled}
use Rattle.laws_filled.proofs.Memory.{Reached, reached_word}
use Rattle.laws_filled.proofs.Memory.Reached.{AtHome, KeptBack, Missed, Nowhere}
use Rattle.laws_filled_ends.specs.Ends.{IsIdle, IsSettled, IdleStaysFilled}

home-within : (n : ℕ) (w : World) (s : Path) (page : ℕ) (write : Bool) → is_some (w.page s page) ≡ true → is_home (reach_within n w s page write) ≡ true
unfolding reach_within
home-within zero w s page write there = by (w.page s page) there
  where
    by : (o : Option (List ℕ)) → is_some o ≡ true →
        is_home (at_home (Home s page) (mapped (λ m. Bad) (Missing s page (keeper w s page)) (mapping_at w s page)) o) ≡ true
    by None e = cc
    by (Some words) e = refl
home-within (suc n) w s page write there = by (w.page s page) there
  where
    by : (o : Option (List ℕ)) → is_some o ≡ true →
        is_home (at_home (Home s page) (mapped (λ m. followed (λ t other. reach_within n w t other write) (led_by w m page write m.region))
        (Missing s page (keeper w s page)) (mapping_at w s page)) o) ≡ true
    by None e = cc
    by (Some words) e = refl

home-word : (w : World) (s : Path) (address : ℕ) (write : Bool) → IsAtHome w s address → is_home (reach_word w s address write) ≡ true
unfolding reach
home-word w s address write at = rw (at.0) (home-within MAPPINGS w s (address / PAGE_WORDS) write at.1)

none-some : {A : Type 0} (o : Option A) → o ≡ None → is_some o ≡ true → ⊥
none-some None e h = cc
none-some (Some a) e h = cc

neither : (b : Bool) → b ≡ true → b ≡ false → ⊥
neither b e f = cc

module _ (p : Paging) (w : World) (is : IsSettled p w) (idle : IsIdle w) where
  -- the filled world has the same bodies
  abbrev pub G : World
  G = record { body = w.body; page = λ s page. or_else (w.page s page) (kept_back p s page); next = w.next }

  same-body : (o : Option Body) → ((fault : Fault) → and_then (λ (t : Thread). t.fault) (and_then thread_of o) ≡ Some fault → is_paged p fault ≡ false) →
      option_map (unfaulted p) o ≡ o
  same-body None none = refl
  same-body (Some (Thread_of t)) none = λ i. Some (Thread_of (record t { fault = by t.fault none i }))
    where
      by : (o : Option Fault) → ((fault : Fault) → o ≡ Some fault → is_paged p fault ≡ false) → and_then (kept_fault p) o ≡ o
      by None none = refl
      by (Some fault) none = ap (λ (b : Bool). if b then None else Some fault) (none fault refl)
  same-body (Some b) none = refl

  pub as-filled : filled p w ≡ G
  as-filled = λ i. record { body = λ q. same-body (w.body q) (is.none q) i; page = (filled p w).page; next = w.next }

  pub decider-g : (y : Path) → decider G y ≡ decider w y
  unfolding decider
  decider-g [] = refl
  decider-g (k ∷ y) = rw (decider-g y) refl

  unheld-at : (q : Path) → is_some (holder_of (w.body q)) ≡ true → ⊥
  unfolding decider
  unheld-at [] h = none-some _ (is.unheld []) h
  unheld-at (k ∷ q) h = by (decider w q) (holder_of (w.body (k ∷ q))) (is.unheld (k ∷ q)) h
    where
      by : (a b : Option Ptr) → or_else a b ≡ None → is_some b ≡ true → ⊥
      by None None e f = cc
      by None (Some x) e f = cc
      by (Some x) b e f = cc

  -- ---- memory

  home-g : (s : Path) (address : ℕ) (write : Bool) → is_home (reach_word w s address write) ≡ true → is_home (reach_word G s address write) ≡ true
  home-g s address write home =
      by _ _ (subst (λ v. Reached p w (reach_word w s address write) (reach_word v s address write)) as-filled
      (reached_word p w is.paging s address write)) home
    where
      by : (r r' : Reach) → Reached p w r r' → is_home r ≡ true → is_home r' ≡ true
      by _ _ (AtHome s page words there) h = refl
      by _ _ (KeptBack s page r listed) h = cc
      by _ _ (Missed s page keeper) h = cc
      by _ _ Nowhere h = cc

  page-g : (s : Path) (page : ℕ) → is_some (w.page s page) ≡ true → is_some (G.page s page) ≡ true
  page-g s page home = by (w.page s page) home
    where
      by : (o : Option (List ℕ)) → is_some o ≡ true → is_some (or_else o (kept_back p s page)) ≡ true
      by None e = cc
      by (Some words) e = refl

  reached-g : (s : Path) (address : ℕ) (write far : Bool) → IsReached w s address write far → IsReached G s address write far
  reached-g s address write true at = home-g s address write at
  reached-g s address write false at = (at.0, page-g s (address / PAGE_WORDS) at.1)

  both : (into room at left : ℕ) → receive_on turns.Client (ClientReceive at left) ≡ Some (into, room) → (at ≡ into) × (left ≡ room)
  both into room at left e = let same = same_Some (at, left) (into, room) e in (ap (λ (x : ℕ × ℕ). x.0) same, ap (λ (x : ℕ × ℕ). x.1) same)

  -- ---- a thread at its Receive whose page isn't there rests

  at-stage : (side : Turn) (y : Path) (into room : ℕ) (stage : Stage) → stage_at w y ≡ Some stage → HasRoom w side y into room →
      receive_on (other_side side) stage ≡ Some (into, room)
  at-stage side y into room stage at has = by (thread_at w y) at has.0
    where
      of_stage : (o : Option Stage) → o ≡ Some stage → and_then {B = ℕ × ℕ} (receive_on (other_side side)) o ≡ Some (into, room) →
          receive_on (other_side side) stage ≡ Some (into, room)
      of_stage None e h = cc
      of_stage (Some s) e h = sym (ap (receive_on (other_side side)) (same_Some s stage e)) ∙ h

      by : (o : Option Thread) → and_then (λ (t : Thread). first_stage t.mode) o ≡ Some stage →
          and_then {B = ℕ × ℕ} (λ (t : Thread). awaits_on (other_side side) t.mode) o ≡ Some (into, room) →
          receive_on (other_side side) stage ≡ Some (into, room)
      by None e h = cc
      by (Some t) e h = of_stage (first_stage t.mode) e h

  same-room : (side on : Turn) (into room at left : ℕ) (reference : Option ℕ) →
      receive_on (other_side side) (receive_stage on at left reference) ≡ Some (into, room) → (at ≡ into) × (left ≡ room)
  same-room turns.Client turns.Server into room at left None e = both into room at left e
  same-room turns.Client turns.Server into room at left (Some k) e = both into room at left e
  same-room turns.Server turns.Client into room at left None e = both into room at left e
  same-room turns.Server turns.Client into room at left (Some k) e = both into room at left e
  same-room turns.Client turns.Client into room at left None e = cc
  same-room turns.Client turns.Client into room at left (Some k) e = cc
  same-room turns.Server turns.Server into room at left None e = cc
  same-room turns.Server turns.Server into room at left (Some k) e = cc

  not-over : (side on : Turn) (into room : ℕ) (reference : Option ℕ) → receive_on (other_side side) (over_stage on reference) ≡ Some (into, room) → ⊥
  not-over turns.Client turns.Client into room None e = cc
  not-over turns.Client turns.Client into room (Some k) e = cc
  not-over turns.Client turns.Server into room None e = cc
  not-over turns.Client turns.Server into room (Some k) e = cc
  not-over turns.Server turns.Client into room None e = cc
  not-over turns.Server turns.Client into room (Some k) e = cc
  not-over turns.Server turns.Server into room None e = cc
  not-over turns.Server turns.Server into room (Some k) e = cc

  not-send : (side on : Turn) (into room address count : ℕ) → receive_on (other_side side) (send_stage on address count) ≡ Some (into, room) → ⊥
  not-send turns.Client turns.Client into room address count e = cc
  not-send turns.Client turns.Server into room address count e = cc
  not-send turns.Server turns.Client into room address count e = cc
  not-send turns.Server turns.Server into room address count e = cc

  any-home : (s : Path) (address : ℕ) (far : Bool) → IsReached w s address true far → is_home (reach_word w s address true) ≡ true
  any-home s address true at = at
  any-home s address false at = home-word w s address true at

  rests-by : (side : Turn) (y : Path) (into room : ℕ) (r : Reason) → is_barred r ≡ false → IsStuck w y r → HasRoom w side y into room →
      is_home (reach_word w (parent y) into true) ≡ false → holds is_resting (thread_at w y) ≡ true
  rests-by side y into room Resting named stuck has away = stuck
  rests-by side y into room (Beneath space) named stuck has away = absurd (unheld-at space stuck.1)
  rests-by side y into room (Receiving on at left reference far client) named stuck has away =
      let same = same-room side on into room at left reference (at-stage side y into room _ stuck.0 has) in absurd (by same.0 same.1 stuck.2)
    where
      by : at ≡ into → left ≡ room → ((left == 0) ≡ true) ⊎ IsReached w (parent y) at true far → ⊥
      by e f (inl full) = neither (left == 0) full (ap (λ k. k == 0) f ∙ has.1)
      by e f (inr reached) =
          neither (is_home (reach_word w (parent y) at true)) (any-home (parent y) at far reached) (ap (λ k. is_home (reach_word w (parent y) k true)) e ∙ away)
  rests-by turns.Client y into room (Locking m) named stuck has away = let none = at-stage turns.Client y into room _ stuck.0 has in cc
  rests-by turns.Server y into room (Locking m) named stuck has away = let none = at-stage turns.Server y into room _ stuck.0 has in cc
  rests-by turns.Client y into room (Sleeping c m) named stuck has away = let none = at-stage turns.Client y into room _ stuck.0 has in cc
  rests-by turns.Server y into room (Sleeping c m) named stuck has away = let none = at-stage turns.Server y into room _ stuck.0 has in cc
  rests-by turns.Client y into room (Connecting h port) named stuck has away = let none = at-stage turns.Client y into room _ stuck.0 has in cc
  rests-by turns.Server y into room (Connecting h port) named stuck has away = let none = at-stage turns.Server y into room _ stuck.0 has in cc
  rests-by side y into room (Passing on reference client end) named stuck has away =
      absurd (not-over side on into room reference (at-stage side y into room _ stuck.0 has))
  rests-by side y into room (Sending on address count far client end) named stuck has away =
      absurd (not-send side on into room address count (at-stage side y into room _ stuck.0 has))
  rests-by side y into room (Lacking on address count far client z at left) named stuck has away =
      absurd (not-send side on into room address count (at-stage side y into room _ stuck.0 has))
  rests-by side y into room (Ending z space) named stuck has away = absurd (unheld-at space stuck.2.1)
  rests-by turns.Client y into room (Holding s x space) named stuck has away = let none = at-stage turns.Client y into room _ stuck.0 has in cc
  rests-by turns.Server y into room (Holding s x space) named stuck has away = let none = at-stage turns.Server y into room _ stuck.0 has in cc
  rests-by turns.Client y into room (Waiting set) named stuck has away = let none = at-stage turns.Client y into room _ stuck.0 has in cc
  rests-by turns.Server y into room (Waiting set) named stuck has away = let none = at-stage turns.Server y into room _ stuck.0 has in cc
  rests-by turns.Client y into room (WaitingOut set) named stuck has away = let none = at-stage turns.Client y into room _ stuck.0 has in cc
  rests-by turns.Server y into room (WaitingOut set) named stuck has away = let none = at-stage turns.Server y into room _ stuck.0 has in cc
  rests-by side y into room Barred named stuck has away = cc

  reason : (k : ℕ) (s : Path) (t : Thread) → thread_at w (k ∷ s) ≡ Some t → HasReason w (k ∷ s)
  reason k s t there = has_reason w k s t is.valid is.few is.whole is.unheld there (λ rest. is.shaped (k ∷ s) t rest there) (idle (k ∷ s))

  pub rests : (side : Turn) (y : Path) (into room : ℕ) → HasRoom w side y into room → is_home (reach_word w (parent y) into true) ≡ false →
      holds is_resting (thread_at w y) ≡ true
  rests side [] into room has away = by (thread_at w []) is.paging.root has.0
    where
      by : (o : Option Thread) → o ≡ None → and_then {B = ℕ × ℕ} (λ (t : Thread). awaits_on (other_side side) t.mode) o ≡ Some (into, room) →
          holds is_resting o ≡ true
      by None e h = cc
      by (Some t) e h = cc
  rests side (k ∷ s) into room has away = by (thread_at w (k ∷ s)) refl has.0
    where
      by : (o : Option Thread) → thread_at w (k ∷ s) ≡ o → and_then {B = ℕ × ℕ} (λ (t : Thread). awaits_on (other_side side) t.mode) o ≡ Some (into, room) →
          holds is_resting (thread_at w (k ∷ s)) ≡ true
      by None e h = cc
      by (Some t) e h = let r = reason k s t e in rests-by side (k ∷ s) into room r.reason r.named r.stuck has away

  -- ---- reasons in the filled world

  record StaysIn (x : Path) : Type 0 where
    why : Reason
    stuck : IsStuck G x why

  not-at-hand : (side : Turn) (o : Option Thread) → holds is_resting o ≡ true → holds (is_at_hand side) o ≡ false
  not-at-hand side None e = cc
  not-at-hand side (Some t) e = rw e refl

  held : (x : Path) (o : Option Ptr) → holds (λ holder. not (leads_to x holder)) o ≡ true → is_some o ≡ true
  held x None e = cc
  held x (Some h) e = refl

  stays : (x : Path) (r : Reason) → is_barred r ≡ false → IsStuck w x r → StaysIn x
  unfolding handle kind_there
  stays x Resting named stuck = record { why = Resting; stuck = stuck }
  stays x (Beneath space) named stuck = absurd (unheld-at space stuck.1)
  stays x (Locking m) named stuck = record { why = Locking m; stuck = stuck }
  stays x (Sleeping c m) named stuck = record { why = Sleeping c m; stuck = stuck }
  stays x (Connecting h port) named stuck = record { why = Connecting h port; stuck = stuck }
  stays x (Receiving side into room reference far client) named stuck =
      record { why = Receiving side into room reference far client; stuck = (stuck.0, stuck.1, by stuck.2, stuck.3) }
    where
      by : ((room == 0) ≡ true) ⊎ IsReached w (parent x) into true far → ((room == 0) ≡ true) ⊎ IsReached G (parent x) into true far
      by (inl full) = inl full
      by (inr at) = inr (reached-g (parent x) into true far at)
  stays x (Passing side reference client (Absent y)) named stuck = record { why = Passing side reference client (Absent y); stuck = stuck }
  stays x (Passing side reference client (Unnamed y k)) named stuck = record { why = Passing side reference client (Unnamed y k); stuck = stuck }
  stays x (Passing side reference client (Covered y space)) named stuck = record { why = Passing side reference client (Covered y space); stuck = stuck }
  stays x (Passing side reference client Unclaimed) named stuck = record { why = Passing side reference client Unclaimed; stuck = stuck }
  stays x (Passing side reference client (Closed port space)) named stuck =
      record { why = Passing side reference client (Closed port space); stuck = stuck }
  stays x (Sending side address count far client (Absent y)) named stuck = record {
    why = Sending side address count far client (Absent y);
    stuck = (stuck.0, stuck.1, reached-g (parent x) address false far stuck.2, stuck.3, stuck.4);
  }
  stays x (Sending side address count far client (Unnamed y k)) named stuck = record {
    why = Sending side address count far client (Unnamed y k);
    stuck = (stuck.0, stuck.1, reached-g (parent x) address false far stuck.2, stuck.3, stuck.4);
  }
  stays x (Sending side address count far client (Covered y space)) named stuck = record {
    why = Sending side address count far client (Covered y space);
    stuck = (stuck.0, stuck.1, reached-g (parent x) address false far stuck.2, stuck.3, stuck.4);
  }
  stays x (Sending side address count far client Unclaimed) named stuck = record {
    why = Sending side address count far client Unclaimed;
    stuck = (stuck.0, stuck.1, reached-g (parent x) address false far stuck.2, stuck.3, stuck.4);
  }
  stays x (Sending side address count far client (Closed port space)) named stuck = record {
    why = Sending side address count far client (Closed port space);
    stuck = (stuck.0, stuck.1, reached-g (parent x) address false far stuck.2, stuck.3, stuck.4);
  }
  stays x (Lacking side address count far client y into room) named stuck = record {
    why = Sending side address count far client (Absent y);
    stuck = (
      stuck.0,
      stuck.1,
      reached-g (parent x) address false far stuck.2,
      stuck.3,
      not-at-hand (other_side side) (thread_at w y)
          (rests side y into room stuck.4 stuck.5),
    );
  }
  stays x (Ending y space) named stuck = absurd (unheld-at space stuck.2.1)
  stays x (Holding s z space) named stuck = absurd (unheld-at (z ∷ space) (held x (holder_of (w.body (z ∷ space))) stuck.6))
  stays x (Waiting set) named stuck = record { why = Waiting set; stuck = stuck }
  stays x (WaitingOut set) named stuck = record { why = WaitingOut set; stuck = stuck }
  stays x Barred named stuck = cc

  idle-g : IsValid G → IsIdle G
  unfolding outcome
  idle-g valid [] pick ready = by (thread_at w []) is.paging.root ready
    where
      by : (o : Option Thread) → o ≡ None → GoesAllowed G [] (user_move G [] pick o) → ⊥
      by None e h = h
      by (Some t) e h = cc
  idle-g valid (k ∷ s) pick ready = by (thread_at w (k ∷ s)) refl ready
    where
      by : (o : Option Thread) → thread_at w (k ∷ s) ≡ o → GoesAllowed G (k ∷ s) (user_move G (k ∷ s) pick o) → ⊥
      by None e h = h
      by (Some t) e h =
          let r = reason k s t e in
          let stay = stays (k ∷ s) r.reason r.named r.stuck in
          stuck_is_unready_lem G (k ∷ s) stay.why valid is.few stay.stuck pick ready

pub idle_stays_filled_lem : IdleStaysFilled
idle_stays_filled_lem p w is valid idle =
    subst IsIdle (sym (as-filled p w is idle)) (idle-g p w is idle (subst IsValid (as-filled p w is idle) valid))
