-- Ready: when the freezing rule and the picks let a verdict be.
use Rattle.std.proofs.Common.{◌≡◌, ℕ, Bool, true, false, not, ◌&&◌, ◌||◌, ◌==◌, ◌↔◌, IsTrue, is_none, List, [], ◌∷◌, Option, Some, None, IsSome, cond, eqb, slice_set, refl, ap}
use Rattle.fk_model.specs.declared.names.Who.{Who}
use Rattle.fk_model.specs.Places.{Path, Ptr}
use Rattle.fk_model.specs.Places.Ptr.{At}
use Rattle.fk_model.specs.Objects.{Mode, Fault, Thread, Body, thread_of, and_then}
use Rattle.fk_model.specs.Objects.Mode.{Running, Calling, Halted, Native}
use Rattle.fk_model.specs.Objects.Body.{Mutex, Cond, Mapping, Region, Port, Portset, Space, Thread_of, Reference}
use Rattle.fk_model.specs.World.{World, Change, Edit}
use Rattle.fk_model.specs.World.Change.{Alter, Make, MakeSpace, PutPage}
use Rattle.fk_model.specs.World.Edit.{SetFault, SetLocked, SetPeer, SetTaker, Proceed, Finish, PassTurn, SetTalk}
use Rattle.fk_model.specs.Instructions.{next}
use Rattle.fk_model.specs.Reach.{words_at}
use Rattle.fk_model.specs.UserRows.{proceeds}
use Rattle.fk_model.specs.ObjectRows.{new_object}
use Rattle.fk_model.specs.Searches.{option_list, pointers, thread_at}
use Rattle.fk_model.specs.Holds.{is_frozen, is_frozen_for, is_free, is_user}
use Rattle.fk_model.specs.Outcomes as outcomes
use Rattle.fk_model.specs.Outcomes.{Outcome, when, done, ended, telling}
use Rattle.fk_model.specs.Outcomes.Outcome.{Refused, Waits, Goes}
use Rattle.fk_model.specs.Freezing.{changed_pointers, MayAlter, MayMake, IsAllowed, AreAllowed}
use Rattle.fk_model.specs.Moves.{closed, with_pick, GoesAllowed}
use Rattle.fk_store.specs.Store.Contents.{Contents}
use Rattle.fk_store.specs.Store.Bodies.{fault_by, peer_by, pointer_by, talk_by}
use Rattle.fk_store.specs.Store.Paths.{path, place}
use Rattle.fk_store.specs.Store.Moves.{picked_by}
use Rattle.fk_store.specs.Store.Threads.{is_free_at}
use Rattle.fk_store.specs.Store.World.{world}
use Rattle.fk_store.proofs.InStore.finding.Freedom.{free_thread, free_itself, may_alter, IsPlain}
use Rattle.fk_plans.proofs.InPlans.Pointers.{changed_iff, held_iff, pointed_iff, removed_iff}
use Rattle.fk_plans.proofs.InPlans.Recorded.{sets_iff}
use Rattle.fk_plans.proofs.InPlans.Renamed.{renames_iff}
use Rattle.fk_plans.proofs.InPlans.Woken.{sleepers_allowed}
use Rattle.fk_plans.proofs.InPlans.Destroyed.{destroys_iff}
use Rattle.fk_plans.proofs.InPlans.Lists.{own_iff}
use Rattle.fk_changes.specs.declared.readers.caller.Caller.{Caller}
use Rattle.fk_plans.specs.declared.plans.plan.Deed.{Deed}
use Rattle.fk_plans.specs.declared.plans.plan.Deed.TheVariants as deeds
use Rattle.fk_plans.specs.declared.plans.plan.Plan.{Plan}
use Rattle.fk_plans.specs.declared.plans.plan.Plan.TheVariants as plans
use Rattle.fk_plans.specs.declared.plans.plan.Verdict.{Verdict}
use Rattle.fk_plans.specs.declared.plans.plan.Verdict.TheVariants as verdicts
use Rattle.fk_plans.specs.declared.plans.plan.Effect.{Effect}
use Rattle.fk_plans.specs.declared.plans.plan.Effect.TheVariants as effects
use Rattle.fk_plans.specs.Plans.Effects.{effect_by, in_running, of_running, is_running, is_running_mode}
use Rattle.fk_changes.specs.Threads.Answers.{came_answers}
use Rattle.fk_plans.specs.Plans.Plans.{caller_by, change_by, holder_by, changes_by, made, IsPlan}
use Rattle.fk_plans.specs.Plans.Renames.{renames}
use Rattle.fk_plans.specs.Plans.Destroys.{destroyed}
use Rattle.fk_plans.specs.Plans.Verdicts.{outcome_by, tells, IsVerdict, move_by}
use Rattle.fk_plans.specs.Plans.Allowed.{is_effect_allowed, is_deed_allowed, is_plan_allowed, IsVerdictAllowed, may_pick}

-- ---- tests and facts

both_iff : {P Q : Type 0} (a b : Bool) → (IsTrue a ↔ P) → (IsTrue b ↔ Q) → IsTrue (a && b) ↔ (P × Q)
both_iff true b p q = ((λ h. (p.0 refl, q.0 h)), (λ h. q.1 h.1))
both_iff false b p q = ((λ h. absurd (cc)), (λ h. p.1 h.0))

one_iff : {P : Type 0} (a : Bool) → (IsTrue a ↔ P) → IsTrue a ↔ (P × Unit {0})
one_iff a p = ((λ h. (p.0 h, tt)), (λ h. p.1 h.0))

not_iff : (b : Bool) → IsTrue (not b) ↔ (b ≡ false)
not_iff true = ((λ h. absurd (cc)), (λ h. absurd (cc)))
not_iff false = ((λ h. refl), (λ h. refl))

-- ---- a deed

plain_iff : (w : World) (me x : Path) (e : Edit) → IsPlain e → IsTrue (not (is_frozen_for w me x)) ↔ MayAlter w me x e
plain_iff w me x e plain = let test = not_iff (is_frozen_for w me x) in ((λ h. may_alter w me x e plain (test.0 h)), (λ h. test.1 h.object))

deed_iff : (w v : World) (me : Path) (p : ℕ → Path) (d : Deed) → IsTrue (is_deed_allowed w me p d) ↔ IsAllowed w me (change_by p d v)
deed_iff w v me p (deeds.Locks mutex locked) = plain_iff w me (place p mutex) (SetLocked locked) (record { changed = λ b. refl; made = refl })
deed_iff w v me p (deeds.Points object to) = pointed_iff w me (place p object) (pointer_by p to)
deed_iff w v me p (deeds.Records object to at) = not_iff (is_frozen_for w me (p to.0))
deed_iff w v me p (deeds.Sends block) = not_iff (is_frozen_for w me (p block.to.0))
deed_iff w v me p (deeds.Finishes thread came) = plain_iff w me (place p thread) (Finish (came_answers came)) (record { changed = λ b. refl; made = refl })
deed_iff w v me p (deeds.Passes client turn) = plain_iff w me (place p client) (PassTurn turn) (record { changed = λ b. refl; made = refl })
deed_iff w v me p (deeds.Unlinks client) = removed_iff w me (place p client) (SetTalk None) refl
deed_iff w v me p (deeds.Frees thread) = removed_iff w me (place p thread) (SetFault None) refl
deed_iff w v me p (deeds.Raises thread fault) = changed_iff w me (place p thread) (SetFault (Some (fault_by p fault)))
deed_iff w v me p (deeds.Links client talk) = changed_iff w me (place p client) (SetTalk (Some (talk_by p talk)))
deed_iff w v me p (deeds.Serves client peer) = changed_iff w me (place p client) (SetPeer (peer_by p peer))
deed_iff w v me p (deeds.Takes thread taker) = changed_iff w me (place p thread) (SetTaker (Some (peer_by p taker)))
deed_iff w v me p (deeds.Holds space holder) = held_iff w me (place p space) (holder_by p holder)
deed_iff w v me p (deeds.Stops thread stops) = plain_iff w me (place p thread) _ (record { changed = λ b. refl; made = refl })
deed_iff w v me p (deeds.Copies from to) = not_iff (is_frozen_for w me (p to.0))
deed_iff w v me p (deeds.Drops space page) = not_iff (is_frozen_for w me (p space))
deed_iff w v me p (deeds.Counts client count) = plain_iff w me (place p client) _ (record { changed = λ b. refl; made = refl })
deed_iff w v me p (deeds.Shifts thread count) = plain_iff w me (place p thread) _ (record { changed = λ b. refl; made = refl })
deed_iff w v me p (deeds.Ends thread status) = plain_iff w me (place p thread) _ (record { changed = λ b. refl; made = refl })
deed_iff w v me p (deeds.Wakes thread mutex) = plain_iff w me (place p thread) _ (record { changed = λ b. refl; made = refl })
deed_iff w v me p (deeds.Sleeps thread cond mutex) = plain_iff w me (place p thread) _ (record { changed = λ b. refl; made = refl })

on_if : (P : Option Change → Option Change → Type 0) (b : Bool) (t1 e1 t2 e2 : Option Change) → P t1 t2 → P e1 e2 → P (cond b t1 e1) (cond b t2 e2)
on_if P true t1 e1 t2 e2 t e = t
on_if P false t1 e1 t2 e2 t e = e

Allows : World → Path → Path → Option Change → Option Change → Type 0
Allows w me x o o2 = IsSome o → IsTrue (not (is_frozen_for w me x)) ↔ AreAllowed w me (made o2)

-- of what leads nowhere that is frozen
makes : (w : World) (me x : Path) (ps : List Ptr) → ((b : Bool) → MayMake w me x ps → is_frozen_for w me x ≡ false) →
    (is_frozen_for w me x ≡ false → MayMake w me x ps) → IsTrue (not (is_frozen_for w me x)) ↔ (MayMake w me x ps × Unit {0})
makes w me x ps out into = by (is_frozen_for w me x) refl
  where
    by : (b : Bool) → is_frozen_for w me x ≡ b → IsTrue (not b) ↔ (MayMake w me x ps × Unit {0})
    by true e = ((λ h. absurd (cc)), (λ h. let no = out true h.0 in absurd (cc)))
    by false e = ((λ h. (into e, tt)), (λ h. refl))

one : (w : World) (me x : Path) (body : Body) (o : Option Change) →
    (is_frozen_for w me x ≡ false → MayMake w me x (pointers body)) → Allows w me x o (Some (Make x body))
unfolding Allows
one w me x body o into some = makes w me x (pointers body) (λ b h. h.object) into

space : (w : World) (me x : Path) (o : Option Change) → Allows w me x o (Some (MakeSpace x None))
unfolding Allows
space w me x o some = makes w me x [] (λ b h. h.object) (λ e. record { object = e; made = refl })

none : (w : World) (me x : Path) → Allows w me x None None
unfolding Allows
none w me x some = absurd (cc)

allows : (w : World) (me x y : Path) (kind : ℕ) → Allows w me x (new_object y kind) (new_object x kind)
allows w me x y kind =
    on_if (Allows w me x) (eqb kind 1) _ _ _ _ (one w me x _ _ (λ e. record { object = e; made = refl }))
    (on_if (Allows w me x) (eqb kind 2) _ _ _ _ (one w me x _ _ (λ e. record { object = e; made = refl }))
    (on_if (Allows w me x) (eqb kind 3) _ _ _ _ (one w me x _ _ (λ e. record { object = e; made = refl }))
    (on_if (Allows w me x) (eqb kind 4) _ _ _ _ (one w me x _ _ (λ e. record { object = e; made = refl }))
    (on_if (Allows w me x) (eqb kind 5) _ _ _ _ (one w me x _ _ (λ e. record { object = e; made = refl }))
    (on_if (Allows w me x) (eqb kind 6) _ _ _ _ (one w me x _ _ (λ e. record { object = e; made = refl }))
    (on_if (Allows w me x) (eqb kind 7) _ _ _ _ (space w me x _)
    (on_if (Allows w me x) (eqb kind 8) _ _ _ _ (one w me x _ _ (λ e. record { object = e; made = refl }))
    (on_if (Allows w me x) (eqb kind 9) _ _ _ _ (one w me x _ _ (λ e. record { object = e; made = refl }))
    (none w me x)))))))))

-- a new object leads nowhere
making_iff : (w : World) (me x : Path) (kind : ℕ) →
    IsSome (new_object [] kind) → IsTrue (not (is_frozen_for w me x)) ↔ AreAllowed w me (made (new_object x kind))
unfolding Allows
making_iff w me x kind some = allows w me x [] kind some

-- a new space that is held leads to its holder
held_space_iff : (w : World) (me x holder : Path) → IsTrue (not (is_frozen_for w me x) && not (is_frozen_for w me holder))
    ↔ AreAllowed w me (MakeSpace x (Some (At holder)) ∷ [])
held_space_iff w me x holder = by (is_frozen_for w me x) refl (is_frozen_for w me holder) refl
  where
    by : (a : Bool) → is_frozen_for w me x ≡ a → (b : Bool) → is_frozen_for w me holder ≡ b →
        IsTrue (not a && not b) ↔ AreAllowed w me (MakeSpace x (Some (At holder)) ∷ [])
    by true ea b eb = ((λ h. absurd (cc)), (λ h. let no = h.0.object in absurd (cc)))
    by false ea true eb = ((λ h. absurd (cc)), (λ h. let no = rw eb at h.0.made in absurd (cc)))
    by false ea false eb = ((λ h. (record { object = ea; made = rw eb refl }, tt)), (λ h. refl))

plan_iff : (w : World) (me : Path) (p : ℕ → Path) (given : List ℕ) (plan : Plan) →
    IsPlan p w plan → IsTrue (is_plan_allowed w me p plan) ↔ AreAllowed w me (changes_by p given plan w)
plan_iff w me p given plans.Nothing fits = ((λ h. tt), (λ h. refl))
plan_iff w me p given (plans.One a) fits = one_iff _ (deed_iff w _ me p a)
plan_iff w me p given (plans.Two a b) fits = both_iff _ _ (deed_iff w _ me p a) (one_iff _ (deed_iff w _ me p b))
plan_iff w me p given (plans.Moves block client receiver sender) fits =
    both_iff _ _ (deed_iff w w me p (deeds.Sends block)) (both_iff _ _ (deed_iff w w me p (deeds.Counts client block.count))
    (both_iff _ _ (deed_iff w w me p (deeds.Shifts receiver block.count)) (one_iff _ (deed_iff w w me p (deeds.Shifts sender block.count)))))
plan_iff w me p given (plans.HandsOver reference to receiver client turn) fits =
    both_iff _ _ (deed_iff w w me p (deeds.Points reference to)) (both_iff _ _ (deed_iff w w me p (deeds.Finishes receiver (Some true)))
    (one_iff _ (deed_iff w w me p (deeds.Passes client turn))))
plan_iff w me p given (plans.Makes object kind) fits = making_iff w me (place p object) kind fits.2
plan_iff w me p given (plans.MakesHeld object holder) fits = held_space_iff w me (place p object) (place p holder)
plan_iff w me p given (plans.Gives space page source) fits = one_iff _ (not_iff (is_frozen_for w me (p space)))

-- ---- the caller's own part

free-faultless : (w : World) (s : Path) (t : Thread) → is_free w s t ≡ true → t.fault ≡ None
free-faultless w s t free = by (not (is_frozen w s) && t.stops == 0) t.fault (is_user t.mode) free
  where
    by : (a : Bool) (o : Option Fault) (c : Bool) → (a && is_none o && c) ≡ true → o ≡ None
    by a None c free = refl
    by true (Some f) c free = absurd (cc)
    by false (Some f) c free = absurd (cc)

fault_iff : (w : World) (k : ℕ) (s port : Path) (page : ℕ) (write : Bool) → is_free_at w (k ∷ s) ≡ true → IsTrue (not (is_frozen_for w (k ∷ s) port))
    ↔ MayAlter w (k ∷ s) (k ∷ s) (SetFault (Some (record { page = page; write = write; port = At port; taker = None })))
fault_iff w k s port page write free = by (is_frozen_for w (k ∷ s) port) refl
  where
    there : (o : Option Body) → and_then thread_of o ≡ Some (free_thread w k s free).0 → (f : Option Fault) → option_list (changed_pointers (SetFault f)) o ≡ []
    there None is f = absurd (cc)
    there (Some (Mutex locked)) is f = absurd (cc)
    there (Some Cond) is f = absurd (cc)
    there (Some (Mapping window)) is f = absurd (cc)
    there (Some (Region extent)) is f = absurd (cc)
    there (Some (Port set served)) is f = absurd (cc)
    there (Some Portset) is f = absurd (cc)
    there (Some (Space birth holder)) is f = absurd (cc)
    there (Some (Thread_of t)) is f = let same : t ≡ (free_thread w k s free).0 = cc in rw (same, free-faultless w s _ (free_thread w k s free).2) refl
    there (Some (Reference to)) is f = absurd (cc)

    by : (b : Bool) → is_frozen_for w (k ∷ s) port ≡ b →
        IsTrue (not b) ↔ MayAlter w (k ∷ s) (k ∷ s) (SetFault (Some (record { page = page; write = write; port = At port; taker = None })))
    by true e = ((λ h. absurd (cc)), (λ h. let no = rw e at h.made in absurd (cc)))
    by false e = (
      (λ h. record { object = free_itself w k s free; changed = rw (there (w.body (k ∷ s)) (free_thread w k s free).1 _) refl; made = rw e refl }),
      (λ h. refl),
    )

-- ---- a verdict

module _ (m : Contents) (c : Caller) (words : List ℕ) (free : c.is_porter ≡ false → is_free_at (world m) (place (path m) c.who) ≡ true) where
  abbrev pub me : Path
  me = place (path m) c.who

  abbrev pub caller : outcomes.Caller
  caller = caller_by (path m) c words

  -- what says when an outcome is allowed
  abbrev pub Allows_iff : Type 0 → Outcome → Type 0
  Allows_iff P o = P ↔ GoesAllowed (world m) me (closed caller o)

  abbrev pub Goes_iff : Bool → Outcome → Type 0
  Goes_iff b o = Allows_iff (IsTrue b) o

  own : c.is_porter ≡ false → (e : Edit) → IsPlain e → MayAlter (world m) me me e
  own user e plain = may_alter (world m) me me e plain (free_itself (world m) c.who.slot (path m c.who.space) (free user))

  done_iff : (test : Bool) (cs : List Change) (answers : List ℕ) → (IsTrue test ↔ AreAllowed (world m) me cs) → Goes_iff test (done caller cs answers)
  done_iff test cs answers h = by c.is_porter refl
    where
      by : (b : Bool) → c.is_porter ≡ b → Goes_iff test (done (record caller { is_porter = b }) cs answers)
      by true e = h
      by false e = own_iff (world m) me _ cs (own e _ (record { changed = λ b. refl; made = refl })) h

  ended_iff : (test : Bool) (cs : List Change) (answers : List ℕ) → (IsTrue test ↔ AreAllowed (world m) me cs) → Goes_iff test (ended caller cs answers)
  ended_iff test cs answers h = by c.is_porter refl
    where
      by : (b : Bool) → c.is_porter ≡ b → Goes_iff test (ended (record caller { is_porter = b }) cs answers)
      by true e = h
      by false e = own_iff (world m) me _ cs (own e _ (record { changed = λ b. refl; made = refl })) h

  refused_iff : (status : ℕ) → Goes_iff true (Refused status)
  refused_iff status = by c.is_porter refl
    where
      by : (b : Bool) → c.is_porter ≡ b → IsTrue true ↔ GoesAllowed (world m) me (closed (record caller { is_porter = b }) (Refused status))
      by true e = ((λ h. tt), (λ h. refl))
      by false e = ((λ h. (own e _ (record { changed = λ b. refl; made = refl }), tt)), (λ h. refl))

  proceeds_iff : (user : c.is_porter ≡ false) (mode : Mode) (counter : ℕ) → Goes_iff true (proceeds me mode counter)
  proceeds_iff user mode counter = ((λ h. (own user (Proceed mode counter) (record { changed = λ b. refl; made = refl }), tt)), (λ h. refl))

  -- an instruction of a running thread
  running_iff : (user : c.is_porter ≡ false) (e : Effect) (o : Option Thread) →
      is_running o ≡ true → Goes_iff (is_effect_allowed (world m) me (path m) e) (of_running (effect_by (world m) (path m) me e) o)
  running_iff user e None running = absurd (cc)
  running_iff user e (Some t) running = in_mode t.mode running
    where
      in_mode : (mode : Mode) →
          is_running_mode mode ≡ true → Goes_iff (is_effect_allowed (world m) me (path m) e) (in_running (effect_by (world m) (path m) me e) t.counter mode)
      in_mode (Running g) running = by e
        where
          by : (e : Effect) → Goes_iff (is_effect_allowed (world m) me (path m) e) (effect_by (world m) (path m) me e g t.counter)
          by (effects.Puts register value) = proceeds_iff user _ _
          by (effects.Jumps to) = proceeds_iff user _ _
          by (effects.Halts code) = proceeds_iff user _ _
          by effects.Enters = proceeds_iff user _ _
          by (effects.Stores space page at value) = own_iff (world m) me (Alter me (Proceed (Running g) (next t.counter)))
              (PutPage (path m space) page (slice_set (words_at (world m) (path m space) page) at value) ∷ []) (own user (Proceed (Running g) (next t.counter))
              (record { changed = λ b. refl; made = refl })) (one_iff _ (not_iff (is_frozen_for (world m) me (path m space))))
      in_mode (Calling todo rest) running = absurd (cc)
      in_mode (Halted g code) running = absurd (cc)
      in_mode (Native g) running = absurd (cc)

  -- a user's stage that tells of words, and may be done then
  tells_iff : c.is_porter ≡ false → (test : Bool) (cs : List Change) (said : outcomes.Said) (last : Bool) →
      (IsTrue test ↔ AreAllowed (world m) me cs) → Goes_iff test (tells caller cs said last)
  tells_iff user test cs said false h = h
  tells_iff user test cs said true h = by c.is_porter user
    where
      by : (b : Bool) → b ≡ false → Goes_iff test (telling said (done (record caller { is_porter = b }) cs []))
      by true e = absurd (cc)
      by false e = own_iff (world m) me _ cs (own user _ (record { changed = λ b. refl; made = refl })) h

  verdict_iff : (v : Verdict) → IsVerdict m c v → Allows_iff (IsVerdictAllowed (world m) me (path m) v) (outcome_by (world m) (path m) caller v)
  verdict_iff (verdicts.Runs e) fits = running_iff fits.0 e (thread_at (world m) me) fits.1
  verdict_iff (verdicts.Refused status) fits = refused_iff status
  verdict_iff verdicts.Waits fits = ((λ h. absurd (cc)), (λ h. absurd h))
  verdict_iff (verdicts.Done plan answers) fits = done_iff _ _ _ (plan_iff (world m) me (path m) words plan fits.0.1)
  verdict_iff (verdicts.Ends plan answers) fits = ended_iff _ _ _ (plan_iff (world m) me (path m) words plan fits.1)
  verdict_iff (verdicts.Shows plan space page) fits = done_iff _ _ _ (plan_iff (world m) me (path m) words plan fits.2.1)
  verdict_iff (verdicts.ShowsRecord object) fits = done_iff true [] _ ((λ h. tt), (λ h. refl))
  verdict_iff (verdicts.Sets object from) fits =
      done_iff true _ [] (sets_iff (world m) me _ (place (path m) object) _ fits.0 ((world m).body (place (path m) object)))
  verdict_iff (verdicts.Renames object slot) fits = renames_iff m c words free object slot fits
  verdict_iff (verdicts.Destroys object last) fits = destroys_iff m c words free object last
  verdict_iff (verdicts.WakesAll cond) fits =
      done_iff true _ [] ((λ h. sleepers_allowed (world m) c.who.slot (path m c.who.space) cond (free fits)), (λ h. refl))
  verdict_iff (verdicts.Goes plan) fits = plan_iff (world m) me (path m) words plan fits.1
  verdict_iff (verdicts.Tells plan sent last) fits = tells_iff fits.0 _ _ _ last (plan_iff (world m) me (path m) words plan fits.2.1)
  verdict_iff (verdicts.Faults page write port) fits =
      one_iff _ (fault_iff (world m) c.who.slot (path m c.who.space) (place (path m) port) page write (free fits.0))

  -- ---- whom it picks

  abbrev pub may_pick_so : Bool → Option Path → Outcome → Bool
  may_pick_so chooses q (Refused status) = is_none q
  may_pick_so chooses q Waits = true
  may_pick_so chooses q (Goes changes said) = chooses || is_none q

  guarded_iff : {P : Type 0} (may : Bool) (o : Outcome) → Allows_iff P o → Allows_iff (IsTrue may × P) (when may o)
  guarded_iff true o h = ((λ g. h.0 g.1), (λ g. (refl, h.1 g)))
  guarded_iff false o h = ((λ g. let no = g.0 in absurd (cc)), (λ g. absurd g))

  picked_iff : {P : Type 0} (chooses : Bool) (q : Option Path) (o : Outcome) →
      Allows_iff P o → Allows_iff (IsTrue (may_pick_so chooses q o) × P) (with_pick chooses q o)
  picked_iff chooses q (Refused status) h = guarded_iff (is_none q) (Refused status) h
  picked_iff chooses q Waits h = ((λ g. h.0 g.1), (λ g. absurd g))
  picked_iff chooses q (Goes changes said) h = guarded_iff (chooses || is_none q) (Goes changes said) h

  none_picked : (pick : Option Who) → is_none pick ≡ is_none (picked_by (path m) pick)
  none_picked None = refl
  none_picked (Some who) = refl

  may_pick_done : (chooses : Bool) (pick : Option Who) (cs : List Change) (answers : List ℕ) →
      (chooses || is_none pick) ≡ may_pick_so chooses (picked_by (path m) pick) (done caller cs answers)
  may_pick_done chooses pick cs answers = by c.is_porter
    where
      by : (b : Bool) → (chooses || is_none pick) ≡ may_pick_so chooses (picked_by (path m) pick) (done (record caller { is_porter = b }) cs answers)
      by true = ap (λ b. chooses || b) (none_picked pick)
      by false = ap (λ b. chooses || b) (none_picked pick)

  may_pick_ended : (chooses : Bool) (pick : Option Who) (cs : List Change) (answers : List ℕ) →
      (chooses || is_none pick) ≡ may_pick_so chooses (picked_by (path m) pick) (ended caller cs answers)
  may_pick_ended chooses pick cs answers = by c.is_porter
    where
      by : (b : Bool) → (chooses || is_none pick) ≡ may_pick_so chooses (picked_by (path m) pick) (ended (record caller { is_porter = b }) cs answers)
      by true = ap (λ b. chooses || b) (none_picked pick)
      by false = ap (λ b. chooses || b) (none_picked pick)

  may_pick_renamed : (chooses : Bool) (pick : Option Who) (x : Path) (slot : ℕ) →
      (chooses || is_none pick) ≡ may_pick_so chooses (picked_by (path m) pick) (renames caller x slot)
  may_pick_renamed chooses pick x slot = by c.is_porter
    where
      by : (b : Bool) → (chooses || is_none pick) ≡ may_pick_so chooses (picked_by (path m) pick) (renames (record caller { is_porter = b }) x slot)
      by true = ap (λ b. chooses || b) (none_picked pick)
      by false = ap (λ b. chooses || b) (none_picked pick)

  may_pick_destroyed : (chooses : Bool) (pick : Option Who) (x : Path) (last : Bool) →
      (chooses || is_none pick) ≡ may_pick_so chooses (picked_by (path m) pick) (destroyed (world m) caller x last)
  may_pick_destroyed chooses pick x last = by c.is_porter last
    where
      by : (b last : Bool) → (chooses || is_none pick)
          ≡ may_pick_so chooses (picked_by (path m) pick) (destroyed (world m) (record caller { is_porter = b }) x last)
      by true true = ap (λ b. chooses || b) (none_picked pick)
      by true false = ap (λ b. chooses || b) (none_picked pick)
      by false true = ap (λ b. chooses || b) (none_picked pick)
      by false false = ap (λ b. chooses || b) (none_picked pick)

  may_pick_told : (chooses : Bool) (pick : Option Who) (cs : List Change) (said : outcomes.Said) (last : Bool) →
      (chooses || is_none pick) ≡ may_pick_so chooses (picked_by (path m) pick) (tells caller cs said last)
  may_pick_told chooses pick cs said false = ap (λ b. chooses || b) (none_picked pick)
  may_pick_told chooses pick cs said true = by c.is_porter
    where
      by : (b : Bool) → (chooses || is_none pick) ≡ may_pick_so chooses (picked_by (path m) pick) (telling said (done (record caller { is_porter = b }) cs []))
      by true = ap (λ b. chooses || b) (none_picked pick)
      by false = ap (λ b. chooses || b) (none_picked pick)

  running_pick : (chooses : Bool) (pick : Option Who) (e : Effect) (o : Option Thread) →
      is_running o ≡ true → (chooses || is_none pick) ≡ may_pick_so chooses (picked_by (path m) pick) (of_running (effect_by (world m) (path m) me e) o)
  running_pick chooses pick e None running = absurd (cc)
  running_pick chooses pick e (Some t) running = in_mode t.mode running
    where
      in_mode : (mode : Mode) → is_running_mode mode ≡ true →
          (chooses || is_none pick) ≡ may_pick_so chooses (picked_by (path m) pick) (in_running (effect_by (world m) (path m) me e) t.counter mode)
      in_mode (Running g) running = by e
        where
          by : (e : Effect) → (chooses || is_none pick) ≡ may_pick_so chooses (picked_by (path m) pick) (effect_by (world m) (path m) me e g t.counter)
          by (effects.Puts register value) = ap (λ b. chooses || b) (none_picked pick)
          by (effects.Jumps to) = ap (λ b. chooses || b) (none_picked pick)
          by (effects.Halts code) = ap (λ b. chooses || b) (none_picked pick)
          by effects.Enters = ap (λ b. chooses || b) (none_picked pick)
          by (effects.Stores space page at value) = ap (λ b. chooses || b) (none_picked pick)
      in_mode (Calling todo rest) running = absurd (cc)
      in_mode (Halted g code) running = absurd (cc)
      in_mode (Native g) running = absurd (cc)

  may_pick_is : (chooses : Bool) (pick : Option Who) (v : Verdict) →
      IsVerdict m c v → may_pick chooses pick v ≡ may_pick_so chooses (picked_by (path m) pick) (outcome_by (world m) (path m) caller v)
  may_pick_is chooses pick (verdicts.Runs e) fits = running_pick chooses pick e (thread_at (world m) me) fits.1
  may_pick_is chooses pick (verdicts.Refused status) fits = none_picked pick
  may_pick_is chooses pick verdicts.Waits fits = refl
  may_pick_is chooses pick (verdicts.Done plan answers) fits = may_pick_done chooses pick _ _
  may_pick_is chooses pick (verdicts.Ends plan answers) fits = may_pick_ended chooses pick _ _
  may_pick_is chooses pick (verdicts.Shows plan space page) fits = may_pick_done chooses pick _ _
  may_pick_is chooses pick (verdicts.ShowsRecord object) fits = may_pick_done chooses pick _ _
  may_pick_is chooses pick (verdicts.Sets object from) fits = may_pick_done chooses pick _ _
  may_pick_is chooses pick (verdicts.Renames object slot) fits = may_pick_renamed chooses pick (place (path m) object) slot
  may_pick_is chooses pick (verdicts.Destroys object last) fits = may_pick_destroyed chooses pick (place (path m) object) last
  may_pick_is chooses pick (verdicts.WakesAll cond) fits = may_pick_done chooses pick _ _
  may_pick_is chooses pick (verdicts.Goes plan) fits = ap (λ b. chooses || b) (none_picked pick)
  may_pick_is chooses pick (verdicts.Tells plan words last) fits = may_pick_told chooses pick _ _ last
  may_pick_is chooses pick (verdicts.Faults page write port) fits = ap (λ b. chooses || b) (none_picked pick)

  pub ready_iff : (chooses : Bool) (pick : Option Who) (v : Verdict) → IsVerdict m c v →
      (IsTrue (may_pick chooses pick v) × IsVerdictAllowed (world m) me (path m) v) ↔ GoesAllowed (world m) me (move_by m c words chooses pick v)
  ready_iff chooses pick v fits = rw (may_pick_is chooses pick v fits) (picked_iff chooses (picked_by (path m) pick) _ (verdict_iff v fits))

  pub ready_allowed : (test chooses : Bool) (pick : Option Who) (v : Verdict) → IsVerdict m c v → may_pick chooses pick v ≡ true →
      (IsTrue test ↔ IsVerdictAllowed (world m) me (path m) v) → IsTrue test ↔ GoesAllowed (world m) me (move_by m c words chooses pick v)
  ready_allowed test chooses pick v fits may allowed =
      let h = ready_iff chooses pick v fits in ((λ t. h.0 (may, allowed.0 t)), (λ g. allowed.1 (h.1 g).1))

  pub never_picks : (chooses : Bool) (pick : Option Who) (v : Verdict) →
      IsVerdict m c v → may_pick chooses pick v ≡ false → IsTrue false ↔ GoesAllowed (world m) me (move_by m c words chooses pick v)
  never_picks chooses pick v fits may = let h = ready_iff chooses pick v fits in ((λ t. absurd (cc)), (λ g. let yes = (h.1 g).0 in absurd (cc)))
