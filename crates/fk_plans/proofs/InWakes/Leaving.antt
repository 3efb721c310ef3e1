-- Leaving: what the changes of deeds, plans and verdicts make, and take from its place.
use Rattle.std.proofs.Common.{◌≡◌, ◌||◌, ◌&&◌, ◌==◌, ℕ, Bool, true, false, List, [], ◌∷◌, ◌++◌, map, Option, Some, None, is_none, if◌then◌else◌, refl, ap}
use Rattle.std.proofs.Common.{◌∙◌, eq-eqb}
use Rattle.std.specs.List.{flat_map}
use Rattle.fk_model.specs.declared.names.Who.{Who}
use Rattle.fk_model.specs.declared.statuses.status.TheConstants.{OK}
use Rattle.fk_model.specs.declared.limits.TheConstants.{SLOTS}
use Rattle.fk_model.specs.ObjectRows.{ends_with, kills, new_object, renamed, told_with}
use Rattle.fk_model.specs.LinkRows.{end_all}
use Rattle.fk_model.specs.Objects.{Body, Mode, Thread}
use Rattle.fk_model.specs.Objects.Mode.{Calling, Halted, Native, Running}
use Rattle.fk_model.specs.Moves.{closed, with_pick}
use Rattle.fk_model.specs.Outcomes.{Caller, Outcome, Said, done, done_at, ended, listed, path_of, stays, telling, when}
use Rattle.fk_model.specs.Outcomes.Outcome.{Goes, Refused, Waits}
use Rattle.fk_model.specs.Outcomes.Said.{Answered, Nothing}
use Rattle.fk_model.specs.Places.{Path, parent, same_path}
use Rattle.fk_model.specs.Reach.{words_at}
use Rattle.fk_model.specs.Records.{set_edits, takes_state}
use Rattle.fk_model.specs.Searches.{slots, thread_at}
use Rattle.fk_model.specs.SyncRows.{asleep_on, sleepers, woken}
use Rattle.fk_model.specs.World.{World, Change, Edit}
use Rattle.fk_model.specs.World.Change.{Alter, Move}
use Rattle.fk_model.specs.World.Edit.{End, Finish}
use Rattle.fk_model.proofs.walks.PlaceLaws.{same_path_refl}
use Rattle.fk_store.specs.Store.Paths.{place}
use Rattle.fk_plans.specs.declared.plans.plan.Deed.{Deed}
use Rattle.fk_plans.specs.declared.plans.plan.Deed.TheVariants as deeds
use Rattle.fk_plans.specs.declared.plans.plan.Effect.{Effect}
use Rattle.fk_plans.specs.declared.plans.plan.Effect.TheVariants as effects
use Rattle.fk_plans.specs.declared.plans.plan.Plan.{Plan}
use Rattle.fk_plans.specs.declared.plans.plan.Plan.TheVariants as plans
use Rattle.fk_plans.specs.declared.plans.plan.Verdict.{Verdict}
use Rattle.fk_plans.specs.declared.plans.plan.Verdict.TheVariants as verdicts
use Rattle.fk_plans.specs.Plans.Effects.{effect_by, in_running, of_running}
use Rattle.fk_plans.specs.Plans.Plans.{after, change_by, changes_by, made}
use Rattle.fk_plans.specs.Plans.Recordings.{record_words}
use Rattle.fk_plans.specs.Plans.Verdicts.{news_by, outcome_by, tells}
use Rattle.fk_changes.specs.Records.Settings.{record_there, sets_at, sets_of}
use Rattle.fk_changes.specs.Threads.Answers.{all_four, listed as answers_of}
use Rattle.fk_plans.specs.declared.wakes.touching.Touched.{Touched}
use Rattle.fk_plans.specs.declared.wakes.touching.Touched.TheVariants.{Any, Dies, Few, Makes, Moves}
use Rattle.fk_plans.specs.Wakes.Touches.{judged, leave, leaves, makes, planned}
use Rattle.fk_plans.proofs.InWakes.Naming.{told_listed}

pub both : (a b : Bool) → a ≡ true → b ≡ true → (a && b) ≡ true
both true b first second = second
both false b first second = first

deed_leaves : (p : ℕ → Path) (t : Touched) (d : Deed) (w : World) → leaves p t (change_by p d w) ≡ true
deed_leaves p t (deeds.Locks mutex locked) w = refl
deed_leaves p t (deeds.Points object to) w = refl
deed_leaves p t (deeds.Wakes thread mutex) w = refl
deed_leaves p t (deeds.Sleeps thread cond mutex) w = refl
deed_leaves p t (deeds.Sends block) w = refl
deed_leaves p t (deeds.Records object to at) w = refl
deed_leaves p t (deeds.Counts client count) w = refl
deed_leaves p t (deeds.Shifts thread count) w = refl
deed_leaves p t (deeds.Ends thread status) w = refl
deed_leaves p t (deeds.Finishes thread came) w = refl
deed_leaves p t (deeds.Passes client turn) w = refl
deed_leaves p t (deeds.Unlinks client) w = refl
deed_leaves p t (deeds.Links client talk) w = refl
deed_leaves p t (deeds.Serves client peer) w = refl
deed_leaves p t (deeds.Frees thread) w = refl
deed_leaves p t (deeds.Raises thread fault) w = refl
deed_leaves p t (deeds.Takes thread taker) w = refl
deed_leaves p t (deeds.Holds space holder) w = refl
deed_leaves p t (deeds.Stops thread stops) w = refl
deed_leaves p t (deeds.Copies from to) w = refl
deed_leaves p t (deeds.Drops space page) w = refl

-- ---- what is made

record IsTold (p : ℕ → Path) (t : Touched) (o : Option Change) : Type 0 where
  told : leave p t (made o) ≡ true

either : {p : ℕ → Path} {t : Touched} (b : Bool) {o r : Option Change} → IsTold p t o → IsTold p t r → IsTold p t (if b then o else r)
either true one other = one
either false one other = other

made_leaves : (p : ℕ → Path) (t : Touched) (y : Path) (kind : ℕ) → makes p t y ≡ true → IsTold p t (new_object y kind)
made_leaves p t y kind is =
    let here = both (makes p t y) true is refl in
    either (kind == 1) (record { told = here }) (either (kind == 2) (record { told = here })
    (either (kind == 3) (record { told = here }) (either (kind == 4) (record { told = here })
    (either (kind == 5) (record { told = here }) (either (kind == 6) (record { told = here })
    (either (kind == 7) (record { told = here }) (either (kind == 8) (record { told = here })
    (either (kind == 9) (record { told = here }) (record { told = refl })))))))))

plan_leaves : (p : ℕ → Path) (given : List ℕ) (plan : Plan) (w : World) → leave p (planned plan) (changes_by p given plan w) ≡ true
plan_leaves p given plans.Nothing w = refl
plan_leaves p given (plans.One a) w =
    let t = planned (plans.One a) in both (leaves p t (change_by p a w)) true (deed_leaves p t a w) refl
plan_leaves p given (plans.Two a b) w =
    let t = planned (plans.Two a b) in
    both (leaves p t (change_by p a w)) (leaves p t (change_by p b (after p a w)) && true) (deed_leaves p t a w)
    (both (leaves p t (change_by p b (after p a w))) true (deed_leaves p t b (after p a w)) refl)
plan_leaves p given (plans.Moves block client receiver sender) w = refl
plan_leaves p given (plans.HandsOver reference to receiver client turn) w = refl
plan_leaves p given (plans.Makes object kind) w = (made_leaves p (Makes object) (place p object) kind (same_path_refl (place p object))).told
plan_leaves p given (plans.MakesHeld object holder) w = both (makes p (Makes object) (place p object)) true (same_path_refl (place p object)) refl
plan_leaves p given (plans.Gives space page source) w = refl

module _ (p : ℕ → Path) (t : Touched) where
  -- ---- with the caller's own part

  then_leaves : (cs ds : List Change) → leave p t cs ≡ true → leave p t ds ≡ true → leave p t (cs ++ ds) ≡ true
  then_leaves [] ds first second = second
  then_leaves (c ∷ cs) ds first second = more (leaves p t c) (leave p t cs) first (λ rest. then_leaves cs ds rest second)
    where
      more : (a b : Bool) → (a && b) ≡ true → (b ≡ true → leave p t (cs ++ ds) ≡ true) → (a && leave p t (cs ++ ds)) ≡ true
      more true b is next = next is
      more false b is next = is

  own_leaves : (cs : List Change) (y : Path) (e : Edit) → leave p t cs ≡ true → leave p t (cs ++ Alter y e ∷ []) ≡ true
  own_leaves cs y e is = then_leaves cs (Alter y e ∷ []) is refl

  done_leaves : (me : Path) (c : Caller) (cs : List Change) (answers : List ℕ) → leave p t cs ≡ true → leave p t (listed (done_at me c cs answers)) ≡ true
  done_leaves me c cs answers is = by c.is_porter
    where
      by : (porter : Bool) →
          leave p t (listed (if porter then Goes cs (Answered OK answers) else Goes (cs ++ Alter me (Finish answers) ∷ []) Nothing)) ≡ true
      by true = is
      by false = own_leaves cs me (Finish answers) is

  ended_leaves : (c : Caller) (cs : List Change) (answers : List ℕ) → leave p t cs ≡ true → leave p t (listed (ended c cs answers)) ≡ true
  ended_leaves c cs answers is = by c.is_porter
    where
      by : (porter : Bool) →
          leave p t (listed (if porter then Goes cs (Answered OK answers) else Goes (cs ++ Alter (path_of c) (End OK answers) ∷ []) Nothing)) ≡ true
      by true = is
      by false = own_leaves cs (path_of c) (End OK answers) is

  told_leaves : (said : Said) (o : Outcome) → leave p t (listed o) ≡ true → leave p t (listed (telling said o)) ≡ true
  told_leaves said o is = ap (leave p t) (told_listed said o) ∙ is

  tells_leaves : (c : Caller) (cs : List Change) (said : Said) (last : Bool) → leave p t cs ≡ true → leave p t (listed (tells c cs said last)) ≡ true
  tells_leaves c cs said true is = told_leaves said (done c cs []) (done_leaves (path_of c) c cs [] is)
  tells_leaves c cs said false is = is

  -- ---- instructions, records, sleepers, ends

  runs_leaves : (w : World) (me : Path) (e : Effect) (g : List ℕ) (counter : ℕ) → leave p t (listed (effect_by w p me e g counter)) ≡ true
  runs_leaves w me (effects.Puts register value) g counter = refl
  runs_leaves w me (effects.Jumps to) g counter = refl
  runs_leaves w me (effects.Halts code) g counter = refl
  runs_leaves w me effects.Enters g counter = refl
  runs_leaves w me (effects.Stores space page at value) g counter = refl

  run_leaves : (w : World) (me : Path) (e : Effect) (o : Option Thread) → leave p t (listed (of_running (effect_by w p me e) o)) ≡ true
  run_leaves w me e None = refl
  run_leaves w me e (Some u) = by u.mode
    where
      by : (m : Mode) → leave p t (listed (in_running (effect_by w p me e) u.counter m)) ≡ true
      by (Running g) = runs_leaves w me e g u.counter
      by (Calling todo rest) = refl
      by (Halted g code) = refl
      by (Native g) = refl

  edits_leave : (y : Path) (es : List Edit) → leave p t (map (Alter y) es) ≡ true
  edits_leave y [] = refl
  edits_leave y (e ∷ es) = edits_leave y es

  taken_leaves : (y : Path) (es : List Edit) (takes : Bool) → leave p t (if takes then map (Alter y) es else []) ≡ true
  taken_leaves y es true = edits_leave y es
  taken_leaves y es false = refl

  sets_leave : (w : World) (space y : Path) (words : List ℕ) (o : Option Body) → leave p t (sets_of w space y words o) ≡ true
  sets_leave w space y words None = refl
  sets_leave w space y words (Some b) = taken_leaves y (set_edits b words) (takes_state w space b words)

  woken_leaves : (y : Path) (mutex : Option ℕ) → leave p t (woken y mutex) ≡ true
  woken_leaves y None = refl
  woken_leaves y (Some m) = refl

  all_woken : (of_slot : ℕ → Path) (mutex : ℕ → Option ℕ) (ks : List ℕ) → leave p t (flat_map (λ k. woken (of_slot k) (mutex k)) ks) ≡ true
  all_woken of_slot mutex [] = refl
  all_woken of_slot mutex (k ∷ ks) =
      then_leaves (woken (of_slot k) (mutex k)) (flat_map (λ n. woken (of_slot n) (mutex n)) ks) (woken_leaves (of_slot k) (mutex k))
      (all_woken of_slot mutex ks)

  sleepers_leave : (w : World) (space : Path) (cond : ℕ) → leave p t (sleepers w space cond) ≡ true
  unfolding sleepers
  sleepers_leave w space cond = all_woken (λ k. k ∷ space) (λ k. asleep_on cond (w.body (k ∷ space))) (slots SLOTS)

  ends_leave : (ends : List Path) → leave p t (end_all ends) ≡ true
  ends_leave [] = refl
  ends_leave (x ∷ ends) = ends_leave ends

  -- ---- a refused call is closed, and nobody is picked where nobody may be

  refused_leaves : (c : Caller) (status : ℕ) (porter : Bool) →
      leave p t (listed (if porter then Goes [] (Answered status []) else Goes (Alter (path_of c) (End status []) ∷ []) Nothing)) ≡ true
  refused_leaves c status true = refl
  refused_leaves c status false = refl

  unpicked_leaves : (c : Caller) (status : ℕ) (free : Bool) → leave p t (listed (closed c (when free (Refused status)))) ≡ true
  unpicked_leaves c status true = refused_leaves c status c.is_porter
  unpicked_leaves c status false = refl

  picked_leaves : (c : Caller) (cs : List Change) (said : Said) (free : Bool) → leave p t cs ≡ true →
      leave p t (listed (closed c (when free (Goes cs said)))) ≡ true
  picked_leaves c cs said true is = is
  picked_leaves c cs said false is = refl

  pub closed_leaves : (c : Caller) (chosen : Bool) (pick : Option Path) (o : Outcome) → leave p t (listed o) ≡ true →
      leave p t (listed (closed c (with_pick chosen pick o))) ≡ true
  closed_leaves c chosen pick (Refused status) is = unpicked_leaves c status (is_none pick)
  closed_leaves c chosen pick Waits is = refl
  closed_leaves c chosen pick (Goes cs said) is = picked_leaves c cs said (chosen || is_none pick) is

-- ---- verdicts

destroyed_leaves : (w : World) (p : ℕ → Path) (c : Caller) (object : Who) (last : Bool) →
    leave p (Dies object) (listed (outcome_by w p c (verdicts.Destroys object last))) ≡ true
destroyed_leaves w p c object last =
    let x = place p object in
    told_leaves p (Dies object) (told_with w x (w.body x)) (if last then done c (kills w x) [] else stays c (kills w x)) (by last)
  where
    killed : leave p (Dies object) (kills w (place p object)) ≡ true
    killed = both (same_path (place p object) (place p object)) (leave p (Dies object) (end_all (ends_with w (place p object) (w.body (place p object)))))
        (same_path_refl (place p object)) (ends_leave p (Dies object) (ends_with w (place p object) (w.body (place p object))))

    by : (b : Bool) → leave p (Dies object) (listed (if b then done c (kills w (place p object)) [] else stays c (kills w (place p object)))) ≡ true
    by true = done_leaves p (Dies object) (path_of c) c (kills w (place p object)) [] killed
    by false = killed

renamed_leaves : (p : ℕ → Path) (c : Caller) (object : Who) (slot : ℕ) (w : World) →
    leave p (Moves object slot) (listed (outcome_by w p c (verdicts.Renames object slot))) ≡ true
renamed_leaves p c object slot w =
    let x = place p object in
    done_leaves p (Moves object slot) (renamed x (slot ∷ parent x) (path_of c)) c (Move x slot ∷ []) []
    (both (same_path x x && slot == slot) true (both (same_path x x) (slot == slot) (same_path_refl x) (eq-eqb slot slot refl)) refl)

pub verdict_leaves : (w : World) (p : ℕ → Path) (c : Caller) (v : Verdict) → leave p (judged v) (listed (outcome_by w p c v)) ≡ true
verdict_leaves w p c (verdicts.Runs e) = run_leaves p (Few None None None) w (path_of c) e (thread_at w (path_of c))
verdict_leaves w p c (verdicts.Refused status) = refl
verdict_leaves w p c verdicts.Waits = refl
verdict_leaves w p c (verdicts.Done plan answers) =
    done_leaves p (planned plan) (path_of c) c (changes_by p c.words plan w) (answers_of answers) (plan_leaves p c.words plan w)
verdict_leaves w p c (verdicts.Ends plan answers) =
    ended_leaves p (planned plan) c (changes_by p c.words plan w) (all_four answers) (plan_leaves p c.words plan w)
verdict_leaves w p c (verdicts.Shows plan space page) =
    done_leaves p (planned plan) (path_of c) c (changes_by p c.words plan w) (words_at w (p space) page) (plan_leaves p c.words plan w)
verdict_leaves w p c (verdicts.ShowsRecord object) =
    done_leaves p (Few None None None) (path_of c) c [] (record_there (w.body (place p object))) refl
verdict_leaves w p c (verdicts.Sets object from) =
    let y = place p object in
    let words = record_words p c.words from w in
    done_leaves p (Few (Some object) None None) (path_of c) c (sets_at w (p object.space) y words) []
    (sets_leave p (Few (Some object) None None) w (p object.space) y words (w.body y))
verdict_leaves w p c (verdicts.Renames object slot) = renamed_leaves p c object slot w
verdict_leaves w p c (verdicts.Destroys object last) = destroyed_leaves w p c object last
verdict_leaves w p c (verdicts.WakesAll cond) =
    done_leaves p Any (path_of c) c (sleepers w c.space cond) [] (sleepers_leave p Any w c.space cond)
verdict_leaves w p c (verdicts.Goes plan) = plan_leaves p c.words plan w
verdict_leaves w p c (verdicts.Tells plan news last) =
    tells_leaves p (planned plan) c (changes_by p c.words plan w) (news_by w p news) last (plan_leaves p c.words plan w)
verdict_leaves w p c (verdicts.Faults page write port) = refl
