-- Naming: which bodies the changes of deeds, plans and verdicts name.
use Rattle.std.proofs.Common.{◌≡◌, ◌||◌, ◌==◌, ℕ, Bool, true, false, List, [], ◌∷◌, ◌++◌, map, Option, Some, None, is_none, if◌then◌else◌, refl, sym, ap, ◌∙◌}
use Rattle.std.proofs.lemmas.Bool.{or_right}
use Rattle.fk_model.specs.declared.names.Who.{Who}
use Rattle.fk_model.specs.ObjectRows.{new_object}
use Rattle.fk_model.specs.Objects.{Mode, Thread}
use Rattle.fk_model.specs.Moves.{closed, with_pick}
use Rattle.fk_model.specs.Outcomes.{Caller, Outcome, Said, done, ended, listed, path_of, telling, when}
use Rattle.fk_model.specs.Outcomes.Outcome.{Goes, Refused, Waits}
use Rattle.fk_model.specs.Outcomes.Said.{Answered, Ended, Full, Given, Nothing, Passed, Taken, Words}
use Rattle.fk_model.specs.Objects.Mode.{Calling, Halted, Native, Running}
use Rattle.fk_model.specs.Places.{Path, same_path}
use Rattle.fk_model.specs.World.{World, Change, Edit, apply, apply_all}
use Rattle.fk_model.specs.World.Change.{Alter}
use Rattle.fk_model.specs.World.Edit.{End}
use Rattle.fk_store.specs.Store.Paths.{place}
use Rattle.fk_plans.specs.declared.plans.plan.Deed.{Deed}
use Rattle.fk_plans.specs.declared.plans.plan.Deed.TheVariants as deeds
use Rattle.fk_plans.specs.declared.plans.plan.Effect.{Effect}
use Rattle.fk_plans.specs.declared.plans.plan.Effect.TheVariants as effects
use Rattle.fk_plans.specs.Plans.Effects.{effect_by, in_running, of_running}
use Rattle.fk_plans.specs.declared.plans.plan.Plan.{Plan}
use Rattle.fk_plans.specs.declared.plans.plan.Plan.TheVariants as plans
use Rattle.fk_plans.specs.declared.plans.plan.Verdict.{Verdict}
use Rattle.fk_plans.specs.declared.plans.plan.Verdict.TheVariants as verdicts
use Rattle.fk_plans.specs.Plans.Plans.{after, change_by, changes_by, made}
use Rattle.fk_plans.specs.Plans.Verdicts.{news_by, outcome_by, tells}
use Rattle.fk_model.specs.Objects.{Body}
use Rattle.fk_model.specs.Records.{set_edits, takes_state}
use Rattle.fk_plans.specs.Plans.Recordings.{record_words}
use Rattle.fk_changes.specs.Records.Settings.{record_there, sets_at, sets_of}
use Rattle.fk_changes.specs.Threads.Answers.{all_four, listed as answers_of}
use Rattle.fk_model.specs.Reach.{words_at}
use Rattle.fk_model.specs.Searches.{thread_at}
use Rattle.laws_moves.specs.Machine.Frame.{name_body, names_body}
use Rattle.fk_plans.specs.declared.wakes.touching.Touched.TheVariants.{Few, Makes}
use Rattle.fk_plans.specs.Wakes.Touches.{changed_by, is_at, is_touched, judged, planned}

pub none_names : {X : Type 0} → false ≡ true → X
none_names e = absurd (cc)

-- a deed names the body of its object alone
pub deed_names : (p : ℕ → Path) (d : Deed) (w v : World) (x : Path) → names_body v (change_by p d w) x ≡ is_at p (changed_by d) x
deed_names p (deeds.Locks mutex locked) w v x = refl
deed_names p (deeds.Points object to) w v x = refl
deed_names p (deeds.Wakes thread mutex) w v x = refl
deed_names p (deeds.Sleeps thread cond mutex) w v x = refl
deed_names p (deeds.Sends block) w v x = refl
deed_names p (deeds.Records object to at) w v x = refl
deed_names p (deeds.Counts client count) w v x = refl
deed_names p (deeds.Shifts thread count) w v x = refl
deed_names p (deeds.Ends thread status) w v x = refl
deed_names p (deeds.Finishes thread came) w v x = refl
deed_names p (deeds.Passes client turn) w v x = refl
deed_names p (deeds.Unlinks client) w v x = refl
deed_names p (deeds.Links client talk) w v x = refl
deed_names p (deeds.Serves client peer) w v x = refl
deed_names p (deeds.Frees thread) w v x = refl
deed_names p (deeds.Raises thread fault) w v x = refl
deed_names p (deeds.Takes thread taker) w v x = refl
deed_names p (deeds.Holds space holder) w v x = refl
deed_names p (deeds.Stops thread stops) w v x = refl
deed_names p (deeds.Copies from to) w v x = refl
deed_names p (deeds.Drops space page) w v x = refl

or_none : (t : Bool) → (t || false) ≡ t
or_none true = refl
or_none false = refl

-- ---- plans

pub one_names : (p : ℕ → Path) (a : Deed) (w : World) (x : Path) → name_body w (change_by p a w ∷ []) x ≡ true →
    is_touched p (Few (changed_by a) None None) x ≡ true
one_names p a w x names = ap (λ (t : Bool). t || false) (sym (deed_names p a w w x)) ∙ names

pub two_names : (p : ℕ → Path) (a b : Deed) (w v : World) (x : Path) →
    name_body w (change_by p a w ∷ change_by p b v ∷ []) x ≡ true → is_touched p (Few (changed_by a) (changed_by b) None) x ≡ true
two_names p a b w v x names =
    (λ i. sym (deed_names p a w w x) i || (sym (deed_names p b v (apply (change_by p a w) w) x) i || false)) ∙ names

pub three_names : (p : ℕ → Path) (a b c : Deed) (w v u t : World) (n : Change) (x : Path) → names_body w n x ≡ false →
    name_body w (n ∷ change_by p a v ∷ change_by p b u ∷ change_by p c t ∷ []) x ≡ true →
    is_touched p (Few (changed_by a) (changed_by b) (changed_by c)) x ≡ true
three_names p a b c w v u t n x none names =
    let first = deed_names p a v (apply n w) x in
    let second = deed_names p b u (apply (change_by p a v) (apply n w)) x in
    let third = deed_names p c t (apply (change_by p b u) (apply (change_by p a v) (apply n w))) x in
    (λ i. sym none i || (sym first i || (sym second i || (sym (or_none (is_at p (changed_by c) x)) ∙ ap (λ (s : Bool). s || false) (sym third)) i))) ∙ names

pub three_listed : (p : ℕ → Path) (a b c : Deed) (w v u : World) (x : Path) →
    name_body w (change_by p a w ∷ change_by p b v ∷ change_by p c u ∷ []) x ≡ true →
    is_touched p (Few (changed_by a) (changed_by b) (changed_by c)) x ≡ true
three_listed p a b c w v u x names =
    let first = deed_names p a w w x in
    let second = deed_names p b v (apply (change_by p a w) w) x in
    let third = deed_names p c u (apply (change_by p b v) (apply (change_by p a w) w)) x in
    (λ i. sym first i || (sym second i || (sym (or_none (is_at p (changed_by c) x)) ∙ ap (λ (s : Bool). s || false) (sym third)) i)) ∙ names

-- what is made at a path names no other
record NamesOnly (w : World) (y x : Path) (o : Option Change) : Type 0 where
  only_it : name_body w (made o) x ≡ true → (same_path x y || false) ≡ true

either : (w : World) (y x : Path) (b : Bool) {o r : Option Change} → NamesOnly w y x o → NamesOnly w y x r → NamesOnly w y x (if b then o else r)
either w y x true one other = one
either w y x false one other = other

makes_only : (w : World) (y x : Path) (kind : ℕ) → NamesOnly w y x (new_object y kind)
makes_only w y x kind =
    either w y x (kind == 1) (record { only_it = λ n. n }) (either w y x (kind == 2) (record { only_it = λ n. n })
    (either w y x (kind == 3) (record { only_it = λ n. n }) (either w y x (kind == 4) (record { only_it = λ n. n })
    (either w y x (kind == 5) (record { only_it = λ n. n }) (either w y x (kind == 6) (record { only_it = λ n. n })
    (either w y x (kind == 7) (record { only_it = λ n. n }) (either w y x (kind == 8) (record { only_it = λ n. n })
    (either w y x (kind == 9) (record { only_it = λ n. n }) (record { only_it = λ n. none_names n })))))))))

pub made_names : (p : ℕ → Path) (object : Who) (kind : ℕ) (w : World) (x : Path) → name_body w (made (new_object (place p object) kind)) x ≡ true →
    is_touched p (Makes object) x ≡ true
made_names p object kind w x names = sym (or_none (same_path x (place p object))) ∙ (makes_only w (place p object) x kind).only_it names

-- ---- what comes before the caller's own part

name_append : (w : World) (cs ds : List Change) (x : Path) → name_body w (cs ++ ds) x ≡ (name_body w cs x || name_body (apply_all cs w) ds x)
unfolding apply_all
name_append w [] ds x = refl
name_append w (c ∷ cs) ds x = ap (λ (t : Bool). names_body w c x || t) (name_append (apply c w) cs ds x) ∙ before (names_body w c x) _ _
  where
    before : (a b c : Bool) → (a || (b || c)) ≡ ((a || b) || c)
    before true b c = refl
    before false b c = refl

own_last : (a b t : Bool) → (a ≡ true → t ≡ true) → (a || (b || false)) ≡ true → (b || t) ≡ true
own_last true true t more is_so = refl
own_last true false t more is_so = more refl
own_last false true t more is_so = refl
own_last false false t more is_so = none_names is_so

-- the changes of a plan, and then the caller's own
module _ (w : World) (c : Caller) (cs : List Change) (x : Path) (t : Bool) (plan : name_body w cs x ≡ true → t ≡ true) where
  only : name_body w cs x ≡ true → (same_path x (path_of c) || t) ≡ true
  only names = or_right (same_path x (path_of c)) t (plan names)

  and_own : (e : Edit) → name_body w (cs ++ Alter (path_of c) e ∷ []) x ≡ true → (same_path x (path_of c) || t) ≡ true
  and_own e names =
      own_last (name_body w cs x) (same_path x (path_of c)) t plan (sym (name_append w cs (Alter (path_of c) e ∷ []) x) ∙ names)

  pub done_names : (answers : List ℕ) → name_body w (listed (done c cs answers)) x ≡ true → (same_path x (path_of c) || t) ≡ true
  done_names answers names = by c.is_porter refl names
    where
      by : (b : Bool) → c.is_porter ≡ b → name_body w (listed (done c cs answers)) x ≡ true → (same_path x (path_of c) || t) ≡ true
      by true e is = only (rw e at is)
      by false e is = and_own _ (rw e at is)

  pub ended_names : (answers : List ℕ) → name_body w (listed (ended c cs answers)) x ≡ true → (same_path x (path_of c) || t) ≡ true
  ended_names answers names = by c.is_porter refl names
    where
      by : (b : Bool) → c.is_porter ≡ b → name_body w (listed (ended c cs answers)) x ≡ true → (same_path x (path_of c) || t) ≡ true
      by true e is = only (rw e at is)
      by false e is = and_own _ (rw e at is)

  pub goes_names : name_body w cs x ≡ true → (same_path x (path_of c) || t) ≡ true
  goes_names names = only names

pub told_listed : (said : Said) (o : Outcome) → listed (telling said o) ≡ listed o
told_listed said (Refused status) = refl
told_listed said Waits = refl
told_listed said (Goes changes Nothing) = refl
told_listed said (Goes changes (Answered status words)) = refl
told_listed said (Goes changes (Taken port client resumed turn moved)) = refl
told_listed said (Goes changes (Words port words)) = refl
told_listed said (Goes changes (Given port count)) = refl
told_listed said (Goes changes (Full port)) = refl
told_listed said (Goes changes (Passed port)) = refl
told_listed said (Goes changes (Ended port)) = refl

-- what is told besides changes nothing
pub told_names : (w : World) (x : Path) (said : Said) (o : Outcome) → name_body w (listed (telling said o)) x ≡ true → name_body w (listed o) x ≡ true
told_names w x said o names = ap (λ (cs : List Change). name_body w cs x) (sym (told_listed said o)) ∙ names

-- the changes of a plan, a server told besides, and then the caller's own
pub tells_names : (w : World) (c : Caller) (cs : List Change) (x : Path) (t : Bool) → (name_body w cs x ≡ true → t ≡ true) → (said : Said) (last : Bool) →
    name_body w (listed (tells c cs said last)) x ≡ true → (same_path x (path_of c) || t) ≡ true
tells_names w c cs x t plan said true names = done_names w c cs x t plan [] (told_names w x said (done c cs []) names)
tells_names w c cs x t plan said false names = goes_names w c cs x t plan names

pub all_named : (a : Bool) → (a || true) ≡ true
all_named true = refl
all_named false = refl

-- ---- an instruction

runs_names : (w : World) (p : ℕ → Path) (me : Path) (e : Effect) (g : List ℕ) (counter : ℕ) (x : Path) →
    name_body w (listed (effect_by w p me e g counter)) x ≡ true → (same_path x me || false) ≡ true
runs_names w p me (effects.Puts register value) g counter x names = names
runs_names w p me (effects.Jumps to) g counter x names = names
runs_names w p me (effects.Halts code) g counter x names = names
runs_names w p me effects.Enters g counter x names = names
runs_names w p me (effects.Stores space page at value) g counter x names = names

pub run_names : (w v : World) (p : ℕ → Path) (me : Path) (e : Effect) (o : Option Thread) (x : Path) →
    name_body w (listed (of_running (effect_by w p me e) o)) x ≡ true → (same_path x me || false) ≡ true
run_names w v p me e None x names = none_names names
run_names w v p me e (Some t) x names = by t.mode names
  where
    by : (m : Mode) → name_body w (listed (in_running (effect_by w p me e) t.counter m)) x ≡ true → (same_path x me || false) ≡ true
    by (Running g) is = runs_names w p me e g t.counter x is
    by (Calling todo rest) is = none_names is
    by (Halted g code) is = none_names is
    by (Native g) is = none_names is

-- ---- a refused call is closed, and nobody is picked where nobody may be

more_named : (b t : Bool) → (b || false) ≡ true → (b || t) ≡ true
more_named true t is = refl
more_named false t is = none_names is

module _ (w : World) (c : Caller) (x : Path) (t : Bool) where
  refused_names : (status : ℕ) (porter : Bool) →
      name_body w (listed (if porter then Goes [] (Answered status []) else Goes (Alter (path_of c) (End status []) ∷ []) Nothing)) x ≡ true →
      (same_path x (path_of c) || t) ≡ true
  refused_names status true names = none_names names
  refused_names status false names = more_named (same_path x (path_of c)) t names

  unpicked_names : (status : ℕ) (free : Bool) → name_body w (listed (closed c (when free (Refused status)))) x ≡ true → (same_path x (path_of c) || t) ≡ true
  unpicked_names status true names = refused_names status c.is_porter names
  unpicked_names status false names = none_names names

  picked_names : (cs : List Change) (said : Said) (free : Bool) → (name_body w cs x ≡ true → (same_path x (path_of c) || t) ≡ true) →
      name_body w (listed (closed c (when free (Goes cs said)))) x ≡ true → (same_path x (path_of c) || t) ≡ true
  picked_names cs said true plan names = plan names
  picked_names cs said false plan names = none_names names

  pub closed_names : (chosen : Bool) (pick : Option Path) (o : Outcome) → (name_body w (listed o) x ≡ true → (same_path x (path_of c) || t) ≡ true) →
      name_body w (listed (closed c (with_pick chosen pick o))) x ≡ true → (same_path x (path_of c) || t) ≡ true
  closed_names chosen pick (Refused status) plan names = unpicked_names status (is_none pick) names
  closed_names chosen pick Waits plan names = none_names names
  closed_names chosen pick (Goes cs said) plan names = picked_names cs said (chosen || is_none pick) plan names

-- ---- a record is set

edit_name : (a b : Bool) → (a || b) ≡ true → (b ≡ true → (a || false) ≡ true) → (a || false) ≡ true
edit_name true b names more = refl
edit_name false b names more = more names

edits_name : (w : World) (y x : Path) (es : List Edit) → name_body w (map (Alter y) es) x ≡ true → (same_path x y || false) ≡ true
edits_name w y x [] names = none_names names
edits_name w y x (e ∷ es) names =
    edit_name (same_path x y) (name_body (apply (Alter y e) w) (map (Alter y) es) x) names (λ rest. edits_name (apply (Alter y e) w) y x es rest)

taken_name : (w : World) (y x : Path) (es : List Edit) (takes : Bool) → name_body w (if takes then map (Alter y) es else []) x ≡ true →
    (same_path x y || false) ≡ true
taken_name w y x es true names = edits_name w y x es names
taken_name w y x es false names = none_names names

sets_name : (w v : World) (space y x : Path) (words : List ℕ) (o : Option Body) → name_body w (sets_of v space y words o) x ≡ true →
    (same_path x y || false) ≡ true
sets_name w v space y x words None names = none_names names
sets_name w v space y x words (Some b) names = taken_name w y x (set_edits b words) (takes_state v space b words) names

-- ---- plans and verdicts

pub plan_names : (p : ℕ → Path) (given : List ℕ) (plan : Plan) (w : World) (x : Path) → name_body w (changes_by p given plan w) x ≡ true →
    is_touched p (planned plan) x ≡ true
plan_names p given plans.Nothing w x names = none_names names
plan_names p given (plans.One a) w x names = one_names p a w x names
plan_names p given (plans.Two a b) w x names = two_names p a b w (after p a w) x names
plan_names p given (plans.Moves block client receiver sender) w x names =
    let sent = after p (deeds.Sends block) w in
    let counted = after p (deeds.Counts client block.count) sent in
    three_names p (deeds.Counts client block.count) (deeds.Shifts receiver block.count) (deeds.Shifts sender block.count) w sent counted
    (after p (deeds.Shifts receiver block.count) counted) (change_by p (deeds.Sends block) w) x refl names
plan_names p given (plans.HandsOver reference to receiver client turn) w x names =
    let filled = after p (deeds.Points reference to) w in
    three_listed p (deeds.Points reference to) (deeds.Finishes receiver (Some true)) (deeds.Passes client turn) w filled
    (after p (deeds.Finishes receiver (Some true)) filled) x names
plan_names p given (plans.Makes object kind) w x names = made_names p object kind w x names
plan_names p given (plans.MakesHeld object holder) w x names = sym (or_none (same_path x (place p object))) ∙ names
plan_names p given (plans.Gives space page source) w x names = none_names names

pub verdict_names : (w : World) (p : ℕ → Path) (c : Caller) (v : Verdict) (x : Path) → name_body w (listed (outcome_by w p c v)) x ≡ true →
    (same_path x (path_of c) || is_touched p (judged v) x) ≡ true
verdict_names w p c (verdicts.Runs e) x names = run_names w w p (path_of c) e (thread_at w (path_of c)) x names
verdict_names w p c (verdicts.Refused status) x names = none_names names
verdict_names w p c verdicts.Waits x names = none_names names
verdict_names w p c (verdicts.Done plan answers) x names =
    done_names w c (changes_by p c.words plan w) x (is_touched p (planned plan) x) (plan_names p c.words plan w x) (answers_of answers) names
verdict_names w p c (verdicts.Ends plan answers) x names =
    ended_names w c (changes_by p c.words plan w) x (is_touched p (planned plan) x) (plan_names p c.words plan w x) (all_four answers) names
verdict_names w p c (verdicts.Shows plan space page) x names =
    done_names w c (changes_by p c.words plan w) x (is_touched p (planned plan) x) (plan_names p c.words plan w x) (words_at w (p space) page) names
verdict_names w p c (verdicts.ShowsRecord object) x names =
    done_names w c [] x (is_touched p (Few None None None) x) (λ n. none_names n) (record_there (w.body (place p object))) names
verdict_names w p c (verdicts.Sets object from) x names =
    let y = place p object in
    let words = record_words p c.words from w in
    done_names w c (sets_at w (p object.space) y words) x (is_touched p (Few (Some object) None None) x)
    (λ n. sets_name w w (p object.space) y x words (w.body y) n) [] names
verdict_names w p c (verdicts.Renames object slot) x names = all_named (same_path x (path_of c))
verdict_names w p c (verdicts.Destroys object last) x names = all_named (same_path x (path_of c))
verdict_names w p c (verdicts.WakesAll cond) x names = all_named (same_path x (path_of c))
verdict_names w p c (verdicts.Goes plan) x names =
    goes_names w c (changes_by p c.words plan w) x (is_touched p (planned plan) x) (plan_names p c.words plan w x) names
verdict_names w p c (verdicts.Tells plan news last) x names =
    tells_names w c (changes_by p c.words plan w) x (is_touched p (planned plan) x) (plan_names p c.words plan w x) (news_by w p news) last names
verdict_names w p c (verdicts.Faults page write port) x names = names
