-- Verdicts: whose native server loses its client by a verdict.
use Rattle.std.proofs.Common.{◌≡◌, ℕ, ◌≤◌, Bool, true, false, cond, if◌then◌else◌, ◌&&◌, ◌==◌, ◌∷◌, List, [], ◌++◌, map, flat_map, Option, Some, None}
use Rattle.std.proofs.Common.{option_map, is_some, IsSome, refl, sym, ap, subst, ◌∙◌}
use Rattle.fk_model.specs.declared.thread.Peer as peers_of
use Rattle.fk_model.specs.declared.thread.Peer.TheVariants as peers
use Rattle.fk_model.specs.LinkRows.{end_all}
use Rattle.fk_model.specs.Moves.{closed, stepped}
use Rattle.fk_model.specs.ObjectRows.{ends_with, kills, new_object, told_with}
use Rattle.fk_model.specs.Objects.{Mode, Peer, Talk, Thread, Body, and_then}
use Rattle.fk_model.specs.Objects.Body.{Mutex, Cond, Mapping, Region, Port, Portset, Space, Thread_of, Reference}
use Rattle.fk_model.specs.Objects.Mode.{Running, Calling, Halted, Native}
use Rattle.fk_model.specs.Objects.Peer.{Server, Service, Parked}
use Rattle.fk_model.specs.Outcomes as outcomes
use Rattle.fk_model.specs.Outcomes.{Said, Outcome, done_at, done, ended, stays, telling}
use Rattle.fk_model.specs.Outcomes.Outcome.{Refused, Waits, Goes}
use Rattle.fk_model.specs.Outcomes.Said.{Nothing, Answered}
use Rattle.fk_model.specs.Places.{Path, same_path, parent, Ptr}
use Rattle.fk_model.specs.Places.Ptr.{At}
use Rattle.fk_model.specs.Readers.{fault_on}
use Rattle.fk_model.specs.Records.{set_edits, takes_state}
use Rattle.fk_model.specs.Searches.{depth, is_service, slots, thread_at}
use Rattle.fk_model.specs.SyncRows.{asleep_on, sleepers, woken}
use Rattle.fk_model.specs.Talks.{path_to}
use Rattle.fk_model.specs.Valid.{IsValid, kind_there}
use Rattle.fk_model.specs.World.{World, Change, Edit, apply, apply_all, edited}
use Rattle.fk_model.specs.World.Change.{Alter, Make, MakeSpace, Kill, Move, PutPage}
use Rattle.fk_model.specs.World.Edit.{Finish, End, SetTalk, SetPeer}
use Rattle.fk_model.specs.declared.statuses.status.TheConstants.{OK, ENDED}
use Rattle.fk_model.specs.declared.limits.TheConstants.{SLOTS}
use Rattle.fk_model.proofs.walks.PlaceLaws.{same_path_refl}
use Rattle.fk_model.proofs.walks.WalkLaws.{live-kind}
use Rattle.fk_changes.specs.Deaths.Told.{told_at}
use Rattle.fk_changes.specs.declared.readers.caller.Caller.{Caller}
use Rattle.fk_changes.specs.Records.Settings.{record_there, sets_of}
use Rattle.fk_store.specs.Store.Bodies.{peer_by, talk_by}
use Rattle.fk_store.specs.Store.Contents.{Contents}
use Rattle.fk_store.specs.Store.Paths.{path, place}
use Rattle.fk_store.specs.Store.World.{world}
use Rattle.fk_plans.specs.declared.plans.plan.Deed.{Deed}
use Rattle.fk_plans.specs.declared.plans.plan.Deed.TheVariants as deeds
use Rattle.fk_plans.specs.declared.plans.plan.Effect.{Effect}
use Rattle.fk_plans.specs.declared.plans.plan.Effect.TheVariants as effects
use Rattle.fk_plans.specs.declared.plans.plan.Plan.{Plan}
use Rattle.fk_plans.specs.declared.plans.plan.Plan.TheVariants as plans
use Rattle.fk_plans.specs.declared.plans.plan.Verdict.{Verdict}
use Rattle.fk_plans.specs.declared.plans.plan.Verdict.TheVariants as verdicts
use Rattle.fk_plans.specs.Plans.Destroys.{destroyed}
use Rattle.fk_plans.specs.Plans.Effects.{effect_by, in_running, of_running}
use Rattle.fk_plans.specs.Plans.Plans.{after, caller_by, change_by, changes_by, made, moves_talk, IsPlan}
use Rattle.fk_plans.specs.Plans.Recordings.{record_words}
use Rattle.fk_plans.specs.Plans.Verdicts.{outcome_by, tells, IsVerdict}
use Rattle.fk_plans.specs.Endings.Clients.{lost, HasClient, IsEnding, native_at, native_in, native_port}
use Rattle.fk_plans.specs.Endings.Endings.{left_by, left_by_plan, lost_to, IsLeft}
use Rattle.fk_plans.proofs.InEndings.Changes.{AreAlone, AreQuiet, AreSame, all-same, apply-append, is_quiet, one-client, quiet-same, same-ending, same-then}
use Rattle.fk_plans.proofs.InEndings.Changes.{seat-ending, then-same}
use Rattle.fk_plans.proofs.InEndings.Deaths.{death-ending, make-ending, make_space-ending, move-ending}

-- ---- deeds

none-lost : (o : Option Path) → lost o None ≡ o
none-lost None = refl
none-lost (Some port) = refl

itself-lost : (o : Option Path) → lost o o ≡ None
itself-lost None = refl
itself-lost (Some port) = rw (same_path_refl port) refl

-- a talk that ends
unlinked : (b : Option Body) → native_in (option_map (edited (SetTalk None)) b) ≡ None
unfolding edited
unlinked None = refl
unlinked (Some b) = by b
  where
    by : (b : Body) → native_in (Some (edited (SetTalk None) b)) ≡ None
    by (Thread_of t) = refl
    by b = refl

-- one that begins
linked : (b : Option Body) (talk : Talk) → lost (native_in b) (native_in (option_map (edited (SetTalk (Some talk))) b)) ≡ lost (native_in b) (native_port talk)
unfolding edited
linked None talk = refl
linked (Some b) talk = by b
  where
    by : (b : Body) → lost (native_in (Some b)) (native_in (Some (edited (SetTalk (Some talk)) b))) ≡ lost (native_in (Some b)) (native_port talk)
    by (Thread_of t) = refl
    by b = refl

-- one that gets another peer
served : (p : ℕ → Path) (b : Option Body) (peer : peers_of.Peer) →
    lost (native_in b) (native_in (option_map (edited (SetPeer (peer_by p peer))) b)) ≡ lost_to (native_in b) peer
unfolding edited
served p None (peers.Thread server) = refl
served p None peers.Service = refl
served p None peers.Parked = refl
served p (Some b) peer = by b peer
  where
    same : (o : Option Path) (peer : peers_of.Peer) → lost o (cond {A = Option Path} (is_service (peer_by p peer)) o None) ≡ lost_to o peer
    same o (peers.Thread server) = none-lost o
    same o peers.Service = itself-lost o
    same o peers.Parked = none-lost o

    nothing : (o : Option Path) (peer : peers_of.Peer) → lost None o ≡ lost_to None peer
    nothing o (peers.Thread server) = refl
    nothing o peers.Service = refl
    nothing o peers.Parked = refl

    old : (peer : peers_of.Peer) (was : Peer) (port : Ptr) →
        lost (cond {A = Option Path} (is_service was) (path_to port) None) (cond {A = Option Path} (is_service (peer_by p peer)) (path_to port) None)
        ≡ lost_to (cond {A = Option Path} (is_service was) (path_to port) None) peer
    old peer Service port = same (path_to port) peer
    old peer (Server thread) port = nothing (cond {A = Option Path} (is_service (peer_by p peer)) (path_to port) None) peer
    old peer Parked port = nothing (cond {A = Option Path} (is_service (peer_by p peer)) (path_to port) None) peer

    talks : (peer : peers_of.Peer) (o : Option Talk) →
        lost (and_then native_port o) (and_then native_port (option_map (λ (talk : Talk). record talk { peer = peer_by p peer }) o))
        ≡ lost_to (and_then native_port o) peer
    talks peer None = nothing None peer
    talks peer (Some talk) = old peer talk.peer talk.port

    by : (b : Body) (peer : peers_of.Peer) → lost (native_in (Some b)) (native_in (Some (edited (SetPeer (peer_by p peer)) b)))
        ≡ lost_to (native_in (Some b)) peer
    by (Thread_of t) peer = talks peer t.talk
    by b peer = nothing None peer

quiet-deed : (p : ℕ → Path) (d : Deed) (v : World) → moves_talk d ≡ false → is_quiet (change_by p d v) ≡ true
quiet-deed p (deeds.Unlinks client) v quiet = absurd (cc)
quiet-deed p (deeds.Links client talk) v quiet = absurd (cc)
quiet-deed p (deeds.Serves client peer) v quiet = absurd (cc)
quiet-deed p other v quiet = refl

module _ (w v : World) (p : ℕ → Path) (alone : AreAlone w) (same : AreSame w v) where
  alone_there : AreAlone v
  alone_there x y port h g = alone x y port (sym (same x) ∙ h) (sym (same y) ∙ g)

  away : (x : Path) (e : Edit) (q : Path) → same_path q x ≡ false → native_at (apply (Alter x e) v) q ≡ native_at v q
  unfolding apply
  away x e q off = rw off refl

  altered : (x : Path) (e : Edit) → native_at (apply (Alter x e) v) x ≡ native_in (option_map (edited e) (v.body x))
  unfolding apply
  altered x e = rw (same_path_refl x) refl

  seat : (x : Path) (e : Edit) (o : Option Path) → lost (native_at v x) (native_in (option_map (edited e) (v.body x))) ≡ o → IsEnding v (apply (Alter x e) v) o
  seat x e o is = subst (IsEnding v (apply (Alter x e) v)) (ap (lost (native_at v x)) (altered x e) ∙ is)
      (seat-ending v (apply (Alter x e) v) x alone_there (away x e))

  deed-ending : (d : Deed) → IsEnding v (apply (change_by p d v) v) (left_by w p d)
  deed-ending (deeds.Unlinks client) = seat (place p client) (SetTalk None) _
      (ap (lost (native_at v (place p client))) (unlinked (v.body (place p client))) ∙ none-lost _ ∙ same (place p client))
  deed-ending (deeds.Links client talk) = seat (place p client) (SetTalk (Some (talk_by p talk))) _
      (linked (v.body (place p client)) (talk_by p talk) ∙ ap (λ o. lost o (native_port (talk_by p talk))) (same (place p client)))
  deed-ending (deeds.Serves client peer) = seat (place p client) (SetPeer (peer_by p peer)) _
      (served p (v.body (place p client)) peer ∙ ap (λ o. lost_to o peer) (same (place p client)))
  deed-ending other = same-ending v _ (quiet-same v (change_by p other v) refl)

-- ---- plans

IsNewAt : World → Option Change → Type 0
IsNewAt w None = Unit {0}
IsNewAt w (Some change) = IsEnding w (apply change w) None

pick_new : (w : World) (t : Bool) (change : Change) (rest : Option Change) → IsNewAt w (Some change) → IsNewAt w rest →
    IsNewAt w (if t then Some change else rest)
pick_new w true change rest here others = here
pick_new w false change rest here others = others

new-object : (w : World) (x : Path) (kind : ℕ) → w.body x ≡ None → IsNewAt w (new_object x kind)
unfolding IsNewAt
new-object w x kind empty =
    pick_new w (kind == 1) _ _ (make-ending w x empty _) (pick_new w (kind == 2) _ _ (make-ending w x empty _)
    (pick_new w (kind == 3) _ _ (make-ending w x empty _) (pick_new w (kind == 4) _ _ (make-ending w x empty _)
    (pick_new w (kind == 5) _ _ (make-ending w x empty _) (pick_new w (kind == 6) _ _ (make-ending w x empty _)
    (pick_new w (kind == 7) _ _ (make_space-ending w x empty _) (pick_new w (kind == 8) _ _ (make-ending w x empty _)
    (pick_new w (kind == 9) _ None (make-ending w x empty _) tt))))))))

if_made : (w : World) (o : Option Change) → IsNewAt w o → IsEnding w (apply_all (made o) w) None
unfolding IsNewAt apply_all
if_made w None ends = λ p has. has
if_made w (Some change) ends = ends

plan-ending : (w : World) (p : ℕ → Path) (given : List ℕ) → AreAlone w → (plan : Plan) → IsPlan p w plan →
    IsEnding w (apply_all (changes_by p given plan w) w) (left_by_plan w p plan)
unfolding apply_all
plan-ending w p given alone plans.Nothing fits = λ q has. has
plan-ending w p given alone (plans.One a) fits = deed-ending w w p alone (λ q. refl) a
plan-ending w p given alone (plans.Two a b) fits = by (moves_talk a) refl (moves_talk b) refl fits.2
  where
    v : World
    v = after p a w

    u : World
    u = apply (change_by p b (after p a w)) (after p a w)

    by : (s : Bool) → moves_talk a ≡ s → (t : Bool) → moves_talk b ≡ t → (s && t) ≡ false → IsEnding w u (if s then left_by w p a else left_by w p b)
    by true e true f both = absurd (cc)
    by true e false f both =
        then-same w (after p a w) _ (left_by w p a) (deed-ending w w p alone (λ q. refl) a) (quiet-same (after p a w) _ (quiet-deed p b (after p a w) f))
    by false e t f both =
        let same = quiet-same w (change_by p a w) (quiet-deed p a w e) in
        same-then w (after p a w) _ (left_by w p b) same (deed-ending w (after p a w) p alone same b)
plan-ending w p given alone (plans.Moves block client receiver sender) fits =
    same-ending w _ (all-same w (changes_by p given (plans.Moves block client receiver sender) w) (refl, (refl, (refl, (refl, tt)))))
plan-ending w p given alone (plans.HandsOver reference to receiver client turn) fits =
    same-ending w _ (all-same w (changes_by p given (plans.HandsOver reference to receiver client turn) w) (refl, (refl, (refl, tt))))
plan-ending w p given alone (plans.Makes object kind) fits = if_made w (new_object (place p object) kind) (new-object w (place p object) kind fits.1)
plan-ending w p given alone (plans.MakesHeld object holder) fits = make_space-ending w (place p object) fits.1 _
plan-ending w p given alone (plans.Gives space page source) fits =
    same-ending w _ (all-same w (changes_by p given (plans.Gives space page source) w) (refl, tt))

-- ---- what else a verdict changes

quiet-append : (cs ds : List Change) → AreQuiet cs → AreQuiet ds → AreQuiet (cs ++ ds)
quiet-append [] ds first later = later
quiet-append (c ∷ cs) ds first later = (first.0, quiet-append cs ds first.1 later)

quiet-ends : (ends : List Path) → AreQuiet (end_all ends)
quiet-ends [] = tt
quiet-ends (x ∷ ends) = (refl, quiet-ends ends)

quiet-woken : (x : Path) (m : Option ℕ) → AreQuiet (woken x m)
quiet-woken x None = tt
quiet-woken x (Some m) = (refl, tt)

quiet-slept : (w : World) (s : Path) (c : ℕ) (ks : List ℕ) → AreQuiet (flat_map (λ k. woken (k ∷ s) (asleep_on c (w.body (k ∷ s)))) ks)
quiet-slept w s c [] = tt
quiet-slept w s c (k ∷ ks) = quiet-append (woken (k ∷ s) (asleep_on c (w.body (k ∷ s)))) _ (quiet-woken (k ∷ s) _) (quiet-slept w s c ks)

quiet-sleepers : (w : World) (s : Path) (c : ℕ) → AreQuiet (sleepers w s c)
unfolding sleepers
quiet-sleepers w s c = quiet-slept w s c (slots SLOTS)

quiet-set : (x : Path) (b : Body) (words : List ℕ) → AreQuiet (map (Alter x) (set_edits b words))
quiet-set x (Mutex locked) words = (refl, tt)
quiet-set x Cond words = tt
quiet-set x (Mapping window) words = (refl, tt)
quiet-set x (Region extent) words = (refl, tt)
quiet-set x (Port set served) words = (refl, tt)
quiet-set x Portset words = tt
quiet-set x (Space birth holder) words = tt
quiet-set x (Thread_of t) words = (refl, (refl, tt))
quiet-set x (Reference to) words = tt

quiet-sets : (w : World) (s x : Path) (words : List ℕ) (b : Option Body) → AreQuiet (sets_of w s x words b)
quiet-sets w s x words None = tt
quiet-sets w s x words (Some b) = by (takes_state w s b words)
  where
    by : (t : Bool) → AreQuiet (cond {A = List Change} t (map (Alter x) (set_edits b words)) [])
    by true = quiet-set x b words
    by false = tt

-- ---- outcomes

abbrev Leaves : World → Outcome → Option Path → Type 0
Leaves w o port = IsEnding w (stepped w o).world port

quiet-all : (w : World) (cs : List Change) → AreQuiet cs → IsEnding w (apply_all cs w) None
quiet-all w cs quiet = same-ending w _ (all-same w cs quiet)

then-quiet : (w : World) (cs ds : List Change) (port : Option Path) → IsEnding w (apply_all cs w) port → AreQuiet ds →
    IsEnding w (apply_all (cs ++ ds) w) port
then-quiet w cs ds port ends quiet =
    subst (λ v. IsEnding w v port) (sym (apply-append cs ds w)) (then-same w (apply_all cs w) _ port ends (all-same (apply_all cs w) ds quiet))

module _ (w : World) (c : outcomes.Caller) where
  leaves-done_at : (me : Path) (cs : List Change) (answers : List ℕ) (port : Option Path) → IsEnding w (apply_all cs w) port →
      Leaves w (closed c (done_at me c cs answers)) port
  leaves-done_at me cs answers port ends = by c.is_porter
    where
      by : (b : Bool) →
          Leaves w (closed c (cond {A = Outcome} b (Goes cs (Answered OK answers)) (Goes (cs ++ Alter me (Finish answers) ∷ []) Nothing))) port
      by true = ends
      by false = then-quiet w cs (Alter me (Finish answers) ∷ []) port ends (refl, tt)

  leaves-ended : (cs : List Change) (answers : List ℕ) (port : Option Path) → IsEnding w (apply_all cs w) port →
      Leaves w (closed c (ended c cs answers)) port
  leaves-ended cs answers port ends = by c.is_porter
    where
      by : (b : Bool) → Leaves w (closed c (cond {A = Outcome} b (Goes cs (Answered OK answers))
          (Goes (cs ++ Alter (outcomes.path_of c) (End OK answers) ∷ []) Nothing))) port
      by true = ends
      by false = then-quiet w cs (Alter (outcomes.path_of c) (End OK answers) ∷ []) port ends (refl, tt)

  -- whatever is told
  leaves-telling : (said : Said) (o : Outcome) (port : Option Path) → Leaves w (closed c o) port → Leaves w (closed c (telling said o)) port
  leaves-telling said (Goes cs Nothing) port ends = ends
  leaves-telling said (Goes cs other) port ends = ends
  leaves-telling said (Refused status) port ends = ends
  leaves-telling said Waits port ends = ends

  leaves-stays : (cs : List Change) (port : Option Path) → IsEnding w (apply_all cs w) port → Leaves w (closed c (stays c cs)) port
  leaves-stays cs port ends = ends

  leaves-tells : (cs : List Change) (said : Said) (last : Bool) (port : Option Path) → IsEnding w (apply_all cs w) port →
      Leaves w (closed c (tells c cs said last)) port
  leaves-tells cs said true port ends =
      leaves-telling said (done c cs []) port (leaves-done_at (outcomes.path_of c) cs [] port ends)
  leaves-tells cs said false port ends = ends

  leaves-refused : (status : ℕ) → Leaves w (closed c (Refused status)) None
  unfolding apply_all
  leaves-refused status = by c.is_porter
    where
      by : (b : Bool) → Leaves w (cond {A = Outcome} b (Goes [] (Answered status [])) (Goes (Alter (outcomes.path_of c) (End status []) ∷ []) Nothing)) None
      by true = λ p has. has
      by false = quiet-all w (Alter (outcomes.path_of c) (End status []) ∷ []) (refl, tt)

  leaves-destroyed : (x : Path) (last : Bool) (port : Option Path) → IsEnding w (apply_all (kills w x) w) port →
      Leaves w (closed c (destroyed w c x last)) port
  leaves-destroyed x last port ends = leaves-telling (told_with w x (w.body x)) _ port (by last)
    where
      by : (last : Bool) → Leaves w (closed c (cond {A = Outcome} last (done c (kills w x) []) (stays c (kills w x)))) port
      by true = leaves-done_at (outcomes.path_of c) (kills w x) [] port ends
      by false = leaves-stays (kills w x) port ends

  leaves-effect : (p : ℕ → Path) (me : Path) (e : Effect) (o : Option Thread) → Leaves w (closed c (of_running (effect_by w p me e) o)) None
  leaves-effect p me e None = λ q has. has
  leaves-effect p me e (Some t) = in_mode t.mode
    where
      by : (e : Effect) (g : List ℕ) → Leaves w (closed c (effect_by w p me e g t.counter)) None
      by (effects.Puts register value) g = quiet-all w (_ ∷ []) (refl, tt)
      by (effects.Jumps to) g = quiet-all w (_ ∷ []) (refl, tt)
      by (effects.Halts code) g = quiet-all w (_ ∷ []) (refl, tt)
      by effects.Enters g = quiet-all w (_ ∷ []) (refl, tt)
      by (effects.Stores space page at value) g = quiet-all w (_ ∷ _ ∷ []) (refl, (refl, tt))

      in_mode : (m : Mode) → Leaves w (closed c (in_running (effect_by w p me e) t.counter m)) None
      in_mode (Running g) = by e g
      in_mode (Calling todo rest) = λ q has. has
      in_mode (Halted g code) = λ q has. has
      in_mode (Native g) = λ q has. has

-- ---- verdicts

module _ (m : Contents) (caller : Caller) (words : List ℕ) (valid : IsValid (world m)) (few : (world m).next ≤ depth) where
  abbrev w : World
  w = world m

  abbrev p : ℕ → Path
  p = path m

  abbrev c : outcomes.Caller
  c = caller_by (path m) caller words

  alone : AreAlone w
  alone = one-client w valid.consistent

  by_plan : (plan : Plan) (port : Option Path) → IsPlan p w plan → port ≡ left_by_plan w p plan → IsEnding w (apply_all (changes_by p words plan w) w) port
  by_plan plan port fits is = subst (IsEnding w (apply_all (changes_by p words plan w) w)) (sym is) (plan-ending w p words alone plan fits)

  there : (x : Path) → IsSome (kind_there w x) → IsSome (w.body x)
  there x live = sym (live-kind w x) ∙ live

  none : (v : Verdict) (port : Option Path) → port ≡ None → Leaves w (closed c (outcome_by w p c v)) None → Leaves w (closed c (outcome_by w p c v)) port
  none v port is ends = subst (Leaves w (closed c (outcome_by w p c v))) (sym is) ends

  killed : (x : Path) (port : Option Path) → told_with w x (w.body x) ≡ told_at port → IsEnding w (apply_all (kills w x) w) port
  unfolding apply_all
  killed x port told = then-same w (apply (Kill x) w) _ port (death-ending w x valid.consistent valid.rooted few port told)
      (all-same (apply (Kill x) w) (end_all (ends_with w x (w.body x))) (quiet-ends (ends_with w x (w.body x))))

  pub verdict-ending : (v : Verdict) (port : Option Path) → IsVerdict m caller v → IsLeft w p v port → Leaves w (closed c (outcome_by w p c v)) port
  unfolding apply_all
  verdict-ending (verdicts.Runs e) port fits is = none (verdicts.Runs e) port is (leaves-effect w c p (outcomes.path_of c) e (thread_at w (outcomes.path_of c)))
  verdict-ending (verdicts.Refused status) port fits is = none (verdicts.Refused status) port is (leaves-refused w c status)
  verdict-ending verdicts.Waits port fits is = none verdicts.Waits port is (λ q has. has)
  verdict-ending (verdicts.Done plan answers) port fits is = leaves-done_at w c (outcomes.path_of c) _ _ port (by_plan plan port fits.0.1 is)
  verdict-ending (verdicts.Ends plan answers) port fits is = leaves-ended w c _ _ port (by_plan plan port fits.1 is)
  verdict-ending (verdicts.Shows plan space page) port fits is = leaves-done_at w c (outcomes.path_of c) _ _ port (by_plan plan port fits.2.1 is)
  verdict-ending (verdicts.ShowsRecord object) port fits is =
      none (verdicts.ShowsRecord object) port is (leaves-done_at w c (outcomes.path_of c) [] (record_there (w.body (place p object))) None (λ q has. has))
  verdict-ending (verdicts.Sets object from) port fits is =
      let x = place p object in
      let set = record_words p words from w in
      none (verdicts.Sets object from) port is (leaves-done_at w c (outcomes.path_of c) (sets_of w (p object.space) x set (w.body x)) [] None
      (quiet-all w (sets_of w (p object.space) x set (w.body x)) (quiet-sets w (p object.space) x set (w.body x))))
  verdict-ending (verdicts.Renames object slot) port fits is = leaves-done_at w c _ (Move (place p object) slot ∷ []) [] port
      (subst (IsEnding w (apply (Move (place p object) slot) w)) (sym is)
      (move-ending w (place p object) slot (there (place p object) fits.0) fits.2 _ refl valid.consistent valid.rooted few))
  verdict-ending (verdicts.Destroys object last) port fits is = leaves-destroyed w c (place p object) last port (killed (place p object) port is)
  verdict-ending (verdicts.WakesAll cond) port fits is =
      none (verdicts.WakesAll cond) port is (leaves-done_at w c (outcomes.path_of c) (sleepers w c.space cond) [] None
      (quiet-all w (sleepers w c.space cond) (quiet-sleepers w c.space cond)))
  verdict-ending (verdicts.Goes plan) port fits is = by_plan plan port fits.1 is
  verdict-ending (verdicts.Tells plan news last) port fits is = leaves-tells w c _ _ last port (by_plan plan port fits.2.1 is)
  verdict-ending (verdicts.Faults page write at) port fits is =
      none (verdicts.Faults page write at) port is (quiet-all w (fault_on (outcomes.path_of c) page write (At (place p at)) ∷ []) (refl, tt))
