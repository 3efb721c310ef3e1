-- Passing: a turn that a thread hands to another leaves the reason of every other, where neither is in another talk.
use Rattle.std.proofs.Common.{◌≡◌, ◌≤◌, ◌&&◌, ◌||◌, ◌==◌, ℕ, Bool, true, false, not, is_none, is_some, List, [], ◌∷◌, Option, Some, None, refl, ap, sym, subst, ◌∙◌}
use Rattle.std.proofs.Common.{cond, option_map}
use Rattle.std.proofs.lemmas.Bool.{and_parts}
use Rattle.fk_calls.specs.Calls.Goings.{is_behind_over, is_orderly, is_receive, over_on, IsAtOrderly, IsReceiver}
use Rattle.fk_model.specs.declared.moves.Ask.{Ask}
use Rattle.fk_model.specs.declared.stage.Stage.{Stage}
use Rattle.fk_model.specs.declared.stage.Stage.TheVariants.{ClientReceive, Connect, Create, ServerReceive}
use Rattle.fk_model.specs.declared.thread.Turn.{Turn}
use Rattle.fk_model.specs.declared.thread.Turn.TheVariants as turns
use Rattle.fk_model.specs.Holds.{is_free, is_frozen, is_user}
use Rattle.fk_model.specs.LinkRows.{connecting_to, is_open, port_named}
use Rattle.fk_model.specs.Moves.{outcome, step}
use Rattle.fk_model.specs.Objects.{Body, Fault, Mode, Peer, Talk, Thread, and_then, holds, thread_of}
use Rattle.fk_model.specs.Objects.Body.{Cond, Mapping, Mutex, Port, Portset, Reference, Region, Space, Thread_of}
use Rattle.fk_model.specs.Objects.Mode.{Calling, Halted, Native, Running}
use Rattle.fk_model.specs.Objects.Peer.{Server, Service}
use Rattle.fk_model.specs.Outcomes.{listed}
use Rattle.fk_model.specs.Places.{Path, parent, same_path}
use Rattle.fk_model.specs.Places.Ptr.{At}
use Rattle.fk_model.specs.Searches.{depth, talk_at, thread_at}
use Rattle.fk_model.specs.Talks.{first_stage, other_side, receive_on}
use Rattle.fk_model.specs.Valid.{IsValid}
use Rattle.fk_model.specs.World.{World, Change, Edit, apply, edited, finished_in, serves}
use Rattle.fk_model.specs.World.Change.{Alter}
use Rattle.fk_model.specs.World.Edit.{Finish, PassTurn}
use Rattle.fk_model.proofs.walks.PlaceLaws.{same_path_eq, same_path_refl}
use Rattle.fk_store.specs.Store.Paths.{place}
use Rattle.fk_store.specs.Store.Threads.{is_free_at, todo_at}
use Rattle.fk_turns.specs.declared.whys.whys.Why.{Why}
use Rattle.fk_turns.specs.declared.whys.whys.Why.TheVariants as whys
use Rattle.fk_turns.specs.Steps.Talks.{peer_at, IsAlone}
use Rattle.fk_turns.specs.Whys.Whys.{IsWhy}
use Rattle.fk_turns.proofs.InWhys.Apart.{is_barred_why, loud_named, own_named, read_named}
use Rattle.fk_turns.proofs.InWhys.Talking.{in_call, AreTwo, IsIn}
use Rattle.fk_waits.proofs.InCauses.Numbers.{clash}
use Rattle.laws_waits.specs.Complete.{is_barred}
use Rattle.laws_waits.specs.Few.{is_peer_of, is_taker_of, DoesntCome, IsNobodyTo, IsSpared}
use Rattle.laws_waits.specs.Stuck.{comes_connecting, comes_faulting, comes_resuming, comes_to, is_in, is_resting, is_served_by, AreUntouched, IsUntouched, Reason, IsStuck}
use Rattle.laws_waits.specs.Stuck.Reason.{Barred, Beneath, Connecting, Ending, Holding, Lacking, Locking, Passing, Receiving, Resting, Sending, Sleeping, Waiting}
use Rattle.laws_waits.specs.Stuck.Reason.{WaitingOut}
use Rattle.laws_waits.specs.Touching.{IsThreadEdit}
use Rattle.laws_waits.proofs.Calm.{thread-is}
use Rattle.laws_waits.proofs.Few.{thread_edits_touch_few_lem}
use Rattle.laws_waits.proofs.Rows.{client-found, serves-is}
use Rattle.laws_waits.proofs.Stays.{moves_leave_stuck_lem, stuck_stays_lem}

-- ---- what a stage that is done, and a turn that passes, leave of a thread

abbrev pub passed_in : Turn → Thread → Thread
passed_in turn t = record t { talk = option_map (λ (talk : Talk). record talk { turn = turn; moved = 0 }) t.talk }

pub finished_talk : (answers : List ℕ) (t : Thread) (m : Mode) → (finished_in answers t m).talk ≡ t.talk
finished_talk answers t (Calling (stage ∷ next ∷ todo) rest) = refl
finished_talk answers t (Calling (stage ∷ []) rest) = refl
finished_talk answers t (Calling [] rest) = refl
finished_talk answers t (Running g) = refl
finished_talk answers t (Halted g code) = refl
finished_talk answers t (Native g) = refl

pub finished_fault : (answers : List ℕ) (t : Thread) (m : Mode) → (finished_in answers t m).fault ≡ t.fault
finished_fault answers t (Calling (stage ∷ next ∷ todo) rest) = refl
finished_fault answers t (Calling (stage ∷ []) rest) = refl
finished_fault answers t (Calling [] rest) = refl
finished_fault answers t (Running g) = refl
finished_fault answers t (Halted g code) = refl
finished_fault answers t (Native g) = refl

-- a thread that is edited there
pub there_finished : (w : World) (z : Path) (answers : List ℕ) (t : Thread) → thread_at w z ≡ Some t →
    thread_at (apply (Alter z (Finish answers)) w) z ≡ Some (finished_in answers t t.mode)
unfolding apply edited
there_finished w z answers t is = rw (same_path_refl z, thread-is (w.body z) t is) refl

pub there_passed : (w : World) (z : Path) (turn : Turn) (t : Thread) → thread_at w z ≡ Some t → thread_at (apply (Alter z (PassTurn turn)) w) z ≡ Some (passed_in turn t)
unfolding apply edited
there_passed w z turn t is = rw (same_path_refl z, thread-is (w.body z) t is) refl

elsewhere : (w : World) (z q : Path) (e : Edit) → same_path q z ≡ false → thread_at (apply (Alter z e) w) q ≡ thread_at w q
unfolding apply
elsewhere w z q e off = rw off refl

-- whom the talk of a thread is with, and who has taken its fault
pub peer_finished : (w : World) (z q x : Path) (answers : List ℕ) → is_peer_of (apply (Alter z (Finish answers)) w) x q ≡ is_peer_of w x q
unfolding apply edited
peer_finished w z q x answers = by (same_path q z) (w.body q)
  where
    by : (b : Bool) (o : Option Body) → holds (λ (talk : Talk). serves x talk.peer) (and_then (λ (t : Thread). t.talk)
        (and_then thread_of (cond b (option_map (edited (Finish answers)) o) o)))
        ≡ holds (λ (talk : Talk). serves x talk.peer) (and_then (λ (t : Thread). t.talk) (and_then thread_of o))
    by false o = refl
    by true None = refl
    by true (Some (Mutex old)) = refl
    by true (Some Cond) = refl
    by true (Some (Mapping window)) = refl
    by true (Some (Region extent)) = refl
    by true (Some (Port set served)) = refl
    by true (Some Portset) = refl
    by true (Some (Space birth holder)) = refl
    by true (Some (Thread_of t)) = ap (holds (λ (talk : Talk). serves x talk.peer)) (finished_talk answers t t.mode)
    by true (Some (Reference old)) = refl

pub peer_passed : (w : World) (z q x : Path) (turn : Turn) → is_peer_of (apply (Alter z (PassTurn turn)) w) x q ≡ is_peer_of w x q
unfolding apply edited
peer_passed w z q x turn = by (same_path q z) (w.body q)
  where
    of : (o : Option Talk) → holds (λ (talk : Talk). serves x talk.peer) (option_map (λ (talk : Talk). record talk { turn = turn; moved = 0 }) o)
        ≡ holds (λ (talk : Talk). serves x talk.peer) o
    of None = refl
    of (Some talk) = refl

    by : (b : Bool) (o : Option Body) → holds (λ (talk : Talk). serves x talk.peer) (and_then (λ (t : Thread). t.talk)
        (and_then thread_of (cond b (option_map (edited (PassTurn turn)) o) o)))
        ≡ holds (λ (talk : Talk). serves x talk.peer) (and_then (λ (t : Thread). t.talk) (and_then thread_of o))
    by false o = refl
    by true None = refl
    by true (Some (Mutex old)) = refl
    by true (Some Cond) = refl
    by true (Some (Mapping window)) = refl
    by true (Some (Region extent)) = refl
    by true (Some (Port set served)) = refl
    by true (Some Portset) = refl
    by true (Some (Space birth holder)) = refl
    by true (Some (Thread_of t)) = of t.talk
    by true (Some (Reference old)) = refl

taker_finished : (w : World) (z q x : Path) (answers : List ℕ) → is_taker_of (apply (Alter z (Finish answers)) w) x q ≡ is_taker_of w x q
unfolding apply edited
taker_finished w z q x answers = by (same_path q z) (w.body q)
  where
    by : (b : Bool) (o : Option Body) → holds (λ (fault : Fault). holds (serves x) fault.taker) (and_then (λ (t : Thread). t.fault)
        (and_then thread_of (cond b (option_map (edited (Finish answers)) o) o)))
        ≡ holds (λ (fault : Fault). holds (serves x) fault.taker) (and_then (λ (t : Thread). t.fault) (and_then thread_of o))
    by false o = refl
    by true None = refl
    by true (Some (Mutex old)) = refl
    by true (Some Cond) = refl
    by true (Some (Mapping window)) = refl
    by true (Some (Region extent)) = refl
    by true (Some (Port set served)) = refl
    by true (Some Portset) = refl
    by true (Some (Space birth holder)) = refl
    by true (Some (Thread_of t)) = ap (holds (λ (fault : Fault). holds (serves x) fault.taker)) (finished_fault answers t t.mode)
    by true (Some (Reference old)) = refl

taker_passed : (w : World) (z q x : Path) (turn : Turn) → is_taker_of (apply (Alter z (PassTurn turn)) w) x q ≡ is_taker_of w x q
unfolding apply edited
taker_passed w z q x turn = by (same_path q z) (w.body q)
  where
    by : (b : Bool) (o : Option Body) → holds (λ (fault : Fault). holds (serves x) fault.taker) (and_then (λ (t : Thread). t.fault)
        (and_then thread_of (cond b (option_map (edited (PassTurn turn)) o) o)))
        ≡ holds (λ (fault : Fault). holds (serves x) fault.taker) (and_then (λ (t : Thread). t.fault) (and_then thread_of o))
    by false o = refl
    by true None = refl
    by true (Some (Mutex old)) = refl
    by true (Some Cond) = refl
    by true (Some (Mapping window)) = refl
    by true (Some (Region extent)) = refl
    by true (Some (Port set served)) = refl
    by true (Some Portset) = refl
    by true (Some (Space birth holder)) = refl
    by true (Some (Thread_of t)) = refl
    by true (Some (Reference old)) = refl

-- so who has to do with nobody has to do with nobody then
nobody_finished : (w : World) (z q x : Path) (answers : List ℕ) → IsNobodyTo w x q → IsNobodyTo (apply (Alter z (Finish answers)) w) x q
nobody_finished w z q x answers is = record {
  other = is.other;
  peer = peer_finished w z q x answers ∙ is.peer;
  taker = taker_finished w z q x answers ∙ is.taker;
  client = peer_finished w z x q answers ∙ is.client;
}

pub nobody_passed : (w : World) (z q x : Path) (turn : Turn) → IsNobodyTo w x q → IsNobodyTo (apply (Alter z (PassTurn turn)) w) x q
nobody_passed w z q x turn is = record {
  other = is.other;
  peer = peer_passed w z q x turn ∙ is.peer;
  taker = taker_passed w z q x turn ∙ is.taker;
  client = peer_passed w z x q turn ∙ is.client;
}

-- ---- who comes to no wait

abbrev connects : Stage → Bool
connects (Connect h) = true
connects (Create s x kind) = false
connects other = false

-- in no talk, and at no Connect; or in a talk with a thread, or with a native server
pub data IsAway (server : Path) (t : Thread) : Type 0 where
  Idle : t.talk ≡ None → holds connects (first_stage t.mode) ≡ false → IsAway server t
  Talks : (talk : Talk) → t.talk ≡ Some talk → talk.peer ≡ Server (At server) → IsAway server t
  Served : (talk : Talk) → t.talk ≡ Some talk → talk.peer ≡ Service → IsAway server t

none_of : (a d b c : Bool) → a ≡ false → b ≡ false → c ≡ false → (a || (d && (b || c))) ≡ false
none_of a true b c x y z = rw (x, y, z) refl
none_of a false b c x y z = rw x refl

neither : (a b : Bool) → a ≡ false → b ≡ false → (a || b) ≡ false
neither a b x y = rw (x, y) refl

module _ (w : World) (z server : Path) (t : Thread) (there : thread_at w z ≡ Some t) (faultless : t.fault ≡ None) (away : IsAway server t) where
  port_none : (stage : Stage) → connects stage ≡ false → port_named w z stage ≡ None
  port_none (Connect h) is = absurd (cc)
  port_none (Create s x kind) is = refl
  port_none stage is = refl

  named_none : (o : Option Stage) → holds connects o ≡ false → and_then (port_named w z) o ≡ None
  named_none None is = refl
  named_none (Some stage) is = port_none stage is

  connecting_none : connecting_to w z t ≡ None
  connecting_none = by away
    where
      by : IsAway server t → connecting_to w z t ≡ None
      by (Idle none stage) = rw none (named_none (first_stage t.mode) stage)
      by (Talks talk is peer) = rw is refl
      by (Served talk is peer) = rw is refl

  resuming_none : (set : Path) → comes_resuming w set t ≡ false
  resuming_none set = by away
    where
      by : IsAway server t → comes_resuming w set t ≡ false
      by (Idle none stage) = rw none refl
      by (Talks talk is peer) = rw (is, peer) refl
      by (Served talk is peer) = rw (is, peer) refl

  comes_not : (set : Path) → comes_to w set z ≡ false
  comes_not set =
      ap (holds (λ (u : Thread). comes_faulting w set u || (not (is_resting u) && (comes_connecting w set z u || comes_resuming w set u)))) there
      ∙ none_of (comes_faulting w set t) (not (is_resting t)) (comes_connecting w set z t) (comes_resuming w set t)
      (ap (holds (λ (fault : Fault). is_open fault.taker && is_in w set fault.port)) faultless) (ap (holds (is_in w set)) connecting_none) (resuming_none set)

  serves_not : (x : Path) → same_path server x ≡ false → holds (is_served_by x) (thread_at w z) ≡ false
  serves_not x apart =
      ap (holds (is_served_by x)) there
      ∙ neither (holds (λ (talk : Talk). serves x talk.peer) t.talk) (holds (λ (fault : Fault). holds (serves x) fault.taker) t.fault) (by away)
      (ap (holds (λ (fault : Fault). holds (serves x) fault.taker)) faultless)
    where
      by : IsAway server t → holds (λ (talk : Talk). serves x talk.peer) t.talk ≡ false
      by (Idle none stage) = ap (holds (λ (talk : Talk). serves x talk.peer)) none
      by (Talks talk is peer) = ap (holds (λ (talk : Talk). serves x talk.peer)) is ∙ ap (serves x) peer ∙ apart
      by (Served talk is peer) = ap (holds (λ (talk : Talk). serves x talk.peer)) is ∙ ap (serves x) peer

-- so an edit after which a thread is away spares every reason
spared_by : (w : World) (x z : Path) (e : Edit) → ((set : Path) → DoesntCome w x z set e) → (r : Reason) → is_barred r ≡ false → IsSpared w x z e r
spared_by w x z e none (Waiting set) named = none (set ∷ parent x)
spared_by w x z e none (WaitingOut set) named = none (set ∷ parent x)
spared_by w x z e none Barred named = absurd (cc)
spared_by w x z e none Resting named = tt
spared_by w x z e none (Beneath space) named = tt
spared_by w x z e none (Locking m) named = tt
spared_by w x z e none (Sleeping c m) named = tt
spared_by w x z e none (Connecting h port) named = tt
spared_by w x z e none (Receiving side into room reference far client) named = tt
spared_by w x z e none (Passing side reference client end) named = tt
spared_by w x z e none (Sending side address count far client end) named = tt
spared_by w x z e none (Lacking side address count far client y into room) named = tt
spared_by w x z e none (Ending y space) named = tt
spared_by w x z e none (Holding s y space) named = tt

-- ---- the list of an Over

-- two threads that are in no other talk
pub record AreAlone (w : World) (client server : Path) : Type 0 where
  pub talk : Talk
  pub there : talk_at w client ≡ Some talk
  pub peer : talk.peer ≡ Server (At server)
  pub idle : talk_at w server ≡ None
  pub unserved : (q : Path) → is_peer_of w client q ≡ false

-- a thread there that has no fault and comes to no wait
record IsAwayAt (w : World) (z server : Path) : Type 0 where
  thread : Thread
  there : thread_at w z ≡ Some thread
  faultless : thread.fault ≡ None
  away : IsAway server thread

abbrev pub ended : World → Path → List ℕ → World
ended w y answers = apply (Alter y (Finish answers)) w

abbrev pub turned : World → Path → Path → List ℕ → Turn → World
turned w y client answers turn = apply (Alter client (PassTurn turn)) (ended w y answers)

abbrev pub parted : World → Path → Path → Path → List ℕ → Turn → World
parted w me y client answers turn = apply (Alter me (Finish [])) (turned w y client answers turn)

abbrev pub passes : Path → Path → Path → List ℕ → Turn → List Change
passes me y client answers turn = Alter y (Finish answers) ∷ Alter client (PassTurn turn) ∷ Alter me (Finish []) ∷ []

-- a thread that has no fault is edited, and comes to no wait
pub record GoesAway (w : World) (z server : Path) (e : Edit) : Type 0 where
  pub was : Thread
  pub there : thread_at w z ≡ Some was
  pub plain : IsThreadEdit e
  pub thread : Thread
  pub then_there : thread_at (apply (Alter z e) w) z ≡ Some thread
  pub faultless : thread.fault ≡ None
  pub away : IsAway server thread

pub goes_untouched : (w : World) (x z server : Path) (e : Edit) → GoesAway w z server e → same_path server x ≡ false → IsNobodyTo w x z → (r : Reason) →
    IsStuck w x r → is_barred r ≡ false → IsUntouched w (Alter z e) x r
goes_untouched w x z server e goes apart nobody r stuck named =
    thread_edits_touch_few_lem w z goes.was e x r goes.there goes.plain stuck nobody (spared_by w x z e doesnt r named)
  where
    doesnt : (set : Path) → DoesntCome w x z set e
    doesnt set = record {
      comes = comes_not (apply (Alter z e) w) z server goes.thread goes.then_there goes.faultless goes.away set;
      served = serves_not (apply (Alter z e) w) z server goes.thread goes.then_there goes.faultless goes.away x apart;
    }

passed_untouched : (w : World) (me y client server x : Path) (answers : List ℕ) (turn : Turn) → GoesAway w y server (Finish answers) →
    GoesAway (ended w y answers) client server (PassTurn turn) → GoesAway (turned w y client answers turn) me server (Finish []) →
    same_path server x ≡ false → IsNobodyTo w x y → IsNobodyTo w x client → IsNobodyTo w x me → (r : Reason) → IsStuck w x r → is_barred r ≡ false →
    AreUntouched w (passes me y client answers turn) x r
passed_untouched w me y client server x answers turn first second third apart nobody_first nobody_second nobody_third r stuck named =
    let one = goes_untouched w x y server (Finish answers) first apart nobody_first r stuck named in
    let stuck_one = stuck_stays_lem w (Alter y (Finish answers)) x r stuck one in
    let two = goes_untouched (ended w y answers) x client server (PassTurn turn) second apart (nobody_finished w y client x answers nobody_second) r
    stuck_one named in
    let stuck_two = stuck_stays_lem (ended w y answers) (Alter client (PassTurn turn)) x r stuck_one two in
    let three = goes_untouched (turned w y client answers turn) x me server (Finish []) third apart
    (nobody_passed (ended w y answers) client me x turn (nobody_finished w y me x answers nobody_third)) r stuck_two named in
    (one, (two, (three, tt)))

-- ---- who is where before and after it

module _ (w : World) (space : Path) (t : Thread) where
  no_fault : (o : Option Fault) → is_none o ≡ true → o ≡ None
  no_fault None is = refl
  no_fault (Some fault) is = absurd (cc)

  free_faultless : is_free w space t ≡ true → t.fault ≡ None
  free_faultless free =
      let able = and_parts (not (is_frozen w space) && t.stops == 0 && is_none t.fault) (is_user t.mode) free in
      let sound = and_parts (not (is_frozen w space) && t.stops == 0) (is_none t.fault) able.0 in
      no_fault t.fault sound.1

pub faultless_at : (w : World) (x : Path) (t : Thread) → is_free_at w x ≡ true → thread_at w x ≡ Some t → t.fault ≡ None
unfolding is_free_at
faultless_at w x t free there = free_faultless w (parent x) t (sym (ap (holds (is_free w (parent x))) there) ∙ free)

-- a thread that has ended its only stage runs
ended_runs : (answers : List ℕ) (t : Thread) (stage : Stage) (rest : List ℕ) → t.mode ≡ Calling (stage ∷ []) rest →
    holds connects (first_stage (finished_in answers t t.mode).mode) ≡ false
ended_runs answers t stage rest is = rw is refl

receive_connects : (side : Turn) (stage : Stage) → is_receive side stage ≡ true → connects stage ≡ false
receive_connects turns.Client (ClientReceive into room) is = refl
receive_connects turns.Server (ServerReceive into room) is = refl
receive_connects side stage is = absurd (cc)

-- one that has handed the turn over runs, or is at its Receive
handed_runs : (side : Turn) (t : Thread) (stage : Stage) (later : List Stage) (rest : List ℕ) → is_behind_over side later ≡ true →
    holds connects (first_stage (finished_in [] t (Calling (stage ∷ later) rest)).mode) ≡ false
handed_runs side t stage [] rest is = refl
handed_runs side t stage (next ∷ []) rest is = receive_connects side next is
handed_runs side t stage (next ∷ more ∷ later) rest is = absurd (cc)

behind : (side : Turn) (later : List Stage) → is_orderly (over_on side ∷ later) ≡ true → is_behind_over side later ≡ true
behind turns.Client later is = is
behind turns.Server later is = is

pub talk_of : (w : World) (z : Path) (t : Thread) (o : Option Talk) → thread_at w z ≡ Some t → talk_at w z ≡ o → t.talk ≡ o
talk_of w z t o there is = sym (ap (and_then (λ (u : Thread). u.talk)) there) ∙ is

-- who was alone is so before it
peer_ended : (w : World) (z q : Path) (answers : List ℕ) → peer_at (apply (Alter z (Finish answers)) w) q ≡ peer_at w q
unfolding apply edited
peer_ended w z q answers = by (same_path q z) (w.body q)
  where
    by : (b : Bool) (o : Option Body) → option_map (λ (talk : Talk). talk.peer) (and_then (λ (t : Thread). t.talk)
        (and_then thread_of (cond b (option_map (edited (Finish answers)) o) o)))
        ≡ option_map (λ (talk : Talk). talk.peer) (and_then (λ (t : Thread). t.talk) (and_then thread_of o))
    by false o = refl
    by true None = refl
    by true (Some (Mutex old)) = refl
    by true (Some Cond) = refl
    by true (Some (Mapping window)) = refl
    by true (Some (Region extent)) = refl
    by true (Some (Port set served)) = refl
    by true (Some Portset) = refl
    by true (Some (Space birth holder)) = refl
    by true (Some (Thread_of t)) = ap (option_map (λ (talk : Talk). talk.peer)) (finished_talk answers t t.mode)
    by true (Some (Reference old)) = refl

peer_turned : (w : World) (z q : Path) (turn : Turn) → peer_at (apply (Alter z (PassTurn turn)) w) q ≡ peer_at w q
unfolding apply edited
peer_turned w z q turn = by (same_path q z) (w.body q)
  where
    of : (o : Option Talk) → option_map (λ (talk : Talk). talk.peer) (option_map (λ (talk : Talk). record talk { turn = turn; moved = 0 }) o)
        ≡ option_map (λ (talk : Talk). talk.peer) o
    of None = refl
    of (Some talk) = refl

    by : (b : Bool) (o : Option Body) → option_map (λ (talk : Talk). talk.peer) (and_then (λ (t : Thread). t.talk)
        (and_then thread_of (cond b (option_map (edited (PassTurn turn)) o) o)))
        ≡ option_map (λ (talk : Talk). talk.peer) (and_then (λ (t : Thread). t.talk) (and_then thread_of o))
    by false o = refl
    by true None = refl
    by true (Some (Mutex old)) = refl
    by true (Some Cond) = refl
    by true (Some (Mapping window)) = refl
    by true (Some (Region extent)) = refl
    by true (Some (Port set served)) = refl
    by true (Some Portset) = refl
    by true (Some (Space birth holder)) = refl
    by true (Some (Thread_of t)) = of t.talk
    by true (Some (Reference old)) = refl

peer_parted : (w : World) (me y client q : Path) (answers : List ℕ) (turn : Turn) → peer_at (parted w me y client answers turn) q ≡ peer_at w q
peer_parted w me y client q answers turn =
    peer_ended (turned w y client answers turn) me q [] ∙ peer_turned (ended w y answers) client q turn ∙ peer_ended w y q answers

unserved_parted : (w : World) (me y client q x : Path) (answers : List ℕ) (turn : Turn) →
    is_peer_of (parted w me y client answers turn) x q ≡ is_peer_of w x q
unserved_parted w me y client q x answers turn =
    peer_finished (turned w y client answers turn) me q x [] ∙ peer_passed (ended w y answers) client q x turn ∙ peer_finished w y q x answers

no_peer : (o : Option Talk) → option_map (λ (talk : Talk). talk.peer) o ≡ None → o ≡ None
no_peer None is = refl
no_peer (Some talk) is = absurd (cc)

pub alone_before : (w : World) (me y client server : Path) (answers : List ℕ) (turn : Turn) (talk : Talk) → talk_at w client ≡ Some talk →
    serves server talk.peer ≡ true → IsAlone (parted w me y client answers turn) client → AreAlone w client server
alone_before w me y client server answers turn talk there serving alone =
    let peer = serves-is server talk.peer serving in
    let was : Some (Server (At alone.server)) ≡ Some (Server (At server)) =
    sym alone.peer ∙ peer_parted w me y client client answers turn ∙ ap (option_map (λ (t : Talk). t.peer)) there ∙ ap (λ (p : Peer). Some p) peer in
    let same : alone.server ≡ server = cc in
    record {
      talk = talk;
      there = there;
      peer = peer;
      idle = no_peer (talk_at w server) (sym (peer_parted w me y client server answers turn)
          ∙ ap (peer_at (parted w me y client answers turn)) (sym same) ∙ alone.idle);
      unserved = λ q. sym (unserved_parted w me y client q client answers turn) ∙ alone.unserved q;
    }

module _ (w : World) (me y client server : Path) (side : Turn) (answers : List ℕ) (at : IsAtOrderly w me (over_on side)) (free : is_free_at w me ≡ true)
    (receives : IsReceiver w y (other_side side)) (alone : AreAlone w client server) (ends : AreTwo side me y client server) where
  mine : IsIn w me (over_on side ∷ at.later)
  mine = in_call w me (over_on side) at.later at.todo

  theirs : IsIn w y (receives.stage ∷ [])
  theirs = in_call w y receives.stage [] receives.alone

  over_receives : (side : Turn) → is_some (receive_on (other_side side) (over_on side)) ≡ false
  over_receives turns.Client = refl
  over_receives turns.Server = refl

  -- who hands it over isn't who gets it
  two : same_path me y ≡ false
  two = by (same_path me y) refl
    where
      by : (b : Bool) → same_path me y ≡ b → b ≡ false
      by false e = refl
      by true e =
          let todo : over_on side ∷ at.later ≡ receives.stage ∷ [] = sym at.todo ∙ ap (todo_at w) (same_path_eq me y e) ∙ receives.alone in
          let stage : over_on side ≡ receives.stage = cc in
          let on : is_some (receive_on (other_side side) (over_on side)) ≡ true =
          ap (λ (s : Stage). is_some (receive_on (other_side side) s)) stage ∙ receives.receives in
          clash (is_some (receive_on (other_side side) (over_on side))) on (over_receives side)

  my_faultless : mine.thread.fault ≡ None
  my_faultless = faultless_at w me mine.thread free mine.there

  their_faultless : theirs.thread.fault ≡ None
  their_faultless = faultless_at w y theirs.thread receives.free theirs.there

  heard : Thread
  heard = finished_in answers theirs.thread theirs.thread.mode

  heard_there : thread_at (ended w y answers) y ≡ Some heard
  unfolding heard
  heard_there = there_finished w y answers theirs.thread theirs.there

  heard_faultless : heard.fault ≡ None
  unfolding heard
  heard_faultless = finished_fault answers theirs.thread theirs.thread.mode ∙ their_faultless

  heard_talk : heard.talk ≡ theirs.thread.talk
  unfolding heard
  heard_talk = finished_talk answers theirs.thread theirs.thread.mode

  still_there : thread_at (ended w y answers) me ≡ Some mine.thread
  still_there = elsewhere w y me (Finish answers) two ∙ mine.there

  -- a client's talk with a turn
  abbrev with_turn : Talk → Talk
  with_turn talk = record talk { turn = other_side side; moved = 0 }

  passed_talk : (t : Thread) → t.talk ≡ Some alone.talk → (passed_in (other_side side) t).talk ≡ Some (with_turn alone.talk)
  passed_talk t is = ap (option_map with_turn) is

  record AllGo (c s : Path) : Type 0 where
    first : GoesAway w y s (Finish answers)
    second : GoesAway (ended w y answers) c s (PassTurn (other_side side))
    third : GoesAway (turned w y c answers (other_side side)) me s (Finish [])

  -- the client hands it over
  by_client : talk_at w me ≡ Some alone.talk → talk_at w y ≡ None → alone.talk.peer ≡ Server (At y) → AllGo me y
  unfolding heard
  by_client talk idle peer =
      let my_talk = talk_of w me mine.thread (Some alone.talk) mine.there talk in
      let spoken = passed_in (other_side side) mine.thread in
      let spoken_there = there_passed (ended w y answers) me (other_side side) mine.thread still_there in
      record {
        first = record {
          was = theirs.thread;
          there = theirs.there;
          plain = (refl, refl, refl);
          thread = heard;
          then_there = heard_there;
          faultless = heard_faultless;
          away = Idle (heard_talk ∙ talk_of w y theirs.thread None theirs.there idle)
              (ended_runs answers theirs.thread receives.stage theirs.rest theirs.mode);
        };
        second = record {
          was = mine.thread;
          there = still_there;
          plain = (refl, refl, refl);
          thread = spoken;
          then_there = spoken_there;
          faultless = my_faultless;
          away = Talks (with_turn alone.talk) (passed_talk mine.thread my_talk) peer;
        };
        third = record {
          was = spoken;
          there = spoken_there;
          plain = (refl, refl, refl);
          thread = finished_in [] spoken spoken.mode;
          then_there = there_finished (turned w y me answers (other_side side)) me [] spoken spoken_there;
          faultless = finished_fault [] spoken spoken.mode ∙ my_faultless;
          away = Talks (with_turn alone.talk) (finished_talk [] spoken spoken.mode ∙ passed_talk mine.thread my_talk) peer;
        };
      }

  -- or the server
  by_server : talk_at w y ≡ Some alone.talk → talk_at w me ≡ None → alone.talk.peer ≡ Server (At me) → AllGo y me
  unfolding heard
  by_server talk idle peer =
      let its_talk = heard_talk ∙ talk_of w y theirs.thread (Some alone.talk) theirs.there talk in
      let my_talk = talk_of w me mine.thread None mine.there idle in
      let turn_there = there_passed (ended w y answers) y (other_side side) heard heard_there in
      let left_there : thread_at (turned w y y answers (other_side side)) me ≡ Some mine.thread =
      elsewhere (ended w y answers) y me (PassTurn (other_side side)) two ∙ still_there in
      record {
        first = record {
          was = theirs.thread;
          there = theirs.there;
          plain = (refl, refl, refl);
          thread = heard;
          then_there = heard_there;
          faultless = heard_faultless;
          away = Talks alone.talk its_talk peer;
        };
        second = record {
          was = heard;
          there = heard_there;
          plain = (refl, refl, refl);
          thread = passed_in (other_side side) heard;
          then_there = turn_there;
          faultless = heard_faultless;
          away = Talks (with_turn alone.talk) (passed_talk heard its_talk) peer;
        };
        third = record {
          was = mine.thread;
          there = left_there;
          plain = (refl, refl, refl);
          thread = finished_in [] mine.thread mine.thread.mode;
          then_there = there_finished (turned w y y answers (other_side side)) me [] mine.thread left_there;
          faultless = finished_fault [] mine.thread mine.thread.mode ∙ my_faultless;
          away = Idle (finished_talk [] mine.thread mine.thread.mode ∙ my_talk)
              (ap (λ (m : Mode). holds connects (first_stage (finished_in [] mine.thread m).mode)) mine.mode
              ∙ handed_runs side mine.thread (over_on side) at.later mine.rest (behind side at.later at.orderly));
        };
      }

  all_go : AllGo client server
  all_go = by side ends
    where
      by : (d : Turn) → AreTwo d me y client server → AllGo client server
      by turns.Client two =
          subst (λ (q : Path). AllGo q server) (sym two.0) (subst (λ (q : Path). AllGo me q) (sym two.1)
          (by_client (subst (λ (q : Path). talk_at w q ≡ Some alone.talk) two.0 alone.there) (subst (λ (q : Path). talk_at w q ≡ None) two.1 alone.idle)
          (subst (λ (q : Path). alone.talk.peer ≡ Server (At q)) two.1 alone.peer)))
      by turns.Server two =
          subst (λ (q : Path). AllGo q server) (sym two.0) (subst (λ (q : Path). AllGo y q) (sym two.1)
          (by_server (subst (λ (q : Path). talk_at w q ≡ Some alone.talk) two.0 alone.there) (subst (λ (q : Path). talk_at w q ≡ None) two.1 alone.idle)
          (subst (λ (q : Path). alone.talk.peer ≡ Server (At q)) two.1 alone.peer)))

  -- ---- any other thread

  module _ (valid : IsValid w) (few : w.next ≤ depth) (x : Path) (mover : same_path x me ≡ false) (other : same_path x y ≡ false) where
    ends_apart : (P : Path → Type 0) → P me → P y → P client × P server
    ends_apart P of_me of_y = by side ends
      where
        by : (d : Turn) → AreTwo d me y client server → P client × P server
        by turns.Client two = (subst P (sym two.0) of_me, subst P (sym two.1) of_y)
        by turns.Server two = (subst P (sym two.0) of_y, subst P (sym two.1) of_me)

    apart : (same_path x client ≡ false) × (same_path x server ≡ false)
    apart = ends_apart (λ (q : Path). same_path x q ≡ false) mover other

    back : (q : Path) → same_path x q ≡ false → same_path q x ≡ false
    back q off = by (same_path q x) refl
      where
        by : (b : Bool) → same_path q x ≡ b → b ≡ false
        by false e = refl
        by true e = clash (same_path x q) (subst (λ (z : Path). same_path x z ≡ true) (sym (same_path_eq q x e)) (same_path_refl x)) off

    untaken : (z : Path) (t : Thread) → thread_at w z ≡ Some t → t.fault ≡ None → is_taker_of w x z ≡ false
    untaken z t there faultless =
        ap (holds (λ (fault : Fault). holds (serves x) fault.taker)) (ap (and_then (λ (u : Thread). u.fault)) there ∙ faultless)

    all_untaken : (is_taker_of w x client ≡ false) × (is_taker_of w x server ≡ false)
    all_untaken =
        ends_apart (λ (q : Path). is_taker_of w x q ≡ false) (untaken me mine.thread mine.there my_faultless) (untaken y theirs.thread theirs.there their_faultless)

    nobody_client : IsNobodyTo w x client
    nobody_client = record {
      other = apart.0;
      peer = ap (holds (λ (talk : Talk). serves x talk.peer)) alone.there ∙ ap (serves x) alone.peer ∙ back server apart.1;
      taker = all_untaken.0;
      client = alone.unserved x;
    }

    unserved_server : is_peer_of w server x ≡ false
    unserved_server = by (is_peer_of w server x) refl
      where
        by : (b : Bool) → is_peer_of w server x ≡ b → b ≡ false
        by false e = refl
        by true e =
            let its : is_peer_of w server client ≡ true =
            ap (holds (λ (talk : Talk). serves server talk.peer)) alone.there ∙ ap (serves server) alone.peer ∙ same_path_refl server in
            let one : Some x ≡ Some client = sym (client-found w valid few server x e) ∙ client-found w valid few server client its in
            let same : x ≡ client = cc in
            clash (same_path x client) (ap (same_path x) (sym same) ∙ same_path_refl x) apart.0

    nobody_server : IsNobodyTo w x server
    nobody_server = record {
      other = apart.1;
      peer = ap (holds (λ (talk : Talk). serves x talk.peer)) alone.idle;
      taker = all_untaken.1;
      client = unserved_server;
    }

    ends_are : (P : Path → Type 0) → P client → P server → P me × P y
    ends_are P of_client of_server = by side ends
      where
        by : (d : Turn) → AreTwo d me y client server → P me × P y
        by turns.Client two = (subst P two.0 of_client, subst P two.1 of_server)
        by turns.Server two = (subst P two.1 of_server, subst P two.0 of_client)

    nobody : IsNobodyTo w x me × IsNobodyTo w x y
    nobody = ends_are (IsNobodyTo w x) nobody_client nobody_server

    module _ (pick : Option Path) (ask : Ask) (row : listed (outcome w me pick ask) ≡ passes me y client answers (other_side side)) where
      stuck_after : (r : Reason) → IsStuck w x r → is_barred r ≡ false → IsStuck (step w me pick ask).world x r
      stuck_after r stuck named =
          moves_leave_stuck_lem w x r me pick ask stuck
          (subst (λ (l : List Change). AreUntouched w l x r) (sym row)
          (passed_untouched w me y client server x answers (other_side side) all_go.first all_go.second all_go.third (back server apart.1) nobody.1
          nobody_client nobody.0 r stuck named))

      pub why_passed : (p : ℕ → Path) (why : Why) → is_barred_why why ≡ false → IsWhy w p x why → IsWhy (step w me pick ask).world p x why
      why_passed p whys.Still named is = record { reason = is.reason; stuck = stuck_after is.reason is.stuck (own_named is.reason is.own); own = is.own }
      why_passed p (whys.At key) named is =
          record { reason = is.reason; stuck = stuck_after is.reason is.stuck (read_named x (place p key) is.reason is.read); read = is.read }
      why_passed p whys.Loud named is = record { reason = is.reason; stuck = stuck_after is.reason is.stuck (loud_named is.reason is.loud); loud = is.loud }
      why_passed p whys.Barred named is = absurd (cc)
