-- What a thread that is stuck at a stage comes to: it waits.
use Rattle.std.proofs.Common.{◌≡◌, ℕ, ◌<◌, ◌≤◌, ◌/◌, Bool, true, false, not, cond, if◌then◌else◌, ◌||◌, ◌==◌, nat_le, is_some, List, [], ◌∷◌, Option, Some}
use Rattle.std.proofs.Common.{None, option_map, Ok, Err, refl, ap, sym, ◌∙◌, arith}
use Rattle.std.proofs.lemmas.Bool.{and_parts}
use Rattle.fk_model.specs.declared.limits.TheConstants.{LAST_USER_SLOT, PAGE_WORDS}
use Rattle.fk_model.specs.declared.moves.Ask.TheVariants as asks
use Rattle.fk_model.specs.declared.stage.Stage.{Stage}
use Rattle.fk_model.specs.declared.thread.Turn.{Turn}
use Rattle.fk_model.specs.declared.thread.Turn.TheVariants as turns
use Rattle.fk_model.specs.Places.{Path, same_path, strip, is_within, parent}
use Rattle.fk_model.specs.Places.Ptr.{At}
use Rattle.fk_model.specs.Objects.{Mode, Peer, Talk, Fault, Thread, Body, and_then, or_else, holds, flag_of}
use Rattle.fk_model.specs.Objects.Mode.{Running, Calling}
use Rattle.fk_model.specs.Objects.Peer.{Server}
use Rattle.fk_model.specs.World.{World, serves}
use Rattle.fk_model.specs.Searches.{thread_at, talk_at, depth, objects, client_of, faulter_of, fault_at}
use Rattle.fk_model.specs.declared.statuses.status.TheConstants.{WRONGTURN}
use Rattle.fk_model.specs.Holds.{holder_of, decider, is_free, is_user}
use Rattle.fk_model.specs.Reach.{Reach, at_home, reach, reach_within, reach_word}
use Rattle.fk_model.specs.Reach.Reach.{Home, Missing, Bad}
use Rattle.fk_model.specs.Outcomes.Outcome.{Waits}
use Rattle.fk_model.specs.Readers.{seen_as, object_in}
use Rattle.fk_model.specs.Talks.{first_stage, Line, line_from, line, same_side}
use Rattle.fk_model.specs.TransferRows.{at_turn, in_turn}
use Rattle.fk_model.specs.LinkRows.{user_at}
use Rattle.fk_model.specs.Moves.{GoesAllowed, goes_on, user_move, call_row, outcome, IsReady}
use Rattle.fk_model.specs.Valid.{IsValid}
use Rattle.fk_model.proofs.walks.PlaceLaws.{same_path_eq}
use Rattle.fk_model.proofs.walks.Members.{find_some}
use Rattle.fk_model.proofs.walks.WalkLaws.{no_client, no_faulter}
use Rattle.laws_waits.specs.Stuck.{is_resting, IsBeneath, talk_place, is_talk_of, IsAtHome, IsReached, IsAtStage}
use Rattle.laws_waits.specs.Touching.{is_home}

-- ---- a ready thread is free and goes on

pub record GoesOn (w : World) (x : Path) (pick : Option Path) : Type 0 where
  pub thread : Thread
  pub there : thread_at w x ≡ Some thread
  pub free : is_free w (parent x) thread ≡ true
  pub goes : GoesAllowed w x (goes_on w x pick thread thread.mode)

pub goes-on : (w : World) (x : Path) (pick : Option Path) → IsReady w x pick asks.Run → GoesOn w x pick
unfolding outcome
goes-on w x pick ready = by (thread_at w x) refl ready
  where
    of_thread : (t : Thread) → thread_at w x ≡ Some t → (b : Bool) → is_free w (parent x) t ≡ b →
        GoesAllowed w x (if b then goes_on w x pick t t.mode else Waits) → GoesOn w x pick
    of_thread t at true free ready = record { thread = t; there = at; free = free; goes = ready }
    of_thread t at false free ready = absurd ready

    by : (o : Option Thread) → thread_at w x ≡ o → GoesAllowed w x (user_move w x pick o) → GoesOn w x pick
    by None at ready = absurd ready
    by (Some t) at ready = of_thread t at (is_free w (parent x) t) refl ready

-- a free thread doesn't rest
pub free-resting : (w : World) (space : Path) (t : Thread) → is_free w space t ≡ true → is_resting t ≡ false
free-resting w space t free =
    let user = and_parts _ _ free in
    let fault = and_parts _ _ user.0 in
    let stops = and_parts _ _ fault.0 in
    by (t.stops == 0) (is_some t.fault) stops.1 fault.1 user.1
  where
    by : (a b : Bool) → a ≡ true → not b ≡ true → is_user t.mode ≡ true → (not a || b || not (is_user t.mode)) ≡ false
    by true false h g f = rw f refl
    by true true h g f = cc
    by false b h g f = cc

-- nor lies it beneath a held space
mapped-some : {A B : Type 0} (f : A → B) (o : Option A) → is_some (option_map f o) ≡ true → is_some o ≡ true
mapped-some f None h = h
mapped-some f (Some a) h = refl

else-some : {A : Type 0} (a b : Option A) → is_some b ≡ true → is_some (or_else a b) ≡ true
else-some None b h = h
else-some (Some a) b h = refl

first-some : {A : Type 0} (a b : Option A) → is_some a ≡ true → is_some (or_else a b) ≡ true
first-some None b h = cc
first-some (Some a) b h = refl

pub held-decider : (w : World) (space x : Path) → is_within space x ≡ true → is_some (holder_of (w.body space)) ≡ true → is_some (decider w x) ≡ true
unfolding strip decider
held-decider w space [] within held = by (same_path [] space) refl within
  where
    by : (b : Bool) → same_path [] space ≡ b → is_some (cond {A = Option Path} b (Some []) None) ≡ true → is_some (holder_of (w.body [])) ≡ true
    by true e h = let here = same_path_eq [] space e in rw here held
    by false e h = cc
held-decider w space (k ∷ x) within held = by (same_path (k ∷ x) space) refl within (held-decider w space x)
  where
    by : (b : Bool) → same_path (k ∷ x) space ≡ b → is_some (cond {A = Option Path} b (Some []) (option_map (λ q. k ∷ q) (strip space x))) ≡ true →
        (is_within space x ≡ true → is_some (holder_of (w.body space)) ≡ true → is_some (decider w x) ≡ true) →
        is_some (or_else (decider w x) (holder_of (w.body (k ∷ x)))) ≡ true
    by true e h deeper = let here = same_path_eq (k ∷ x) space e in else-some (decider w x) _ (rw here held)
    by false e h deeper = first-some (decider w x) _ (deeper (mapped-some (λ q. k ∷ q) (strip space x) h) held)

pub free-beneath : (w : World) (space x : Path) (t : Thread) → IsBeneath w space x → is_free w (parent x) t ≡ false
free-beneath w space x t beneath = let frozen = held-decider w space (parent x) beneath.0 beneath.1 in rw frozen refl

-- ---- a thread at a stage makes it

pub stage-goes : (w : World) (x : Path) (pick : Option Path) (t : Thread) (m : Mode) (stage : Stage) → first_stage m ≡ Some stage →
    GoesAllowed w x (goes_on w x pick t m) → GoesAllowed w x (call_row w (user_at x) pick stage)
stage-goes w x pick t (Calling (first ∷ todo) rest) stage e goes = let same : first ≡ stage = cc in rw (← same) goes
stage-goes w x pick t (Calling [] rest) stage e goes = cc
stage-goes w x pick t (Running g) stage e goes = cc
stage-goes w x pick t m stage e goes = cc

pub at-stage : (w : World) (x : Path) (pick : Option Path) (stage : Stage) → IsAtStage w x stage → IsReady w x pick asks.Run →
    GoesAllowed w x (call_row w (user_at x) pick stage)
at-stage w x pick stage at ready =
    let goes = goes-on w x pick ready in
    let first : first_stage goes.thread.mode ≡ Some stage = ap (and_then (λ (t : Thread). first_stage t.mode)) (sym goes.there) ∙ at in
    stage-goes w x pick goes.thread goes.thread.mode stage first goes.goes

-- ---- what it reads

view-ok : {A : Type 0} (view : Body → Option A) (o : Option Body) (a : A) → and_then view o ≡ Some a → seen_as view o ≡ Ok a
view-ok view None a h = cc
view-ok view (Some b) a h = rw h refl

pub object-ok : {A : Type 0} (w : World) (x : Path) (view : Body → Option A) (k : ℕ) (a : A) → nat_le k LAST_USER_SLOT ≡ true →
    and_then view (w.body (k ∷ parent x)) ≡ Some a → object_in w (user_at x) view (parent x) k ≡ Ok a
unfolding object_in
object-ok w x view k a low seen = rw low (view-ok view (w.body (k ∷ parent x)) a seen)

-- the talk in which a thread acts

pub serves-is : (me : Path) (peer : Peer) → serves me peer ≡ true → peer ≡ Server (At me)
serves-is me (Server (At y)) h = let same = same_path_eq y me h in rw same refl
serves-is me (Server p) h = cc
serves-is me peer h = cc

abbrev pub line_of : Turn → Path → Path → Talk → Line
line_of turns.Client me client talk = record { client = me; talk = talk; other = talk.peer }
line_of turns.Server me client talk = record { client = client; talk = talk; other = Server (At client) }

module _ (w : World) (valid : IsValid w) (few : w.next ≤ depth) where
  flag_on : (b : Bool) → b ≡ true → 0 < flag_of b
  flag_on true h = omega arith
  flag_on false h = absurd (cc)

  pub client-found : (me c : Path) → holds (λ (talk : Talk). serves me talk.peer) (talk_at w c) ≡ true → client_of w me ≡ Some c
  unfolding client_of
  client-found me c h = by (client_of w me) refl
    where
      by : (o : Option Path) → client_of w me ≡ o → o ≡ Some c
      by None e = let none = no_client w valid.consistent valid.rooted few me e c in absurd (cc)
      by (Some d) e =
          let found = (find_some (λ c. holds (λ (talk : Talk). serves me talk.peer) (talk_at w c)) d (objects w) e).1 in
          let first = flag_on _ found in
          let second = flag_on _ h in
          ap Some (valid.consistent.one_service me d c (omega arith) (omega arith))

  pub faulter-found : (me c : Path) → holds (λ (fault : Fault). holds (serves me) fault.taker) (fault_at w c) ≡ true → faulter_of w me ≡ Some c
  unfolding faulter_of
  faulter-found me c h = by (faulter_of w me) refl
    where
      by : (o : Option Path) → faulter_of w me ≡ o → o ≡ Some c
      by None e = let none = no_faulter w valid.consistent valid.rooted few me e c in absurd (cc)
      by (Some d) e =
          let found = (find_some (λ c. holds (λ (fault : Fault). holds (serves me) fault.taker) (fault_at w c)) d (objects w) e).1 in
          let first = flag_on _ found in
          let second = flag_on _ h in
          ap Some (valid.consistent.one_service me d c (omega arith) (omega arith))

  -- the line on which a thread acts, in a talk that is its own on that side
  pub line_is : (me client : Path) (side turn : Turn) (talk : Talk) → talk_at w (talk_place side me client) ≡ Some talk → is_talk_of side me turn talk ≡ true →
      line w me side ≡ Some (line_of side me client talk)
  unfolding line
  line_is me client turns.Client turn talk at is = ap (line_from me (λ (talk : Talk). talk.peer)) at
  line_is me client turns.Server turn talk at is =
      let test : holds (λ (talk : Talk). serves me talk.peer) (talk_at w client) ≡ true = ap (holds (λ (talk : Talk). serves me talk.peer)) at
      ∙ (and_parts _ _ is).1 in
      ap (and_then (λ client. line_from client (λ (talk : Talk). Server (At client)) (talk_at w client))) (client-found me client test)
      ∙ ap (line_from client (λ (talk : Talk). Server (At client))) at

  turn-same : (side turn : Turn) (me client : Path) (talk : Talk) → is_talk_of side me turn talk ≡ true → same_side talk.turn turn ≡ true
  turn-same turns.Client turn me client talk is = is
  turn-same turns.Server turn me client talk is = (and_parts _ _ is).0

  line-talk : (side : Turn) (me client : Path) (talk : Talk) → (line_of side me client talk).talk ≡ talk
  line-talk turns.Client me client talk = refl
  line-talk turns.Server me client talk = refl

  pub turn-ok : (me client : Path) (side turn : Turn) (talk : Talk) → talk_at w (talk_place side me client) ≡ Some talk → is_talk_of side me turn talk ≡ true →
      in_turn w me side turn ≡ Ok (line_of side me client talk)
  turn-ok me client side turn talk at is =
      ap (at_turn turn) (line_is me client side turn talk at is)
      ∙ ap (λ b. if b then Ok (line_of side me client talk) else Err WRONGTURN)
      (ap (λ (l : Talk). same_side l.turn turn) (line-talk side me client talk) ∙ turn-same side turn me client talk is)

-- ---- its own page

there-home : (home away : Reach) (o : Option (List ℕ)) → is_some o ≡ true → at_home home away o ≡ home
there-home home away None h = cc
there-home home away (Some words) h = refl

pub home-reach : (w : World) (space : Path) (address : ℕ) (write : Bool) → IsAtHome w space address
    → reach_word w space address write ≡ Home space (address / PAGE_WORDS)
unfolding reach reach_within
home-reach w space address write home =
    ap (λ b. if b then reach w space (address / PAGE_WORDS) write else Bad) home.0
    ∙ there-home (Home space (address / PAGE_WORDS)) _ (w.page space (address / PAGE_WORDS)) home.1

pub home-is : (r : Reach) → is_home r ≡ true → (t : Path) × (g : ℕ) × (r ≡ Home t g)
home-is (Home t g) h = (t, g, refl)
home-is (Missing t g keeper) h = cc
home-is Bad h = cc

pub reached-home : (w : World) (space : Path) (address : ℕ) (write far : Bool) → IsReached w space address write far →
    (t : Path) × (g : ℕ) × (reach_word w space address write ≡ Home t g)
reached-home w space address write false h = (space, address / PAGE_WORDS, home-reach w space address write h)
reached-home w space address write true h = home-is (reach_word w space address write) h

-- what holds of an option holds of something there
pub held-some : {A : Type 0} (test : A → Bool) (o : Option A) → holds test o ≡ true → (a : A) × (o ≡ Some a) × (test a ≡ true)
held-some test None h = cc
held-some test (Some a) h = (a, refl, h)
