-- Talking: words that go from a thread to one that receives them leave the reason of every other.
use Rattle.std.proofs.Common.{◌≡◌, ◌≤◌, ◌&&◌, ℕ, Bool, true, false, is_some, List, [], ◌∷◌, Option, Some, None, Ok, Err, refl, ap, sym, subst, ◌∙◌, inl}
use Rattle.std.proofs.Common.{if◌then◌else◌, cond, option_map}
use Rattle.std.proofs.lemmas.Bool.{and_parts}
use Rattle.fk_calls.specs.Calls.Goings.{is_behind_send, is_orderly, is_over, sending, IsReceiver, Meets}
use Rattle.fk_model.specs.declared.moves.Ask.{Ask}
use Rattle.fk_model.specs.declared.stage.Stage.{Stage}
use Rattle.fk_model.specs.declared.stage.Stage.TheVariants.{ClientOver, ClientReceive, ClientReceiveRef, ClientSend, Create, ServerOver, ServerSend}
use Rattle.fk_model.specs.declared.statuses.status.TheConstants.{WRONGTURN}
use Rattle.fk_model.specs.declared.thread.Turn.{Turn}
use Rattle.fk_model.specs.declared.thread.Turn.TheVariants as turns
use Rattle.fk_model.specs.Moves.{outcome, step}
use Rattle.fk_model.specs.Objects.{Body, Mode, Talk, Thread, and_then, holds, thread_of}
use Rattle.fk_model.specs.Objects.Body.{Cond, Mapping, Mutex, Port, Portset, Reference, Region, Space, Thread_of}
use Rattle.fk_model.specs.Objects.Mode.{Calling, Halted, Native, Running}
use Rattle.fk_model.specs.Objects.Peer.{Server}
use Rattle.fk_model.specs.Outcomes.{listed}
use Rattle.fk_model.specs.Places.{Path, same_path}
use Rattle.fk_model.specs.Places.Ptr.{At}
use Rattle.fk_model.specs.Searches.{client_of, depth, objects, talk_at, thread_at}
use Rattle.fk_model.specs.Talks.{line, line_from, other_side, receive_on, same_side, Line}
use Rattle.fk_model.specs.TransferRows.{at_turn}
use Rattle.fk_model.specs.Valid.{IsValid}
use Rattle.fk_model.specs.World.{World, Change, Edit, apply, edited, finished_in, serves, shifted_in}
use Rattle.fk_model.specs.World.Change.{Alter, PutPage}
use Rattle.fk_model.specs.World.Edit.{CountMoved, Finish, Shift}
use Rattle.fk_model.proofs.walks.Members.{find_some}
use Rattle.fk_model.proofs.walks.PlaceLaws.{same_path_eq, same_path_refl}
use Rattle.fk_store.specs.Store.Paths.{place}
use Rattle.fk_store.specs.Store.Threads.{todo_at, todo_of_mode, todo_of_thread}
use Rattle.fk_turns.specs.declared.whys.whys.Why.{Why}
use Rattle.fk_turns.specs.declared.whys.whys.Why.TheVariants as whys
use Rattle.fk_turns.specs.Whys.Whys.{IsWhy}
use Rattle.fk_turns.proofs.InWhys.Apart.{is_barred_why, loud_named, own_named, read_named}
use Rattle.fk_waits.proofs.InCauses.Numbers.{clash}
use Rattle.laws_waits.specs.Calm.{AreApartFrom, AreMild, IsApart, IsMild}
use Rattle.laws_waits.specs.Complete.{is_barred}
use Rattle.laws_waits.specs.Stuck.{awaits_on, is_talk_of, is_with, AreUntouched, HasRoom, IsTalkingTo, Reason, IsStuck}
use Rattle.laws_waits.specs.Stuck.End.{Absent}
use Rattle.laws_waits.specs.Stuck.Reason.{Barred, Beneath, Connecting, Ending, Holding, Lacking, Locking, Passing, Receiving, Resting, Sending, Sleeping, Waiting}
use Rattle.laws_waits.specs.Stuck.Reason.{WaitingOut}
use Rattle.laws_waits.specs.Touching.{is_loud, is_reachable, is_reachable_stage, IsThreadEdit}
use Rattle.laws_waits.proofs.Mild.{mild_changes_touch_nobody_lem}
use Rattle.laws_waits.proofs.Rows.{client-found, held-some, serves-is}
use Rattle.laws_waits.proofs.Stays.{moves_leave_stuck_lem}

-- ---- who meets whom

-- of two, which is the client and which the server
abbrev pub AreTwo : Turn → Path → Path → Path → Path → Type 0
AreTwo turns.Client me y client server = (client ≡ me) × (server ≡ y)
AreTwo turns.Server me y client server = (client ≡ y) × (server ≡ me)

-- the talk of a client with the other of two
pub record IsPair (w : World) (me y client : Path) (side : Turn) : Type 0 where
  pub server : Path
  pub talk : Talk
  pub there : talk_at w client ≡ Some talk
  pub peer : serves server talk.peer ≡ true
  pub two : AreTwo side me y client server

module _ (w : World) (me client y : Path) where
  taken : (turn : Turn) (l k : Line) → Ok l ≡ at_turn turn (Some k) → l ≡ k
  taken turn l k is = by (same_side k.talk.turn turn) is
    where
      by : (b : Bool) → Ok l ≡ (if b then Ok k else Err WRONGTURN) → l ≡ k
      by true is = cc
      by false is = absurd (cc)

  by_client : (l : Line) (o : Option Talk) → talk_at w me ≡ o → Ok l ≡ at_turn turns.Client (line_from me (λ (talk : Talk). talk.peer) o) →
      l.client ≡ client → l.other ≡ Server (At y) → IsPair w me y client turns.Client
  by_client l None e is c other = absurd (cc)
  by_client l (Some talk) e is c other =
      let same = taken turns.Client l (record { client = me; talk = talk; other = talk.peer }) is in
      let here : client ≡ me = sym c ∙ ap (λ (k : Line). k.client) same in
      let peer : talk.peer ≡ Server (At y) = sym (ap (λ (k : Line). k.other) same) ∙ other in
      record {
        server = y;
        talk = talk;
        there = subst (λ (q : Path). talk_at w q ≡ Some talk) (sym here) e;
        peer = ap (serves y) peer ∙ same_path_refl y;
        two = (here, refl);
      }

  by_server : (l : Line) (c : Path) (o : Option Talk) → client_of w me ≡ Some c → talk_at w c ≡ o →
      Ok l ≡ at_turn turns.Server (line_from c (λ (talk : Talk). Server (At c)) o) → l.client ≡ client → l.other ≡ Server (At y) →
      IsPair w me y client turns.Server
  unfolding client_of
  by_server l c None found e is c_is other = absurd (cc)
  by_server l c (Some talk) found e is c_is other =
      let same = taken turns.Server l (record { client = c; talk = talk; other = Server (At c) }) is in
      let here : client ≡ c = sym c_is ∙ ap (λ (k : Line). k.client) same in
      let to : Server (At c) ≡ Server (At y) = sym (ap (λ (k : Line). k.other) same) ∙ other in
      let its : c ≡ y = cc in
      let test = (find_some (λ (q : Path). holds (λ (talk : Talk). serves me talk.peer) (talk_at w q)) c (objects w) found).1 in
      record {
        server = me;
        talk = talk;
        there = subst (λ (q : Path). talk_at w q ≡ Some talk) (sym here) e;
        peer = sym (ap (holds (λ (talk : Talk). serves me talk.peer)) e) ∙ test;
        two = (here ∙ its, refl);
      }

  of_server : (l : Line) (o : Option Path) → client_of w me ≡ o →
      Ok l ≡ at_turn turns.Server (and_then (λ (c : Path). line_from c (λ (talk : Talk). Server (At c)) (talk_at w c)) o) → l.client ≡ client →
      l.other ≡ Server (At y) → IsPair w me y client turns.Server
  of_server l None e is c other = absurd (cc)
  of_server l (Some c) e is c_is other = by_server l c (talk_at w c) e refl is c_is other

  pub pair : (side : Turn) → Meets w me client y side → IsPair w me y client side
  unfolding line
  pair turns.Client meets = by_client meets.line (talk_at w me) refl meets.turn meets.client_is meets.other
  pair turns.Server meets = of_server meets.line (client_of w me) refl meets.turn meets.client_is meets.other

-- ---- threads in calls

pub record IsIn (w : World) (x : Path) (todo : List Stage) : Type 0 where
  pub thread : Thread
  pub rest : List ℕ
  pub there : thread_at w x ≡ Some thread
  pub mode : thread.mode ≡ Calling todo rest

pub in_call : (w : World) (x : Path) (stage : Stage) (later : List Stage) → todo_at w x ≡ stage ∷ later → IsIn w x (stage ∷ later)
unfolding todo_at
in_call w x stage later is = by (thread_at w x) refl is
  where
    by_mode : (t : Thread) (m : Mode) → thread_at w x ≡ Some t → t.mode ≡ m → todo_of_mode m ≡ stage ∷ later → IsIn w x (stage ∷ later)
    by_mode t (Calling todo rest) there e h = record { thread = t; rest = rest; there = there; mode = e ∙ ap (λ (l : List Stage). Calling l rest) h }
    by_mode t (Running g) there e h = absurd (cc)
    by_mode t (Halted g code) there e h = absurd (cc)
    by_mode t (Native g) there e h = absurd (cc)

    by : (o : Option Thread) → thread_at w x ≡ o → todo_of_thread o ≡ stage ∷ later → IsIn w x (stage ∷ later)
    by None there h = absurd (cc)
    by (Some t) there h = by_mode t t.mode there refl h

-- a test of what a thread is at
abbrev pub is_at : (Mode → Bool) → Option Thread → Bool
is_at test o = holds (λ (t : Thread). test t.mode) o

pub at_counted : (test : Mode → Bool) (w : World) (x z : Path) (k : ℕ) → is_at test (thread_at (apply (Alter z (CountMoved k)) w) x) ≡ is_at test (thread_at w x)
unfolding apply edited
at_counted test w x z k = by (same_path x z) (w.body x)
  where
    by : (b : Bool) (o : Option Body) →
        is_at test (and_then thread_of (cond b (option_map (edited (CountMoved k)) o) o)) ≡ is_at test (and_then thread_of o)
    by false o = refl
    by true None = refl
    by true (Some (Mutex old)) = refl
    by true (Some Cond) = refl
    by true (Some (Mapping window)) = refl
    by true (Some (Region extent)) = refl
    by true (Some (Port set served)) = refl
    by true (Some Portset) = refl
    by true (Some (Space birth holder)) = refl
    by true (Some (Thread_of thread)) = refl
    by true (Some (Reference old)) = refl

pub at_shifted : (test : Mode → Bool) (w : World) (x z : Path) (k : ℕ) → ((m : Mode) → test m ≡ true → test (shifted_in k m) ≡ true) →
    is_at test (thread_at w x) ≡ true → is_at test (thread_at (apply (Alter z (Shift k)) w) x) ≡ true
unfolding apply edited
at_shifted test w x z k stays is = by (same_path x z) (w.body x) is
  where
    by : (b : Bool) (o : Option Body) → is_at test (and_then thread_of o) ≡ true →
        is_at test (and_then thread_of (cond b (option_map (edited (Shift k)) o) o)) ≡ true
    by false o is = is
    by true None is = absurd (cc)
    by true (Some (Mutex old)) is = absurd (cc)
    by true (Some Cond) is = absurd (cc)
    by true (Some (Mapping window)) is = absurd (cc)
    by true (Some (Region extent)) is = absurd (cc)
    by true (Some (Port set served)) is = absurd (cc)
    by true (Some Portset) is = absurd (cc)
    by true (Some (Space birth holder)) is = absurd (cc)
    by true (Some (Thread_of thread)) is = stays thread.mode is
    by true (Some (Reference old)) is = absurd (cc)

abbrev pub anywhere : Mode → Bool
anywhere m = true

-- ---- a Send, and what is behind it

abbrev is_send : Stage → Bool
is_send (ClientSend address count) = true
is_send (ServerSend address count) = true
is_send (Create s x kind) = false
is_send other = false

abbrev pub is_sender : Mode → Bool
is_sender (Calling (stage ∷ todo) rest) = is_send stage && is_orderly (stage ∷ todo)
is_sender other = false

pub sender_shifted : (k : ℕ) (m : Mode) → is_sender m ≡ true → is_sender (shifted_in k m) ≡ true
sender_shifted k (Calling (ClientSend address count ∷ todo) rest) is = is
sender_shifted k (Calling (ServerSend address count ∷ todo) rest) is = is
sender_shifted k (Calling (stage ∷ todo) rest) is = absurd (cc)
sender_shifted k (Calling [] rest) is = absurd (cc)
sender_shifted k (Running g) is = absurd (cc)
sender_shifted k (Halted g code) is = absurd (cc)
sender_shifted k (Native g) is = absurd (cc)

pub is_sending : (side : Turn) (address count : ℕ) (later : List Stage) (rest : List ℕ) → is_orderly (sending side address count ∷ later) ≡ true →
    is_sender (Calling (sending side address count ∷ later) rest) ≡ true
is_sending turns.Client address count later rest is = is
is_sending turns.Server address count later rest is = is

over_unreached : (side : Turn) (s : Stage) → is_over side s ≡ true → is_reachable_stage s ≡ false
over_unreached turns.Client ClientOver is = refl
over_unreached turns.Server ServerOver is = refl
over_unreached side other is = absurd (cc)

behind_unreached : (side : Turn) (t : Thread) (rest : List ℕ) (stage : Stage) (later : List Stage) → is_behind_send side later ≡ true →
    is_reachable (finished_in [] t (Calling (stage ∷ later) rest)).mode ≡ false
behind_unreached side t rest stage [] is = refl
behind_unreached side t rest stage (next ∷ later) is = over_unreached side next (and_parts (is_over side next) _ is).0

-- a thread whose Send is done is at no stage at which others reach it
sent_unreached : (t : Thread) (m : Mode) → is_sender m ≡ true → is_reachable (finished_in [] t m).mode ≡ false
sent_unreached t (Calling (ClientSend address count ∷ todo) rest) is = behind_unreached turns.Client t rest (ClientSend address count) todo is
sent_unreached t (Calling (ServerSend address count ∷ todo) rest) is = behind_unreached turns.Server t rest (ServerSend address count) todo is
sent_unreached t (Calling (stage ∷ todo) rest) is = absurd (cc)
sent_unreached t (Calling [] rest) is = absurd (cc)
sent_unreached t (Running g) is = absurd (cc)
sent_unreached t (Halted g code) is = absurd (cc)
sent_unreached t (Native g) is = absurd (cc)

-- nobody receives there
unreceived : (side : Turn) (m : Mode) → is_sender m ≡ true → awaits_on side m ≡ None
unreceived turns.Client (Calling (ClientSend address count ∷ todo) rest) is = refl
unreceived turns.Server (Calling (ClientSend address count ∷ todo) rest) is = refl
unreceived turns.Client (Calling (ServerSend address count ∷ todo) rest) is = refl
unreceived turns.Server (Calling (ServerSend address count ∷ todo) rest) is = refl
unreceived side (Calling (stage ∷ todo) rest) is = absurd (cc)
unreceived side (Calling [] rest) is = absurd (cc)
unreceived side (Running g) is = absurd (cc)
unreceived side (Halted g code) is = absurd (cc)
unreceived side (Native g) is = absurd (cc)

-- an edit of a thread that is there
pub quiet_at : (w : World) (z : Path) (e : Edit) → IsThreadEdit e → is_at anywhere (thread_at w z) ≡ true →
    ((t : Thread) → thread_at w z ≡ Some t → is_loud e t ≡ false) → IsMild w z (Alter z e)
quiet_at w z e plain there quiet = by (thread_at w z) refl there
  where
    by : (o : Option Thread) → thread_at w z ≡ o → is_at anywhere o ≡ true → IsMild w z (Alter z e)
    by None is some = absurd (cc)
    by (Some t) is some = inl (record { edit = e; thread = t; is = refl; there = is; quiet = quiet t is; plain = plain })

-- a sender is there, and done quietly
pub somebody : (o : Option Thread) → is_at is_sender o ≡ true → is_at anywhere o ≡ true
somebody None is = absurd (cc)
somebody (Some t) is = refl

pub done_quiet : (o : Option Thread) → is_at is_sender o ≡ true → (t : Thread) → o ≡ Some t → is_loud (Finish []) t ≡ false
done_quiet None is t e = absurd (cc)
done_quiet (Some u) is t e = let same : u ≡ t = cc in subst (λ (v : Thread). is_loud (Finish []) v ≡ false) same (sent_unreached u u.mode is)

-- ---- whose reason looks elsewhere

module _ (w : World) (x : Path) where
  -- the words of whom a reason looks at
  abbrev LooksOff : Path → Type 0
  LooksOff at = (a : Turn) (address count : ℕ) (far : Bool) (its z : Path) (into room : ℕ) → IsStuck w x (Lacking a address count far its z into room) →
      same_path z at ≡ false

  off : (at : Path) → same_path x at ≡ false → LooksOff at → (r : Reason) → IsStuck w x r → is_barred r ≡ false → IsApart at x r
  off at apart looks (Lacking a address count far its z into room) stuck named = (apart, looks a address count far its z into room stuck)
  off at apart looks Barred stuck named = absurd (cc)
  off at apart looks Resting stuck named = apart
  off at apart looks (Beneath space) stuck named = apart
  off at apart looks (Locking m) stuck named = apart
  off at apart looks (Sleeping c m) stuck named = apart
  off at apart looks (Connecting h port) stuck named = apart
  off at apart looks (Receiving a into room reference far its) stuck named = apart
  off at apart looks (Passing a reference its end) stuck named = apart
  off at apart looks (Sending a address count far its end) stuck named = apart
  off at apart looks (Ending z space) stuck named = apart
  off at apart looks (Holding h z space) stuck named = apart
  off at apart looks (Waiting set) stuck named = apart
  off at apart looks (WaitingOut set) stuck named = apart

module _ (w : World) (me x : Path) (mine : is_at is_sender (thread_at w me) ≡ true) (mover : same_path x me ≡ false) where
  none_awaited : (a : Turn) (o : Option Thread) → is_at is_sender o ≡ true → and_then (λ (t : Thread). awaits_on a t.mode) o ≡ None
  none_awaited a None is = absurd (cc)
  none_awaited a (Some t) is = unreceived a t.mode is

  none_is : (p : ℕ × ℕ) → ◌≡◌ {A = Option (ℕ × ℕ)} None (Some p) → ⊥
  none_is p is = absurd (cc)

  room_no_mover : (a : Turn) (z : Path) (into room : ℕ) → HasRoom w a z into room → same_path z me ≡ false
  room_no_mover a z into room has = by (same_path z me) refl
    where
      by : (b : Bool) → same_path z me ≡ b → b ≡ false
      by false e = refl
      by true e =
          absurd (none_is (into, room) (sym (none_awaited (other_side a) (thread_at w me) mine)
          ∙ ap (λ (q : Path). and_then (λ (t : Thread). awaits_on (other_side a) t.mode) (thread_at w q)) (sym (same_path_eq z me e)) ∙ has.0))

  pub off_sender : (r : Reason) → IsStuck w x r → is_barred r ≡ false → IsApart me x r
  off_sender = off w x me mover (λ a address count far its z into room stuck. room_no_mover a z into room stuck.4)

-- ---- the list of a Send

module _ (w : World) (me client y s : Path) (page k : ℕ) (words : List ℕ) where
  abbrev pub places : Bool → List Path
  places last = me ∷ client ∷ y ∷ me ∷ (if last then me ∷ [] else [])

  abbrev pub sent : Bool → List Change
  sent last = PutPage s page words ∷ Alter client (CountMoved k) ∷ Alter y (Shift k) ∷ Alter me (Shift k) ∷ (if last then Alter me (Finish []) ∷ [] else [])

  abbrev paged : World
  paged = apply (PutPage s page words) w

  abbrev counted : World
  counted = apply (Alter client (CountMoved k)) paged

  abbrev heard : World
  heard = apply (Alter y (Shift k)) counted

  abbrev spoken : World
  spoken = apply (Alter me (Shift k)) heard

  module _ (there : is_some (w.page s page) ≡ true) (mine : is_at is_sender (thread_at w me) ≡ true) (theirs : is_at anywhere (thread_at w y) ≡ true)
      (side : Turn) (pair : IsPair w me y client side) where
    clients : is_at anywhere (thread_at w client) ≡ true
    clients = by side pair.two
      where
        by : (side : Turn) → AreTwo side me y client pair.server → is_at anywhere (thread_at w client) ≡ true
        by turns.Client two = subst (λ (q : Path). is_at anywhere (thread_at w q) ≡ true) (sym two.0) (somebody (thread_at w me) mine)
        by turns.Server two = subst (λ (q : Path). is_at anywhere (thread_at w q) ≡ true) (sym two.0) theirs

    in_paged : (test : Mode → Bool) (x : Path) → is_at test (thread_at w x) ≡ true → is_at test (thread_at paged x) ≡ true
    unfolding apply
    in_paged test x is = is

    in_counted : (test : Mode → Bool) (x : Path) → is_at test (thread_at w x) ≡ true → is_at test (thread_at counted x) ≡ true
    in_counted test x is = at_counted test paged x client k ∙ in_paged test x is

    mine_heard : is_at is_sender (thread_at heard me) ≡ true
    mine_heard = at_shifted is_sender counted me y k (sender_shifted k) (in_counted is_sender me mine)

    mine_spoken : is_at is_sender (thread_at spoken me) ≡ true
    mine_spoken = at_shifted is_sender heard me me k (sender_shifted k) mine_heard

    pub sent_mild : (last : Bool) → AreMild w (places last) (sent last)
    sent_mild last = (
      inl there,
      (
        quiet_at paged client (CountMoved k) (refl, refl, refl) (in_paged anywhere client clients) (λ t is. refl),
        (
          quiet_at counted y (Shift k) (refl, refl, refl) (in_counted anywhere y theirs) (λ t is. refl),
          (quiet_at heard me (Shift k) (refl, refl, refl) (somebody (thread_at heard me) mine_heard) (λ t is. refl), by last),
        ),
      ),
    )
      where
        by : (last : Bool) → AreMild spoken (if last then me ∷ [] else []) (if last then Alter me (Finish []) ∷ [] else [])
        by true =
            (quiet_at spoken me (Finish []) (refl, refl, refl) (somebody (thread_at spoken me) mine_spoken) (done_quiet (thread_at spoken me) mine_spoken), tt)
        by false = tt

    -- ---- whose reason looks elsewhere

    module _ (x : Path) (mover : same_path x me ≡ false) (other : same_path x y ≡ false) (valid : IsValid w) (few : w.next ≤ depth)
        (receives : IsReceiver w y (other_side side)) where
      no_both : {X : Type 0} (stage : Stage) → is_some (receive_on turns.Client stage) ≡ true → is_some (receive_on turns.Server stage) ≡ true → X
      no_both (ClientReceive into room) h g = absurd (cc)
      no_both (ClientReceiveRef into room reference) h g = absurd (cc)
      no_both stage h g = absurd (cc)

      -- a stage receives on one side
      one_side : (a b : Turn) (stage : Stage) → is_some (receive_on (other_side a) stage) ≡ true → is_some (receive_on (other_side b) stage) ≡ true → a ≡ b
      one_side turns.Client turns.Client stage h g = refl
      one_side turns.Server turns.Server stage h g = refl
      one_side turns.Client turns.Server stage h g = no_both stage g h
      one_side turns.Server turns.Client stage h g = no_both stage h g

      not_mover : {X : Type 0} → x ≡ me → X
      not_mover is = let on : same_path x me ≡ true = ap (same_path x) (sym is) ∙ same_path_refl x in clash (same_path x me) on mover

      -- whoever talks with the receiver on this side is the sender
      same_talker : (side : Turn) (client : Path) (pair : IsPair w me y client side) (its : Path) → IsTalkingTo w x side its (Absent y) → x ≡ me
      same_talker turns.Client client pair its talking =
          let found = held-some (λ (talk : Talk). is_talk_of turns.Client x turns.Client talk && is_with turns.Client its (Absent y) talk) (talk_at w x) talking in
          let serving : holds (λ (talk : Talk). serves y talk.peer) (talk_at w x) ≡ true =
          ap (holds (λ (talk : Talk). serves y talk.peer)) found.1 ∙ (and_parts _ _ found.2).1 in
          let mine_there : talk_at w me ≡ Some pair.talk = subst (λ (q : Path). talk_at w q ≡ Some pair.talk) pair.two.0 pair.there in
          let mine_serving : holds (λ (talk : Talk). serves y talk.peer) (talk_at w me) ≡ true =
          ap (holds (λ (talk : Talk). serves y talk.peer)) mine_there ∙ subst (λ (q : Path). serves q pair.talk.peer ≡ true) pair.two.1 pair.peer in
          let one : Some x ≡ Some me = sym (client-found w valid few y x serving) ∙ client-found w valid few y me mine_serving in
          cc
      same_talker turns.Server client pair its talking =
          let found = held-some (λ (talk : Talk). is_talk_of turns.Server x turns.Server talk && is_with turns.Server its (Absent y) talk) (talk_at w its) talking in
          let parts = and_parts _ _ found.2 in
          let here = same_path_eq its y parts.1 in
          let by_x = serves-is x found.0.peer (and_parts _ _ parts.0).1 in
          let there : Some found.0 ≡ Some pair.talk = sym found.1 ∙ ap (talk_at w) here ∙ ap (talk_at w) (sym pair.two.0) ∙ pair.there in
          let one : found.0 ≡ pair.talk = cc in
          let by_me = serves-is me pair.talk.peer (subst (λ (q : Path). serves q pair.talk.peer ≡ true) pair.two.1 pair.peer) in
          let both : Server (At x) ≡ Server (At me) = sym by_x ∙ ap (λ (t : Talk). t.peer) one ∙ by_me in
          cc

      receiver : IsIn w y (receives.stage ∷ [])
      receiver = in_call w y receives.stage [] receives.alone

      -- who is at its Receive with room receives on that side
      room_side : (a : Turn) (into room : ℕ) → HasRoom w a y into room → a ≡ side
      room_side a into room has =
          let there : receive_on (other_side a) receives.stage ≡ Some (into, room) =
          sym (ap (and_then (λ (t : Thread). awaits_on (other_side a) t.mode)) receiver.there ∙ ap (awaits_on (other_side a)) receiver.mode) ∙ has.0 in
          one_side a side receives.stage (ap is_some there) receives.receives

      room_no_receiver : (a : Turn) (its z : Path) (into room : ℕ) → IsTalkingTo w x a its (Absent z) → HasRoom w a z into room → same_path z y ≡ false
      room_no_receiver a its z into room talking has = by (same_path z y) refl
        where
          by : (b : Bool) → same_path z y ≡ b → b ≡ false
          by false e = refl
          by true e =
              let here = same_path_eq z y e in
              let its_side = room_side a into room (subst (λ (q : Path). HasRoom w a q into room) here has) in
              let talks : IsTalkingTo w x side its (Absent y) = subst (λ (d : Turn). IsTalkingTo w x d its (Absent y)) its_side
              (subst (λ (q : Path). IsTalkingTo w x a its (Absent q)) here talking) in
              not_mover (same_talker side client pair its talks)

      off_mover : (r : Reason) → IsStuck w x r → is_barred r ≡ false → IsApart me x r
      off_mover = off_sender w me x mine mover

      off_receiver : (r : Reason) → IsStuck w x r → is_barred r ≡ false → IsApart y x r
      off_receiver = off w x y other (λ a address count far its z into room stuck. room_no_receiver a its z into room stuck.3 stuck.4)

      off_client : (r : Reason) → IsStuck w x r → is_barred r ≡ false → IsApart client x r
      off_client r stuck named = by side pair.two
        where
          by : (side : Turn) → AreTwo side me y client pair.server → IsApart client x r
          by turns.Client two = subst (λ (q : Path). IsApart q x r) (sym two.0) (off_mover r stuck named)
          by turns.Server two = subst (λ (q : Path). IsApart q x r) (sym two.0) (off_receiver r stuck named)

      sent_apart : (last : Bool) (r : Reason) → IsStuck w x r → is_barred r ≡ false → AreApartFrom (places last) (sent last) x r
      sent_apart last r stuck named =
          (off_mover r stuck named, (off_client r stuck named, (off_receiver r stuck named, (off_mover r stuck named, by last))))
        where
          by : (last : Bool) → AreApartFrom (if last then me ∷ [] else []) (if last then Alter me (Finish []) ∷ [] else []) x r
          by true = (off_mover r stuck named, tt)
          by false = tt

      module _ (last : Bool) (pick : Option Path) (ask : Ask) (row : listed (outcome w me pick ask) ≡ sent last) where
        stuck_after : (r : Reason) → IsStuck w x r → is_barred r ≡ false → IsStuck (step w me pick ask).world x r
        stuck_after r stuck named =
            moves_leave_stuck_lem w x r me pick ask stuck
            (subst (λ (l : List Change). AreUntouched w l x r) (sym row)
            (mild_changes_touch_nobody_lem w (places last) (sent last) x r (sent_mild last) stuck (sent_apart last r stuck named)))

        pub why_sent : (p : ℕ → Path) (why : Why) → is_barred_why why ≡ false → IsWhy w p x why → IsWhy (step w me pick ask).world p x why
        why_sent p whys.Still named is = record { reason = is.reason; stuck = stuck_after is.reason is.stuck (own_named is.reason is.own); own = is.own }
        why_sent p (whys.At key) named is = record {
          reason = is.reason;
          stuck = stuck_after is.reason is.stuck (read_named x (place p key) is.reason is.read);
          read = is.read;
        }
        why_sent p whys.Loud named is = record { reason = is.reason; stuck = stuck_after is.reason is.stuck (loud_named is.reason is.loud); loud = is.loud }
        why_sent p whys.Barred named is = absurd (cc)
