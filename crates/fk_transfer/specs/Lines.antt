-- Lines: a talk by paths, and who is at which end of it.
use Rattle.std.specs.Prelude.{◌≡◌, ◌≤◌, ℕ, Bool, true, false, is_some, [], ◌∷◌, Option, Some, Ok}
use Rattle.fk_model.specs.declared.stage.Stage.{Stage}
use Rattle.fk_model.specs.declared.stage.Stage.TheVariants.{ClientOver, ClientSend, ServerOver, ServerSend}
use Rattle.fk_model.specs.declared.thread.Turn.{Turn}
use Rattle.fk_model.specs.declared.thread.Turn.TheVariants as turns
use Rattle.fk_model.specs.Objects.{Talk}
use Rattle.fk_model.specs.Objects.Peer.{Server, Service}
use Rattle.fk_model.specs.Places.{Path, same_path}
use Rattle.fk_model.specs.Places.Ptr.{At}
use Rattle.fk_model.specs.Searches.{talk_at}
use Rattle.fk_model.specs.Talks as talks
use Rattle.fk_model.specs.TransferRows.{in_turn}
use Rattle.fk_model.specs.World.{World}
use Rattle.fk_store.specs.Store.Bodies.{talk_by, peer_by}
use Rattle.fk_store.specs.Store.Paths.{place}
use Rattle.fk_store.specs.Store.Threads.{is_free_at, todo_at}
use Rattle.fk_changes.specs.Threads.Shifted.{address_of}
use Rattle.fk_model.specs.declared.names.Who.{Who}
use Rattle.fk_changes.specs.declared.threads.answers.Answers.TheVariants.{Nothing}
use Rattle.fk_plans.specs.declared.plans.plan.Deed.TheVariants as deeds
use Rattle.fk_plans.specs.declared.plans.plan.Moving.{Moving}
use Rattle.fk_plans.specs.declared.plans.plan.Plan.TheVariants as plans
use Rattle.fk_plans.specs.declared.plans.plan.Verdict.{Verdict}
use Rattle.fk_plans.specs.declared.plans.plan.Verdict.TheVariants as verdicts
use Rattle.fk_transfer.specs.declared.lines.Line.{Line}
use Rattle.fk_plans.specs.declared.plans.plan.News.TheVariants as news
use Rattle.fk_transfer.specs.declared.passing.Passage.{Passage}
use Rattle.fk_transfer.specs.declared.sending.Telling.{Telling}
pub use Rattle.fk_changes.specs.Threads.Firsts.{IsFirst}

-- a talk with who is at its ends, by paths
abbrev pub line_by : (ℕ → Path) → Line → talks.Line
line_by p line = record { client = place p line.client; talk = talk_by p line.talk; other = peer_by p line.other }

-- the Send of a side
abbrev pub sending : Turn → ℕ → ℕ → Stage
sending turns.Client address count = ClientSend address count
sending turns.Server address count = ServerSend address count

-- and its Over
abbrev pub over_on : Turn → Stage
over_on turns.Client = ClientOver
over_on turns.Server = ServerOver

-- a thread is in no call, or at its Send on this side
abbrev pub IsSender : World → Path → Turn → ℕ → ℕ → Type 0
IsSender w x side address count = IsFirst (sending side address count) (todo_at w x)

-- a thread that sends and one that receives are two, and have no higher addresses in their stages
pub record AreEnds (w : World) (sender receiver : Path) (address into : ℕ) : Type 0 where
  pub apart : same_path sender receiver ≡ false
  pub sends : address_of (todo_at w sender) ≤ address
  pub receives : address_of (todo_at w receiver) ≤ into

-- the receive of a thread is done, and the turn passes
abbrev pub passed_by : Who → Turn → Who → Option Bool → Verdict
passed_by client turn peer came = verdicts.Done (plans.Two (deeds.Finishes peer came) (deeds.Passes client turn)) Nothing

-- the verdict over a turn that passes to a thread at its Receive
abbrev pub passed_of : Passage → Verdict
passed_of h = passed_by h.client h.turn h.receiver h.came

-- a client hands the turn to the native server of a port, which hears it
abbrev pub yielded_of : Who → Who → Verdict
yielded_of who port = verdicts.Tells (plans.One (deeds.Passes who turns.Server)) (news.Passed port) true

-- words of its page go to a native server
abbrev pub telling_of : Who → Telling → Verdict
telling_of who t = verdicts.Tells (plans.Two (deeds.Counts who t.words.count) (deeds.Shifts who t.words.count)) (news.Words t.words) t.last

-- ---- who meets whom

-- in a talk of this client, at this side's turn, that thread is at the other end
pub record Meets (w : World) (me client receiver : Path) (side : Turn) : Type 0 where
  pub line : talks.Line
  pub turn : Ok line ≡ in_turn w me side side
  pub client_is : line.client ≡ client
  pub other : line.other ≡ Server (At receiver)

-- a client's talk is with a native server
pub record IsServed (w : World) (me : Path) : Type 0 where
  pub talk : Talk
  pub there : talk_at w me ≡ Some talk
  pub service : talk.peer ≡ Service

-- a free thread is at its Receive on a side, with a reference or without, and at nothing behind it
pub record IsReceiver (w : World) (x : Path) (side : Turn) : Type 0 where
  pub free : is_free_at w x ≡ true
  pub stage : Stage
  pub alone : todo_at w x ≡ stage ∷ []
  pub receives : is_some (talks.receive_on side stage) ≡ true

-- words that move are those of a talk of this client, to this thread and from that
abbrev pub IsBetween : Who → Who → Who → Moving → Type 0
IsBetween client receiver sender m = (m.client ≡ client) × (m.receiver ≡ receiver) × (m.sender ≡ sender)
