-- Ends: whose calls end with a talk.
use Rattle.std.specs.Prelude.{◌≡◌, ℕ, Bool, true, ◌||◌, ◌==◌, List, [], Option, Some, None, option_map, if◌then◌else◌}
use Rattle.std.specs.List.{list_any}
use Rattle.fk_model.specs.declared.call.TheConstants.{CLIENT_OVER, CLIENT_OVER_RECEIVE, CLIENT_OVER_REF, CLIENT_RECEIVE, CLIENT_RECEIVE_REF, CLIENT_SEND, CLIENT_SEND_OVER_RECEIVE, SERVER_OVER, SERVER_OVER_RECEIVE, SERVER_OVER_REF, SERVER_RECEIVE, SERVER_RECEIVE_REF, SERVER_SEND, SERVER_SEND_OVER_RECEIVE}
use Rattle.fk_model.specs.declared.statuses.status.TheConstants.{ENDED}
use Rattle.fk_model.specs.declared.thread.Turn.{Turn}
use Rattle.fk_model.specs.declared.thread.Turn.TheVariants as turns
use Rattle.fk_model.specs.ObjectRows.{ends_of_client}
use Rattle.fk_model.specs.Objects.{Talk, Thread, Body, thread_of, and_then, holds}
use Rattle.fk_model.specs.Places.{Path, same_path, leads_to}
use Rattle.fk_model.specs.Places.Ptr.{At}
use Rattle.fk_model.specs.Searches.{talk_at}
use Rattle.fk_model.specs.Talks.{is_talking, talking_end}
use Rattle.fk_model.specs.World.{World, edited}
use Rattle.fk_model.specs.World.Edit.{End}

-- the codes of the calls that begin with a Send, an Over or a Receive on a side
abbrev pub begins_talking : Turn → ℕ → Bool
begins_talking turns.Client n = n == CLIENT_SEND_OVER_RECEIVE || n == CLIENT_OVER_RECEIVE || n == CLIENT_RECEIVE || n == CLIENT_SEND || n == CLIENT_OVER
    || n == CLIENT_OVER_REF || n == CLIENT_RECEIVE_REF
begins_talking turns.Server n = n == SERVER_RECEIVE || n == SERVER_SEND || n == SERVER_OVER || n == SERVER_SEND_OVER_RECEIVE || n == SERVER_OVER_RECEIVE
    || n == SERVER_OVER_REF || n == SERVER_RECEIVE_REF

-- a thread is at such a stage
abbrev pub talking : Turn → Option Body → Bool
talking side b = holds (λ (t : Thread). is_talking side t.mode) (and_then thread_of b)

-- a path is one of these
abbrev pub is_in_list : Path → List Path → Bool
is_in_list q xs = list_any (same_path q) xs

-- the world in which the calls of some threads have ended
abbrev pub ended_where : (Path → Bool) → World → World
ended_where test w = record { body = λ q. if test q then option_map (edited (End ENDED [])) (w.body q) else w.body q; page = w.page; next = w.next }

-- whose call ends with a talk at which this thread is on this side, if there is one
abbrev pub ends_led : World → Turn → Option Path → List Path
ends_led w side None = []
ends_led w side (Some x) = talking_end w side (At x)

-- whose calls end with a port, of those at the ends of the talk of one client
abbrev pub ends_at : World → Path → Path → List Path
ends_at w port x = if holds (λ (talk : Talk). leads_to port talk.port) (talk_at w x) then ends_of_client w x else []

-- the calls that have ended so far end with a port
pub record HaveEnded (w v : World) (port : Path) : Type 0 where
  pub test : Path → Bool
  pub made : v ≡ ended_where test w
  pub within : (q : Path) → test q ≡ true → (c : Path) × (is_in_list q (ends_at w port c) ≡ true)
