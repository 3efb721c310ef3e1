-- Causes: what a thread that can't move waits for.
use Rattle.std.specs.Prelude.{ℕ, Bool, not, ◌||◌, ◌==◌, nat_le, [], ◌∷◌, Option, Some, None, if◌then◌else◌}
use Rattle.fk_model.specs.declared.limits.TheConstants.{LAST_USER_SLOT}
use Rattle.fk_model.specs.declared.stage.Stage.{Stage}
use Rattle.fk_model.specs.declared.stage.Stage.TheVariants.{ClientOver, ClientOverRef, ClientReceive, ClientReceiveRef, ClientSend, CondAsleep, Connect, FaultDone, MutexLock}
use Rattle.fk_model.specs.declared.stage.Stage.TheVariants.{ServerOver, ServerOverRef, ServerReceive, ServerReceiveRef, ServerSend, SpaceHold, Wait}
use Rattle.fk_model.specs.Holds.{is_user}
use Rattle.fk_model.specs.LinkRows.{connecting_to, if_read, user_at}
use Rattle.fk_model.specs.Objects.{Fault, Talk, Thread, and_then, or_else}
use Rattle.fk_model.specs.Places.{Path, parent}
use Rattle.fk_model.specs.Readers.{space_argument}
use Rattle.fk_model.specs.Searches.{client_of, faulter_of, talk_at, thread_at}
use Rattle.fk_model.specs.Talks.{first_stage, path_to}
use Rattle.fk_model.specs.World.{World}
use Rattle.laws_waits.specs.Stuck.{is_held}

-- the outermost held one among a space and those above it
unfoldable pub outermost_held : World → Path → Option Path
outermost_held w [] = None
outermost_held w (k ∷ x) = or_else (outermost_held w x) (if is_held w (k ∷ x) then Some (k ∷ x) else None)

-- what stands in a slot that a user can name
abbrev pub named : Path → ℕ → Option Path
named space slot = if nat_le slot LAST_USER_SLOT then Some (slot ∷ space) else None

-- the port of a talk
abbrev pub port_of : Option Talk → Option Path
port_of talk = and_then (λ (t : Talk). path_to t.port) talk

-- the port of the talk that a thread serves
abbrev pub served_port : World → Path → Option Path
served_port w x = and_then (λ client. port_of (talk_at w client)) (client_of w x)

-- what a thread waits for at a stage; none stands for the thread itself
abbrev pub stage_cause : World → Path → Thread → Stage → Option Path
stage_cause w x t (MutexLock m) = named (parent x) m
stage_cause w x t (CondAsleep c m) = named (parent x) c
stage_cause w x t (Wait set) = named (parent x) set
stage_cause w x t (Connect h) = and_then path_to (connecting_to w x t)
stage_cause w x t (SpaceHold s y) = and_then (λ space. named space y) (if_read (space_argument w (user_at x) s))
stage_cause w x t FaultDone = faulter_of w x
stage_cause w x t (ClientSend address count) = port_of t.talk
stage_cause w x t (ClientReceive address room) = port_of t.talk
stage_cause w x t ClientOver = port_of t.talk
stage_cause w x t (ClientOverRef reference) = port_of t.talk
stage_cause w x t (ClientReceiveRef address room reference) = port_of t.talk
stage_cause w x t (ServerSend address count) = served_port w x
stage_cause w x t (ServerReceive address room) = served_port w x
stage_cause w x t ServerOver = served_port w x
stage_cause w x t (ServerOverRef reference) = served_port w x
stage_cause w x t (ServerReceiveRef address room reference) = served_port w x
stage_cause w x t other = None

-- with a fault its port
abbrev pub fault_port : Option Fault → Option Path → Option Path
fault_port None otherwise = otherwise
fault_port (Some fault) otherwise = path_to fault.port

-- stopped, or neither running nor in a call
abbrev pub is_at_rest : Thread → Bool
is_at_rest t = not (t.stops == 0) || not (is_user t.mode)

-- such a one waits for itself
abbrev pub thread_cause : World → Path → Thread → Option Path
thread_cause w x t = if is_at_rest t then None else fault_port t.fault (and_then (stage_cause w x t) (first_stage t.mode))

abbrev pub or_itself : Path → Option Path → Path
or_itself x None = x
or_itself x (Some cause) = cause

-- the first that holds: the space of the outermost hold above it, or what it waits for by itself
abbrev pub cause_at : World → Path → Path
cause_at w x = or_itself x (or_else (outermost_held w (parent x)) (and_then (thread_cause w x) (thread_at w x)))
