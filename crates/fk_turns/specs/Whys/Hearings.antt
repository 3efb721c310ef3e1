-- Hearings: a thread at its Receive, and the talk in which it is there.
use Rattle.std.specs.Prelude.{◌≡◌, ◌⊎◌, ◌==◌, ℕ, Bool, true, Option, Some}
use Rattle.fk_model.specs.declared.thread.Talk.{Talk as StoredTalk}
use Rattle.fk_model.specs.declared.thread.Turn.{Turn}
use Rattle.fk_model.specs.declared.thread.Turn.TheVariants as turns
use Rattle.fk_model.specs.Objects.{Talk, Thread}
use Rattle.fk_model.specs.Places.{Path}
use Rattle.fk_model.specs.Reach.{reach_word}
use Rattle.fk_model.specs.Searches.{talk_at}
use Rattle.fk_model.specs.World.{World, serves}
use Rattle.fk_store.specs.Store.Bodies.{talk_by}
use Rattle.fk_store.specs.Store.Paths.{place}
use Rattle.fk_turns.specs.Whys.Causes.{port_of, served_port}
use Rattle.laws_waits.specs.Stuck.{talk_place}
use Rattle.laws_waits.specs.Touching.{is_home}

-- the port of the talk in which a thread acts on a side
abbrev pub side_port : World → Path → Thread → Turn → Option Path
side_port w x t turns.Client = port_of t.talk
side_port w x t turns.Server = served_port w x

-- as its server it is the talk's peer
abbrev pub is_mine : Turn → Path → Talk → Bool
is_mine turns.Client x talk = true
is_mine turns.Server x talk = serves x talk.peer

-- the talk in which a thread acts on a side
pub record IsTalkOn (w : World) (p : ℕ → Path) (x : Path) (t : Thread) (side : Turn) (talk : StoredTalk) : Type 0 where
  pub client : Path
  pub there : talk_at w (talk_place side x client) ≡ Some (talk_by p talk)
  pub mine : is_mine side x (talk_by p talk) ≡ true
  pub port : Some (place p talk.port) ≡ side_port w x t side

-- there is no room left, or the page is there
abbrev pub IsRoomy : World → Path → ℕ → ℕ → Type 0
IsRoomy w space into room = ((room == 0) ≡ true) ⊎ (is_home (reach_word w space into true) ≡ true)
