-- Acts of servers: where there is none, and no user's move either, no move is left but a job's.
use Rattle.std.proofs.Common.{◌≡◌, ℕ, false, length, Option, Some, None, option_map, IfSome, sym, subst}
use Rattle.fk_model.specs.declared.moves.Ask.TheVariants as asks
use Rattle.fk_model.specs.declared.moves.Move.{Move}
use Rattle.fk_model.specs.Who.{named, event_of}
use Rattle.fk_model.specs.World.{World}
use Rattle.laws_jobs.specs.Machines.{IsReadyAt}
use Rattle.laws_runs.specs.Cores.{IsOtherReady}
use Rattle.fk_jobs.specs.Jobs.{Queue, current}
use Rattle.fk_jobs.specs.Turns.{core_of}
use Rattle.fk_served.specs.Acts.{IsReadyFor, HaveNoActs}
use Rattle.fk_served.specs.Served.{Services, asked}
use Rattle.fk_served.proofs.Acts.{runs}
use Rattle.fk_served.proofs.Idle.{no-asked}
use Rattle.fk_core.specs.Moment.Moments.{house, porter_of, is_porter, AreUsersIdle, IsOthersMove}
use Rattle.fk_core.proofs.InMoment.Asking.{IsAsked, asked_other, other_name, runs_move}

-- ---- no move is left

pub over : (q : Queue) (w : World) (services : Services) (events : ℕ) →
    AreUsersIdle q w → HaveNoActs services w (porter_of (current q)) 0 (length services) →
    IsOtherReady (house q.jobs) (core_of w services q events) → ⊥
over q w services events users acts (m, ask, as_others, ready) =
    no-asked services w (porter_of (current q)) users acts m other (subst (IsReadyFor w m) (sym wants.is) ready)
  where
    other : is_porter q m.who ≡ false
    other = other_name q w services events m.who ask as_others

    wants : IsAsked (asked services w m.who) ask
    wants = asked_other q w services events m.who ask as_others

-- who is ready to run is ready in a core, where it is no porter whose job's turn it is
pub runs-other : (q : Queue) (w : World) (services : Services) (events : ℕ) (m : Move) → is_porter q m.who ≡ false → IsReadyAt w (event_of w asks.Run m) →
    IsOthersMove q.jobs (core_of w services q events) m
runs-other q w services events m other ready =
    runs_move q w services events m other (runs services w m.who (option_map (named w) m.pick) ready) ready

pub if-some : {A : Type 0} (o : Option A) (X Y : A → Type 0) → ((a : A) → X a → Y a) → IfSome o X → IfSome o Y
if-some None X Y f h = tt
if-some (Some a) X Y f h = f a h
