-- A table that fits the servers with which a run begins fits them to its end.
use Rattle.std.proofs.Common.{List, [], ◌∷◌, map}
use Rattle.fk_model.specs.declared.moves.Move.{Move}
use Rattle.fk_model.specs.declared.moves.Rule.{Rule}
use Rattle.fk_model.specs.Runs.{Event}
use Rattle.fk_model.specs.World.{World}
use Rattle.laws_house.specs.Houses.{Job}
use Rattle.laws_house.specs.Houses as houses
use Rattle.laws_jobs.specs.Machines.Head.{Stops, Asks}
use Rattle.laws_jobs.specs.Machines.{Head}
use Rattle.laws_runs.specs.Cores.{IsRun, Settles, Asker, asker, moved_by, job_moved, with_end}
use Rattle.laws_runs.specs.Cores.Asker.{Nobody, Others, Job as OfJob}
use Rattle.laws_runs.specs.Cores.IsRun.{Begins, Goes}
use Rattle.laws_runs.specs.Cores.Settles.{Stays, Ends}
use Rattle.fk_core.specs.Cores.Served.{Services, AllFit, hears_of}
use Rattle.fk_core.proofs.InCores.Hearing.{fit-after}
use Rattle.fk_core.specs.Cores.Cores.{RunCore, house}

fits-hears : (rules : List Rule) (w : World) (e : Event) (services : Services) → AllFit rules services → AllFit rules (map (hears_of w e) services)
fits-hears rules w e [] fits = tt
fits-hears rules w e (s ∷ ss) fits = (fit-after rules s.1 _ fits.0, fits-hears rules w e ss fits.1)

fits-job : (rules : List Rule) (jobs : List Job) (c : RunCore) (e : Event) (begun : _) (s : houses.State) (h : Head houses.End)
    → AllFit rules c.servers → AllFit rules (job_moved (house jobs) c e begun s h).servers
fits-job rules jobs c e begun s (Asks stage words) fits = fits-hears rules c.world e c.servers fits
fits-job rules jobs c e begun s (Stops end) fits = fits-hears rules c.world e c.servers fits

fits-moved : (rules : List Rule) (jobs : List Job) (c : RunCore) (m : Move) (a : Asker houses.State)
    → AllFit rules c.servers → AllFit rules (moved_by (house jobs) c m a).servers
fits-moved rules jobs c m Nobody fits = fits
fits-moved rules jobs c m (Others ask) fits = fits-hears rules c.world _ c.servers fits
fits-moved rules jobs c m (OfJob begun s stage words) fits = fits-job rules jobs c _ begun _ _ fits

fits-settled : (rules : List Rule) (jobs : List Job) (c d : RunCore) → Settles (house jobs) c d → AllFit rules c.servers → AllFit rules d.servers
fits-settled rules jobs c d (Stays _ none) fits = fits
fits-settled rules jobs c d (Ends _ _ why now settles) fits = fits-settled rules jobs (with_end c why) d settles fits

pub fits_along : (rules : List Rule) (jobs : List Job) (first c : RunCore) (past : List Move)
    → IsRun (house jobs) first past c → AllFit rules first.servers → AllFit rules c.servers
fits_along rules jobs first _ _ Begins fits = fits
fits_along rules jobs first _ _ (Goes past c m d run ready settles) fits =
    fits-settled rules jobs _ d settles (fits-moved rules jobs c m (asker (house jobs) c m.who) (fits_along rules jobs first c past run fits))
