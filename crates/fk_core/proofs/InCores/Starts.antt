-- What a sound start gives to the runs that begin there.
use Rattle.std.proofs.Common.{◌≡◌, ℕ, zero, suc, ◌+◌, ◌≤◌, List, [], ◌∷◌, map, subst, arith}
use Rattle.std.proofs.lemmas.List.Elements.{All-head, All-tail}
use Rattle.std.specs.List.{All}
use Rattle.fk_model.specs.Searches.{depth}
use Rattle.fk_model.specs.Sound.{Start, MayWork}
use Rattle.laws_house.specs.Houses.{Job, Task}
use Rattle.laws_house.specs.Houses.Task.{Checkpoint, Restore}
use Rattle.laws_house.specs.Laws.{NamesUsersSlots, NameUsersSlots}
use Rattle.laws_runs.specs.Composed.{IsStart}
use Rattle.fk_core.specs.Cores.Cores.{RunCore}
use Rattle.fk_core.specs.Cores.Goings.{errand_by, errand_of, IsFirstCore}

job_slots : (s : Start) (birth : ℕ) (task : Task) → MayWork s (errand_by birth task) → NamesUsersSlots task
job_slots s birth (Checkpoint slot) may = may.1
job_slots s birth (Restore slot pairs source) may = (may.1, may.2)

all_slots : (s : Start) (jobs : List Job) → All (MayWork s) (map errand_of jobs) → NameUsersSlots jobs
all_slots s [] may index j got = cc
all_slots s (i ∷ is) may zero j got =
    let same : i ≡ j = cc in
    subst (λ (k : Job). NamesUsersSlots k.task) same (job_slots s i.nester i.task (All-head (MayWork s) (errand_of i) (map errand_of is) may))
all_slots s (i ∷ is) may (suc index) j got = all_slots s is (All-tail (MayWork s) (errand_of i) (map errand_of is) may) index j got

-- a run may begin there, its jobs name users' slots, and there is a birth number for each move that the budget has
pub record Gives (jobs : List Job) (budget : ℕ) (c : RunCore) : Type 0 where
  pub start : IsStart c
  pub slots : NameUsersSlots jobs
  pub few : c.world.next + budget ≤ depth

pub gives : (jobs : List Job) (budget : ℕ) (c : RunCore) → IsFirstCore jobs budget c → Gives jobs budget c
gives jobs budget c begins =
    let sound = begins.sound in
    let few = sound.few in
    let most = sound.budget.1 in
    record {
      start = record {
        sound = record { whole = sound.whole; savable = sound.savable };
        clean = sound.clean;
        ends = begins.ends;
        work = begins.work;
        events = begins.events;
      };
      slots = all_slots _ jobs sound.jobs;
      few = omega (arith, few, most);
    }
