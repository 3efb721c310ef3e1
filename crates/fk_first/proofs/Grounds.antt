-- A run may begin in a first core.
use Rattle.std.proofs.Common.{◌≡◌, ℕ, ◌≤◌, List, [], ◌∷◌, ◌++◌, map, drop, Option, Some, None, refl, sym, ap, subst, ◌∙◌}
use Rattle.std.proofs.lemmas.List.Elements.{All-nil, All-cons, All-head, All-tail}
use Rattle.std.specs.List.{All}
use Rattle.fk_model.specs.declared.job.JobSpec.{JobSpec}
use Rattle.fk_model.specs.declared.job.JobSpec.TheVariants as specs_of
use Rattle.fk_model.specs.declared.names.Who.{Who}
use Rattle.fk_model.specs.Places.{Path}
use Rattle.fk_model.specs.Sound as sounds
use Rattle.fk_model.specs.Sound.{are_apart, Start, HasNester, MayWork, names_of, IsSoundStart}
use Rattle.fk_model.specs.Who.{named}
use Rattle.fk_model.specs.World.{World}
use Rattle.fk_boot.specs.Starts.{nesters_of, start_with, ports_by}
use Rattle.fk_core.specs.Cores.Cores.{RunCore}
use Rattle.fk_core.specs.Cores.Goings.{errand_by, errand_of, start_at, HasCome}
use Rattle.fk_core.specs.Cores.Served.{shown}
use Rattle.fk_core.proofs.InCores.Histories.{begun}
use Rattle.fk_first.specs.First.{IsBegun, IsFirst}
use Rattle.fk_image.specs.declared.image.image.Image.{Image}
use Rattle.fk_natives.specs.declared.native.Native.{Native}
use Rattle.fk_natives.specs.Both.{meaning}
use Rattle.fk_natives.specs.Natives.{State}
use Rattle.fk_scenario.specs.declared.scenario.scenario.Scenario.{Scenario}
use Rattle.laws_house.specs.Houses.{Job, Task, job_of, given_first, jobs_from, jobs_of}
use Rattle.laws_house.specs.Houses.Task.{Checkpoint, Restore}

-- ---- what is planned of a job asks for no more than its entry

-- the same world, servers and nesters, with other jobs
abbrev with_jobs : Start → List sounds.Errand → ℕ → Start
with_jobs s jobs budget = record { world = s.world; ports = s.ports; nesters = s.nesters; jobs = jobs; budget = budget }

module _ (s : Start) (jobs : List sounds.Errand) (budget : ℕ) where
  nester_stays : (birth : ℕ) (told : Option Path) → HasNester s birth told → HasNester (with_jobs s jobs budget) birth None
  nester_stays birth told its = record { nester = its.nester; named = its.named; listed = its.listed; path = refl }

  one_planned : (before : List JobSpec) (spec : JobSpec) (given : Option Image) → MayWork s (sounds.errand_of spec)
      → MayWork (with_jobs s jobs budget) (errand_of (job_of before spec given))
  unfolding nester_stays
  one_planned before (specs_of.Checkpoint moment birth path slot image) given may = (nester_stays birth (Some _) may.0, may.1, may.2)
  one_planned before (specs_of.Restore moment birth slot image bind) given may = (nester_stays birth None may.0, may.1, may.2, may.3)

  all_planned : (before specs : List JobSpec) (images : List (Option Image)) → All (MayWork s) (map sounds.errand_of specs)
      → All (MayWork (with_jobs s jobs budget)) (map errand_of (jobs_from before specs images))
  unfolding jobs_from
  all_planned before [] images may = All-nil (MayWork (with_jobs s jobs budget))
  all_planned before (spec ∷ specs) images may =
      All-cons (MayWork (with_jobs s jobs budget)) (errand_of (job_of before spec (given_first images)))
      (map errand_of (jobs_from (before ++ spec ∷ []) specs (drop 1 images)))
      (one_planned before spec (given_first images) (All-head (MayWork s) (sounds.errand_of spec) (map sounds.errand_of specs) may))
      (all_planned (before ++ spec ∷ []) specs (drop 1 images) (All-tail (MayWork s) (sounds.errand_of spec) (map sounds.errand_of specs) may))

-- and under no name
unnamed_one : (j : Job) (es : List sounds.Errand) → names_of (errand_of j ∷ es) ≡ names_of es
unnamed_one j es = by j.task
  where
    by : (task : Task) → names_of (errand_by j.nester task ∷ es) ≡ names_of es
    by (Checkpoint slot) = refl
    by (Restore slot pairs source) = refl

unnamed : (jobs : List Job) → names_of (map errand_of jobs) ≡ []
unnamed [] = refl
unnamed (j ∷ js) = unnamed_one j (map errand_of js) ∙ unnamed js

sound_planned : (s : Start) (specs : List JobSpec) (images : List (Option Image)) (budget : ℕ) → s.jobs ≡ map sounds.errand_of specs → budget ≡ s.budget
    → IsSoundStart s → IsSoundStart (with_jobs s (map errand_of (jobs_of specs images)) budget)
unfolding are_apart
sound_planned s specs images budget jobs same sound = record {
  whole = sound.whole;
  savable = sound.savable;
  uncut = sound.uncut;
  clean = sound.clean;
  idle = sound.idle;
  few = sound.few;
  served = sound.served;
  one_each = sound.one_each;
  porters = sound.porters;
  jobs = all_planned s (map errand_of (jobs_of specs images)) budget [] specs images (subst (All (MayWork s)) jobs sound.jobs);
  names = rw (unnamed (jobs_of specs images)) refl;
  budget = subst (λ (n : ℕ). (1 ≤ n) × (n ≤ 1000000)) (sym same) sound.budget;
}

-- ---- a run may begin

-- whatever its servers have come to, where these stand at such ports
pub begins-soundly : (s : Scenario) (given : List (Option Image)) (c : RunCore) (jobs : List Job) (budget : ℕ)
    → IsSoundStart (start_with s c.world (ports_by c.world c.servers) s.budget) → c.ends ≡ [] → c.work ≡ None → c.events ≡ 0
    → jobs ≡ jobs_of s.jobs given → budget ≡ s.budget → HasCome jobs budget c
begins-soundly s given c jobs budget sound ends work events same_jobs same_budget = record {
  first = c;
  past = [];
  run = begun jobs c [] refl;
  begins = record {
    nesters = nesters_of s.spaces;
    sound = subst (λ (js : List Job). IsSoundStart (start_at js budget (nesters_of s.spaces) c)) (sym same_jobs)
        (sound_planned (start_with s c.world (ports_by c.world c.servers) s.budget) s.jobs given budget refl same_budget sound);
    ends = ends;
    work = work;
    events = events;
  };
}

pub first-begun : (s : Scenario) (c : RunCore) → IsFirst s c → IsBegun s c
first-begun s c is = record { world = is.world; sound = is.sound; ends = is.ends; work = is.work; events = is.events }

-- ---- servers as contracts see them stand at the same ports

ports_shown : (w : World) (services : List (Who × Native)) → ports_by w (shown meaning services) ≡ ports_by w services
ports_shown w [] = refl
ports_shown w (e ∷ es) = ap (λ (ports : List Path). named w e.0 ∷ ports) (ports_shown w es)

pub shown-sound : (s : Scenario) (w : World) (services : List (Who × Native)) (list : List (Who × State)) (budget : ℕ) → list ≡ shown meaning services
    → budget ≡ s.budget → IsSoundStart (start_with s w (ports_by w services) budget) → IsSoundStart (start_with s w (ports_by w list) s.budget)
shown-sound s w services list budget same same_budget sound =
    subst (λ (n : ℕ). IsSoundStart (start_with s w (ports_by w list) n)) same_budget
    (subst (λ (ports : List Path). IsSoundStart (start_with s w ports budget)) (sym (ap (ports_by w) same ∙ ports_shown w services)) sound)
