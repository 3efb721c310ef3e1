-- First cores with other servers.
use Rattle.std.proofs.Common.{◌≡◌, ℕ, ◌≤◌, List, [], ◌∷◌, None, refl, sym, ap, subst, ◌∙◌}
use Rattle.fk_boot.specs.FirstWorld.{booted}
use Rattle.fk_boot.specs.Services.{first_services, by_paths}
use Rattle.fk_boot.specs.Starts.{ports_by, start_with}
use Rattle.fk_core.specs.Cores.Cores.{core_at}
use Rattle.fk_core.specs.Cores.Kernels.{Kept, world_of as world}
use Rattle.fk_core.specs.Cores.Cores.{RunCore}
use Rattle.fk_first.specs.First.{IsBegun, IsFirst, IsFirstWith}
use Rattle.fk_core.specs.Cores.Served.{AllFit, Services}
use Rattle.fk_first.proofs.Servers.{placed-first}
use Rattle.fk_jobs.specs.Jobs.{Queue}
use Rattle.fk_model.specs.declared.moves.Rule.{Rule}
use Rattle.fk_model.specs.declared.names.Who.{Who}
use Rattle.fk_model.specs.Places.{Path}
use Rattle.fk_model.specs.Sound.{IsSoundStart}
use Rattle.fk_model.specs.Who.{named}
use Rattle.fk_model.specs.World.{World}
use Rattle.fk_natives.specs.declared.native.Native.{Native}
use Rattle.fk_natives.specs.Natives.{State, OfConsole, OfServer, OfReplay, OfTap, DoesFit}
use Rattle.fk_scenario.specs.declared.scenario.scenario.Scenario.{Scenario}
use Rattle.fk_trace.specs.Posts.{all_tapped, all_replaying, after_replaying, plain_seen, replaying_as, tapped_as}

-- a core with other servers
abbrev core_with : RunCore → Services → RunCore
core_with c servers = record { world = c.world; servers = servers; ends = c.ends; work = c.work; events = c.events }

pub first-with : (s : Scenario) (k : Kept) (services : List (Who × Native)) (q : Queue) (with : Services → Services) (c : RunCore) → world k ≡ booted s
    → IsSoundStart (start_with s (world k) (ports_by (world k) (plain_seen services)) s.budget)
    → by_paths (world k) services ≡ first_services s.servers → q.ends ≡ [] → q.work ≡ None → c ≡ core_at k (with (plain_seen services)) q 0
    → IsFirstWith s with c
first-with s k services q with c is sound places ends work same = record {
  first = core_at k (plain_seen services) q 0;
  is_first = record {
    world = is;
    sound = record { whole = sound.whole; savable = sound.savable };
    servers = placed-first (world k) services ∙ places;
    ends = ends;
    work = work;
    events = refl;
  };
  same = same;
}

-- others stand at the same ports
abbrev pub StandThere : (Services → Services) → Type 0
StandThere with = (w : World) (es : Services) → ports_by w (with es) ≡ ports_by w es

pub taps-stand : (watch : ℕ) → StandThere (all_tapped watch)
taps-stand watch w [] = refl
taps-stand watch w (e ∷ es) = ap (λ (ports : List Path). named w e.0 ∷ ports) (taps-stand watch w es)

pub replays-stand : (lists : List (List (List ℕ))) → StandThere (all_replaying lists)
replays-stand lists w [] = refl
replays-stand lists w (e ∷ es) = ap (λ (ports : List Path). named w e.0 ∷ ports) (replays-stand (after_replaying lists e.1) w es)

-- so a run may begin with these, too
pub sound-with : (s : Scenario) (k : Kept) (services : List (Who × Native)) (q : Queue) (with : Services → Services) (c : RunCore) → StandThere with
    → IsSoundStart (start_with s (world k) (ports_by (world k) (plain_seen services)) s.budget) → c ≡ core_at k (with (plain_seen services)) q 0
    → IsSoundStart (start_with s c.world (ports_by c.world c.servers) s.budget)
sound-with s k services q with c stand sound same =
    let there : IsSoundStart (start_with s (world k) (ports_by (world k) (with (plain_seen services))) s.budget) =
    subst (λ (ports : List Path). IsSoundStart (start_with s (world k) ports s.budget)) (sym (stand (world k) (plain_seen services))) sound in
    subst (λ (d : RunCore). IsSoundStart (start_with s d.world (ports_by d.world d.servers) s.budget)) (sym same) there

pub begun-with : (s : Scenario) (with : Services → Services) (c : RunCore) → IsFirstWith s with c → IsBegun s c
begun-with s with c is =
    let f = is.is_first in
    let begun : IsBegun s (core_with is.first (with is.first.servers)) = record {
      world = f.world;
      sound = f.sound;
      ends = f.ends;
      work = f.work;
      events = f.events;
    } in
    subst (λ (d : RunCore). IsBegun s d) (sym is.same) begun

-- ---- a table that fits servers fits these

fits-tap : (rules : List Rule) (watch : ℕ) (s : State) → DoesFit rules s → DoesFit rules (tapped_as watch s)
fits-tap rules watch (OfConsole alias words side) fits = fits
fits-tap rules watch (OfServer index rule config position request left side) fits = fits
fits-tap rules watch (OfReplay replies left side) fits = fits
fits-tap rules watch (OfTap other noted inner) fits = fits

pub fits-tapped : (rules : List Rule) (watch : ℕ) (es : Services) → AllFit rules es → AllFit rules (all_tapped watch es)
fits-tapped rules watch [] fits = tt
fits-tapped rules watch (e ∷ es) fits = (fits-tap rules watch e.1 fits.0, fits-tapped rules watch es fits.1)

fits-replay : (rules : List Rule) (lists : List (List (List ℕ))) (s : State) → DoesFit rules s → DoesFit rules (replaying_as lists s)
fits-replay rules lists (OfConsole alias words side) fits = fits
fits-replay rules lists (OfServer index rule config position request left side) fits = tt
fits-replay rules lists (OfReplay replies left side) fits = tt
fits-replay rules lists (OfTap other noted inner) fits = tt

pub fits-replaying : (rules : List Rule) (lists : List (List (List ℕ))) (es : Services) → AllFit rules es → AllFit rules (all_replaying lists es)
fits-replaying rules lists [] fits = tt
fits-replaying rules lists (e ∷ es) fits = (fits-replay rules lists e.1 fits.0, fits-replaying rules (after_replaying lists e.1) es fits.1)
