-- What a scenario begins with, as the code has it, is sound.
use Rattle.std.proofs.Common.{◌≡◌, ℕ, List, [], ◌∷◌, map, reverse, refl, sym, ap, subst, ◌∙◌}
use Rattle.fk_model.specs.declared.names.Who.{Who}
use Rattle.fk_model.specs.Places.{Path}
use Rattle.fk_model.specs.Sound.{IsSoundStart}
use Rattle.fk_model.specs.Who.{named}
use Rattle.fk_model.specs.World.{World}
use Rattle.fk_model.specs.Whole.{IsWhole, IsSavable}
use Rattle.fk_natives.specs.declared.native.Native.{Native}
use Rattle.fk_natives.specs.Natives.{State}
use Rattle.fk_scenario.specs.declared.entries.types.ServerEntry.{ServerEntry}
use Rattle.fk_scenario.specs.declared.scenario.scenario.Scenario.{Scenario}
use Rattle.fk_scenario.specs.Scenario.Kept.{KeepsScenario}
use Rattle.fk_boot.specs.FirstWorld.{served_ports, booted}
use Rattle.fk_boot.specs.Services.{first_services, by_paths}
use Rattle.fk_boot.specs.Starts.{start_with, ports_by}
use Rattle.fk_boot.proofs.validity.Sound.{whole_start}

abbrev paths : List (Path × State) → List Path
paths services = map (λ e. e.0) services

named_paths : (w : World) (services : List (Who × Native)) → paths (by_paths w services) ≡ ports_by w services
named_paths w [] = refl
named_paths w (e ∷ es) = ap (λ (ports : List Path). named w e.0 ∷ ports) (named_paths w es)

first_paths : (servers : List ServerEntry) → paths (first_services servers) ≡ map reverse (served_ports servers)
first_paths [] = refl
first_paths (s ∷ ss) = ap (λ (ports : List Path). reverse s.port ∷ ports) (first_paths ss)

pub begins_soundly : (s : Scenario) (w : World) (services : List (Who × Native)) (budget : ℕ) → KeepsScenario s → w ≡ booted s → IsWhole w → IsSavable w
    → by_paths w services ≡ first_services s.servers → budget ≡ s.budget → IsSoundStart (start_with s w (ports_by w services) budget)
begins_soundly s w services budget keeps world whole savable servers same =
    let ports : ports_by w services ≡ map reverse (served_ports s.servers) = sym (named_paths w services) ∙ (ap paths servers ∙ first_paths s.servers) in
    let sound = whole_start s keeps (subst IsWhole world whole) (subst IsSavable world savable) in
    subst (λ (ps : List Path). IsSoundStart (start_with s w ps budget)) (sym ports)
    (subst (λ (v : World). IsSoundStart (start_with s v (map reverse (served_ports s.servers)) budget)) (sym world)
    (subst (λ (n : ℕ). IsSoundStart (start_with s (booted s) (map reverse (served_ports s.servers)) n)) (sym same) sound))
