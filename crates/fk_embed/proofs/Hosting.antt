-- The servers with which a scenario begins fit a table by which it was read, and stand at the same ports as contracts see them.
use Rattle.std.proofs.Common.{◌≡◌, ℕ, List, [], ◌∷◌, map, reverse, refl, sym, ap, ◌∙◌, subst}
use Rattle.std.proofs.lemmas.List.Elements.{All-head, All-tail}
use Rattle.std.specs.List.{All}
use Rattle.fk_boot.specs.Services.{first_state, first_services, by_paths}
use Rattle.fk_boot.specs.Starts.{ports_by, start_with}
use Rattle.fk_model.specs.declared.moves.Rule.{Rule}
use Rattle.fk_model.specs.declared.names.Who.{Who}
use Rattle.fk_model.specs.Places.{Path}
use Rattle.fk_model.specs.Sound.{IsSoundStart}
use Rattle.fk_model.specs.Who.{named}
use Rattle.fk_model.specs.World.{World}
use Rattle.fk_natives.specs.Both.{meaning}
use Rattle.fk_natives.specs.declared.native.Native.{Native}
use Rattle.fk_natives.specs.Natives.{State, DoesFit}
use Rattle.fk_scenario.specs.Scenario.Kept.{HasRule}
use Rattle.fk_scenario.specs.declared.entries.types.ServerEntry.{ServerEntry}
use Rattle.fk_scenario.specs.declared.entries.types.ServiceSpec.{ServiceSpec}
use Rattle.fk_scenario.specs.declared.entries.types.ServiceSpec.TheVariants.{Console, Listed}
use Rattle.fk_scenario.specs.declared.scenario.scenario.Scenario.{Scenario}
use Rattle.fk_served.specs.Served.{AllFit, shown}

-- what a server rests on is what its entry has
fits-first : (rules : List Rule) (spec : ServiceSpec) → HasRule rules spec → DoesFit rules (first_state spec)
fits-first rules (Console alias) has = tt
fits-first rules (Listed index rule config) has = has

first-same : {X : Type 0} (x y : X) (xs ys : List X) → x ∷ xs ≡ y ∷ ys → x ≡ y
first-same x y xs ys same = cc

rest-same : {X : Type 0} (x y : X) (xs ys : List X) → x ∷ xs ≡ y ∷ ys → xs ≡ ys
rest-same x y xs ys same = cc

pub all-fit : (rules : List Rule) (w : World) (services : List (Who × Native)) (servers : List ServerEntry) → by_paths w services ≡ first_services servers
    → All (λ e. HasRule rules e.service) servers → AllFit rules (shown meaning services)
all-fit rules w [] servers same has = tt
all-fit rules w (s ∷ ss) [] same has = absurd (cc)
all-fit rules w (s ∷ ss) (e ∷ es) same has =
    let one = first-same {X = Path × State} (named w s.0, meaning s.1) (reverse e.port, first_state e.service) (by_paths w ss) (first_services es) same in
    let state : meaning s.1 ≡ first_state e.service = ap (λ (p : Path × State). p.1) one in
    let rest = rest-same {X = Path × State} (named w s.0, meaning s.1) (reverse e.port, first_state e.service) (by_paths w ss) (first_services es) same in (
      subst (DoesFit rules) (sym state) (fits-first rules e.service (All-head (λ e. HasRule rules e.service) e es has)),
      all-fit rules w ss es rest (All-tail (λ e. HasRule rules e.service) e es has),
    )

-- each by the path of its port
pub placed-first : (w : World) (services : List (Who × Native)) → map (λ e. (named w e.0, e.1)) (shown meaning services) ≡ by_paths w services
placed-first w [] = refl
placed-first w (s ∷ ss) = ap (λ rest. (named w s.0, meaning s.1) ∷ rest) (placed-first w ss)

ports_shown : (w : World) (services : List (Who × Native)) → ports_by w (shown meaning services) ≡ ports_by w services
ports_shown w [] = refl
ports_shown w (e ∷ es) = ap (λ (ports : List Path). named w e.0 ∷ ports) (ports_shown w es)

pub shown-sound : (s : Scenario) (w : World) (services : List (Who × Native)) (budget : ℕ) → budget ≡ s.budget
    → IsSoundStart (start_with s w (ports_by w services) budget) → IsSoundStart (start_with s w (ports_by w (shown meaning services)) s.budget)
shown-sound s w services budget same_budget sound =
    subst (λ (n : ℕ). IsSoundStart (start_with s w (ports_by w (shown meaning services)) n)) same_budget
    (subst (λ (ports : List Path). IsSoundStart (start_with s w ports budget)) (sym (ports_shown w services)) sound)
