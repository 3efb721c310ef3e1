-- The ports of a scenario's servers, and those of the servers with which its run begins.
use Rattle.std.proofs.Common.{◌≡◌, ℕ, List, [], ◌∷◌, map, reverse, refl, sym, ap, subst, ◌∙◌}
use Rattle.std.proofs.lemmas.List.{reverse-reverse}
use Rattle.fk_first.specs.Services.{first_state, first_services}
use Rattle.fk_model.specs.declared.names.Who.{Who}
use Rattle.fk_model.specs.Places.{Path}
use Rattle.fk_model.specs.Who.{named}
use Rattle.fk_model.specs.World.{World}
use Rattle.fk_natives.specs.Natives.{State}
use Rattle.fk_record_text.specs.Whole as whole
use Rattle.fk_runs.specs.Recordings.Ports.{with_port, ports_of}
use Rattle.fk_runs.specs.Recordings.Recording.{port_of}
use Rattle.fk_report.specs.Paths.{down_text, path_text}
use Rattle.fk_responders.specs.Notes.{Note}
use Rattle.fk_scenario.specs.declared.entries.types.ServerEntry.{ServerEntry}
use Rattle.fk_scenario.specs.declared.entries.types.ServiceSpec.{ServiceSpec}
use Rattle.fk_scenario.specs.declared.entries.types.ServiceSpec.TheVariants.{Console, Listed}
use Rattle.fk_first.specs.Served.{Services}
use Rattle.fk_recorded.specs.Pair.{IsFresh, AreFresh, recorded_as, recorded}

pub first-same : {X : Type 0} (x y : X) (xs ys : List X) → x ∷ xs ≡ y ∷ ys → x ≡ y
first-same x y xs ys same = cc

pub rest-same : {X : Type 0} (x y : X) (xs ys : List X) → x ∷ xs ≡ y ∷ ys → xs ≡ ys
rest-same x y xs ys same = cc

module _ (w : World) (notes : Who × State → List Note) where
  one : (who : Who) (state : State) (service : ServiceSpec) (slots : List ℕ) (more : List (List ℕ × List Note)) (ports : List (List ℕ))
      → state ≡ first_state service → named w who ≡ reverse slots → whole.ports_of more ≡ ports
      → whole.ports_of (recorded_as (port_of w) notes (who, state) more) ≡ with_port service (down_text slots) ports
  one who state (Console alias) slots more ports is path rest =
      subst (λ (s : State). whole.ports_of (recorded_as (port_of w) notes (who, s) more) ≡ ports) (sym is) rest
  one who state (Listed index rule config) slots more ports is path rest =
      let port : port_of w who ≡ down_text slots = ap path_text path ∙ ap down_text (reverse-reverse slots) in
      subst (λ (s : State). whole.ports_of (recorded_as (port_of w) notes (who, s) more) ≡ down_text slots ∷ ports) (sym is) (λ i. port i ∷ rest i)

  pub same-ports : (es : Services) (servers : List ServerEntry) → map (λ e. (named w e.0, e.1)) es ≡ first_services servers
      → whole.ports_of (recorded (port_of w) notes es) ≡ ports_of servers
  same-ports [] [] same = refl
  same-ports [] (s ∷ ss) same = absurd (cc)
  same-ports (e ∷ es) [] same = absurd (cc)
  same-ports ((who, state) ∷ es) (s ∷ ss) same =
      let here = first-same {X = Path × State} (named w who, state) (reverse s.port, first_state s.service) (map (λ e. (named w e.0, e.1)) es)
      (first_services ss) same in
      let rest = rest-same {X = Path × State} (named w who, state) (reverse s.port, first_state s.service) (map (λ e. (named w e.0, e.1)) es)
      (first_services ss) same in
      one who state s.service s.port (recorded (port_of w) notes es) (ports_of ss) (ap (λ (p : Path × State). p.1) here) (ap (λ (p : Path × State). p.0) here)
      (same-ports es ss rest)

-- they have no client yet
fresh-one : (service : ServiceSpec) → IsFresh (first_state service)
fresh-one (Console alias) = tt
fresh-one (Listed index rule config) = (refl, refl)

pub are-fresh : (w : World) (es : Services) (servers : List ServerEntry) → map (λ e. (named w e.0, e.1)) es ≡ first_services servers → AreFresh es
are-fresh w [] servers same = tt
are-fresh w (e ∷ es) [] same = absurd (cc)
are-fresh w (e ∷ es) (s ∷ ss) same =
    let here = first-same {X = Path × State} (named w e.0, e.1) (reverse s.port, first_state s.service) (map (λ e. (named w e.0, e.1)) es)
    (first_services ss) same in
    let rest = rest-same {X = Path × State} (named w e.0, e.1) (reverse s.port, first_state s.service) (map (λ e. (named w e.0, e.1)) es)
    (first_services ss) same in
    (subst IsFresh (sym (ap (λ (p : Path × State). p.1) here)) (fresh-one s.service), are-fresh w es ss rest)
