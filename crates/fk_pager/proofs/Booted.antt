-- What a scenario begins with is a moment at which a pager may begin.
use Rattle.std.proofs.Common.{◌≡◌, ℕ, ◌≤◌, Bool, true, false, ◌&&◌, ◌==◌, nat_le, is_some, if◌then◌else◌, List, [], ◌∷◌, map, length, reverse}
use Rattle.std.proofs.Common.{Option, Some, None, refl, sym, ap, subst, ◌∙◌}
use Rattle.std.proofs.lemmas.Bool.{leb-true}
use Rattle.std.proofs.lemmas.List.Elements.{All-head, All-tail}
use Rattle.std.specs.List.{All}
use Rattle.fk_boot.specs.FirstWorld.{booted}
use Rattle.fk_boot.specs.Services.{first_state, first_services, by_paths}
use Rattle.fk_host.specs.Served.{Services, AllFit, shown}
use Rattle.fk_model.specs.declared.job.JobSpec.{JobSpec}
use Rattle.fk_model.specs.declared.limits.TheConstants.{LAST_USER_SLOT, LAST_SCRATCH_SLOT, LAST_PORTER_SLOT}
use Rattle.fk_model.specs.LinkRows.{is_member, portset_of}
use Rattle.fk_model.specs.Objects.{Body, and_then}
use Rattle.fk_model.specs.Objects.Body.{Mutex, Cond, Mapping, Region, Port, Portset, Space, Thread_of, Reference}
use Rattle.fk_model.specs.Valid.{IsValid}
use Rattle.fk_model.specs.Whole.{stands_in, KeepsSlots}
use Rattle.fk_pager.specs.Desks.{root}
use Rattle.fk_pager.proofs.Left.{set-there}
use Rattle.fk_model.specs.declared.moves.Rule.{Rule}
use Rattle.fk_model.specs.declared.names.Who.{Who}
use Rattle.fk_model.specs.Places.{Path}
use Rattle.fk_model.specs.Who.{named}
use Rattle.fk_model.specs.World.{World}
use Rattle.fk_natives.specs.Both.{meaning}
use Rattle.fk_natives.specs.declared.native.Native.{Native}
use Rattle.fk_natives.specs.Natives.{State, DoesFit}
use Rattle.fk_report.specs.Report.{states}
use Rattle.fk_scenario.specs.Scenario.Kept.{HasRule}
use Rattle.fk_scenario.specs.declared.entries.types.ServerEntry.{ServerEntry}
use Rattle.fk_scenario.specs.declared.entries.types.ServiceSpec.{ServiceSpec}
use Rattle.fk_scenario.specs.declared.entries.types.ServiceSpec.TheVariants.{Console, Listed}
use Rattle.fk_scenario.specs.declared.scenario.scenario.Scenario.{Scenario}
use Rattle.fk_pager.specs.Desks.{IsPageable}
use Rattle.fk_pager.specs.Pages.{MayBePaged}

-- ---- servers

fits-first : (rules : List Rule) (spec : ServiceSpec) → HasRule rules spec → DoesFit rules (first_state spec)
fits-first rules (Console alias) has = tt
fits-first rules (Listed index rule config) has = has

first-same : {X : Type 0} (x y : X) (xs ys : List X) → x ∷ xs ≡ y ∷ ys → x ≡ y
first-same x y xs ys same = cc

rest-same : {X : Type 0} (x y : X) (xs ys : List X) → x ∷ xs ≡ y ∷ ys → xs ≡ ys
rest-same x y xs ys same = cc

-- a table by which a scenario was read fits its servers
pub all-fit : (rules : List Rule) (w : World) (services : List (Who × Native)) (servers : List ServerEntry) → by_paths w services ≡ first_services servers
    → All (λ e. HasRule rules e.service) servers → AllFit rules (shown meaning services)
all-fit rules w [] servers same has = tt
all-fit rules w (s ∷ ss) [] same has = absurd (cc)
all-fit rules w (s ∷ ss) (e ∷ es) same has =
    let one = first-same {X = Path × State} (named w s.0, meaning s.1) (reverse e.port, first_state e.service) (by_paths w ss) (first_services es) same in
    let state : meaning s.1 ≡ first_state e.service = ap (λ (p : Path × State). p.1) one in
    let rest = rest-same {X = Path × State} (named w s.0, meaning s.1) (reverse e.port, first_state e.service) (by_paths w ss) (first_services es) same in (
      subst (DoesFit rules) (sym state) (fits-first rules e.service (All-head (λ e. HasRule rules e.service) e es has)),
      all-fit rules w ss es rest (All-tail (λ e. HasRule rules e.service) e es has),
    )

-- each by the path of its port
pub placed-first : (w : World) (services : List (Who × Native)) → map (λ e. (named w e.0, e.1)) (shown meaning services) ≡ by_paths w services
placed-first w [] = refl
placed-first w (s ∷ ss) = ap (λ rest. (named w s.0, meaning s.1) ∷ rest) (placed-first w ss)

-- what they are
pub states-shown : (means : Native → State) (xs : List (Who × Native)) (list : Services) → shown means xs ≡ list
    → states means xs ≡ map (λ (e : Who × State). e.1) list
states-shown means xs list is = by xs ∙ ap (map (λ (e : Who × State). e.1)) is
  where
    by : (xs : List (Who × Native)) → states means xs ≡ map (λ (e : Who × State). e.1) (shown means xs)
    by [] = refl
    by (x ∷ xs) = ap (λ (ss : List State). means x.1 ∷ ss) (by xs)

-- ---- a set is in a user's slot

low-set : (set : ℕ) → stands_in set Portset ≡ true → set ≤ LAST_USER_SLOT
low-set set stands = by (nat_le set LAST_USER_SLOT) refl stands
  where
    beyond : (scratch last : Bool) → (if scratch then false else (last && false)) ≡ true → ⊥
    beyond true last e = cc
    beyond false true e = cc
    beyond false false e = cc

    by : (b : Bool) → nat_le set LAST_USER_SLOT ≡ b →
        (if b then true else (if nat_le set LAST_SCRATCH_SLOT then false else (set == LAST_PORTER_SLOT && false))) ≡ true →
        set ≤ LAST_USER_SLOT
    by true e h = leb-true set LAST_USER_SLOT e
    by false e h = absurd (beyond (nat_le set LAST_SCRATCH_SLOT) (set == LAST_PORTER_SLOT) h)

pub set-low : (w : World) (port set : ℕ) → IsValid w → KeepsSlots w → is_member set (w.body (port ∷ root)) ≡ true → set ≤ LAST_USER_SLOT
set-low w port set valid kept member = by (w.body (set ∷ root)) refl (set-there w port set valid member)
  where
    by : (o : Option Body) → w.body (set ∷ root) ≡ o → is_some (and_then portset_of o) ≡ true → set ≤ LAST_USER_SLOT
    by (Some Portset) e is = low-set set (kept set root Portset e)
    by None e is = absurd (cc)
    by (Some (Mutex locked)) e is = absurd (cc)
    by (Some Cond) e is = absurd (cc)
    by (Some (Mapping m)) e is = absurd (cc)
    by (Some (Region r)) e is = absurd (cc)
    by (Some (Port its served)) e is = absurd (cc)
    by (Some (Space birth holder)) e is = absurd (cc)
    by (Some (Thread_of t)) e is = absurd (cc)
    by (Some (Reference to)) e is = absurd (cc)

-- ---- who may not be paged

pub with-jobs : (slot : ℕ) (s : Scenario) → (length s.jobs ≡ 0 → ⊥) → MayBePaged slot s → ⊥
with-jobs slot s some may = some (ap length may.0)

pub without-jobs : (jobs : List JobSpec) → length jobs ≡ 0 → jobs ≡ []
without-jobs [] e = refl
without-jobs (j ∷ js) e = cc

pub not-pageable : (slot : ℕ) (s : Scenario) (w : World) → w ≡ booted s → (IsPageable w slot → ⊥) → MayBePaged slot s → ⊥
not-pageable slot s w is none may = none (subst (λ (v : World). IsPageable v slot) (sym is) may.1)
