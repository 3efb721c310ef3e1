-- A pair that is driven goes on as the run that it is.
use Rattle.std.proofs.Common.{◌≡◌, ◌↔◌, Bool, true, IsTrue, List, subst, sym}
use Rattle.fk_model.specs.declared.moves.Rule.{Rule}
use Rattle.fk_served.specs.Served.{AllFit}
use Rattle.fk_migrate.specs.Runs.{IsReadyEvent}
use Rattle.fk_packets.specs.declared.events.Event.{Event as PairEvent}
use Rattle.fk_migrate.specs.Pairs.{Shown, Start, IsRunOf, IsReady, IsDriven, Drives}

pub drives_not : (rules : List Rule) (s : Shown) → IsDriven rules s → Drives rules s s
drives_not rules s driven = record { driven = driven; run = λ from its. its }

pub drives_on : (rules : List Rule) (s t u : Shown) → Drives rules s t → Drives rules t u → Drives rules s u
drives_on rules s t u first second = record { driven = second.driven; run = λ from its. second.run from (first.run from its) }

-- nothing that is seen has changed
pub drives_equal : (rules : List Rule) (s t : Shown) → t ≡ s → IsDriven rules s → Drives rules s t
drives_equal rules s t same driven = subst (λ (x : Shown). Drives rules s x) (sym same) (drives_not rules s driven)

pub drives_from : (rules : List Rule) (s r t : Shown) → r ≡ s → Drives rules r t → Drives rules s t
drives_from rules s r t same drives = subst (λ (x : Shown). Drives rules x t) same drives

pub driven_equal : (rules : List Rule) (s t : Shown) → t ≡ s → IsDriven rules s → IsDriven rules t
driven_equal rules s t same driven = subst (λ (x : Shown). IsDriven rules x) (sym same) driven

pub driven_of : (rules : List Rule) (s t : Shown) → Drives rules s t → IsDriven rules t
driven_of rules s t drives = drives.driven

pub ready_there : (s t : Shown) (e : PairEvent) (b : Bool) → t ≡ s → b ≡ true
    → ((from : Start) (its : IsRunOf s from) → IsTrue b ↔ IsReadyEvent from.slot its.run e) → IsReady t e
ready_there s t e b same is exact = subst (λ (x : Shown). IsReady x e) (sym same) (λ from its. (exact from its).0 is)

-- by a step
pub drives_step : (rules : List Rule) (s t : Shown) → IsDriven rules s → ((from : Start) → IsRunOf s from → IsRunOf t from) → AllFit rules t.near.servers
    → AllFit rules t.far.servers → Drives rules s t
drives_step rules s t driven run near far = record {
  driven = record { run = record { from = driven.run.from; its = run driven.run.from driven.run.its }; near = near; far = far };
  run = run;
}

pub drives_by : (rules : List Rule) (s r t : Shown) → r ≡ s → IsDriven rules s → ((from : Start) → IsRunOf r from → IsRunOf t from)
    → AllFit rules t.near.servers → AllFit rules t.far.servers → Drives rules s t
drives_by rules s r t same driven run near far = drives_from rules s r t same (drives_step rules r t (driven_equal rules s r same driven) run near far)
