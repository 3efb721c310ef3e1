-- Where a run begins.
use Rattle.std.proofs.Common.{◌≡◌, List, [], sym, subst}
use Rattle.fk_model.specs.declared.moves.Move.{Move}
use Rattle.laws_house.specs.Houses.{Job}
use Rattle.laws_runs.specs.Cores.{IsRun}
use Rattle.laws_runs.specs.Cores.IsRun.{Begins}
use Rattle.fk_core.specs.Cores.Cores.{RunCore, house}

pub begun : (jobs : List Job) (first : RunCore) (history : List Move) → history ≡ [] → IsRun (house jobs) first history first
begun jobs first history is = subst (λ h. IsRun (house jobs) first h first) (sym is) Begins
