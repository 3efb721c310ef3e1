use Rattle.fk_store.specs.Store.Paths.{path, place}
use Rattle.fk_store.specs.Store.World.{IsLive}
use Rattle.fk_changes.proofs.InDeaths.Scans.{ArePassed, left_from}
use Rattle.fk_plans.proofs.InPlans.Following.{IsFollower}
use Rattle.fk_plans.proofs.plans.renaming.may_each_follow.Given as goal

-- each may follow, or is yet to come
abbrev pub invariant-loop-at : goal.invariant-loop-at
invariant-loop-at l = ArePassed (IsLive l.store) (IsFollower l.store (place (path l.store) l.me) (place (path l.store) l.renamed)) l.at

abbrev pub decreases-loop-at : goal.decreases-loop-at
decreases-loop-at l = left_from l.at
