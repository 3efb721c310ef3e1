use Rattle.std.proofs.Common.{Bool, subst, sym}
use Rattle.std.specs.Bool.{OnTrue}
use Rattle.fk_waits.specs.Waits.Lists.{is_put, IsLastFor, Lists}
use Rattle.fk_waits.specs.Waits.Threads.{lists_of}
use Rattle.fk_waits.proofs.InWaits.Last.{known_last}
use Rattle.fk_waits.proofs.waits.waits.Waits.is_settled.Goals as goal

pub returns : goal.returns
returns c =
    subst (λ (b : Bool). OnTrue b (IsLastFor c.args.thread c.args.cause c.args.self.now)) (sym c.is_put.ensures)
    (subst (λ (l : Lists). OnTrue (is_put c.self.inside.last c.self.inside.cause c.args.thread c.args.cause) (IsLastFor c.args.thread c.args.cause l))
    c.self.view_is
    (known_last c.args.thread c.args.cause c.self.inside.last c.self.inside.cause (lists_of c.self.inside.threads) c.self.invariant.last_is))
