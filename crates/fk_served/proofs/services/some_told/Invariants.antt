use Rattle.std.proofs.Common.{◌≡◌, drop}
use Rattle.fk_served.specs.Served.{some_told, shown}
use Rattle.fk_served.proofs.services.some_told.Given as goal

abbrev pub invariant-loop-entry : goal.invariant-loop-entry
invariant-loop-entry g l = some_told l.what.said l.what.ended (shown g.S.Service.meaning (drop l.entry-index l.list))
    ≡ some_told l.what.said l.what.ended (shown g.S.Service.meaning l.list)
