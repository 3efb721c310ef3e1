use Rattle.std.proofs.Common.{None, refl}
use Rattle.std.proofs.lemmas.Result.{err_from_is_err_and}
use Rattle.fk_core.proofs.cores.turns.Core.go_on_told.Goals as goal

pub returns-in_err-go_told-clause-made : goal.returns-in_err-go_told-clause-made
returns-in_err-go_told-clause-made g c =
    let tried = c.in_err-go_told.ensures.tried in
    let p = err_from_is_err_and c.from_residual.result c.from_residual.ensures.1 in rw p.1 ((record { who = c.in-Some.who; pick = None }, c.in-Some.ensures refl, tried.0, tried.1), tried.2)
