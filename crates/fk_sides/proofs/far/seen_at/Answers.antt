use Rattle.std.proofs.Common.{sym, ap, ◌∙◌}
use Rattle.laws_handover.specs.FarSide.{Made}
use Rattle.laws_migrate.specs.Migration.{Why, of_job}
use Rattle.laws_restore.specs.Restore.Restore.{State}
use Rattle.fk_sides.proofs.Looks.{is_built_so, goes_so, ended_so}
use Rattle.fk_sides.proofs.far.seen_at.Goals as goal

pub returns-then-built : goal.returns-then-built
returns-then-built c = is_built_so c.args.restore.now.image c.args.restore.now.state (sym c.built.ensures ∙ c.if-built.true)

pub returns-in-None : goal.returns-in-None
returns-in-None c =
    goes_so c.args.restore.now.slot c.args.restore.now.image c.args.restore.now.state (sym c.built.ensures ∙ c.if-built.false) c.in-None.ensures.none

pub returns-in-Some : goal.returns-in-Some
returns-in-Some c =
    ended_so c.args.restore.now.slot c.args.restore.now.image c.args.restore.now.state c.in-Some.end.now c.in-Some.ensures.some
    ∙ ap (λ (m : Made State Why). of_job c.args.restore.now.image m) c.refusal_in.ensures
