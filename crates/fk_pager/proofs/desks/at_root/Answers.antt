use Rattle.std.proofs.Common.{IfSome, sym, subst, ◌∙◌}
use Rattle.fk_model.specs.declared.names.Who.{Who}
use Rattle.fk_store.specs.Store.Paths.{path, IsAtHome}
use Rattle.fk_pager.proofs.Rooted.{at-root}
use Rattle.fk_pager.proofs.desks.at_root.Goals as goal

pub returns-clause-body : goal.returns-clause-body
returns-clause-body c = sym (at-root c.args.store.now c.args.slot c.in_root.result c.in_root.ensures) ∙ c.at.ensures.body

pub returns-clause-home : goal.returns-clause-home
returns-clause-home c = subst (λ (who : Who). IfSome c.at.result (λ body. IsAtHome (path c.args.store.now) who body.now)) c.in_root.ensures c.at.ensures.home
