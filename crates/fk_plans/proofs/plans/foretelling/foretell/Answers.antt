use Rattle.std.proofs.Common.{◌≡◌, ◌∙◌, Some, None, option_map, sym, ap, refl}
use Rattle.fk_store.specs.Store.Paths.{path}
use Rattle.fk_store.specs.Store.World.{world}
use Rattle.fk_plans.specs.Plans.Verdicts.{news_in}
use Rattle.fk_plans.proofs.InPlans.Hearers.{news-fit, news-hearer, news-told, none-hearer, none-told}
use Rattle.fk_plans.proofs.plans.foretelling.foretell.Goals as goal

pub said_of-requires : goal.said_of-requires
said_of-requires c = (news-fit c.args.store.now c.args.caller c.args.verdict.now c.in-Some.news.now (sym c.news_in.ensures ∙ rw c.in-Some.is refl) c.requires.fits).1

pub returns-in-Some-clause-said : goal.returns-in-Some-clause-said
returns-in-Some-clause-said c words =
    let is : news_in c.args.verdict.now ≡ Some c.in-Some.news.now = sym c.news_in.ensures ∙ rw c.in-Some.is refl in
    let fit = news-fit c.args.store.now c.args.caller c.args.verdict.now c.in-Some.news.now is c.requires.fits in
    news-told (world c.args.store.now) (path c.args.store.now) c.args.caller.who words c.args.caller.is_porter c.args.verdict.now c.in-Some.news.now _
    is fit.0 (c.said_of.ensures.said (path c.args.store.now) refl)

pub returns-in-Some-clause-port : goal.returns-in-Some-clause-port
returns-in-Some-clause-port c =
    c.said_of.ensures.port ∙ sym (news-hearer c.args.verdict.now c.in-Some.news.now (sym c.news_in.ensures ∙ rw c.in-Some.is refl))

pub returns-in-None-clause-said : goal.returns-in-None-clause-said
returns-in-None-clause-said c words =
    none-told (world c.args.store.now) (path c.args.store.now) c.args.caller.who words c.args.caller.is_porter c.args.verdict.now
    (sym c.news_in.ensures ∙ rw c.in-None.is refl)

pub returns-in-None-clause-port : goal.returns-in-None-clause-port
returns-in-None-clause-port c = sym (none-hearer c.args.verdict.now (sym c.news_in.ensures ∙ rw c.in-None.is refl))
