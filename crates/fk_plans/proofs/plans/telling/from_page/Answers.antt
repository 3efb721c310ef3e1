use Rattle.std.proofs.Common.{◌≡◌, length, arith, ◌∙◌}
use Rattle.std.proofs.lemmas.List.{drop-replicate}
use Rattle.fk_plans.proofs.InPlans.Lists.{rest_left}
use Rattle.fk_plans.proofs.plans.telling.from_page.Goals as goal

pub returns-clause-padded : goal.returns-clause-padded
returns-clause-padded c =
    let long : length c.copy_from_slice.new.self ≡ c.args.words.now.count = rw c.copy_from_slice.ensures.after (grind arith) in
    rest_left c.args.words.now.count _ _ long ∙ drop-replicate c.args.words.now.count 64 0
