use Rattle.std.proofs.Common.{◌≡◌, length, ap, arith, ◌∙◌}
use Rattle.std.proofs.lemmas.List.{drop-replicate}
use Rattle.fk_model.specs.declared.statuses.status.TheConstants.{OK}
use Rattle.fk_model.specs.Outcomes.Said.{Answered}
use Rattle.fk_plans.proofs.InPlans.Lists.{first_taken, rest_left}
use Rattle.fk_plans.proofs.plans.recording.told_words.Goals as goal

pub returns-clause-said : goal.returns-clause-said
returns-clause-said c p =
    let long : length c.args.shown ≡ 32 = omega arith in rw c.copy_from_slice.ensures.after (ap (Answered OK) (first_taken 32 c.args.shown _ long))

pub returns-clause-padded : goal.returns-clause-padded
returns-clause-padded c =
    let long : length c.args.shown ≡ 32 = omega arith in
    rw c.copy_from_slice.ensures.after (rest_left 32 c.args.shown _ long ∙ drop-replicate 32 64 0)
