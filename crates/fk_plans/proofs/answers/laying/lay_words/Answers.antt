use Rattle.std.proofs.Common.{◌≡◌, length, ap, arith}
use Rattle.fk_model.specs.declared.statuses.status.TheConstants.{OK}
use Rattle.fk_model.specs.Outcomes.Said.{Answered}
use Rattle.fk_plans.proofs.InPlans.Lists.{all_taken, none_left}
use Rattle.fk_plans.proofs.answers.laying.lay_words.Goals as goal

pub returns-clause-said : goal.returns-clause-said
returns-clause-said c p =
    let long : length c.args.words.now ≡ 64 = omega arith in
    rw c.copy_from_slice.ensures.after (ap (Answered OK) (all_taken 64 c.args.words.now long))

pub returns-clause-padded : goal.returns-clause-padded
returns-clause-padded c =
    let long : length c.args.words.now ≡ 64 = omega arith in
    rw c.copy_from_slice.ensures.after (none_left 64 c.args.words.now long)
