-- A caller who is in no call has no arguments of later stages.
use Rattle.std.proofs.Common.{◌≡◌, List, [], sym, subst}
use Rattle.fk_model.specs.declared.stage.Stage.{Stage}
use Rattle.fk_changes.specs.declared.threads.answers.Answers.{Answers}
use Rattle.fk_changes.specs.declared.threads.answers.Answers.TheVariants as answers
use Rattle.fk_changes.specs.Threads.Answers.{LeaveArguments}

-- answers leave none that there are
none_left : (told : Answers) → LeaveArguments told []
none_left answers.Nothing = tt
none_left (answers.One a) = tt
none_left (answers.Two a b) = tt
none_left (answers.Three a b c) = tt

pub leaves : (told : Answers) (todo : List Stage) → todo ≡ [] → LeaveArguments told todo
leaves told todo none = subst (λ stages. LeaveArguments told stages) (sym none) (none_left told)
