-- Answers: those of a stage, and what is left of its call.
use Rattle.std.specs.Prelude.{ℕ, Bool, ◌==◌, List, [], ◌∷◌, Option, Some, None, if◌then◌else◌, ⊤}
use Rattle.fk_model.specs.declared.call.TheConstants.{CLIENT_OVER_RECEIVE, CLIENT_RECEIVE, CLIENT_SEND_OVER_RECEIVE, CONNECT_SEND_OVER_RECEIVE, SERVER_OVER_RECEIVE, SERVER_RECEIVE, SERVER_SEND_OVER_RECEIVE, WAIT_RECEIVE}
use Rattle.fk_model.specs.declared.stage.Stage.{Stage}
use Rattle.fk_model.specs.declared.stage.Stage.TheVariants.{Connect}
use Rattle.fk_model.specs.Objects.{flag_of}
use Rattle.fk_changes.specs.declared.threads.answers.Answers.{Answers}
use Rattle.fk_changes.specs.declared.threads.answers.Four.{Four}
use Rattle.fk_changes.specs.declared.threads.answers.Answers.TheVariants.{Nothing, One, Two, Three}

-- answers, as a list
abbrev pub listed : Answers → List ℕ
listed Nothing = []
listed (One a) = a ∷ []
listed (Two a b) = a ∷ b ∷ []
listed (Three a b c) = a ∷ b ∷ c ∷ []

-- four answers, as a list
abbrev pub all_four : Four → List ℕ
all_four answers = answers.first ∷ answers.second ∷ answers.third ∷ answers.fourth ∷ []

-- a stage that awaits a pointer answers whether one came
abbrev pub came_answers : Option Bool → List ℕ
came_answers None = []
came_answers (Some came) = flag_of came ∷ []

-- the code of a call without its first stage; none where that is its last
abbrev pub code_after : ℕ → Option ℕ
code_after n =
    if n == CONNECT_SEND_OVER_RECEIVE then Some CLIENT_SEND_OVER_RECEIVE else
    (if n == CLIENT_SEND_OVER_RECEIVE then Some CLIENT_OVER_RECEIVE else
    (if n == CLIENT_OVER_RECEIVE then Some CLIENT_RECEIVE else
    (if n == WAIT_RECEIVE then Some SERVER_RECEIVE else
    (if n == SERVER_SEND_OVER_RECEIVE then Some SERVER_OVER_RECEIVE else
    (if n == SERVER_OVER_RECEIVE then Some SERVER_RECEIVE else None)))))

-- answers stand in other registers than the arguments of later stages: after connect these begin with the third
abbrev pub LeaveArguments : Answers → List Stage → Type 0
LeaveArguments (Two a b) (Connect h ∷ next ∷ todo) = ⊥
LeaveArguments (Three a b c) (Connect h ∷ next ∷ todo) = ⊥
LeaveArguments other todo = ⊤
