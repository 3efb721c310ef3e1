use Rattle.laws_handover.proofs.Whys.{cancel_says_why}
use Rattle.laws_handover.proofs.what_is_cancelled_says_why.Goals as goal

pub returns : goal.returns
returns g c = λ k w v es why e. cancel_says_why k w v es why e
