use Rattle.laws_seen.proofs.Ways.{what_isnt_other}
use Rattle.laws_seen.proofs.what_isnt_other_is_onward_or_unseen.Goals as goal

pub returns : goal.returns
returns c = what_isnt_other
