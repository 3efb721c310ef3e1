use Rattle.std.proofs.Common.{◌∙◌}
use Rattle.fk_burst.proofs.burst.commits.put_back_far.Goals as goal

pub hand_back-requires-clause-pages : goal.hand_back-requires-clause-pages
hand_back-requires-clause-pages c = c.front.ensures ∙ c.lay_all-used.ensures.pages
