use Rattle.std.proofs.Common.{sym, ◌∙◌}
use Rattle.fk_burst.proofs.InBurst.Laying.{near_pages}
use Rattle.fk_burst.proofs.burst.commits.put_back_near.Goals as goal

pub hand_back-requires-clause-pages : goal.hand_back-requires-clause-pages
hand_back-requires-clause-pages c = c.front.ensures ∙ c.lay_two-used.ensures.pages
    ∙ sym (near_pages c.args.now.now c.args.thread.space c.requires.near.0 c.requires.near.1)
