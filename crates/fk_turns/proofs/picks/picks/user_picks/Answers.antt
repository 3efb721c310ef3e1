use Rattle.fk_store.specs.Store.Paths.{path}
use Rattle.fk_store.specs.Store.World.{world}
use Rattle.fk_turns.proofs.InPicks.Leading.{if_none}
use Rattle.fk_turns.proofs.InPicks.Stands.{candidate_stands}
use Rattle.fk_turns.proofs.picks.picks.user_picks.Goals as goal

pub returns-in-Candidates-clause-none : goal.returns-in-Candidates-clause-none
returns-in-Candidates-clause-none c =
    let w = world c.args.store.now in
    let s = path c.args.store.now c.args.who.space in
    let set = c.in-Candidates.set in
    let root = c.requires.valid.rooted.root in
    if_none c.takes_one.result
    (λ none q picked. none q (candidate_stands w s set q root (rw c.in-Candidates.is at c.may_pick.ensures q picked)) picked) c.takes_one.ensures.none
