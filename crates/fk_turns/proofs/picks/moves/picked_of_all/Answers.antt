use Rattle.fk_store.specs.Store.World.{place_of}
use Rattle.fk_turns.specs.Picks.Stands.{IsPicked}
use Rattle.fk_turns.proofs.InPicks.Scans.{IsAhead, ahead_next, nobody_to_pick}
use Rattle.fk_turns.proofs.picks.moves.picked_of_all.Goals as goal

pub loop-at-preserved : goal.loop-at-preserved
loop-at-preserved c =
    let m = c.args.store.now in
    let ahead : IsAhead m (λ other. IsPicked m c.args.picker (place_of m other)) c.loop-at.at = c.loop-at.invariant in
    ahead_next m (λ other. IsPicked m c.args.picker (place_of m other)) c.in-Some.other c.after-at-in-Some.result (rw c.in-Some.is at ahead)
    (λ picked. let no = c.if-picks.false in let yes = c.picks.ensures.1 picked in absurd (cc)) c.after-at-in-Some.ensures.first

pub returns-clause-none : goal.returns-clause-none
returns-clause-none c =
    let m = c.args.store.now in
    let ahead : IsAhead m (λ other. IsPicked m c.args.picker (place_of m other)) c.loop-at.at = c.loop-at.invariant in
    nobody_to_pick m c.args.picker c.after-at.ensures.named (rw c.in_default.is at ahead)
