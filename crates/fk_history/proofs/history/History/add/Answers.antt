use Rattle.std.proofs.Common.{ap, rules, ◌≡◌}
use Rattle.fk_history.proofs.Repeating.{same_more}
use Rattle.fk_history.proofs.history.History.add.Goals as goal

pub returns-then-eq-clause-moves : goal.returns-then-eq-clause-moves
returns-then-eq-clause-moves c =
    let same : c.self.inside.last ≡ c.args.m = search (rules, c.if-eq.ensures) in
    let kept = ap (λ k. k.moves) c.self.view_is in
    same_more c.self.inside.repeats.items c.self.inside.times c.args.times c.self.inside.last c.args.m c.args.self.now.moves same kept
