use Rattle.fk_first.specs.First.{IsFirst}
use Rattle.fk_first.specs.Lent.{ArePlayed}
use Rattle.fk_first.proofs.lending.lend_cores.Given as goal

-- such calls were made of the player so far
abbrev pub invariant-loop : goal.invariant-loop
invariant-loop g l = ArePlayed g.P.Player.plays (IsFirst l.scenario) l.fn.player l.player
