use Rattle.std.proofs.Common.{◌≡◌, ◌≤◌, drop}
use Rattle.fk_model.specs.Numbers.{number_up_to}
use Rattle.fk_model.proofs.numbers.Digits.{read_after}
use Rattle.fk_model.proofs.number.number_up_to.Given as goal

abbrev pub invariant-loop-digit : goal.invariant-loop-digit
invariant-loop-digit l = record {
  rest : read_after l.most l.number (drop l.digit-index l.token) ≡ number_up_to l.most l.token;
  most : l.number ≤ l.most;
}
