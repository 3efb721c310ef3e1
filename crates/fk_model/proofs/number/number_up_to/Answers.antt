use Rattle.std.proofs.Common.{rules, arith, ◌≡◌, ◌==◌, false, length}
use Rattle.fk_model.specs.Numbers.{number_up_to}
use Rattle.fk_model.proofs.numbers.Digits.{read_after-number_up_to}
use Rattle.fk_model.proofs.number.number_up_to.Goals as goal

pub returns-then-is_empty-clause-value : goal.returns-then-is_empty-clause-value
unfolding number_up_to
returns-then-is_empty-clause-value c = search rules

pub loop-digit-init : goal.loop-digit-init
loop-digit-init c =
    let some : (length c.args.token.now == 0) ≡ false = cc in
    record { rest = read_after-number_up_to c.args.most c.args.token.now some; most = omega arith }
