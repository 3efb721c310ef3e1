use Rattle.std.proofs.Common.{refl}
use Rattle.fk_links.proofs.waiting.takes_fault.Goals as goal

pub returns-clause-outcome : goal.returns-clause-outcome
returns-clause-outcome c w p words = rw (c.from.ensures, c.fault_number-number.ensures p, c.from-2.ensures, c.flag.ensures) refl
