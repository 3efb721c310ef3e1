use Rattle.std.proofs.Common.{arith}
use Rattle.fk_store_cells.proofs.InKeys.KeyLaws.{keyed-one, unmarked}
use Rattle.fk_store_cells.proofs.keys.tables.one_key.Goals as goal

pub returns-clause-keys : goal.returns-clause-keys
returns-clause-keys c = rw c.in_ok-table.ensures.ok (λ k. keyed-one 256 c.args.slot c.args.key k (omega arith) c.requires)

pub returns-clause-marks : goal.returns-clause-marks
returns-clause-marks c = rw c.in_ok-table.ensures.ok (λ m. unmarked 32 m)
