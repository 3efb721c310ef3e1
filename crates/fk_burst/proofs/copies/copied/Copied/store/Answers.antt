use Rattle.std.proofs.Common.{rules, [], slice_index_or, slice_set}
use Rattle.fk_burst.proofs.InCopies.Places.{written}
use Rattle.fk_burst.proofs.copies.copied.Copied.store.Goals as goal

pub returns-clause-burst : goal.returns-clause-burst
returns-clause-burst c =
    written c.args.self.now c.args.k (slice_set (slice_index_or c.args.self.now.words c.args.k []) c.args.at c.args.value) (search rules) c.requires.there
