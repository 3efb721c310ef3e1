use Rattle.std.proofs.Common.{◌++◌, length, List, ℕ, ap}
use Rattle.std.proofs.lemmas.List.{drop-replicate}
use Rattle.fk_boot.proofs.pages.page_of.Goals as goal

pub returns : goal.returns
returns c = rw c.copy_from_slice.ensures.after (ap (λ (rest : List ℕ). c.args.words.now ++ rest) (drop-replicate (length c.args.words.now) 64 0))
