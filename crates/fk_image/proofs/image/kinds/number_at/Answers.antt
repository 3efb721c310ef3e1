use Rattle.std.proofs.Common.{sym, arith}
use Rattle.fk_image.proofs.InImage.KindLaws.{kind_past, kind_read}
use Rattle.fk_image.proofs.image.kinds.number_at.Goals as goal

pub returns-then-slot-len : goal.returns-then-slot-len
returns-then-slot-len c = kind_read _ _ _ (omega arith) c.index.ensures

pub returns-else-slot-len : goal.returns-else-slot-len
returns-else-slot-len c = sym (kind_past _ _ (omega arith))
