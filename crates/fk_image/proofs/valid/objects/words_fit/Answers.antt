use Rattle.std.proofs.Common.{arith}
use Rattle.fk_image.proofs.InValid.Led.{each_word}
use Rattle.fk_image.proofs.valid.objects.words_fit.Goals as goal

pub returns : goal.returns
returns c = each_word c.args.words.now (λ i. omega (arith, c.type_inv.words i))
