use Rattle.std.proofs.Common.{rules}
use Rattle.fk_asm.specs.Assembler.{AnswersText, assembled}
use Rattle.fk_asm.proofs.Few.{answer-few}
use Rattle.fk_asm.proofs.Passes.{text}
use Rattle.fk_asm.proofs.assembler.assemble.Goals as goal

pub returns-clause-few : goal.returns-clause-few
returns-clause-few c =
    let found : AnswersText (λ words. words.items) c.words_of.result (assembled c.args.text.now) = search (rules, text) in
    answer-few c.words_of.result c.args.text.now found
