use Rattle.std.proofs.Common.{◌∙◌, sym, arith}
use Rattle.std.proofs.lemmas.List.{length-set}
use Rattle.fk_codec.proofs.InReading.Loops.{words_go}
use Rattle.fk_codec.proofs.reading.fields.read_words.Goals as goal

pub loop-i-preserved : goal.loop-i-preserved
loop-i-preserved g c =
    let so_far = c.loop-i.invariant in
    let words = words_go g.row.N
    c.loop-i.i c.loop-i.numbers c.loop-i.rest.now c.in_ok-number.number c.in_ok-number.after.now c.loop-i-test.true so_far.0 c.in_ok-number.ensures.read in
    (omega (arith, so_far.0, length-set c.loop-i.numbers c.loop-i.i c.in_ok-number.number), sym words ∙ so_far.1)
