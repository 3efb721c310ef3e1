use Rattle.std.proofs.Common.{◌∙◌, ◌∷◌, [], sym, arith}
use Rattle.std.proofs.lemmas.List.{length-append}
use Rattle.fk_codec.proofs.InCodec.Loops.{spaces_go}
use Rattle.fk_codec.proofs.codec.reading.read_spaces.Goals as goal

pub loop-number-preserved : goal.loop-number-preserved
loop-number-preserved c =
    let so_far = c.loop-number.invariant in
    let spaces = c.loop-number.spaces in
    let s = c.in_ok-space.space in
    let read = rw c.as_slice.ensures at c.in_ok-space.ensures.read in
    let path = rw c.as_slice.ensures at c.in_ok-space.ensures.path in
    rw (c.in_ok-push-2.ensures.ok, path) (
      omega (arith, so_far.0, length-append spaces (s ∷ [])),
      sym (spaces_go c.args.newer c.args.count
          c.loop-number.number (spaces, c.loop-number.path) spaces c.loop-number.rest.now s c.in_ok-space.after.now c.loop-number-test.true read) ∙ so_far.1,
    )
