use Rattle.std.proofs.Common.{sym, ◌∙◌, arith}
use Rattle.fk_checkpoint.proofs.InAssembly.Paths.{differs, agrees, ended}
use Rattle.fk_checkpoint.proofs.assembly.links.are_slots_same.Goals as goal

pub returns-then-differ : goal.returns-then-differ
returns-then-differ c =
    sym (differs c.args.place.now c.args.path.now c.loop-at.at (omega (arith, c.loop-at-test.true, c.requires)) c.loop-at-test.true c.if-differ.ensures)
    ∙ c.loop-at.invariant

pub loop-at-preserved : goal.loop-at-preserved
loop-at-preserved c =
    agrees c.args.place.now c.args.path.now c.loop-at.at (omega (arith, c.loop-at-test.true, c.requires)) c.loop-at-test.true c.if-differ.ensures
    ∙ c.loop-at.invariant

pub returns : goal.returns
returns c =
    sym (ended c.args.place.now c.args.path.now c.loop-at.at (λ less. omega (arith, less, c.loop-at-test.false, c.requires))
    (λ less. omega (arith, less, c.loop-at-test.false)))
    ∙ c.loop-at.invariant
