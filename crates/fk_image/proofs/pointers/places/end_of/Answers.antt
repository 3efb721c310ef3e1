use Rattle.std.proofs.Common.{◌≤◌, ◌<◌, sym, subst, arith}
use Rattle.fk_image.specs.declared.image.image.SpaceRec.{SpaceRec}
use Rattle.fk_image.proofs.InPointers.Within.{EndsFrom, starts, goes, ends_before, ends_last}
use Rattle.fk_image.proofs.pointers.places.end_of.Goals as goal

pub loop-end-init : goal.loop-end-init
loop-end-init c = starts c.args.spaces.now c.args.space c.requires.space

pub loop-end-preserved : goal.loop-end-preserved
loop-end-preserved c =
    let at = c.loop-end.end in
    let behind = c.loop-end.invariant.behind in
    let known = c.requires.ends.each at (omega arith) c.loop-end-test.true in
    let step = goes c.args.spaces.now c.args.space at c.index-spaces-end.result c.loop-end.invariant
    c.loop-end-test.true c.index-spaces-end.is (subst (λ (s : SpaceRec). c.args.space ≤ s.parent) (sym c.index-spaces-end.is) c.if-space-spaces.true) in
    subst (λ n. EndsFrom c.args.spaces.now c.args.space n) (sym known) step.2

pub loop-end-smaller : goal.loop-end-smaller
loop-end-smaller c =
    let at = c.loop-end.end in
    let behind = c.loop-end.invariant.behind in
    let known = c.requires.ends.each at (omega arith) c.loop-end-test.true in
    let step = goes c.args.spaces.now c.args.space at c.index-spaces-end.result c.loop-end.invariant
    c.loop-end-test.true c.index-spaces-end.is (subst (λ (s : SpaceRec). c.args.space ≤ s.parent) (sym c.index-spaces-end.is) c.if-space-spaces.true) in
    let within = step.0 in
    let more = step.1 in
    omega (arith, known, within, more)

pub returns-else-space-spaces : goal.returns-else-space-spaces
returns-else-space-spaces c = ends_before c.args.spaces.now c.args.space c.loop-end.end c.index-spaces-end.result c.loop-end.invariant
    c.loop-end-test.true c.index-spaces-end.is (subst (λ (s : SpaceRec). s.parent < c.args.space) (sym c.index-spaces-end.is) c.if-space-spaces.false)

pub returns-after-loop-end : goal.returns-after-loop-end
returns-after-loop-end c = ends_last c.args.spaces.now c.args.space c.loop-end.end c.loop-end.invariant c.loop-end-test.false
