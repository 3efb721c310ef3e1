use Rattle.std.proofs.Common.{◌≡◌, ◌-◌, ◌∙◌, drop, sym, subst, arith}
use Rattle.std.proofs.lemmas.List.{length-set}
use Rattle.fk_image.specs.Image.Objects.{kind_in}
use Rattle.fk_image.specs.Image.Kinds.{kind_at}
use Rattle.fk_image.proofs.InImage.KindLaws.{zeros, zeros_long, kinds_last, kinds_before}
use Rattle.fk_image.proofs.image.kinds.table_of.Goals as goal

pub loop-at-init : goal.loop-at-init
loop-at-init c = (
  omega arith,
  (let long = zeros_long _ _ _ c.new-numbers.ensures.items c.in_ok-resize.ensures.items in let none = c.new-numbers.ensures.len in omega (arith, long, none)),
  λ n. zeros _ _ _ n c.new-numbers.ensures.items c.in_ok-resize.ensures.items ∙ sym (kinds_last c.args.items.now n),
)

pub loop-at-preserved : goal.loop-at-preserved
loop-at-preserved c =
    let so_far = c.loop-at.invariant in
    let at = c.loop-at.at in
    let some = c.loop-at-test.true in
    let behind = so_far.0 in
    let long = so_far.1 in
    let o = c.index-items-at.result in (
      omega (arith, behind),
      length-set c.loop-at.numbers.items o.slot c.number_of_rec.result ∙ long,
      kinds_before c.args.items.now at (at - 1) o c.loop-at.numbers.items c.number_of_rec.result
          (omega (arith, some)) (omega (arith, some, behind)) c.index-items-at.is
          so_far.2 (omega (arith, long)) c.number_of_rec.ensures,
    )

pub returns-clause-tells : goal.returns-clause-tells
returns-clause-tells c = λ some n.
    let last = c.loop-at-test.false in
    let zero : c.loop-at.at ≡ 0 = omega (arith, last) in
    sym (subst (λ k. kind_at c.loop-at.numbers.items n ≡ kind_in (drop k c.args.items.now) n) zero (c.loop-at.invariant.2 n))
