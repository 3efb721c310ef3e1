use Rattle.std.proofs.Common.{ℕ, ap, ◌∙◌, arith}
use Rattle.fk_waits.specs.Causes.Names.{near_place}
use Rattle.fk_waits.proofs.InCauses.Near.{gone_near, gone_right, unset_right}
use Rattle.fk_waits.proofs.causes.names.forget.Goals as goal

pub returns-then-place-len-clause-others : goal.returns-then-place-len-clause-others
returns-then-place-len-clause-others c l all = gone_near c.args.near.now.items c.place_near-place.result (omega (arith, c.if-place-len.true)) l all

pub returns-then-place-len-clause-right : goal.returns-then-place-len-clause-right
returns-then-place-len-clause-right c m l right left =
    gone_right c.args.near.now.items c.place_near-place.result c.args.who
    (c.place_near-place.ensures ∙ ap (λ (n : ℕ). near_place n c.args.who) (omega (arith, c.len.ensures))) (omega (arith, c.if-place-len.true)) m l right left

pub returns-else-place-len-clause-right : goal.returns-else-place-len-clause-right
returns-else-place-len-clause-right c m l right left =
    unset_right c.args.near.now.items c.place_near-place.result c.args.who
    (c.place_near-place.ensures ∙ ap (λ (n : ℕ). near_place n c.args.who) (omega (arith, c.len.ensures))) (omega (arith, c.if-place-len.false)) m l right left
