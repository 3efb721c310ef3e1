use Rattle.std.proofs.Common.{ℕ, ap, ◌∙◌, arith}
use Rattle.fk_waits.specs.Causes.Names.{near_place}
use Rattle.fk_waits.proofs.InCauses.Near.{noted_mine, noted_near, noted_right, unset_mine}
use Rattle.fk_waits.proofs.causes.names.note.Goals as goal

pub returns-then-place-len-clause-mine : goal.returns-then-place-len-clause-mine
returns-then-place-len-clause-mine c =
    rw c.rank-own.ensures.place (noted_mine c.args.near.now.items c.place_near-place.result c.args.key c.args.who c.rank-own.ensures.few
    (c.place_near-place.ensures ∙ ap (λ (n : ℕ). near_place n c.args.who) (omega (arith, c.len.ensures))) (omega (arith, c.if-place-len.true)))

pub returns-then-place-len-clause-others : goal.returns-then-place-len-clause-others
returns-then-place-len-clause-others c l all =
    rw c.rank-own.ensures.place (noted_near c.args.near.now.items c.place_near-place.result c.args.key c.args.who c.rank-own.ensures.few
    (omega (arith, c.if-place-len.true)) l all)

pub returns-then-place-len-clause-right : goal.returns-then-place-len-clause-right
returns-then-place-len-clause-right c l right is =
    rw c.rank-own.ensures.place (noted_right c.args.near.now.items c.place_near-place.result c.args.key c.args.who c.rank-own.ensures.slot
    (omega (arith, c.if-place-len.true)) l right is)

pub returns-else-place-len-clause-mine : goal.returns-else-place-len-clause-mine
returns-else-place-len-clause-mine c =
    unset_mine c.args.near.now.items c.place_near-place.result c.args.who
    (c.place_near-place.ensures ∙ ap (λ (n : ℕ). near_place n c.args.who) (omega (arith, c.len.ensures))) (omega (arith, c.if-place-len.false))
