use Rattle.std.proofs.Common.{◌≡◌, true, sym, subst, ◌∙◌}
use Rattle.fk_model.specs.declared.names.Who.{Who}
use Rattle.fk_turns.specs.Moved.Kept.{is_user_at}
use Rattle.fk_turns.specs.Next.Waiting.{standing, IsPlaced}
use Rattle.fk_turns.proofs.InNext.Placed.{placed_woken}
use Rattle.fk_turns.proofs.InSteps.Beside.{comes_same, kept_beside}
use Rattle.fk_turns.proofs.InSteps.Went.{kept_quick, named_alone}
use Rattle.fk_turns.proofs.steps.plain.after_plain.Goals as goal

pub is_quick-requires : goal.is_quick-requires
is_quick-requires c = record { sound = c.requires.comes.kept.sound }

pub is_apart-requires : goal.is_apart-requires
is_apart-requires c = record { sound = c.is_quick.ensures.sound }

pub after-requires : goal.after-requires
after-requires c =
    let n = c.args.store.now in
    let was = c.args.turns.now in
    let quick = c.is_quick.new.turns in
    let now = c.is_apart.new.turns in
    let waits = rw c.if-is_quick.false at c.is_quick.ensures.waits in
    let marks = rw c.if-is_quick.false at c.is_quick.ensures.marks in
    let then_waits = rw c.if-is_apart.false at c.is_apart.ensures.waits in
    let then_marks = rw c.if-is_apart.false at c.is_apart.ensures.marks in
    record {
      valid = c.requires.valid;
      comes = comes_same n c.args.mover c.args.touched.now was.waits was.marks now.waits now.marks (then_waits ∙ waits) (then_marks ∙ marks) c.requires.comes;
    }

pub returns-then-is_apart-clause-kept : goal.returns-then-is_apart-clause-kept
returns-then-is_apart-clause-kept c =
    let n = c.args.store.now in
    let was = c.args.turns.now in
    let quick = c.is_quick.new.turns in
    let now = c.is_apart.new.turns in
    let waits = rw c.if-is_quick.false at c.is_quick.ensures.waits in
    let marks = rw c.if-is_quick.false at c.is_quick.ensures.marks in
    let turned = rw c.if-is_apart.true at c.is_apart.ensures.turned in
    let none = rw c.if-is_apart.true at c.is_apart.ensures.none in
    let apart = rw c.if-is_apart.true at c.is_apart.ensures.apart in
    let user = rw c.if-is_apart.true at c.is_apart.ensures.user in
    kept_beside n c.args.mover c.args.touched.now quick.waits quick.marks now.waits now.marks
    (comes_same n c.args.mover c.args.touched.now was.waits was.marks quick.waits quick.marks waits marks c.requires.comes) apart none turned user
    c.is_apart.ensures.sound

pub returns-then-is_apart-clause-placed : goal.returns-then-is_apart-clause-placed
returns-then-is_apart-clause-placed c =
    let n = c.args.store.now in
    let mover = c.args.mover in
    let now = c.is_apart.new.turns in
    let turned = rw c.if-is_apart.true at c.is_apart.ensures.turned in
    let named = rw c.if-is_apart.true at c.is_apart.ensures.named in
    let up = rw c.if-is_apart.true at c.is_apart.ensures.up in
    subst (λ (w : Who). is_user_at n w ≡ true → IsPlaced n (standing now.waits) w) (sym named)
    (λ user. placed_woken n mover c.is_quick.new.turns.waits now.waits turned.turned up)

pub returns-then-is_quick-clause-kept : goal.returns-then-is_quick-clause-kept
returns-then-is_quick-clause-kept c =
    let n = c.args.store.now in
    let was = c.args.turns.now in
    let now = c.is_quick.new.turns in
    let gentle = rw c.if-is_quick.true at c.is_quick.ensures.gentle in
    let alone = rw c.if-is_quick.true at c.is_quick.ensures.alone in
    let on = rw c.if-is_quick.true at c.is_quick.ensures.on in
    let turned = rw c.if-is_quick.true at c.is_quick.ensures.turned in
    let user = rw c.if-is_quick.true at c.is_quick.ensures.user in
    kept_quick n c.args.mover c.args.ran c.args.touched.now was.waits was.marks now.waits now.marks c.requires.comes c.requires.quiet alone gentle on
    turned user
    c.is_quick.ensures.sound

pub returns-then-is_quick-clause-placed : goal.returns-then-is_quick-clause-placed
returns-then-is_quick-clause-placed c =
    let n = c.args.store.now in
    let mover = c.args.mover in
    let now = c.is_quick.new.turns in
    let alone = rw c.if-is_quick.true at c.is_quick.ensures.alone in
    let turned = rw c.if-is_quick.true at c.is_quick.ensures.turned in
    let up = rw c.if-is_quick.true at c.is_quick.ensures.up in
    subst (λ (w : Who). is_user_at n w ≡ true → IsPlaced n (standing now.waits) w) (sym (named_alone mover c.args.touched.now alone))
    (λ user. placed_woken n mover c.args.turns.now.waits now.waits turned.turned up)
