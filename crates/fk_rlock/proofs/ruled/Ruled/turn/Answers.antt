use Rattle.std.proofs.Common.{◌≡◌, ap, arith, ◌∙◌, sym, refl, List, ℕ, ◌≤◌, [], ◌∷◌, get_or, Some}
use Rattle.std.specs.Fn.{FnOnceReturnsAtMut}
use Rattle.atomic_table.specs.Table.{rest}
use Rattle.fk_rlock.proofs.Held.{held_is}
use Rattle.fk_rlock.specs.Rule.{holding}
use Rattle.fk_rlock.proofs.ruled.Ruled.turn.Goals as goal

pub leave-requires-clause-held : goal.leave-requires-clause-held
leave-requires-clause-held g c = let en = c.enter.ensures.entered in let y = c.f-answer.new.arg2 in
    let same : c.slot_mut-value.result.now ≡ en.1 = ap (λ (l : List (ℕ × g.row.T.Denot)). (get_or l 0 (0, en.1)).1) (sym c.slot_mut-value.ensures.value
    ∙ ap (λ m. m.1) en.4) in
    let met : FnOnceReturnsAtMut g.F.FnOnce c.args.f en.1 c.f-answer.result y = record {
      shown = _;
      shows = same;
      left = _;
      met = c.f-answer.ensures;
      leaves = refl;
    } in
    let boots : g.T.Counted.boot en.1 ≡ c.args.pass.now.boot = sym (held_is _ _ _ en.2) ∙ ap (λ k. k.boot) c.pass.view_is in
    let seen : c.args.pass.now.seen ≤ g.T.Counted.counted en.1 = omega (arith, en.3, ap (λ k. k.seen) c.pass.view_is) in
    let kept = c.requires.keeps en.1 y c.f-answer.result boots seen met in (
      en.0,
      y,
      ap (λ m. (m.0, (0, y) ∷ rest m.1)) en.4 ∙ sym (ap (λ m. (holding en.0 m.0.seen m.0.parts m.0.boot, (0, y) ∷ [])) en.4),
      ap (λ m. m.0.boot) en.4 ∙ (en.2 ∙ ap (λ b. Some b) (sym kept.0)),
      sym c.count-count.ensures,
    )

pub leave-requires-clause-up : goal.leave-requires-clause-up
leave-requires-clause-up g c = let en = c.enter.ensures.entered in let y = c.f-answer.new.arg2 in
    let same : c.slot_mut-value.result.now ≡ en.1 = ap (λ (l : List (ℕ × g.row.T.Denot)). (get_or l 0 (0, en.1)).1) (sym c.slot_mut-value.ensures.value
    ∙ ap (λ m. m.1) en.4) in
    let met : FnOnceReturnsAtMut g.F.FnOnce c.args.f en.1 c.f-answer.result y = record {
      shown = _;
      shows = same;
      left = _;
      met = c.f-answer.ensures;
      leaves = refl;
    } in
    let boots : g.T.Counted.boot en.1 ≡ c.args.pass.now.boot = sym (held_is _ _ _ en.2) ∙ ap (λ k. k.boot) c.pass.view_is in
    let seen : c.args.pass.now.seen ≤ g.T.Counted.counted en.1 = omega (arith, en.3, ap (λ k. k.seen) c.pass.view_is) in
    let kept = c.requires.keeps en.1 y c.f-answer.result boots seen met in omega (arith, ap (λ m. m.0.seen) en.4, c.count-count.ensures, kept.1)

pub returns-clause-met : goal.returns-clause-met
returns-clause-met g c = let en = c.enter.ensures.entered in let y = c.f-answer.new.arg2 in
    let same : c.slot_mut-value.result.now ≡ en.1 = ap (λ (l : List (ℕ × g.row.T.Denot)). (get_or l 0 (0, en.1)).1) (sym c.slot_mut-value.ensures.value
    ∙ ap (λ m. m.1) en.4) in
    let met : FnOnceReturnsAtMut g.F.FnOnce c.args.f en.1 c.f-answer.result y = record {
      shown = _;
      shows = same;
      left = _;
      met = c.f-answer.ensures;
      leaves = refl;
    } in
    let boots : g.T.Counted.boot en.1 ≡ c.args.pass.now.boot = sym (held_is _ _ _ en.2) ∙ ap (λ k. k.boot) c.pass.view_is in
    let seen : c.args.pass.now.seen ≤ g.T.Counted.counted en.1 = omega (arith, en.3, ap (λ k. k.seen) c.pass.view_is) in
    let kept = c.requires.keeps en.1 y c.f-answer.result boots seen met in
    (en.1, y, boots, seen, met, ap (λ m. m.0.seen) c.leave.ensures.idle ∙ c.count-count.ensures)
