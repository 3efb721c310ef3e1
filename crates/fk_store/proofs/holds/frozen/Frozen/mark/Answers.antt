use Rattle.std.proofs.Common.{◌≢◌, refl, sym, ◌∙◌, arith}
use Rattle.fk_store.proofs.InHolds.FrozenLaws.{marked_already, mark_set, room_of, off_below, fewer_unmarked}
use Rattle.fk_store.proofs.holds.frozen.Frozen.mark.Goals as goal

pub returns-then-at-clause-marks : goal.returns-then-at-clause-marks
returns-then-at-clause-marks c = λ n. marked_already _ c.args.space n (sym c.at.ensures ∙ c.if-at.true)

pub index_mut-requires : goal.index_mut-requires
index_mut-requires c =
    let apart : c.args.space ≢ 0 = λ is. absurd (let low = c.requires in omega (arith, is, low)) in
    let low = room_of c.self.inside.marks.items c.args.space (rw (← c.self.view_is) at (sym c.at.ensures ∙ c.if-at.false)) apart in
    omega (arith, low)

pub returns-clause-marks : goal.returns-clause-marks
returns-clause-marks c =
    let apart : c.args.space ≢ 0 = λ is. absurd (let low = c.requires in omega (arith, is, low)) in
    rw (← c.self.view_is) (mark_set _ c.args.space _ apart (room_of _ c.args.space (rw (← c.self.view_is) at (sym c.at.ensures ∙ c.if-at.false)) apart))

pub returns-clause-was : goal.returns-clause-was
returns-clause-was c = λ yes. sym c.at.ensures ∙ c.if-at.false

pub returns-clause-anew : goal.returns-clause-anew
returns-clause-anew c = λ yes. rw (← c.self.view_is)
    (fewer_unmarked _ _ (off_below _ c.args.space (rw (← c.self.view_is) at (sym c.at.ensures ∙ c.if-at.false)) (λ is. absurd (let low = c.requires in omega (arith, is, low)))))
