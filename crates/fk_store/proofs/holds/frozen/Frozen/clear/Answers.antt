use Rattle.std.proofs.Common.{◌-◌, refl, sym, ap, ◌∙◌, arith}
use Rattle.fk_store.proofs.InHolds.FrozenLaws.{mark_set, set_others, fewer_marked, read_on, cleared_less}
use Rattle.fk_store.proofs.holds.frozen.Frozen.clear.Goals as goal

pub returns-clause-others : goal.returns-clause-others
returns-clause-others c = λ n apart. rw (← c.self.view_is)
    (set_others _ c.args.space _ (λ is. absurd (let low = c.requires in omega (arith, is, low))) (omega arith) n apart)

pub returns-clause-less : goal.returns-clause-less
returns-clause-less c = rw (← c.self.view_is) (cleared_less _ c.args.space (λ is. absurd (let low = c.requires in omega (arith, is, low))) (omega arith))

pub returns-clause-gone : goal.returns-clause-gone
returns-clause-gone c = λ yes. rw (← c.self.view_is) (fewer_marked c.self.inside.marks.items (c.args.space - 1)
    (read_on c.self.inside.marks.items (c.args.space - 1) c.index.result.now (omega arith) c.index.ensures c.if-not-index.false))
