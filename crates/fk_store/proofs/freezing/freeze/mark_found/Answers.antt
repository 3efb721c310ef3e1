use Rattle.std.proofs.Common.{refl, sym}
use Rattle.fk_store.proofs.InFreezing.FreezeLaws.{no_space, known_marked, born_late}
use Rattle.fk_store.proofs.freezing.freeze.mark_found.Goals as goal

pub mark-requires : goal.mark-requires
mark-requires c = born_late c.args.bodies.now c.requires.known c.args.who c.in_ok-birth.birth (sym c.in_ok-birth.ensures)

pub returns-in_err-birth-clause-none : goal.returns-in_err-birth-clause-none
returns-in_err-birth-clause-none c = λ none. (refl, no_space c.args.bodies.now _ c.args.who c.in_err-birth.ensures)

pub returns-then-mark-clause-some : goal.returns-then-mark-clause-some
returns-then-mark-clause-some c = record {
  born = sym c.in_ok-birth.ensures;
  was = c.mark.ensures.was c.if-mark.true;
  marked = c.mark.ensures.marks;
  less = c.mark.ensures.anew c.if-mark.true;
}

pub returns-else-mark-clause-none : goal.returns-else-mark-clause-none
returns-else-mark-clause-none c = λ none. (
  c.mark.ensures.same c.if-mark.false,
  known_marked c.args.bodies.now _ _ c.args.who c.in_ok-birth.birth (sym c.in_ok-birth.ensures) c.mark.ensures.marks (c.mark.ensures.same c.if-mark.false),
)
