use Rattle.std.proofs.Common.{refl, sym, ◌∙◌}
use Rattle.std.proofs.lemmas.Option.{same_Some}
use Rattle.fk_store.specs.Store.Paths.{path}
use Rattle.fk_cut.proofs.InClosing.Walked.{home_at, inner_ok, inner_none, no_kind}
use Rattle.fk_cut.proofs.closing.walk.await_inner.Goals as goal

pub returns-in_default : goal.returns-in_default
returns-in_default c = inner_none c.args.store.now c.args.who c.args.stack.now (no_kind _ c.in_default.ensures.kind)

pub returns-in-Some-birth_of : goal.returns-in-Some-birth_of
returns-in-Some-birth_of c =
    let space = c.in-Some-birth_of.ensures.some in
    inner_ok c.args.store.now c.args.who c.in-Some-birth_of.birth c.args.stack.now c.await_residents.new.stack c.await_residents.result
    (home_at c.args.store.now c.args.who c.in-Some.body.now c.in-Some-birth_of.birth space.0 space.1 c.in-Some.ensures.home) c.await_residents.ensures

pub returns-in-None : goal.returns-in-None
returns-in-None c = inner_none c.args.store.now c.args.who c.args.stack.now
    (λ h. c.in-None.ensures.none (path c.args.store.now) refl (same_Some _ _ (sym c.in-Some.ensures.kind ∙ h)))
