use Rattle.std.proofs.Common.{◌≡◌, sym, subst, ◌∙◌}
use Rattle.fk_model.specs.ObjectRows.{pointer_count}
use Rattle.fk_store.specs.Store.Paths.{path, place}
use Rattle.fk_store.specs.Store.World.{world}
use Rattle.fk_store.proofs.InStore.finding.Outside.{count-to_root, count-to_space}
use Rattle.fk_store.proofs.store.store.Store.pointers_outside_to_space.Goals as goal

pub returns-in-None : goal.returns-in-None
returns-in-None c =
    subst (λ n. 0 ≡ pointer_count (world n) (path n c.args.base) (path n c.args.nester) (path n c.args.space)) c.self.view_is
    (count-to_root _ c.self.invariant _ _ c.args.space (rw (← c.self.view_is) at c.requires.space) (sym c.home.ensures ∙ c.in-None.is))

pub returns-in-Some : goal.returns-in-Some
returns-in-Some c =
    subst (λ n. c.pointers_outside.result ≡ pointer_count (world n) (path n c.args.base) (path n c.args.nester) (path n c.args.space)) c.self.view_is
    (count-to_space _ c.self.invariant _ _ c.args.space c.in-Some.who _ (sym c.home.ensures ∙ c.in-Some.is)
    (subst (λ n. c.pointers_outside.result ≡ pointer_count (world n) (path n c.args.base) (path n c.args.nester) (place (path n) c.in-Some.who))
    (sym c.self.view_is) c.pointers_outside.ensures))
