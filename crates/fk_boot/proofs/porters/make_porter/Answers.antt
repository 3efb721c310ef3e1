use Rattle.std.proofs.Common.{refl, reverse, ◌∙◌, ap, ◌∷◌}
use Rattle.fk_model.specs.declared.limits.TheConstants.{LAST_PORTER_SLOT}
use Rattle.fk_model.specs.World.{apply_all}
use Rattle.fk_store.specs.Store.Paths.{path}
use Rattle.fk_store.specs.Store.World.{world}
use Rattle.fk_store.proofs.InStore.finding.Results.{on_ok}
use Rattle.fk_boot.proofs.Nesting.{kind-birth, makes-porter}
use Rattle.fk_boot.proofs.porters.make_porter.Goals as goal

pub returns-then-not-entry : goal.returns-then-not-entry
unfolding apply_all
returns-then-not-entry c = rw c.if-not-entry.true refl

pub birth_of-requires : goal.birth_of-requires
birth_of-requires c = record { space = rw c.as_slice.ensures (kind-birth (world c.args.store.now) (reverse c.args.entry.now.path) c.requires.space) }

pub make-requires : goal.make-requires
make-requires c = record {
  space = c.birth_of.ensures.space;
  empty = rw (c.birth_of.ensures.path, c.as_slice.ensures) c.requires.empty;
  birth = tt;
  named = rw (c.porter.ensures.talk, c.porter.ensures.fault) (tt, tt);
  sized = c.porter.ensures.sized;
}

pub returns : goal.returns
returns c =
    rw c.if-not-entry.false (on_ok c.make.result _ _
    (makes-porter (LAST_PORTER_SLOT ∷ reverse c.args.entry.now.path) _ _ (world c.args.store.now) (world c.make.new.self)
    (ap (λ s. LAST_PORTER_SLOT ∷ s) (c.birth_of.ensures.path ∙ ap reverse c.as_slice.ensures)) (c.porter.ensures.body (path c.args.store.now)))
    c.make.ensures.world)
