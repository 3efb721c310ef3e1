use Rattle.std.proofs.Common.{refl}
use Rattle.fk_store_cells.specs.Objects.Filed.{key_of}
use Rattle.fk_store_cells.proofs.InObjects.ChangeLaws.{cleared, kept_filed}
use Rattle.fk_store_cells.proofs.objects.objects.Objects.clear.Goals as goal

pub invariant_of-self : goal.invariant_of-self
invariant_of-self c = kept_filed _ _ _ _ c.self.inside.entries c.self.inside.entries refl
    (cleared _ _ c.args.space c.clear.ensures.keys (rw (← c.self.view_is) at c.requires.empty)) c.self.invariant

pub returns-clause-keys : goal.returns-clause-keys
unfolding key_of
returns-clause-keys c = λ q. rw (← c.self.view_is)
    (cleared _ _ c.args.space c.clear.ensures.keys (rw (← c.self.view_is) at c.requires.empty) q.space q.slot)
