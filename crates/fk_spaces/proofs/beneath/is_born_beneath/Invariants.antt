use Rattle.fk_store.specs.Store.Paths.{path}
use Rattle.fk_spaces.proofs.PorterScans.{NoneBelow}
use Rattle.fk_spaces.proofs.beneath.is_born_beneath.Given as goal

-- none of the spaces so far is sought
abbrev pub invariant-loop-space : goal.invariant-loop-space
invariant-loop-space l = NoneBelow l.store (path l.store l.outer) l.space
