use Rattle.fk_store.specs.Store.Paths.{path}
use Rattle.fk_spaces.proofs.PorterScans.{NoneAmong}
use Rattle.fk_spaces.proofs.beneath.is_any_beneath.Given as goal

-- none of those so far is sought
abbrev pub invariant-loop-index : goal.invariant-loop-index
invariant-loop-index l = NoneAmong l.store (path l.store l.outer) l.births l.index
