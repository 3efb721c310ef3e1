use Rattle.std.proofs.Common.{◌≡◌, ◌<◌, ℕ, Some, false}
use Rattle.fk_model.specs.declared.body.Body.{Body}
use Rattle.fk_store_graph.specs.Linked.Bodied.{body_under}
use Rattle.fk_store_graph.specs.Linked.Parts.{plays}
use Rattle.fk_store_graph.proofs.bodies.scans.first_among.Given as goal

-- none under the keys so far
abbrev pub invariant-loop-key : goal.invariant-loop-key
invariant-loop-key l = (j : ℕ) (b : Body) → j < l.key → body_under l.objects j ≡ Some b → plays l.part b ≡ false
