use Rattle.std.proofs.Common.{◌≡◌, ℕ, Option, drop}
use Rattle.fk_causes.specs.Shelf.{FileMap}
use Rattle.fk_puts.specs.Puts.{PutImages, PutSomeImages}
use Rattle.fk_puts.proofs.puts.put_images.Given as goal

-- whatever is put of the rest makes the whole
abbrev pub invariant-loop-name : goal.invariant-loop-name
invariant-loop-name g l = record {
  put : (new : Option FileMap) → PutImages l.ends l.place (drop l.name-index l.names) (g.H.Shelf.files l.shelf) new
      → PutImages l.ends 0 l.names (g.H.Shelf.files l.fn.shelf) new;
  some : (new : Option FileMap) → PutSomeImages l.ends l.place (drop l.name-index l.names) (g.H.Shelf.files l.shelf) new
      → PutSomeImages l.ends 0 l.names (g.H.Shelf.files l.fn.shelf) new;
  kept : g.H.Shelf.failed_puts l.shelf ≡ g.H.Shelf.failed_puts l.fn.shelf;
  same_gets : g.H.Shelf.failed_gets l.shelf ≡ g.H.Shelf.failed_gets l.fn.shelf;
}
