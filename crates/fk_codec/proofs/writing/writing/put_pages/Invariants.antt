use Rattle.std.proofs.Common.{◌≡◌, ◌++◌, drop}
use Rattle.std.specs.List.{flat_map}
use Rattle.fk_image.specs.Format.Spelling as spells
use Rattle.fk_codec.proofs.writing.writing.put_pages.Given as goal

abbrev pub invariant-loop-page : goal.invariant-loop-page
invariant-loop-page l = l.out.items ++ flat_map spells.page_bytes (drop l.page-index l.pages) ≡ l.fn.out.items ++ flat_map spells.page_bytes l.pages
