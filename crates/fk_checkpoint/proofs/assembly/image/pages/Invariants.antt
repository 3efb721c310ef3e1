use Rattle.std.proofs.Common.{◌≡◌, ◌++◌, map, drop}
use Rattle.laws_checkpoint.specs.Assembly.{page_rec}
use Rattle.laws_checkpoint.specs.Narrow.{narrow_page}
use Rattle.fk_checkpoint.specs.Gathering.Gathering.{items_of}
use Rattle.fk_checkpoint.proofs.assembly.image.pages.Given as goal

abbrev pub invariant-loop-item : goal.invariant-loop-item
invariant-loop-item l = l.pages.items ++ map narrow_page (map page_rec (items_of (drop l.item-index l.items))) ≡ map narrow_page
    (map page_rec (items_of l.items))
