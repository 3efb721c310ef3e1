use Rattle.std.proofs.Common.{◌≡◌, ◌≤◌, ◌++◌, drop}
use Rattle.fk_image.specs.Image.Objects.{next_slot}
use Rattle.laws_checkpoint.specs.Assembly.{objects_with}
use Rattle.laws_checkpoint.specs.Narrow.{rising}
use Rattle.fk_checkpoint.specs.Gathering.Gathering.{items_of, leads_of}
use Rattle.fk_checkpoint.specs.Assembly.Assembling.{spaces_of}
use Rattle.fk_checkpoint.proofs.assembly.image.objects.Given as goal

abbrev pub invariant-loop-item : goal.invariant-loop-item
invariant-loop-item l =
    (l.objects ++ rising l.floor (objects_with (spaces_of l.contents) (items_of (drop l.item-index l.items)) (leads_of l.left))
    ≡ rising 0 (objects_with (spaces_of l.contents) (items_of l.items) (leads_of l.leads))) × (next_slot l.objects ≤ l.floor)
