use Rattle.std.proofs.Common.{◌≡◌, drop}
use Rattle.laws_checkpoint.specs.Assembly.{asked_of_all}
use Rattle.fk_checkpoint.specs.Gathering.Gathering.{items_of, leads_of}
use Rattle.fk_checkpoint.proofs.assembly.image.behind_objects.Given as goal

abbrev pub invariant-loop-item : goal.invariant-loop-item
invariant-loop-item l = drop (asked_of_all (items_of (drop l.item-index l.items))) (leads_of l.left) ≡ drop (asked_of_all (items_of l.items)) (leads_of l.leads)
