use Rattle.std.proofs.Common.{◌∙◌, refl}
use Rattle.fk_store.specs.Store.World.{world}
use Rattle.fk_boot.specs.FirstWorld.{aim_changes}
use Rattle.fk_boot.proofs.Aiming.{next-aim}
use Rattle.fk_boot.proofs.Changes.{more-entries, no-entries}
use Rattle.fk_boot.proofs.entries.aim_objects.Goals as goal

pub loop-entry-init : goal.loop-entry-init
loop-entry-init c = record { left = refl; kinds = refl }

pub aim_object-requires : goal.aim_object-requires
aim_object-requires c =
    next-aim (world c.args.store.now) _ c.args.entries.now
    c.loop-entry.entry-index c.entry-item.result c.loop-entry-test.true c.entry-item.is c.loop-entry.invariant.kinds c.requires

pub loop-entry-preserved : goal.loop-entry-preserved
loop-entry-preserved c =
    let kept = c.loop-entry.invariant in
    record {
      left = more-entries aim_changes c.args.entries.now c.loop-entry.entry-index c.entry-item.result _ _ _
          c.loop-entry-test.true c.entry-item.is c.aim_object.ensures.world kept.left;
      kinds = c.aim_object.ensures.kinds ∙ kept.kinds;
    }

pub returns-clause-world : goal.returns-clause-world
returns-clause-world c = no-entries aim_changes c.args.entries.now c.loop-entry.entry-index _ _ c.loop-entry-test.false c.loop-entry.invariant.left
