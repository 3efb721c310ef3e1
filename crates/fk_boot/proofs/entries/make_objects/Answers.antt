use Rattle.std.proofs.Common.{take, refl}
use Rattle.fk_scenario.specs.Sections.Kept.{KeepsObject}
use Rattle.fk_store.specs.Store.World.{world}
use Rattle.fk_boot.specs.FirstWorld.{object_changes}
use Rattle.fk_boot.proofs.Changes.{more-entries, no-entries}
use Rattle.fk_boot.proofs.MadeSoFar.{object-place, next-object, spaces-stand, each-first, each-rest}
use Rattle.fk_boot.proofs.entries.make_objects.Goals as goal

pub loop-entry-init : goal.loop-entry-init
loop-entry-init c = record { left = refl; stands = spaces-stand (world c.args.store.now) c.args.spaces.now c.requires.spaces; keeps = c.requires.keeps }

pub loop-entry-preserved : goal.loop-entry-preserved
loop-entry-preserved c =
    let kept = c.loop-entry.invariant in
    let xs = c.args.entries.now in
    let i = c.loop-entry.entry-index in
    let x = c.entry-item.result in
    let keeps = each-first (KeepsObject c.args.spaces.now) xs i x c.loop-entry-test.true c.entry-item.is kept.keeps in
    record {
      left = more-entries (object_changes c.args.ports.now) xs i x _ _ _ c.loop-entry-test.true c.entry-item.is c.in_ok-make_object.ensures kept.left;
      stands = next-object c.args.ports.now c.args.spaces.now xs i x _ _ c.loop-entry-test.true c.entry-item.is c.in_ok-make_object.ensures keeps kept.stands;
      keeps = each-rest (KeepsObject c.args.spaces.now) xs i x c.loop-entry-test.true kept.keeps;
    }

pub make_object-requires : goal.make_object-requires
make_object-requires c =
    let kept = c.loop-entry.invariant in
    let keeps = each-first (KeepsObject c.args.spaces.now)
    c.args.entries.now c.loop-entry.entry-index c.entry-item.result c.loop-entry-test.true c.entry-item.is kept.keeps in
    record {
      beneath = keeps.inside;
      place = object-place c.args.spaces.now (take c.loop-entry.entry-index c.args.entries.now) c.entry-item.result _ kept.stands keeps;
      range = keeps.in_range;
    }

pub returns-clause-world : goal.returns-clause-world
returns-clause-world c = no-entries (object_changes c.args.ports.now) c.args.entries.now c.loop-entry.entry-index _ _ c.loop-entry-test.false
    c.loop-entry.invariant.left
