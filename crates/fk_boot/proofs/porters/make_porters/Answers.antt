use Rattle.std.proofs.Common.{refl}
use Rattle.fk_boot.specs.FirstWorld.{porter_changes}
use Rattle.fk_boot.proofs.Changes.{more-entries, no-entries}
use Rattle.fk_boot.proofs.Nesting.{nest-here, nest-next}
use Rattle.fk_boot.proofs.porters.make_porters.Goals as goal

pub loop-entry-init : goal.loop-entry-init
loop-entry-init c = record { left = refl; nests = c.requires }

pub make_porter-requires : goal.make_porter-requires
make_porter-requires c =
    nest-here c.args.entries.now c.loop-entry.entry-index c.entry-item.result _ c.loop-entry-test.true c.entry-item.is c.loop-entry.invariant.nests

pub loop-entry-preserved : goal.loop-entry-preserved
loop-entry-preserved c =
    let kept = c.loop-entry.invariant in
    let xs = c.args.entries.now in
    let i = c.loop-entry.entry-index in
    let x = c.entry-item.result in
    record {
      left = more-entries porter_changes xs i x _ _ _ c.loop-entry-test.true c.entry-item.is c.in_ok-make_porter.ensures kept.left;
      nests = nest-next xs i x _ _ c.loop-entry-test.true c.entry-item.is c.in_ok-make_porter.ensures kept.nests;
    }

pub returns : goal.returns
returns c = no-entries porter_changes c.args.entries.now c.loop-entry.entry-index _ _ c.loop-entry-test.false c.loop-entry.invariant.left
