use Rattle.std.proofs.Common.{take, refl}
use Rattle.fk_scenario.specs.Sections.Kept.{KeepsSpace}
use Rattle.fk_boot.specs.FirstWorld.{space_changes}
use Rattle.fk_boot.proofs.Changes.{more-entries, no-entries}
use Rattle.fk_boot.proofs.MadeSoFar.{can-stand, first-stands, few-born, next-stands, each-first, each-rest}
use Rattle.fk_boot.proofs.entries.make_spaces.Goals as goal

pub loop-entry-init : goal.loop-entry-init
loop-entry-init c = record { left = refl; stands = rw c.requires.first first-stands; keeps = c.requires.keeps }

pub put_space-requires : goal.put_space-requires
put_space-requires c =
    let kept = c.loop-entry.invariant in
    let xs = c.args.entries.now in
    let i = c.loop-entry.entry-index in
    let x = c.entry-item.result in
    let keeps = each-first (KeepsSpace c.args.programs.now) xs i x c.loop-entry-test.true c.entry-item.is kept.keeps in
    record {
      place = can-stand c.args.programs.now (take i xs) x _ kept.stands keeps;
      births = kept.stands.born;
      few = few-born _ xs i c.requires.few kept.stands;
    }

pub loop-entry-preserved : goal.loop-entry-preserved
loop-entry-preserved c =
    let kept = c.loop-entry.invariant in
    let xs = c.args.entries.now in
    let i = c.loop-entry.entry-index in
    let x = c.entry-item.result in
    record {
      left = more-entries (space_changes c.args.programs.now) xs i x _ _ _ c.loop-entry-test.true c.entry-item.is c.in_ok-put_space.ensures kept.left;
      stands = next-stands c.args.programs.now xs i x _ _ c.loop-entry-test.true c.entry-item.is c.in_ok-put_space.ensures kept.stands;
      keeps = each-rest (KeepsSpace c.args.programs.now) xs i x c.loop-entry-test.true kept.keeps;
    }

pub returns-clause-world : goal.returns-clause-world
returns-clause-world c =
    no-entries (space_changes c.args.programs.now) c.args.entries.now c.loop-entry.entry-index _ _ c.loop-entry-test.false c.loop-entry.invariant.left
