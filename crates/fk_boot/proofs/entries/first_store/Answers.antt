use Rattle.std.proofs.Common.{[], ◌++◌}
use Rattle.std.specs.List.{flat_map}
use Rattle.fk_store.specs.Store.World.{world, first_world}
use Rattle.fk_boot.specs.FirstWorld.{booted, space_changes, object_changes, aim_changes, porter_changes, served_ports}
use Rattle.fk_boot.proofs.Aiming.{all-can, all-inside}
use Rattle.fk_boot.proofs.Nesting.{nestable, ports-stand}
use Rattle.fk_boot.proofs.Changes.{then-all}
use Rattle.fk_boot.proofs.validity.Whole.{booted-valid}
use Rattle.fk_boot.proofs.validity.Savable.{booted-runnable, booted-savable}
use Rattle.fk_boot.proofs.entries.first_store.Goals as goal

pub aim_objects-requires : goal.aim_objects-requires
aim_objects-requires c =
    let s = c.args.scenario.now in
    let stands = rw (c.as_slice-spaces.ensures, c.as_slice-objects.ensures) at c.in_ok-make_objects.ensures.stands in
    rw c.as_slice-objects.ensures (all-can (world c.make_objects.new.store) s.spaces s.objects stands c.requires.objects c.requires.aims)

pub make_porters-requires : goal.make_porters-requires
make_porters-requires c =
    let s = c.args.scenario.now in
    let stands = rw (c.as_slice-spaces.ensures, c.as_slice-objects.ensures) at c.in_ok-make_objects.ensures.stands in
    rw c.as_slice-spaces.ensures (nestable s.programs (world c.make_objects.new.store) (world c.aim_objects.new.store) s.spaces s.objects
    c.requires.spaces c.requires.objects stands c.aim_objects.ensures.kinds)

pub returns-clause-world : goal.returns-clause-world
unfolding booted
returns-clause-world c =
    let s = c.args.scenario.now in
    let spaces = rw (c.as_slice.ensures, c.as_slice-spaces.ensures, c.in_ok-store.ensures) at c.in_ok-make_spaces.ensures.world in
    let objects = rw (c.as_slice-objects.ensures, c.in_ok-ports.ensures, c.as_slice-2.ensures) at c.in_ok-make_objects.ensures.world in
    let aims = rw c.as_slice-objects.ensures at c.aim_objects.ensures.world in
    let porters = rw c.as_slice-spaces.ensures at c.in_ok-make_porters.ensures in
    let made = flat_map (space_changes s.programs) s.spaces in
    let put = flat_map (object_changes (served_ports s.servers)) s.objects in
    let aimed = flat_map aim_changes s.objects in
    let nested = flat_map porter_changes s.spaces in
    then-all made (put ++ (aimed ++ nested)) _ first_world _ spaces (then-all put (aimed ++ nested) _ _ _ objects (then-all aimed nested _ _ _ aims porters))

pub returns-clause-valid : goal.returns-clause-valid
returns-clause-valid c = rw (returns-clause-world c) (booted-valid c.args.scenario.now c.requires)

pub returns-clause-runnable : goal.returns-clause-runnable
returns-clause-runnable c = rw (returns-clause-world c) (booted-runnable c.args.scenario.now c.requires c.read_words.ensures)

pub returns-clause-savable : goal.returns-clause-savable
returns-clause-savable c = rw (returns-clause-world c) (booted-savable c.args.scenario.now c.requires c.read_words.ensures)

pub returns-clause-ports : goal.returns-clause-ports
returns-clause-ports c =
    let s = c.args.scenario.now in
    let stands = rw (c.as_slice-spaces.ensures, c.as_slice-objects.ensures) at c.in_ok-make_objects.ensures.stands in
    let porters = rw c.as_slice-spaces.ensures at c.in_ok-make_porters.ensures in
    let nests = nestable s.programs (world c.make_objects.new.store) (world c.aim_objects.new.store) s.spaces s.objects
    c.requires.spaces c.requires.objects stands c.aim_objects.ensures.kinds in
    rw porters (ports-stand (world c.make_objects.new.store) (world c.aim_objects.new.store) s.spaces s.objects s.servers stands
    (all-inside s.spaces [] s.objects c.requires.objects) c.requires.servers c.aim_objects.ensures.kinds nests)
