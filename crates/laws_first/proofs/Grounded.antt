-- A run from the first world of a scenario is grounded.
use Rattle.std.proofs.Common.{◌≡◌, sym, ap, subst, arith}
use Rattle.fk_model.specs.World.{World}
use Rattle.fk_model.specs.Sound.{IsUncut, IsClean}
use Rattle.fk_boot.specs.FirstWorld.{booted}
use Rattle.laws_moves.specs.Savable.Savable.{IsSound}
use Rattle.laws_house.specs.Laws.{SaveUsersAlone}
use Rattle.laws_house.proofs.Transparency.{runs_transparent}
use Rattle.laws_first.specs.Grounded.{ScenariosAreGrounded, ScenariosRunTransparently}
use Rattle.laws_first.proofs.First.{first_world_is_ground}

pub scenarios_are_grounded : {V : Type 0} → ScenariosAreGrounded V
scenarios_are_grounded s jobs servers first past begins within =
    let ground = first_world_is_ground s begins.keeps in
    let back = sym begins.world in
    let next : first.world.next ≡ (booted s).next = ap (λ (w : World). w.next) begins.world in
    let few = ground.few in
    let budget = begins.keeps.budget in
    let most = budget.1 in
    record {
      users = begins.users;
      slots = begins.slots;
      start = record {
        sound = subst IsSound back begins.sound;
        clean = subst IsClean back ground.clean;
        ends = begins.ends;
        work = begins.work;
        events = begins.events;
      };
      few = omega (arith, next, few, most, within);
      uncut = subst IsUncut back ground.uncut;
      alone = subst (SaveUsersAlone jobs) back begins.alone;
    }

pub scenarios_run_transparently : {V : Type 0} → ScenariosRunTransparently V
scenarios_run_transparently s jobs servers first c past run begins within = runs_transparent jobs servers first c past run
    (scenarios_are_grounded s jobs servers first past begins within)
