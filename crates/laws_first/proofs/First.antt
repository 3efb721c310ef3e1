-- The first world of a scenario is ground, and so it is a sound start.
use Rattle.fk_boot.proofs.validity.Savable.{booted-few}
use Rattle.fk_boot.proofs.validity.Grounds.{booted-ground}
use Rattle.fk_boot.proofs.validity.Staying.{booted-apart}
use Rattle.fk_boot.proofs.validity.Sound.{served-exactly, porters-exactly, whole_start}
use Rattle.laws_first.specs.First.{FirstWorldIsGround, ScenariosBeginSoundly}

pub first_world_is_ground : FirstWorldIsGround
first_world_is_ground s keeps =
    let ground = booted-ground s keeps in
    record {
      clean = ground.clean;
      few = booted-few s keeps;
      uncut = ground.uncut;
      idle = ground.idle;
      porters = porters-exactly s keeps;
      served = served-exactly s keeps;
      one_each = booted-apart s keeps;
    }

pub scenarios_begin_soundly : ScenariosBeginSoundly
scenarios_begin_soundly s keeps sound = whole_start s keeps sound.whole sound.savable
