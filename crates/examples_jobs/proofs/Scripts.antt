-- The order of a script's looks, worked.
use Rattle.std.proofs.Common.{refl}
use Rattle.fk_model.specs.Places.{strip, same_path}
use Rattle.fk_model.specs.Records.{record_of}
use Rattle.laws_restore.specs.Restore.Script.{script, down, root_down, through_rooms, makes_spaces, leads_outs, holds_spaces}
use Rattle.examples_jobs.specs.Scripts.{LooksRise}

pub looks_rise : LooksRise
unfolding script down root_down through_rooms makes_spaces leads_outs holds_spaces record_of strip same_path
looks_rise = refl
