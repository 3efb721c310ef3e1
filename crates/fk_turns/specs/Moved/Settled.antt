-- Settled: where a thread stands of which no move is ready.
use Rattle.std.specs.Prelude.{◌≡◌}
use Rattle.fk_model.specs.declared.names.Who.{Who}
use Rattle.fk_store.specs.Store.Contents.{Contents}
use Rattle.fk_store.specs.Store.World.{world, place_of}
use Rattle.fk_waits.specs.Waits.Lists.{parked, Lists}
use Rattle.fk_waits.specs.declared.turns.turns.Mark.{Mark}
use Rattle.fk_waits.specs.declared.turns.turns.Mark.TheVariants as marks_of
use Rattle.fk_turns.specs.Whys.Causes.{cause_at}
use Rattle.fk_turns.specs.declared.whys.whys.Why.{Why}
use Rattle.fk_turns.specs.declared.whys.whys.Why.TheVariants as whys

-- how a thread is marked
abbrev pub mark_of : Why → Mark
mark_of whys.Still = marks_of.Own
mark_of (whys.At key) = marks_of.At key
mark_of whys.Loud = marks_of.Loud
mark_of whys.Barred = marks_of.Any

-- it is queued at its cause, last of all
pub record IsSettled (m : Contents) (who : Who) (old new : Lists) : Type 0 where
  pub cause : Who
  pub where_it_waits : place_of m cause ≡ cause_at (world m) (place_of m who)
  pub queued : new ≡ parked who cause old
