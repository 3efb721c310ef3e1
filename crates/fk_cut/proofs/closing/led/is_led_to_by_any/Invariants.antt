use Rattle.std.proofs.Common.{IfSome}
use Rattle.fk_store.specs.Store.World.{place_of, IsLive}
use Rattle.fk_changes.proofs.InDeaths.Scans.{ArePassed, left_from}
use Rattle.fk_cut.proofs.InClosing.Leads.{IsHarmless}
use Rattle.fk_cut.proofs.closing.led.is_led_to_by_any.Given as goal

-- nothing leads in from those that were passed
abbrev pub invariant-loop-at : goal.invariant-loop-at
invariant-loop-at l = record {
  live : IfSome l.at (IsLive l.store);
  passed : ArePassed (IsLive l.store) (IsHarmless l.store (place_of l.store l.root) (place_of l.store l.target)) l.at;
}

abbrev pub decreases-loop-at : goal.decreases-loop-at
decreases-loop-at l = left_from l.at
