use Rattle.std.proofs.Common.{◌≡◌, true, length}
use Rattle.fk_store.specs.Store.Paths.{path}
use Rattle.fk_store.specs.Store.World.{place_of}
use Rattle.fk_store.proofs.InStore.finding.Lefts.{AreLeft}
use Rattle.fk_cut.proofs.InClosing.Leads.{LeadsIn}
use Rattle.fk_cut.proofs.closing.led.is_led_to.Given as goal

-- whoever leads in is yet to come
abbrev pub invariant-loop-from : goal.invariant-loop-from
invariant-loop-from l = record {
  left : l.leaders.1 ≡ true → AreLeft (path l.store) (LeadsIn l.store (place_of l.store l.root) (place_of l.store l.target)) l.leaders.0;
}

abbrev pub decreases-loop-from : goal.decreases-loop-from
decreases-loop-from l = length l.leaders.0
