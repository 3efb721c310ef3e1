use Rattle.std.proofs.Common.{◌≡◌, ◌++◌, drop, reverse}
use Rattle.fk_store.specs.Store.Paths.{path}
use Rattle.fk_store.specs.Store.World.{IsSpace}
use Rattle.fk_boot.proofs.names.find_space.Given as goal

-- the slots that are left lead from the space to the one that is looked for
abbrev pub invariant-loop-slot : goal.invariant-loop-slot
invariant-loop-slot l = record {
  left : reverse (drop l.slot-index l.slots) ++ path l.store l.space ≡ reverse l.slots;
  space : IsSpace l.store l.space;
}
