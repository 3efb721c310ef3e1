use Rattle.std.proofs.Common.{◌≡◌, length, take}
use Rattle.fk_served.specs.Served.{shown, HaveRoom}
use Rattle.fk_served.proofs.services.reserve_in.Given as goal

abbrev pub invariant-loop-at : goal.invariant-loop-at
invariant-loop-at g l = record {
  long : length l.list.items ≡ length l.fn.list.items;
  same : shown g.S.Service.meaning l.list.items ≡ shown g.S.Service.meaning l.fn.list.items;
  room : HaveRoom g.S.Service.has_room (take l.at l.list.items);
}
