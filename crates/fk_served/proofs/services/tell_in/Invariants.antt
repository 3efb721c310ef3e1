use Rattle.std.proofs.Common.{◌≡◌, length, ◌++◌, map, take, drop}
use Rattle.fk_served.specs.Served.{shown, told, AllFit, HaveRoomFor}
use Rattle.fk_served.proofs.services.tell_in.Given as goal

abbrev pub invariant-loop-at : goal.invariant-loop-at
invariant-loop-at g l = record {
  long : length l.list.items ≡ length l.fn.list.items;
  told : shown g.S.Service.meaning (take l.at l.list.items) ++ map (told l.what.said l.what.ended) (shown g.S.Service.meaning (drop l.at l.list.items))
      ≡ map (told l.what.said l.what.ended) (shown g.S.Service.meaning l.fn.list.items);
  fits : AllFit (map (λ r. r.rule) l.table.list.items) (shown g.S.Service.meaning (drop l.at l.list.items));
  room : HaveRoomFor g.S.Service.meaning g.S.Service.has_room l.what.said l.what.ended (drop l.at l.list.items);
}
