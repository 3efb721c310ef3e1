use Rattle.std.proofs.Common.{◌≡◌, length, ◌++◌, map, take, drop}
use Rattle.fk_natives.specs.Natives.{news_of}
use Rattle.fk_served.specs.Served.{shown, told_at_port, AllFit, HaveRoom}
use Rattle.fk_served.proofs.services.tell_port.Given as goal

abbrev pub invariant-loop-at : goal.invariant-loop-at
invariant-loop-at g l = record {
  long : length l.list.items ≡ length l.fn.list.items;
  told : shown g.S.Service.meaning (take l.at l.list.items) ++ map (told_at_port l.port (news_of l.heard)) (shown g.S.Service.meaning (drop l.at l.list.items))
      ≡ map (told_at_port l.port (news_of l.heard)) (shown g.S.Service.meaning l.fn.list.items);
  fits : AllFit (map (λ r. r.rule) l.table.list.items) (shown g.S.Service.meaning (drop l.at l.list.items));
  room : HaveRoom g.S.Service.has_room (drop l.at l.list.items);
}
