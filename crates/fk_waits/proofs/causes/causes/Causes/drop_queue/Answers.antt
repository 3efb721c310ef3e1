use Rattle.fk_waits.proofs.InCauses.Order.{same_self}
use Rattle.fk_waits.proofs.InCauses.Steps.{closed_so, named_head, none_taken, still_none, take_len}
use Rattle.fk_waits.proofs.causes.causes.Causes.drop_queue.Goals as goal

pub close-requires : goal.close-requires
close-requires c = named_head c.args.self.now c.args.head c.args.name c.requires.named c.requires.stand

pub returns-clause-standing : goal.returns-clause-standing
returns-clause-standing c l standing =
    let k = c.take.ensures in
    let e = c.close.ensures in
    closed_so c.args.self.now c.close.new.self c.take.new.self c.args.head c.args.name c.requires.named e.gone e.others k.left
    (k.len (take_len k.taken c.requires.named)) k.kept e.len.0 e.len.1 e.room e.kept c.requires.empty l standing

pub returns-clause-gone : goal.returns-clause-gone
returns-clause-gone c = none_taken c.args.self.now.names c.take.new.self c.args.name c.args.name c.take.ensures.left (same_self c.args.name)

pub returns-clause-new : goal.returns-clause-new
returns-clause-new c other none = still_none c.args.self.now.names c.take.new.self c.args.name other c.take.ensures.left none

pub returns-clause-fewer : goal.returns-clause-fewer
returns-clause-fewer c = c.take.ensures.len (take_len c.take.ensures.taken c.requires.named)
