use Rattle.fk_migrate.proofs.Leading.{one_sent, none_sent}
use Rattle.fk_migrate.proofs.receiver.Receiver.sent.Goals as goal

pub returns-then-is_some : goal.returns-then-is_some
returns-then-is_some g c = λ f is. one_sent f c.packet.result c.is_some.result c.is_some.ensures c.if-is_some.true (c.packet.ensures f is)

pub returns : goal.returns
returns g c = λ f is. none_sent f c.packet.result c.is_some.result c.is_some.ensures c.if-is_some.false (c.packet.ensures f is)
