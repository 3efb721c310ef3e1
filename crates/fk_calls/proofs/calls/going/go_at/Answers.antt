use Rattle.std.proofs.Common.{refl}
use Rattle.fk_calls.proofs.calls.going.go_at.Goals as goal

pub lock-requires-clause-alone : goal.lock-requires-clause-alone
lock-requires-clause-alone c = (rw c.in-MutexLock.is at c.in-Some.ensures.alone) refl

pub try_lock-requires-clause-alone : goal.try_lock-requires-clause-alone
try_lock-requires-clause-alone c = (rw c.in-MutexTrylock.is at c.in-Some.ensures.alone) refl

pub unlock-requires-clause-alone : goal.unlock-requires-clause-alone
unlock-requires-clause-alone c = (rw c.in-MutexUnlock.is at c.in-Some.ensures.alone) refl

pub send-requires-clause-at : goal.send-requires-clause-at
send-requires-clause-at c = rw c.in-ClientSend.is at c.in-Some.ensures.at

pub send-requires-in-ServerSend-clause-at : goal.send-requires-in-ServerSend-clause-at
send-requires-in-ServerSend-clause-at c = rw c.in-ServerSend.is at c.in-Some.ensures.at

pub over-requires-clause-at : goal.over-requires-clause-at
over-requires-clause-at c = rw c.in-ClientOver.is at c.in-Some.ensures.at

pub over-requires-in-ServerOver-clause-at : goal.over-requires-in-ServerOver-clause-at
over-requires-in-ServerOver-clause-at c = rw c.in-ServerOver.is at c.in-Some.ensures.at

pub receive-requires-clause-at : goal.receive-requires-clause-at
receive-requires-clause-at c = rw c.in-ClientReceive.is at c.in-Some.ensures.at

pub receive-requires-in-ServerReceive-clause-at : goal.receive-requires-in-ServerReceive-clause-at
receive-requires-in-ServerReceive-clause-at c = rw c.in-ServerReceive.is at c.in-Some.ensures.at
