use Rattle.fk_calls.specs.Calls.Judgements.{words_of}
use Rattle.fk_calls.proofs.InCalls.Judged.{ready_judged, iff_never}
use Rattle.fk_calls.proofs.calls.moves.ready_given.Goals as goal

pub is_ready-requires-clause-free : goal.is_ready-requires-clause-free
is_ready-requires-clause-free c user = rw c.in-Some.ensures.judged.mover (c.in-Some.ensures.judged.free user)

pub returns-in-Some : goal.returns-in-Some
returns-in-Some c =
    ready_judged c.args.store.now c.args.m.now c.args.ask.now c.in-Some.j _ c.in-Some.ensures.judged (c.is_ready.ensures (words_of c.args.ask.now))

pub returns-in-None : goal.returns-in-None
returns-in-None c = iff_never c.args.store.now c.args.m.now c.args.ask.now c.in-None.ensures.never
