use Rattle.std.proofs.Common.{sym, subst, ◌∙◌}
use Rattle.fk_waits.specs.Waits.Lists.{StandOnce}
use Rattle.fk_waits.proofs.InWaits.Listed.{front_stands}
use Rattle.fk_waits.proofs.InTurns.Roused.{none_ready}
use Rattle.fk_turns.proofs.InNext.Passed.{fewer_ready, passed_more, passed_none}
use Rattle.fk_turns.proofs.next.going.next.Goals as goal

pub loop-who-init : goal.loop-who-init
loop-who-init c = record { kept = c.requires.kept; passed = passed_none c.args.store.now c.args.turns.now.waits }

pub settle_at-requires : goal.settle_at-requires
settle_at-requires c =
    let now = c.loop-who.turns in
    record {
      valid = c.requires.valid;
      kept = c.loop-who.invariant.kept;
      user = sym (c.loop-who.invariant.kept.each c.in-Some.who) ∙ front_stands c.in-Some.who now.waits c.in-Some.ensures;
      unready = λ pick ready. c.in-Err.ensures.none (pick, ready);
      why = c.in-Err.ensures.why;
      cause = c.in-Err.ensures.cause;
    }

pub loop-who-preserved : goal.loop-who-preserved
loop-who-preserved c =
    let was = c.args.turns.now in
    let now = c.loop-who.turns in
    let once : StandOnce now.waits = subst StandOnce c.waits.ensures c.once.ensures in
    record {
      kept = c.settle_at.ensures.kept;
      passed = passed_more c.args.store.now c.in-Some.who was.waits now.waits c.settle_at.new.turns.waits c.loop-who.invariant.passed c.in-Some.ensures once
          c.settle_at.ensures.settled c.in-Err.ensures.none;
    }

pub loop-who-smaller : goal.loop-who-smaller
loop-who-smaller c =
    let was = c.args.turns.now in
    let now = c.loop-who.turns in
    let once : StandOnce now.waits = subst StandOnce c.waits.ensures c.once.ensures in
    fewer_ready c.args.store.now c.in-Some.who was.waits now.waits c.settle_at.new.turns.waits c.loop-who.invariant.passed c.in-Some.ensures once
    c.settle_at.ensures.settled

pub idle-requires : goal.idle-requires
idle-requires c =
    let now = c.loop-who.turns in
    record { valid = c.requires.valid; kept = c.loop-who.invariant.kept; none = none_ready now.waits.ready c.in_default.ensures }
