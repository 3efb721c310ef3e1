use Rattle.std.proofs.Common.{sym, ◌∙◌}
use Rattle.fk_waits.specs.Waits.Lists.{stands}
use Rattle.fk_waits.proofs.InCauses.Numbers.{clash}
use Rattle.fk_turns.proofs.InNext.Placed.{kept_woken, placed_settled, placed_woken}
use Rattle.fk_turns.proofs.next.placing.put.Goals as goal

pub wake-requires : goal.wake-requires
wake-requires c =
    let there = c.requires.kept.each c.args.who ∙ sym c.is_user.ensures ∙ c.if-not-is_user.false in
    record {
      sound = c.requires.kept.sound;
      waits = λ off. clash (stands c.args.who c.args.turns.now.waits) there off;
      marks = λ off. clash (stands c.args.who c.args.turns.now.waits) there off;
    }

pub settle_at-requires : goal.settle_at-requires
settle_at-requires c = record {
  valid = c.requires.valid;
  kept = c.requires.kept;
  user = sym c.is_user.ensures ∙ c.if-not-is_user.false;
  unready = λ pick ready. c.in-Err.ensures.none (pick, ready);
  why = c.in-Err.ensures.why;
  cause = c.in-Err.ensures.cause;
}

pub returns-in-Ok-clause-kept : goal.returns-in-Ok-clause-kept
returns-in-Ok-clause-kept c =
    kept_woken c.args.store.now c.args.who c.args.turns.now.waits c.args.turns.now.marks c.wake.new.self.waits c.wake.new.self.marks c.requires.kept
    (sym c.is_user.ensures ∙ c.if-not-is_user.false) c.wake.ensures.waits c.wake.ensures.met c.wake.ensures.less c.wake.ensures.sound

pub returns-in-Ok-clause-placed : goal.returns-in-Ok-clause-placed
returns-in-Ok-clause-placed c user =
    placed_woken c.args.store.now c.args.who c.args.turns.now.waits c.wake.new.self.waits c.wake.ensures.waits (c.in-Ok.ensures.up)

pub returns-in-Err-clause-placed : goal.returns-in-Err-clause-placed
returns-in-Err-clause-placed c user =
    placed_settled c.args.store.now c.args.who c.args.turns.now.waits c.settle_at.new.turns.waits c.settle_at.ensures.settled c.in-Err.ensures.none
