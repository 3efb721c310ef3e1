use Rattle.fk_turns.proofs.InMoved.Settled.{user_live}
use Rattle.fk_turns.proofs.moved.settling.settle.Goals as goal

pub cause-cause-requires : goal.cause-cause-requires
cause-cause-requires c = record { consistent = c.requires.valid.consistent; live = user_live c.args.store.now c.args.who c.requires.user }

pub settle_for-requires : goal.settle_for-requires
settle_for-requires c = record {
  kept = c.requires.kept;
  user = c.requires.user;
  unready = c.requires.unready;
  why = c.reason-why.ensures c.requires.unready;
  cause = c.cause-cause.ensures;
}
