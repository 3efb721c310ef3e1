use Rattle.std.proofs.Common.{Option, IfSome, ◌≡◌, subst}
use Rattle.fk_model.specs.declared.names.Who.{Who}
use Rattle.fk_store.specs.Store.World.{world, place_of}
use Rattle.fk_turns.specs.Whys.Causes.{cause_at}
use Rattle.fk_turns.specs.Whys.Whys.{IsStill}
use Rattle.fk_turns.proofs.moved.settling.settle_still.Goals as goal

pub settle_for-requires : goal.settle_for-requires
settle_for-requires c =
    let m = c.args.store.now in
    let x = place_of m c.args.who in
    record {
      kept = c.requires.kept;
      user = c.requires.user;
      unready = c.requires.unready;
      why = subst (λ (o : Option Who). IfSome o (λ (key : Who). IsStill (world m) x)) c.in-Some.is c.requires.why;
      cause = subst (λ (o : Option Who). IfSome o (λ (key : Who). place_of m key ≡ cause_at (world m) x)) c.in-Some.is c.requires.cause;
    }

pub settle-requires : goal.settle-requires
settle-requires c = record { valid = c.requires.valid; kept = c.requires.kept; user = c.requires.user; unready = c.requires.unready }
