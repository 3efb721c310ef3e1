use Rattle.std.proofs.Common.{sym, ◌∙◌}
use Rattle.fk_plans.specs.Plans.Plans.{caller_by}
use Rattle.fk_store.specs.Store.Moves.{picked_by}
use Rattle.fk_store.specs.Store.Paths.{path}
use Rattle.fk_store.specs.Store.World.{world}
use Rattle.fk_calls.proofs.InCalls.Kinds.{porter_denied, user_allowed}
use Rattle.fk_calls.proofs.calls.rows.judged_of_users.Goals as goal

pub returns-then-caller-clause-row : goal.returns-then-caller-clause-row
returns-then-caller-clause-row c = record {
  outcome = λ words.
      porter_denied (world c.args.store.now) (caller_by (path c.args.store.now) c.args.caller words)
      (picked_by (path c.args.store.now) c.args.pick) c.args.stage.now c.if-caller.true c.requires.stage;
  fits = tt;
}

pub returns-clause-row : goal.returns-clause-row
returns-clause-row c = record {
  outcome = λ words. c.row_of_users.ensures.row.outcome words
      ∙ sym (user_allowed (world c.args.store.now) (caller_by (path c.args.store.now) c.args.caller words)
      (picked_by (path c.args.store.now) c.args.pick) c.args.stage.now c.if-caller.false c.requires.stage);
  fits = c.row_of_users.ensures.row.fits;
}
