use Rattle.std.proofs.Common.{sym, ◌∙◌}
use Rattle.fk_plans.specs.Plans.Plans.{caller_by}
use Rattle.fk_store.specs.Store.Paths.{path}
use Rattle.fk_store.specs.Store.World.{world}
use Rattle.fk_calls.proofs.InCalls.Kinds.{porter_allowed, user_denied}
use Rattle.fk_calls.proofs.calls.rows.judged_of_porters.Goals as goal

pub returns-then-caller-clause-row : goal.returns-then-caller-clause-row
returns-then-caller-clause-row c pick = record {
  outcome = (c.row_of_porters.ensures.row pick).outcome
      ∙ sym (porter_allowed (world c.args.store.now) (caller_by (path c.args.store.now) c.args.caller c.args.given.now)
      pick c.args.stage.now c.if-caller.true c.requires.stage);
  fits = (c.row_of_porters.ensures.row pick).fits;
}

pub returns-then-caller-clause-sure : goal.returns-then-caller-clause-sure
returns-then-caller-clause-sure c = λ none. c.row_of_porters.ensures.sure (rw c.if-caller.true at none)

pub returns-clause-row : goal.returns-clause-row
returns-clause-row c pick = record {
  outcome = user_denied (world c.args.store.now) (caller_by (path c.args.store.now) c.args.caller c.args.given.now)
      pick c.args.stage.now c.if-caller.false c.requires.stage;
  fits = tt;
}
