use Rattle.std.proofs.Common.{sym, ◌∙◌}
use Rattle.fk_plans.specs.Plans.Plans.{caller_by}
use Rattle.fk_store.specs.Store.Moves.{picked_by}
use Rattle.fk_store.specs.Store.Paths.{path}
use Rattle.fk_store.specs.Store.World.{world}
use Rattle.fk_calls.proofs.InCalls.Kinds.{all_allowed}
use Rattle.fk_calls.proofs.calls.rows.judged.Goals as goal

pub returns-then-is_for_users-clause-row : goal.returns-then-is_for_users-clause-row
returns-then-is_for_users-clause-row c = c.judged_of_users.ensures.row.outcome c.args.given.now

pub returns-then-is_for_porters-clause-row : goal.returns-then-is_for_porters-clause-row
returns-then-is_for_porters-clause-row c = (c.judged_of_porters.ensures.row (picked_by (path c.args.store.now) c.args.pick)).outcome

pub returns-then-is_for_porters-clause-fits : goal.returns-then-is_for_porters-clause-fits
returns-then-is_for_porters-clause-fits c = (c.judged_of_porters.ensures.row (picked_by (path c.args.store.now) c.args.pick)).fits

pub returns-clause-row : goal.returns-clause-row
returns-clause-row c =
    c.row_of_anybody.ensures.row.outcome
    ∙ sym (all_allowed (world c.args.store.now) (caller_by (path c.args.store.now) c.args.caller c.args.given.now)
    (picked_by (path c.args.store.now) c.args.pick) c.args.stage.now (sym c.is_for_users.ensures ∙ c.if-is_for_users.false)
    (sym c.is_for_porters.ensures ∙ c.if-is_for_porters.false))
