use Rattle.std.proofs.Common.{not, ap, sym, ◌∙◌}
use Rattle.fk_store.specs.Store.Bodies.{peer_by}
use Rattle.fk_store.specs.Store.Paths.{path, place}
use Rattle.fk_store.specs.Store.World.{world}
use Rattle.fk_plans.specs.Plans.Plans.{caller_by}
use Rattle.fk_transfer.specs.Lines.{line_by}
use Rattle.fk_transfer.proofs.SendLaws.{send_tells, some_words}
use Rattle.fk_transfer.proofs.sending.speaking.Goals as goal

pub returns-in-Home-clause-outcome : goal.returns-in-Home-clause-outcome
returns-in-Home-clause-outcome c words =
    let p = path c.args.store.now in
    c.told.ensures.outcome words ∙ send_tells (world c.args.store.now) (caller_by p c.args.caller words) c.args.address c.args.count c.in-Home.page
    (line_by p c.in-Ok.line) (p c.in-Home.space) c.in-Ok.ensures.line (ap (peer_by p) c.in-Service.is) (some_words c.args.count c.if-count-eq0.false)
    c.in-Home.ensures.reach (ap not (sym c.is_frozen.ensures ∙ c.if-is_frozen.false))
