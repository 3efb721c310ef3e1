use Rattle.std.proofs.Common.{sym, ap, ◌∙◌}
use Rattle.fk_model.specs.declared.names.Who.{Who}
use Rattle.fk_model.specs.Objects.Peer.{Server}
use Rattle.fk_model.specs.Places.Ptr.{At}
use Rattle.fk_store.specs.Store.Bodies.{peer_by}
use Rattle.fk_store.specs.Store.Paths.{path, place}
use Rattle.fk_store.specs.Store.World.{world}
use Rattle.fk_plans.specs.Plans.Plans.{caller_by}
use Rattle.fk_transfer.specs.Lines.{line_by}
use Rattle.fk_transfer.proofs.Passed.{over_goes}
use Rattle.fk_transfer.proofs.Receivers.{if_also, if_some}
use Rattle.fk_transfer.proofs.passing.handing.Goals as goal

pub returns-clause-outcome : goal.returns-clause-outcome
returns-clause-outcome c words =
    let p = path c.args.store.now in
    if_some c.handing_to.result (λ h goes. goes ∙ over_goes (world c.args.store.now) (caller_by p c.args.caller words) c.args.side (line_by p c.in-Ok.line)
    (place p c.in-Thread.peer) c.in-Ok.ensures.line (ap (peer_by p) c.in-Thread.is)) (c.handing_to.ensures.outcome words)

pub returns-clause-meets : goal.returns-clause-meets
returns-clause-meets c =
    let p = path c.args.store.now in
    if_also c.handing_to.result (λ h client peer. record {
      line = line_by p c.in-Ok.line;
      turn = c.in-Ok.ensures.line;
      client_is = ap (place p) (sym client);
      other = ap (peer_by p) c.in-Thread.is ∙ ap (λ (q : Who). Server (At (place p q))) (sym peer);
    }) c.handing_to.ensures.client c.handing_to.ensures.peer

pub returns-clause-receiver : goal.returns-clause-receiver
returns-clause-receiver c =
    if_also c.handing_to.result (λ h peer is. rw peer is) c.handing_to.ensures.peer c.handing_to.ensures.receiver
