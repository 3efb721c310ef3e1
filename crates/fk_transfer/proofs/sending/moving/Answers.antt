use Rattle.std.proofs.Common.{ap, sym, ◌∙◌}
use Rattle.fk_model.specs.declared.names.Who.{Who}
use Rattle.fk_model.specs.Objects.Peer.{Server}
use Rattle.fk_model.specs.Places.Ptr.{At}
use Rattle.fk_store.specs.Store.Bodies.{peer_by}
use Rattle.fk_store.specs.Store.Paths.{path, place}
use Rattle.fk_store.specs.Store.World.{world}
use Rattle.fk_plans.specs.Plans.Plans.{caller_by}
use Rattle.fk_transfer.specs.Lines.{line_by}
use Rattle.fk_transfer.proofs.Receivers.{if_both}
use Rattle.fk_transfer.proofs.SendLaws.{if_moving, send_goes, some_words}
use Rattle.fk_transfer.proofs.sending.moving.Goals as goal

pub returns-in-Home-clause-outcome : goal.returns-in-Home-clause-outcome
returns-in-Home-clause-outcome c words =
    let p = path c.args.store.now in
    if_moving c.moves_to_thread.result (λ m goes. goes ∙ send_goes (world c.args.store.now) (caller_by p c.args.caller words) c.args.side c.args.address
    c.args.count c.in-Home.page (line_by p c.in-Ok.line) (place p c.in-Thread.peer) (p c.in-Home.space) c.in-Ok.ensures.line
    (ap (peer_by p) c.in-Thread.is) (some_words c.args.count c.if-count-eq0.false) c.in-Home.ensures.reach) (c.moves_to_thread.ensures.outcome words)

pub returns-in-Home-clause-sender : goal.returns-in-Home-clause-sender
returns-in-Home-clause-sender c = if_moving c.moves_to_thread.result (λ m between. between.2) c.moves_to_thread.ensures.between

pub returns-in-Home-clause-meets : goal.returns-in-Home-clause-meets
returns-in-Home-clause-meets c =
    let p = path c.args.store.now in
    if_moving c.moves_to_thread.result (λ m between. record {
      line = line_by p c.in-Ok.line;
      turn = c.in-Ok.ensures.line;
      client_is = ap (place p) (sym between.0);
      other = ap (peer_by p) c.in-Thread.is ∙ ap (λ (q : Who). Server (At (place p q))) (sym between.1);
    }) c.moves_to_thread.ensures.between

pub returns-in-Home-clause-receiver : goal.returns-in-Home-clause-receiver
returns-in-Home-clause-receiver c =
    if_both c.moves_to_thread.result (λ m between is. rw between.1 is) c.moves_to_thread.ensures.between c.moves_to_thread.ensures.receiver
