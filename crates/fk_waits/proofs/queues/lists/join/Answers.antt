use Rattle.std.proofs.Common.{ap, ◌∙◌}
use Rattle.fk_waits.specs.Queues.Chains.{put_at}
use Rattle.fk_waits.proofs.InQueues.Chains.{same_everywhere}
use Rattle.fk_waits.proofs.InQueues.Nodes.{joined, joined_elsewhere}
use Rattle.fk_waits.proofs.queues.lists.join.Goals as goal

pub returns-clause-joins : goal.returns-clause-joins
returns-clause-joins c l is off =
    joined c.args.nodes.now c.link_both.new.nodes c.args.head c.args.node c.link_head-last.result l c.link_head-last.ensures.last
    (record {
      next = λ m. c.link_both.ensures.next m
          ∙ ap (λ f. put_at f c.args.node c.args.head m) (same_everywhere c.link_next.ensures.next
          ∙ ap (λ f. put_at f c.link_head-last.result c.args.node) (same_everywhere c.link_head-last.ensures.next));
      prev = λ m. c.link_both.ensures.prev m
          ∙ ap (λ f. put_at f c.args.node c.link_head-last.result m) (same_everywhere c.link_next.ensures.prev ∙ same_everywhere c.link_head-last.ensures.prev);
    }) is off

pub returns-clause-others : goal.returns-clause-others
returns-clause-others c h k l mine is apart off =
    joined_elsewhere c.args.nodes.now c.link_both.new.nodes c.args.head c.args.node c.link_head-last.result h k l c.link_head-last.ensures.last
    (record {
      next = λ m. c.link_both.ensures.next m
          ∙ ap (λ f. put_at f c.args.node c.args.head m) (same_everywhere c.link_next.ensures.next
          ∙ ap (λ f. put_at f c.link_head-last.result c.args.node) (same_everywhere c.link_head-last.ensures.next));
      prev = λ m. c.link_both.ensures.prev m
          ∙ ap (λ f. put_at f c.args.node c.link_head-last.result m) (same_everywhere c.link_next.ensures.prev ∙ same_everywhere c.link_head-last.ensures.prev);
    }) mine is apart off
