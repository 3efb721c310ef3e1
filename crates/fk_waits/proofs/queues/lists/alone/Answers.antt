use Rattle.std.proofs.Common.{ap, ◌∙◌}
use Rattle.fk_waits.specs.Queues.Nodes.{next_in, next_of, prev_in, prev_of}
use Rattle.fk_waits.proofs.InQueues.Chains.{put-other}
use Rattle.fk_waits.proofs.InQueues.Nodes.{listed_besides}
use Rattle.fk_waits.proofs.queues.lists.alone.Goals as goal

pub returns-clause-lists : goal.returns-clause-lists
returns-clause-lists c h l is off =
    let key = c.insert_reserved-key.result in
    let s = c.insert_reserved-key.new.self in
    let others = c.insert_reserved-key.ensures.updates.others in
    listed_besides c.args.nodes.now c.link.new.nodes key h l
    (λ m apart. c.link.ensures.next m ∙ put-other (next_of s) key key m apart ∙ ap (next_in m) (others m apart))
    (λ m apart. c.link.ensures.prev m ∙ put-other (prev_of s) key key m apart ∙ ap (prev_in m) (others m apart)) is off
