use Rattle.std.proofs.Common.{◌≡◌, List, subst}
use Rattle.laws_checkpoint.specs.Gather as gathers
use Rattle.fk_checkpoint.specs.Seeking.Seeking.{answered}
use Rattle.fk_checkpoint.specs.declared.gathering.content.Content.{Content}
use Rattle.fk_checkpoint.specs.Gathering.Gathered.{gather_of, gathered}
use Rattle.fk_checkpoint.proofs.InCheckpoint.Hears.{walk_heard, read_heard, gather_heard}
use Rattle.fk_checkpoint.proofs.checkpoint.checkpoint.hear.Goals as goal

pub returns-in-Walks : goal.returns-in-Walks
returns-in-Walks c =
    rw (c.part.ensures, c.in-Walks.is) (walk_heard c.args.slot c.absorb.result _ c.absorb.new.self _ (rw c.words_of.ensures at (c.absorb.ensures c.args.slot)))

pub returns-in-Reads : goal.returns-in-Reads
returns-in-Reads c =
    rw (c.part-in-Reads.ensures, c.in-Reads.is) (read_heard c.args.slot c.absorb-in-Reads.result _ c.absorb-in-Reads.new.self _
    (c.absorb-in-Reads.ensures c.args.slot))

pub returns-in-Gathers : goal.returns-in-Gathers
returns-in-Gathers c =
    let answer = c.args.answer.now in
    let new = c.absorb-in-Gathers.new.self in
    let is = subst (λ (contents : List Content). gathered c.absorb-in-Gathers.result c.args.slot contents new
    ≡ gathers.next c.args.slot (gather_of c.args.slot contents c.in-Gathers.gather) answer.status (answered answer)) c.as_slice.ensures.value
    (c.absorb-in-Gathers.ensures c.args.slot) in
    rw (c.part-in-Gathers.ensures, c.in-Gathers.is) (gather_heard c.args.slot c.absorb-in-Gathers.result _ c.in-Gathers.contents new _ is)
