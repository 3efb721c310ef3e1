use Rattle.std.proofs.Common.{sym, ap, ◌∙◌}
use Rattle.fk_restore.specs.Positions.Passes.{taken_part}
use Rattle.fk_restore.specs.Positions.Doing.{doing_of}
use Rattle.fk_restore.proofs.positions.parts.taken_part.Goals as goal

pub returns-in-None : goal.returns-in-None
returns-in-None c bind s =
    c.raised_part.ensures bind s
    ∙ ap (λ t. doing_of c.args.slot (taken_part c.args.spaces.now c.args.slot bind c.args.number s c.args.x c.args.part c.args.fault t)) (sym c.in-None.is)

pub returns-in-Some : goal.returns-in-Some
returns-in-Some c bind s =
    c.taken_by_part.ensures bind s
    ∙ ap (λ t. doing_of c.args.slot (taken_part c.args.spaces.now c.args.slot bind c.args.number s c.args.x c.args.part c.args.fault t)) (sym c.in-Some.is)
