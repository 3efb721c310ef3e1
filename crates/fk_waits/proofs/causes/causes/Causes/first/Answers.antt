use Rattle.std.proofs.Common.{Option, ap, sym, ◌∙◌}
use Rattle.fk_model.specs.declared.names.Who.{Who}
use Rattle.fk_waits.specs.Causes.Causes.{first_of}
use Rattle.fk_waits.proofs.InCauses.Steps.{first_so, ready_cause}
use Rattle.fk_waits.proofs.causes.causes.Causes.first.Goals as goal

pub first-requires : goal.first-requires
first-requires c = record { head = c.requires.standing.placed.ready }

pub returns-in-None : goal.returns-in-None
returns-in-None c l standing =
    let q = c.args.self.now in
    first_so q q.ready c.args.cause c.first.result (ready_cause q ∙ sym c.in-None.is) c.first.ensures l standing standing.placed.ready

pub returns-in-Some : goal.returns-in-Some
returns-in-Some c l standing = c.first_named.ensures l standing ∙ ap (λ (o : Option Who). first_of o l) (sym c.in-Some.is)
