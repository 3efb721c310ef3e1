use Rattle.std.proofs.Common.{Option, [], ap, ◌∙◌}
use Rattle.fk_model.specs.LinkRows.{if_read}
use Rattle.fk_model.specs.Objects.{and_then}
use Rattle.fk_model.specs.Places.{Path}
use Rattle.fk_store.specs.Store.Paths.{path}
use Rattle.fk_turns.specs.Whys.Causes.{named}
use Rattle.fk_turns.proofs.whys.causes.space_named.Goals as goal

pub returns-in-Ok : goal.returns-in-Ok
returns-in-Ok c =
    c.named.ensures (path c.args.store.now)
    ∙ ap (λ (o : Option Path). and_then (λ (space : Path). named space c.args.slot) o) (ap if_read (c.in-Ok.ensures.place []))

pub returns-in-Err : goal.returns-in-Err
returns-in-Err c = ap (λ (o : Option Path). and_then (λ (space : Path). named space c.args.slot) o) (ap if_read (c.in-Err.ensures.place []))
