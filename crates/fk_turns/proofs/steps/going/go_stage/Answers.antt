use Rattle.std.proofs.Common.{subst}
use Rattle.std.specs.Bool.{OnFalse, OnTrue}
use Rattle.fk_model.specs.declared.moves.Ask.TheVariants as asks
use Rattle.fk_store.specs.Store.Contents.{Contents}
use Rattle.fk_turns.specs.Next.Goings.{run_of}
use Rattle.fk_turns.specs.Next.Waiting.{standing}
use Rattle.fk_turns.specs.Steps.Classes.{is_made}
use Rattle.fk_turns.specs.Steps.Steps.{IsPut}
use Rattle.fk_turns.proofs.steps.going.go_stage.Goals as goal

pub returns-in-Not-clause-placed : goal.returns-in-Not-clause-placed
returns-in-Not-clause-placed c =
    let same = rw c.in-Not.is at c.go.ensures.same in
    let v = c.go_silently.new.store in
    let s = standing c.go_silently.new.turns.waits in
    subst (λ (d : Contents). OnFalse c.args.stays (OnTrue (is_made c.go_silently.result) (IsPut d (run_of c.args.who) asks.Run v s))) same
    c.go_silently.ensures.placed
