use Rattle.std.proofs.Common.{◌≡◌, ℕ, true, List, Option, Some, None, IfSome, sym, ◌∙◌}
use Rattle.fk_model.specs.declared.names.Who.{Who}
use Rattle.fk_model.specs.NativeRows.{is_serving_port}
use Rattle.fk_store.specs.Store.Contents.{Contents}
use Rattle.fk_store.specs.Store.Paths.{path, place}
use Rattle.fk_store.specs.Store.World.{world, IsLive}
use Rattle.fk_calls.specs.declared.acts.act.Act.{Act}
use Rattle.fk_calls.specs.Acts.Acts.{IsAct, IsFor}
use Rattle.fk_calls.proofs.acts.judging.accept.Goals as goal

fits : (m : Contents) (port : Who) (words : List ℕ) (act : Option Act) → is_serving_port (world m) (place (path m) port) ≡ true → IsLive m port →
    IfSome act (IsFor (world m) (path m) words) → IfSome act (IsAct m port words)
fits m port words None serving live is = tt
fits m port words (Some act) serving live is = record { serving = serving; live = live; for_whom = is }

pub returns-in-Some-clause-fits : goal.returns-in-Some-clause-fits
returns-in-Some-clause-fits c words =
    fits c.args.store.now c.args.port words c.takes.result (sym c.is_serving.ensures.serving ∙ c.if-not-is_serving.false)
    (c.is_serving.ensures.live c.if-not-is_serving.false) (c.takes.ensures.fits words)
