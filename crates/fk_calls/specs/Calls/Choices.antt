-- Choices: whom a user may pick, by its stage.
use Rattle.std.specs.Prelude.{◌≡◌, true, IsSome}
use Rattle.fk_model.specs.declared.stage.Stage.{Stage}
use Rattle.fk_model.specs.declared.stage.Stage.TheVariants.{CondSignal, Wait}
use Rattle.fk_model.specs.LinkRows.{candidate}
use Rattle.fk_model.specs.Places.{Path, parent, same_path}
use Rattle.fk_model.specs.SyncRows.{asleep_on}
use Rattle.fk_model.specs.World.{World}
use Rattle.fk_calls.specs.declared.calls.picking.Picks.{Picks}
use Rattle.fk_calls.specs.declared.calls.picking.Picks.TheVariants.{Nobody, Sleepers, Candidates}

abbrev pub picks_of : Stage → Picks
picks_of (Wait set) = Candidates set
picks_of (CondSignal cond) = Sleepers cond
picks_of other = Nobody

-- a user in a space may pick who is at a path: a sleeper of the space, or whom a wait may take
abbrev pub MayPick : World → Path → Picks → Path → Type 0
MayPick w s Nobody q = ⊥
MayPick w s (Sleepers cond) q = (same_path (parent q) s ≡ true) × IsSome (asleep_on cond (w.body q))
MayPick w s (Candidates set) q = IsSome (candidate w s set q)
