-- Each call for which a porter asks is fit, so a machine may make it.
use Rattle.std.specs.Prelude.{◌≡◌, ℕ, true, List, ◌∷◌}
use Rattle.fk_model.specs.declared.limits.TheConstants.{LAST_PORTER_SLOT}
use Rattle.fk_model.specs.declared.moves.Ask.TheVariants as asks
use Rattle.fk_model.specs.Valid.{is_fit}
use Rattle.fk_model.specs.World.{World}
use Rattle.fk_image.specs.declared.image.image.Image.{Image}
use Rattle.laws_jobs.specs.Machines.{Head}
use Rattle.laws_jobs.specs.Machines.Head.{Stops, Asks}
use Rattle.laws_checkpoint.specs.Checkpoint as checks
use Rattle.laws_restore.specs.Restore.Restore as restores
use Rattle.laws_handover.specs.Packets.{Codec}
use Rattle.laws_handover.specs.NearSide as near
use Rattle.laws_handover.specs.NearSide.{Near}
use Rattle.laws_handover.specs.FarSide as far
use Rattle.laws_handover.specs.FarSide.{Far}
use Rattle.laws_handover.specs.Handover.{first}
use Rattle.laws_migrate.specs.Migration.{Why, Job, top, kernels, Step, AreReady, MayMigrate}
use Rattle.laws_migrate.specs.Laws.{IsGoodCodec, pair_after}

abbrev pub IsCallFit : {A : Type 0} → World → Head A → Type 0
IsCallFit w (Asks stage words) = is_fit w (LAST_PORTER_SLOT ∷ top) (asks.Call stage words) ≡ true
IsCallFit w (Stops end) = Unit {0}

-- a release and a stage of destroying are fit anywhere
abbrev pub IsNearFit : ℕ → World → Near checks.State Image Why → Type 0
IsNearFit slot w (near.Saves s) = IsCallFit w (checks.head slot s)
IsNearFit slot w other = Unit {0}

abbrev pub IsFarFit : {P : Type 0} → ℕ → World → Far Job Image P Why → Type 0
IsFarFit slot v (far.Makes image j) = IsCallFit v (restores.head slot j.state)
IsFarFit slot v (far.Undoes image j) = IsCallFit v (restores.head slot j.state)
IsFarFit slot v other = Unit {0}

-- ready or not, after every list of ready events
abbrev pub CallsAreFit : Type 0 → Type 0
CallsAreFit P = (codec : Codec Image P) (slot : ℕ) (w v : World) (es : List (Step codec slot)) → IsGoodCodec codec → MayMigrate slot w v →
    AreReady codec slot (first (kernels codec slot) w v) es →
    IsNearFit slot (pair_after codec slot w v es).near_world (pair_after codec slot w v es).near ×
    IsFarFit slot (pair_after codec slot w v es).far_world (pair_after codec slot w v es).far
