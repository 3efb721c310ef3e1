-- The next call of a restorer is ready wherever its porter is free and no space outside its subtree is held; and what its last
-- call, the release, leaves.
use Rattle.std.specs.Prelude.{◌≡◌, ℕ, ◌∷◌, None}
use Rattle.fk_model.specs.declared.limits.TheConstants.{OWN_SPACE, LAST_PORTER_SLOT}
use Rattle.fk_model.specs.declared.moves.Ask.TheVariants as asks
use Rattle.fk_model.specs.declared.stage.Stage.TheVariants.{SpaceRelease}
use Rattle.fk_model.specs.declared.statuses.status.TheConstants.{OK}
use Rattle.fk_model.specs.Places.{Path}
use Rattle.fk_model.specs.World.{World}
use Rattle.fk_model.specs.Holds.{holder_of}
use Rattle.fk_model.specs.Moves.{IsReady}
use Rattle.fk_model.specs.Runs.{after}
use Rattle.fk_model.specs.Valid.{IsValid}
use Rattle.fk_model.specs.Cut.{cut, IsPlain}
use Rattle.laws_jobs.specs.Machines.{no_words, call_of}
use Rattle.laws_jobs.specs.Calls.{IsUnheldOutside}
use Rattle.laws_jobs.specs.Machines.{Reply, IsAnswered}
use Rattle.laws_restore.specs.Sites.Orders.{Site, Shows, Order, stage_of, words_of, May}
use Rattle.laws_restore.specs.Sites.Orders.Pin.{NoPin}
use Rattle.laws_restore.specs.Sites.Fit.{IsUnled}

-- a restorer's next call is ready wherever its porter is free and no space outside its subtree is held
abbrev pub NextIsReady : Type 0
NextIsReady = (nester : Path) (slot : ℕ) (g : Site) (w : World) (o : Order) → Shows nester slot g w → May slot o g → IsValid w → IsUnheldOutside
    (slot ∷ nester) w →
    IsReady w (LAST_PORTER_SLOT ∷ nester) None (asks.Call (stage_of slot o) (words_of o))

-- the root is unheld, and the cut as it was built
abbrev pub Releases : Type 0
Releases = (nester : Path) (slot : ℕ) (g : Site) (w : World) (reply : Reply) → Shows nester slot g w → g.pin ≡ NoPin
    → IsAnswered nester w (SpaceRelease OWN_SPACE slot) no_words reply →
    (reply.status ≡ OK) × (holder_of ((after w (call_of nester (SpaceRelease OWN_SPACE slot) no_words)).body (slot ∷ nester)) ≡ None) ×
    (cut (after w (call_of nester (SpaceRelease OWN_SPACE slot) no_words)) nester slot ≡ g.built)

-- and where nobody leads in from outside, the subtree is plain
abbrev pub ReleasesPlain : Type 0
ReleasesPlain = (nester : Path) (slot : ℕ) (g : Site) (w : World) (reply : Reply) → Shows nester slot g w → g.pin ≡ NoPin → IsUnled nester slot w
    → IsAnswered nester w (SpaceRelease OWN_SPACE slot) no_words reply →
    IsPlain (after w (call_of nester (SpaceRelease OWN_SPACE slot) no_words)) nester slot
