-- Went: what a look came to, clause by clause.
use Rattle.std.proofs.Common.{◌≡◌, None}
use Rattle.std.specs.Bool.{OnTrue, OnFalse}
use Rattle.fk_model.specs.declared.moves.Ask.TheVariants as asks
use Rattle.fk_model.specs.declared.moves.Said.TheVariants as says
use Rattle.fk_model.specs.declared.names.Who.{Who}
use Rattle.fk_store.specs.Store.Contents.{Contents}
use Rattle.fk_store.specs.Store.Paths.{path, place}
use Rattle.fk_store.specs.Store.World.{world}
use Rattle.fk_calls.specs.declared.calls.going.Went.{Went}
use Rattle.fk_calls.specs.declared.calls.going.Went.TheVariants as wents
use Rattle.fk_calls.specs.Calls.Goings.{run_of, touched_by, touched_in, was_made, HasRow, HasTalkRow, IfMade, IfTalked, IsAnyReady}
use Rattle.fk_calls.specs.Calls.Goings.{IsThen, WentTo}
use Rattle.fk_calls.specs.Calls.Judgements.{IsEnded, IsReadyMove, IsStepTo, TellsTouched}

module _ (m n : Contents) (who : Who) where
  pub went_made : (went : Went) → WentTo m n who went →
      OnTrue (was_made went) (IsReadyMove m (run_of who) asks.Run × IsStepTo m (run_of who) asks.Run n says.Nothing)
  went_made wents.Not to = tt
  went_made wents.Waits to = tt
  went_made (wents.Made what at) to = (to.ready, to.step)
  went_made (wents.Talked by) to = (to.ready, to.step)

  pub went_ended : (went : Went) → WentTo m n who went → OnTrue (was_made went) (IsEnded m n None)
  went_ended wents.Not to = tt
  went_ended wents.Waits to = tt
  went_ended (wents.Made what at) to = to.ended
  went_ended (wents.Talked by) to = to.ended

  pub went_touched : (went : Went) → WentTo m n who went → IfMade went (λ what at. TellsTouched m (run_of who) asks.Run (touched_by what))
  went_touched wents.Not to = tt
  went_touched wents.Waits to = tt
  went_touched (wents.Made what at) to = to.touched
  went_touched (wents.Talked by) to = tt

  pub went_row : (went : Went) → WentTo m n who went → IfMade went (λ what at. HasRow m who what)
  went_row wents.Not to = tt
  went_row wents.Waits to = tt
  went_row (wents.Made what at) to = to.row
  went_row (wents.Talked by) to = tt

  pub went_at : (went : Went) → WentTo m n who went → IfMade went (λ what at. IsThen n who at)
  went_at wents.Not to = tt
  went_at wents.Waits to = tt
  went_at (wents.Made what at) to = to.at_then
  went_at (wents.Talked by) to = tt

  pub went_waits : (went : Went) → WentTo m n who went → went ≡ wents.Waits → IsAnyReady (world m) (place (path m) who) → ⊥
  went_waits wents.Not to is = absurd (cc)
  went_waits wents.Waits to is = to.1
  went_waits (wents.Made what at) to is = absurd (cc)
  went_waits (wents.Talked by) to is = absurd (cc)

  pub went_same : (went : Went) → WentTo m n who went → OnFalse (was_made went) (n ≡ m)
  went_same wents.Not to = to
  went_same wents.Waits to = to.0
  went_same (wents.Made what at) to = tt
  went_same (wents.Talked by) to = tt

  pub went_talked : (went : Went) → WentTo m n who went → IfTalked went (HasTalkRow m who)
  went_talked wents.Not to = tt
  went_talked wents.Waits to = tt
  went_talked (wents.Made what at) to = tt
  went_talked (wents.Talked by) to = to.row

  pub went_tells : (went : Went) → WentTo m n who went → IfTalked went (λ by. TellsTouched m (run_of who) asks.Run (touched_in by))
  went_tells wents.Not to = tt
  went_tells wents.Waits to = tt
  went_tells (wents.Made what at) to = tt
  went_tells (wents.Talked by) to = to.touched
