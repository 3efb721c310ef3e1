-- Speaking: the lists after a stage that told a native server something.
use Rattle.std.proofs.Common.{◌≡◌, ◌≤◌, false, [], None, refl, ap, sym}
use Rattle.fk_calls.specs.declared.calls.speaking.Spoken.{Spoken}
use Rattle.fk_calls.specs.declared.calls.speaking.Spoken.TheVariants as spokens
use Rattle.fk_model.specs.declared.moves.Ask.TheVariants as asks
use Rattle.fk_model.specs.declared.moves.Said.{Said}
use Rattle.fk_model.specs.declared.names.Who.{Who}
use Rattle.fk_model.specs.Moves.{Step}
use Rattle.fk_model.specs.Places.{Path}
use Rattle.fk_model.specs.Searches.{depth}
use Rattle.fk_model.specs.Valid.{IsValid}
use Rattle.fk_model.specs.Who.{space_born}
use Rattle.fk_plans.specs.declared.plans.plan.Words.{Words}
use Rattle.fk_plans.specs.Wakes.Touches.{is_making}
use Rattle.fk_store.specs.Store.Contents.{Contents}
use Rattle.fk_store.specs.Store.Paths.{path}
use Rattle.fk_store.specs.Store.World.{world, place_of}
use Rattle.fk_turns.specs.Moved.Kept.{AreKept}
use Rattle.fk_turns.specs.Moved.Moved.{is_put}
use Rattle.fk_turns.specs.Moved.Told.{IsMadeTo, IsStored, IsToldOf}
use Rattle.fk_turns.specs.Next.Goings.{run_of}
use Rattle.fk_turns.specs.Next.Judgements.{IsReadyMove, IsStepTo, TellsTouched}
use Rattle.fk_turns.specs.Next.Speaking.{touched_by, HasSpeech}
use Rattle.fk_turns.specs.Steps.Speeches.{ComesSpoken}
use Rattle.fk_turns.proofs.InMoved.Talking.{left_told, left_yielded, told_users, yielded_users}
use Rattle.fk_turns.proofs.InMoved.Told.{told_moves_leave}
use Rattle.fk_turns.proofs.InSteps.Stepped.{comes_ran, kept_valid, run_fit}
use Rattle.fk_turns.proofs.InSteps.Talked.{kept_by, ready_free}
use Rattle.fk_turns.proofs.InSteps.Went.{free_when_ready}
use Rattle.fk_waits.proofs.InCauses.Numbers.{clash}
use Rattle.fk_waits.proofs.InTurns.Roused.{met_none, roused_none}
use Rattle.fk_waits.specs.Waits.Lists.{is_queued, Lists}
use Rattle.laws_waits.specs.Few.{is_peer_of}

-- ---- a stage that was made comes so

put_nothing : (who : Who) (spoken : Spoken) (x : Who) → is_put (touched_by who spoken) x ≡ false
put_nothing who (spokens.Words words) x = refl
put_nothing who (spokens.Over port) x = refl

makes_nothing : (who : Who) (spoken : Spoken) → is_making (touched_by who spoken) ≡ false
makes_nothing who (spokens.Words words) = refl
makes_nothing who (spokens.Over port) = refl

module _ (m n : Contents) (who : Who) (valid : IsValid (world m)) (few : (world m).next ≤ depth) (ready : IsReadyMove m (run_of who) asks.Run) (said : Said)
    (step : IsStepTo m (run_of who) asks.Run n said) where
  pub spoken_valid : IsValid (world n)
  spoken_valid = kept_valid m n (run_of who) asks.Run valid few (run_fit m (run_of who)) said step

  module _ (spoken : Spoken) (waits marks : Lists) (born : path m ≡ space_born (world m)) (born_new : path n ≡ space_born (world n))
      (few_new : (world n).next ≤ depth) (kept : AreKept m waits marks) (tells : TellsTouched m (run_of who) asks.Run (touched_by who spoken))
      (row : HasSpeech m who spoken) (none : marks.ready ≡ []) where
    pub comes_spoken : ComesSpoken n who spoken waits marks
    comes_spoken =
        let old : IsStored m = record { valid = valid; born = born; few = few } in
        let new : IsStored n = record { valid = spoken_valid; born = born_new; few = few_new } in
        let made : IsMadeTo m n who None asks.Run = record { fit = run_fit m (run_of who); ready = ready; step = ap (λ (s : Step). s.world) (sym step) } in
        let told : IsToldOf m who None asks.Run (touched_by who spoken) =
        record { names = tells.names; leaves = tells.leaves; moves = tells.moves } in
        record {
          before = m;
          kept = kept;
          queued = free_when_ready m waits marks who None valid few kept ready;
          none = none;
          free = ready_free m who ready;
          after = comes_ran m n (run_of who) valid few (run_fit m (run_of who)) born born_new few_new (touched_by who spoken) waits marks said kept
              (makes_nothing who spoken) ready step tells;
          moved = told_moves_leave m n who None asks.Run (touched_by who spoken) old new made told;
          old = old;
          new = new;
          made = made;
          row = row;
        }

-- ---- everybody stands where they stood

module _ (n : Contents) (mover : Who) (waits marks : Lists) where
  pub kept_told : (words : Words) → ComesSpoken n mover (spokens.Words words) waits marks → AreKept n waits marks
  kept_told words from =
      let spoken = spokens.Words words in
      kept_by from.before n mover mover waits marks from.kept from.queued from.none
      (told_users from.before n mover from.old from.new from.made from.row (touched_by mover spoken) from.moved (put_nothing mover spoken))
      (left_told from.before n mover from.old from.new from.made from.row) waits marks (roused_none waits) (met_none marks waits) from.kept.sound
      (λ here. clash (is_queued mover waits.queued) here from.queued)

  pub kept_yielded : (port : Who) → ComesSpoken n mover (spokens.Over port) waits marks →
      ((q : Path) → is_peer_of (world n) (place_of n mover) q ≡ false) → AreKept n waits marks
  kept_yielded port from unserved =
      let spoken = spokens.Over port in
      kept_by from.before n mover mover waits marks from.kept from.queued from.none
      (yielded_users from.before n mover from.old from.new from.made from.row (touched_by mover spoken) from.moved (put_nothing mover spoken))
      (left_yielded from.before n mover from.old from.new from.made from.row from.free unserved) waits marks (roused_none waits) (met_none marks waits)
      from.kept.sound (λ here. clash (is_queued mover waits.queued) here from.queued)
