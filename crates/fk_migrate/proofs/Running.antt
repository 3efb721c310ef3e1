-- A run of events is a run of the handover, each step of which is ready.
use Rattle.std.proofs.Common.{◌≡◌, ℕ, List, [], ◌∷◌, ◌++◌, refl, sym, ap, subst, ◌∙◌}
use Rattle.fk_packets.specs.declared.events.Event.{Event as PairEvent}
use Rattle.fk_sides.specs.Sides.{both}
use Rattle.laws_handover.specs.Handover.{next, run}
use Rattle.laws_migrate.specs.Images.{image_codec}
use Rattle.laws_migrate.specs.Migration.{Both, IsReadyIn, AreReady}
use Rattle.fk_migrate.specs.Runs.{Run, Step, IsRun}

module _ (slot : ℕ) where
  abbrev Pairs : Type 0
  Pairs = Both image_codec slot

  -- one more at the end
  run_more : (p : Pairs) (ss : List Step) (s : Step) → run (both slot) p (ss ++ s ∷ []) ≡ next (both slot) (run (both slot) p ss) s
  unfolding run
  run_more p [] s = refl
  run_more p (t ∷ ss) s = run_more (next (both slot) p t) ss s

  ready_more : (p : Pairs) (ss : List Step) (s : Step) → AreReady image_codec slot p ss → IsReadyIn image_codec slot (run (both slot) p ss) s
      → AreReady image_codec slot p (ss ++ s ∷ [])
  unfolding run
  ready_more p [] s before ready = (ready, tt)
  ready_more p (t ∷ ss) s before ready = (before.0, ready_more (next (both slot) p t) ss s before.1 ready)

  -- those of a front are
  pub ready_front : (p : Pairs) (es more : List Step) → AreReady image_codec slot p (es ++ more) → AreReady image_codec slot p es
  ready_front p [] more ready = tt
  ready_front p (s ∷ es) more ready = (ready.0, ready_front (next (both slot) p s) es more ready.1)

  -- and so is the step behind it
  pub ready_at : (p : Pairs) (es more : List Step) (s : Step) → AreReady image_codec slot p (es ++ s ∷ more) → IsReadyIn image_codec slot (run (both slot) p es) s
  unfolding run
  ready_at p [] more s ready = ready.0
  ready_at p (t ∷ es) more s ready = ready_at (next (both slot) p t) es more s ready.1

  pub runs_so : (from : Run) (es : List PairEvent) (ss : List Step) (r : Run) → IsRun slot from es ss r → run (both slot) from.pair ss ≡ r.pair
  unfolding run
  runs_so from _ _ _ IsRun.Before = refl
  runs_so from _ _ _ (IsRun.After es ss r e s before is ready) =
      run_more from.pair ss s ∙ ap (λ (p : Pairs). next (both slot) p s) (runs_so from es ss r before)

  pub are_ready : (from : Run) (es : List PairEvent) (ss : List Step) (r : Run) → IsRun slot from es ss r → AreReady image_codec slot from.pair ss
  are_ready from _ _ _ IsRun.Before = tt
  are_ready from _ _ _ (IsRun.After es ss r e s before is ready) =
      ready_more from.pair ss s (are_ready from es ss r before)
      (subst (λ (p : Pairs). IsReadyIn image_codec slot p s) (sym (runs_so from es ss r before)) ready)
