-- Locked: a thread at a locked mutex waits for that, and one that sleeps on a condition for that one.
use Rattle.std.proofs.Common.{◌≡◌, ◌||◌, ◌==◌, ℕ, false, not, is_some, ◌∷◌, Option, Some, None, refl, sym, ap, subst, ◌∙◌}
use Rattle.std.proofs.lemmas.Bool.{or_from, or_parts}
use Rattle.fk_model.specs.declared.names.Kind.TheVariants as kinds
use Rattle.fk_model.specs.declared.stage.Stage.{Stage}
use Rattle.fk_model.specs.declared.stage.Stage.TheVariants.{CondAsleep, MutexLock}
use Rattle.fk_model.specs.Holds.{decider, is_user}
use Rattle.fk_model.specs.Objects.{Fault, Thread, and_then}
use Rattle.fk_model.specs.Places.{Path, parent}
use Rattle.fk_model.specs.Searches.{thread_at}
use Rattle.fk_model.specs.Talks.{first_stage}
use Rattle.fk_model.specs.World.{World}
use Rattle.laws_waits.specs.Stuck.{is_resting}
use Rattle.fk_turns.specs.Whys.Causes.{cause_at, fault_port, is_at_rest, named, outermost_held, stage_cause, thread_cause}
use Rattle.fk_turns.specs.Whys.Whys.{IsLocked, IsThere}
use Rattle.fk_turns.proofs.InWhys.Waited.{awake, none_held, or_second}

no_fault : (o : Option Fault) → is_some o ≡ false → o ≡ None
no_fault None off = refl
no_fault (Some fault) off = absurd (cc)

-- a thread that is up waits for what its stage names
module _ (w : World) (x key : Path) (t : Thread) (stage : Stage) (unheld : (q : Path) → decider w q ≡ None) (there : Some t ≡ thread_at w x)
    (up : is_resting t ≡ false) (first : first_stage t.mode ≡ Some stage) (named_so : Some key ≡ stage_cause w x t stage) where
  by_stage : Some key ≡ and_then (stage_cause w x t) (first_stage t.mode)
  by_stage = named_so ∙ ap (and_then (stage_cause w x t)) (sym first)

  by_thread : Some key ≡ thread_cause w x t
  by_thread =
      let able = or_parts (not (t.stops == 0) || is_some t.fault) (not (is_user t.mode)) up in
      let rest = or_parts (not (t.stops == 0)) (is_some t.fault) able.0 in
      awake (is_at_rest t) (Some key) (fault_port t.fault (and_then (stage_cause w x t) (first_stage t.mode)))
      (or_from (not (t.stops == 0)) (not (is_user t.mode)) rest.0 able.1)
      (by_stage ∙ ap (λ (o : Option Fault). fault_port o (and_then (stage_cause w x t) (first_stage t.mode))) (sym (no_fault t.fault rest.1)))

  up_cause : key ≡ cause_at w x
  up_cause =
      or_second x (outermost_held w (parent x)) (and_then (thread_cause w x) (thread_at w x)) key (sym (none_held w unheld (parent x)))
      (by_thread ∙ ap (and_then (thread_cause w x)) there)

pub lock_cause : (w : World) (x : Path) (t : Thread) (mutex slot : ℕ) → ((q : Path) → decider w q ≡ None) → Some t ≡ thread_at w x →
    is_resting t ≡ false → first_stage t.mode ≡ Some (MutexLock mutex) → IsLocked w (parent x) mutex slot → (slot ∷ parent x) ≡ cause_at w x
lock_cause w x t mutex slot unheld there up stage is =
    up_cause w x (slot ∷ parent x) t (MutexLock mutex) unheld there up stage
    (subst (λ (n : ℕ). Some (slot ∷ parent x) ≡ named (parent x) n) is.is (rw is.low refl))

pub sleep_cause : (w : World) (x : Path) (t : Thread) (cond mutex slot : ℕ) → ((q : Path) → decider w q ≡ None) → Some t ≡ thread_at w x →
    is_resting t ≡ false → first_stage t.mode ≡ Some (CondAsleep cond mutex) → slot ≡ cond → IsThere w (parent x) cond kinds.Cond →
    (slot ∷ parent x) ≡ cause_at w x
sleep_cause w x t cond mutex slot unheld there up stage is at =
    up_cause w x (slot ∷ parent x) t (CondAsleep cond mutex) unheld there up stage
    (subst (λ (n : ℕ). Some (n ∷ parent x) ≡ named (parent x) cond) (sym is) (rw at.low refl))
