-- Idle: where none of the threads is ready no move of a user is.
use Rattle.std.proofs.Common.{◌≡◌, ◌≤◌, ◌&&◌, ◌||◌, ◌==◌, ℕ, Bool, true, false, not, List, [], ◌∷◌, Option, Some, None, IsSome, is_none, refl, sym, ap, ◌∙◌}
use Rattle.fk_model.specs.declared.moves.Ask.TheVariants as asks
use Rattle.fk_model.specs.declared.names.Who.{Who}
use Rattle.fk_model.specs.Holds.{is_free, is_frozen, is_porter}
use Rattle.fk_model.specs.Moves.{goes_on, outcome, user_move, IsReady}
use Rattle.fk_model.specs.Objects.{Mode, Thread, holds}
use Rattle.fk_model.specs.Objects.Mode.{Calling, Halted, Native, Running}
use Rattle.fk_model.specs.Outcomes.{Outcome, when}
use Rattle.fk_model.specs.Outcomes.Outcome.{Waits}
use Rattle.fk_model.specs.Places.{Path, parent}
use Rattle.fk_model.specs.Searches.{depth, thread_at}
use Rattle.fk_model.specs.Valid.{kind_there, IsValid}
use Rattle.fk_model.specs.World.{World}
use Rattle.fk_store.specs.Store.Contents.{Contents}
use Rattle.fk_store.specs.Store.World.{world, place_of}
use Rattle.fk_turns.proofs.InPicks.Scans.{rootless, thread_there}
use Rattle.fk_turns.specs.Moved.Kept.{is_user_at, AreKept}
use Rattle.fk_waits.specs.Waits.Lists.{is_in, is_queued, Lists}
use Rattle.fk_turns.proofs.InNext.Passed.{queued_unready}
use Rattle.fk_turns.specs.Next.Waiting.{IsIdle}

-- ---- who is no user's thread

no_thread : (w : World) (x : Path) (pick : Option Path) → thread_at w x ≡ None → outcome w x pick asks.Run ≡ Waits
unfolding outcome
no_thread w x pick none = ap (user_move w x pick) none

off : (a b c : Bool) (o : Outcome) → when (a && b && c && false) o ≡ Waits
off false b c o = refl
off true false c o = refl
off true true false o = refl
off true true true o = refl

never : (w : World) (x : Path) (pick : Option Path) (t : Thread) → not (is_porter t.mode) ≡ false →
    when (is_free w (parent x) t) (goes_on w x pick t t.mode) ≡ Waits
never w x pick t porter = by t.mode refl porter
  where
    by : (mode : Mode) → t.mode ≡ mode → not (is_porter mode) ≡ false → when (is_free w (parent x) t) (goes_on w x pick t t.mode) ≡ Waits
    by (Running g) e porter = absurd (cc)
    by (Calling todo rest) e porter = absurd (cc)
    by (Halted g code) e porter = absurd (cc)
    by (Native g) e porter =
        rw e (off (not (is_frozen w (parent x))) (t.stops == 0) (is_none t.fault) (goes_on w x pick t (Native g)))

no_user : (w : World) (x : Path) (pick : Option Path) → holds (λ (t : Thread). not (is_porter t.mode)) (thread_at w x) ≡ false →
    outcome w x pick asks.Run ≡ Waits
unfolding outcome
no_user w x pick off = by (thread_at w x) refl off
  where
    by : (o : Option Thread) → thread_at w x ≡ o → holds (λ (t : Thread). not (is_porter t.mode)) o ≡ false → user_move w x pick (thread_at w x) ≡ Waits
    by None e off = ap (user_move w x pick) e
    by (Some t) e off = ap (user_move w x pick) e ∙ never w x pick t off

-- ---- nobody

module _ (m : Contents) (waits marks : Lists) (valid : IsValid (world m)) (few : (world m).next ≤ depth) (kept : AreKept m waits marks)
    (none : waits.ready ≡ []) where
  user_idle : (who : Who) (user : Bool) → is_user_at m who ≡ user → (pick : Option Path) → IsReady (world m) (place_of m who) pick asks.Run → ⊥
  user_idle who true e pick ready =
      let queued : is_queued who waits.queued ≡ true =
      ap (λ (l : List Who). is_in who l || is_queued who waits.queued) (sym none) ∙ kept.each who ∙ e in
      queued_unready m waits marks valid few kept who queued pick ready
  user_idle who false e pick ready = rw (no_user (world m) (place_of m who) pick e) at ready

  pub nobody_ready : ((k : ℕ) (s : Path) → IsSome (kind_there (world m) (k ∷ s)) → (other : Who) × (place_of m other ≡ k ∷ s)) → IsIdle m
  nobody_ready named [] pick ready = rw (no_thread (world m) [] pick (rootless m)) at ready
  nobody_ready named (k ∷ s) pick ready = by (thread_at (world m) (k ∷ s)) refl
    where
      by : (o : Option Thread) → thread_at (world m) (k ∷ s) ≡ o → ⊥
      by None e = rw (no_thread (world m) (k ∷ s) pick e) at ready
      by (Some t) e =
          let some = thread_there (world m) (k ∷ s) t e in
          let other = named k s some in
          user_idle other.0 (is_user_at m other.0) refl pick (rw other.1 ready)
