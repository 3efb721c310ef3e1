-- Kept: a move that isn't made leaves a kernel as it was.
use Rattle.std.proofs.Common.{◌≡◌, Bool, true, false, Option, Some, None, Result, Ok, Err, IfOk, IfNone, OnErr}
use Rattle.std.specs.Bool.{OnFalse}
use Rattle.fk_model.specs.declared.moves.Ask.{Ask}
use Rattle.fk_model.specs.declared.moves.Move.{Move}
use Rattle.fk_model.specs.Who.{event_of, space_born}
use Rattle.fk_store.specs.Store.Contents.{Contents}
use Rattle.fk_store.specs.Store.Paths.{path}
use Rattle.fk_store.specs.Store.World.{world}
use Rattle.fk_turns.specs.Steps.Tellings.{Told}
use Rattle.fk_turns.specs.Steps.Tried.{IsUnready}
use Rattle.fk_turns.specs.Steps.Steps.{was_made}
use Rattle.fk_turns.specs.Steps.Waiting.{Standing}
use Rattle.fk_kernel.specs.Events.{IsReadyEvent}
use Rattle.fk_kernel.specs.Kernels.{Kept}

abbrev pub kept_of : Contents → Standing → Kept
kept_of m s = record { store = m; standing = s }

module _ (m n : Contents) (s t : Standing) where
  same-both : n ≡ m → t ≡ s → kept_of n t ≡ kept_of m s
  same-both store standing = λ i. record { store = store i; standing = standing i }

  pub same-err : {A E : Type 0} (r : Result A E) → OnErr r (n ≡ m) → OnErr r (t ≡ s) → OnErr r (kept_of n t ≡ kept_of m s)
  same-err (Ok a) lacking still = tt
  same-err (Err e) lacking still = same-both lacking still

  pub same-lacking : {E : Type 0} (r : Result (Option Told) E) → OnErr r (n ≡ m) → OnFalse (was_made r) (t ≡ s) → OnErr r (kept_of n t ≡ kept_of m s)
  same-lacking (Ok tried) lacking still = tt
  same-lacking (Err e) lacking still = same-both lacking still

  pub same-unready : {E : Type 0} (move : Move) (ask : Ask) → path m ≡ space_born (world m) → (r : Result (Option Told) E) →
      IfOk r (IsUnready m move ask n) → OnFalse (was_made r) (t ≡ s) →
      IfOk r (λ tried. IfNone tried ((IsReadyEvent (world m) (event_of (world m) ask move) → ⊥) × (kept_of n t ≡ kept_of m s)))
  same-unready move ask born (Ok (Some told)) unready still = tt
  same-unready move ask born (Ok None) unready still = ((λ ready. unready.0 (rw born ready)), same-both unready.1 still)
  same-unready move ask born (Err e) unready still = unready

  pub same-false : (b : Bool) → OnFalse b (n ≡ m) → OnFalse b (t ≡ s) → OnFalse b (kept_of n t ≡ kept_of m s)
  same-false true same still = tt
  same-false false same still = same-both same still

  pub same-none : {A : Type 0} (o : Option A) → IfNone o (n ≡ m) → IfNone o (t ≡ s) → IfNone o (kept_of n t ≡ kept_of m s)
  same-none (Some a) same still = tt
  same-none None same still = same-both same still
