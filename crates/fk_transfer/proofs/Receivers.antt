-- Receivers: behind a Receive nothing stands in any call.
use Rattle.std.proofs.Common.{◌≡◌, ℕ, Bool, true, not, List, [], ◌∷◌, length, Option, Some, None, unwrap_or, is_some, IsSome, IfSome, refl, sym, ap}
use Rattle.fk_model.specs.declared.stage.Stage.{Stage}
use Rattle.fk_model.specs.declared.thread.Mode as modes_of
use Rattle.fk_model.specs.declared.thread.Mode.TheVariants as modes
use Rattle.fk_model.specs.declared.thread.Thread as threads_of
use Rattle.fk_model.specs.declared.thread.Turn.{Turn}
use Rattle.fk_model.specs.declared.thread.Turn.TheVariants as turns
use Rattle.fk_model.specs.Calls.{calls, rest_of, todo_of}
use Rattle.fk_model.specs.Objects.{and_then}
use Rattle.fk_model.specs.Objects.Mode.{Calling}
use Rattle.fk_model.specs.Places.{Path, parent}
use Rattle.fk_model.specs.Searches.{thread_at}
use Rattle.fk_model.specs.Talks.{first_stage, receive_on, receiving}
use Rattle.fk_model.specs.World.{World}
use Rattle.fk_stages.proofs.Codes.{OfOthers, of_registers}
use Rattle.fk_store.specs.Store.Bodies.{mode_by, thread_by}
use Rattle.fk_store.specs.Store.Threads.{is_free_at, todo_at}
use Rattle.fk_transfer.proofs.SendLaws.{received}
use Rattle.fk_transfer.specs.Lines.{IsReceiver}

abbrev is_last : Turn → List Stage → Bool
is_last side [] = true
is_last side (stage ∷ []) = true
is_last side (stage ∷ next ∷ todo) = not (is_some (receive_on side stage))

Ends : Turn → List ℕ → Type 0
Ends side g = is_last side (unwrap_or (todo_of g) []) ≡ true

EndsIn : Turn → List ℕ → List Stage → Type 0
EndsIn side g todo = is_last side todo ≡ true

each_ends : (side : Turn) → OfOthers [] (EndsIn side) calls
unfolding EndsIn
each_ends turns.Client = assumption
each_ends turns.Server = assumption

ends : (side : Turn) (g : List ℕ) → length g ≡ 16 → is_last side (unwrap_or (todo_of g) []) ≡ true
unfolding Ends EndsIn
ends side = of_registers [] (Ends side) (EndsIn side) (λ r. tt) (each_ends side) (λ g. refl) (λ n r other is. is)

module _ (w : World) (x : Path) (p : ℕ → Path) (t : threads_of.Thread) (side : Turn) (long : length t.regs ≡ 16)
    (there : Some (thread_by p t) ≡ thread_at w x) (free : is_free_at w x ≡ true) where
  in_call : (todo : List Stage) (r : ℕ × ℕ) → t.mode ≡ modes.Calling → unwrap_or (todo_of t.regs) [] ≡ todo → is_last side todo ≡ true →
      Some r ≡ and_then (receive_on side) (first_stage (Calling todo (rest_of todo t.regs))) → IsReceiver w x side
  unfolding todo_at
  in_call [] r calling is last at = absurd (cc)
  in_call (stage ∷ []) r calling is last at =
      record { free = free; stage = stage; alone = rw (← there, calling, is) refl; receives = ap is_some (sym at) }
  in_call (stage ∷ next ∷ todo) r calling is last at = let off = rw (← at) at last in absurd (cc)

  pub is_receiver : (r : ℕ × ℕ) → Some r ≡ receiving w (parent x) side (thread_by p t).mode → IsReceiver w x side
  is_receiver r is = by t.mode refl (received w (parent x) side (thread_by p t).mode r is)
    where
      by : (mode : modes_of.Mode) → t.mode ≡ mode → Some r ≡ and_then (receive_on side) (first_stage (mode_by mode t.regs)) → IsReceiver w x side
      by modes.Running e at = absurd (cc)
      by modes.Calling e at = in_call (unwrap_or (todo_of t.regs) []) r e refl (ends side t.regs long) at
      by (modes.Halted code) e at = absurd (cc)
      by modes.Native e at = absurd (cc)

  pub receiver_if : (o : Option (ℕ × ℕ)) → o ≡ receiving w (parent x) side (thread_by p t).mode → IsSome o → IsReceiver w x side
  receiver_if None is some = absurd (cc)
  receiver_if (Some r) is some = is_receiver r is

-- what holds of what there is, and what holds since there is something
pub if_both : {A : Type 0} {P Q : A → Type 0} {X : Type 0} → (o : Option A) → ((a : A) → P a → X → Q a) → IfSome o P → (IsSome o → X) → IfSome o Q
if_both None f h x = tt
if_both (Some a) f h x = f a h (x refl)

pub if_some : {A : Type 0} {P Q : A → Type 0} → (o : Option A) → ((a : A) → P a → Q a) → IfSome o P → IfSome o Q
if_some None f h = tt
if_some (Some a) f h = f a h

pub if_also : {A : Type 0} {P Q R : A → Type 0} → (o : Option A) → ((a : A) → P a → Q a → R a) → IfSome o P → IfSome o Q → IfSome o R
if_also None f h g = tt
if_also (Some a) f h g = f a h g
