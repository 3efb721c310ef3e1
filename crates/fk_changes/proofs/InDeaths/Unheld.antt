-- Unheld: where nothing is held, the freezing rule lets everything be swept and follow; where no pointer leads to a port, it has no clients.
use Rattle.std.proofs.Common.{◌≡◌, ℕ, ◌+◌, Bool, true, false, cond, not, ◌||◌, List, [], ◌∷◌, ◌++◌, Option, Some, None, refl, sym, ap, ◌∙◌, arith}
use Rattle.std.proofs.lemmas.List.Sums.{sum_by-cons}
use Rattle.std.specs.List.{list_any, sum_by}
use Rattle.fk_model.specs.Freezing.{is_swept, lost_with, may_be_swept, may_follow}
use Rattle.fk_model.specs.Holds.{holder_of, decider, is_frozen_for, leads_to_frozen}
use Rattle.fk_model.specs.Objects.{Talk, Thread, Body, thread_of, and_then, or_else, holds}
use Rattle.fk_model.specs.Objects.Body.{Mutex, Cond, Mapping, Region, Port, Portset, Space, Thread_of, Reference}
use Rattle.fk_model.specs.Places.{Path, Ptr, leads_to}
use Rattle.fk_model.specs.Places.Ptr.{Null, Dead, At, Out, Outside, Far}
use Rattle.fk_model.specs.Searches.{pointers_to, peer_pointer, talk_pointers, fault_pointers, option_list}
use Rattle.fk_model.specs.World.{World}

pub list_none : {A : Type 0} (p : A → Bool) → ((a : A) → p a ≡ false) → (xs : List A) → list_any p xs ≡ false
list_none p none [] = refl
list_none p none (x ∷ xs) = rw (none x) (list_none p none xs)

module _ (w : World) (none : (x : Path) → decider w x ≡ None) where
  -- nobody holds a space
  pub holder-none : (x : Path) → holder_of (w.body x) ≡ None
  unfolding decider
  holder-none [] = none []
  holder-none (k ∷ x) = sym (ap (λ o. or_else o (holder_of (w.body (k ∷ x)))) (none x)) ∙ none (k ∷ x)

  frozen-none : (me x : Path) → is_frozen_for w me x ≡ false
  frozen-none me x = rw (none x) refl

  led-none : (me : Path) (p : Ptr) → leads_to_frozen w me p ≡ false
  led-none me Null = refl
  led-none me Dead = refl
  led-none me (At x) = frozen-none me x
  led-none me (Out slot) = refl
  led-none me Outside = refl
  led-none me Far = refl

  either : (b : Bool) → (b || true) ≡ true
  either true = refl
  either false = refl

  pub unheld-swept : (me gone q : Path) → may_be_swept w me gone q ≡ true
  unheld-swept me gone q = rw (frozen-none me q, list_none (leads_to_frozen w me) (led-none me) (lost_with gone (w.body q)))
      (either (not (is_swept gone q (w.body q))))

  pub unheld-follows : (me renamed q : Path) → may_follow w me renamed q ≡ true
  unheld-follows me renamed q = rw (frozen-none me q) (either (not (is_swept renamed q (w.body q))))

-- ---- no client

abbrev has_talk : Path → Option Body → Bool
has_talk x b = holds (λ (talk : Talk). leads_to x talk.port) (and_then (λ (t : Thread). t.talk) (and_then thread_of b))

pub no_talk : (x : Path) (b : Option Body) → pointers_to x b ≡ 0 → has_talk x b ≡ false
no_talk x None h = refl
no_talk x (Some (Mutex locked)) h = refl
no_talk x (Some Cond) h = refl
no_talk x (Some (Mapping m)) h = refl
no_talk x (Some (Region r)) h = refl
no_talk x (Some (Port set served)) h = refl
no_talk x (Some Portset) h = refl
no_talk x (Some (Space birth holder)) h = refl
no_talk x (Some (Reference to)) h = refl
no_talk x (Some (Thread_of t)) h = go t.talk h
  where
    none_here : (n : ℕ) (b : Bool) → cond {A = ℕ} b 1 0 + n ≡ 0 → b ≡ false
    none_here n false e = refl
    none_here n true e = absurd (omega (arith, e))

    go : (o : Option Talk) → sum_by (λ p. cond {A = ℕ} (leads_to x p) 1 0) (option_list talk_pointers o ++ option_list fault_pointers t.fault) ≡ 0 →
        holds (λ (talk : Talk). leads_to x talk.port) o ≡ false
    go None e = refl
    go (Some talk) e = none_here _ (leads_to x talk.port)
        (sym (sum_by-cons (λ p. cond {A = ℕ} (leads_to x p) 1 0) talk.port (peer_pointer talk.peer ++ option_list fault_pointers t.fault)) ∙ e)
