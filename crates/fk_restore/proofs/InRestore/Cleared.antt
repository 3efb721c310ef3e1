-- Clearing: four scratch references, and then stage by stage the rest.
use Rattle.std.proofs.Common.{◌≡◌, ℕ, zero, suc, ◌+◌, ◌-◌, ◌<◌, ◌≤◌, List, [], ◌∷◌, drop, refl, sym, ap, subst, ◌∙◌, arith}
use Rattle.fk_model.specs.declared.limits.TheConstants.{OWN_SPACE}
use Rattle.fk_model.specs.declared.stage.Stage.TheVariants.{Destroy}
use Rattle.laws_jobs.specs.Machines.{no_words}
use Rattle.laws_jobs.specs.Machines.Head.{Asks}
use Rattle.laws_restore.specs.Sites.Orders.{Order}
use Rattle.laws_restore.specs.Sites.Orders.Order.{Drops}
use Rattle.laws_restore.specs.Restore.Rooms.{Room}
use Rattle.laws_restore.specs.Restore.Restore.{State as states, End as ends, drops, head, next}
use Rattle.fk_restore.specs.Restore.Restores.{clears}

scratch_gone : (n : ℕ) → 4 ≤ n → drop n drops ≡ []
scratch_gone zero le = absurd (omega (arith, le))
scratch_gone (suc zero) le = absurd (omega (arith, le))
scratch_gone (suc (suc zero)) le = absurd (omega (arith, le))
scratch_gone (suc (suc (suc zero))) le = absurd (omega (arith, le))
scratch_gone (suc (suc (suc (suc n)))) le = gone n
  where
    gone : (n : ℕ) → drop {A = Order} n [] ≡ []
    gone zero = refl
    gone (suc n) = refl

scratch_left : (n : ℕ) → n < 4 → drop n drops ≡ Drops (240 + n) ∷ drop (suc n) drops
scratch_left zero lt = refl
scratch_left (suc zero) lt = refl
scratch_left (suc (suc zero)) lt = refl
scratch_left (suc (suc (suc zero))) lt = refl
scratch_left (suc (suc (suc (suc n)))) lt = absurd (omega (arith, lt))

pub calls_drop : (slot n more port : ℕ) → n < 4 → head slot (clears n more port) ≡ Asks (Destroy OWN_SPACE (240 + n)) no_words
calls_drop slot n more port lt = ap (λ os. head slot (states.Clears os more port)) (scratch_left n lt)

pub calls_destroy : (slot n more port : ℕ) → 4 ≤ n → head slot (clears n more port) ≡ Asks (Destroy OWN_SPACE slot) no_words
calls_destroy slot n more port le = ap (λ os. head slot (states.Clears os more port)) (scratch_gone n le)

module _ (slot : ℕ) (bind : ℕ → ℕ) (rooms : List Room) (status : ℕ) (words : List ℕ) where
  pub dropped_next : (n more port : ℕ) → n < 4 → clears (n + 1) more port ≡ next slot bind rooms (clears n more port) status words
  dropped_next n more port lt =
      let one : n + 1 ≡ suc n = omega arith in
      ap (λ m. clears m more port) one ∙ sym (ap (λ os. next slot bind rooms (states.Clears os more port) status words) (scratch_left n lt))

  pub destroyed_next : (n more port : ℕ) → 4 ≤ n → 0 < more → clears n (more - 1) port ≡ next slot bind rooms (clears n more port) status words
  destroyed_next n zero port le lt = absurd (omega (arith, lt))
  destroyed_next n (suc more) port le lt =
      let one : suc more - 1 ≡ more = omega arith in
      let gone = scratch_gone n le in
      (λ j. states.Clears (gone j) (one j) port) ∙ sym (ap (λ os. next slot bind rooms (states.Clears os (suc more) port) status words) gone)

  pub over_next : (n more port : ℕ) → 4 ≤ n → more ≤ 0 → states.Over (ends.NoPort port) ≡ next slot bind rooms (clears n more port) status words
  over_next n zero port le none = sym (ap (λ os. next slot bind rooms (states.Clears os 0 port) status words) (scratch_gone n le))
  over_next n (suc more) port le none = absurd (omega (arith, none))
