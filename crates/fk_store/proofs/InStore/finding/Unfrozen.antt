-- Unfrozen: where no space above is held, nobody decides above.
use Rattle.std.proofs.Common.{◌≡◌, ℕ, zero, suc, ◌<◌, false, Option, Some, None, is_some, option_map, refl, sym, ap, ◌∙◌, arith}
use Rattle.std.specs.FinMap.{get}
use Rattle.fk_model.specs.declared.names.Who.{Who}
use Rattle.fk_model.specs.declared.body.Body as bodies_of
use Rattle.fk_model.specs.declared.body.Body.TheVariants as bodies
use Rattle.fk_model.specs.Objects.{or_else, holds}
use Rattle.fk_model.specs.Places.Ptr.{At}
use Rattle.fk_model.specs.Holds.{holder_of, decider, is_frozen}
use Rattle.fk_store.specs.Freezing.Freezing.{AreKnown, IsAbove, is_held_at}
use Rattle.fk_store.specs.Freezing.Freezing.IsAbove.{Home, Further}
use Rattle.fk_store.specs.Freezing.Held.{is_held}
use Rattle.fk_store.specs.Store.Bodies.{body_by}
use Rattle.fk_store.specs.Store.Contents.{Contents, stored_birth, home}
use Rattle.fk_store.specs.Store.Makes.{IsNext}
use Rattle.fk_store.specs.Store.Paths.{place, path}
use Rattle.fk_store.specs.Store.WellFormed.{IsWellFormed}
use Rattle.fk_store.specs.Store.World.{world, IsSpace}
use Rattle.fk_store.proofs.InStore.finding.Homes.{home-found}
use Rattle.fk_store.proofs.InStore.finding.HoldLaws.{decider-none, decider-home, decider-object, holder_by}
use Rattle.fk_store.proofs.InStore.finding.LookUps.{body-place, IsSpace-live}
use Rattle.fk_store.proofs.InStore.changing.Makes.{live-born}

-- what a store keeps is what marks want
pub known_well : (m : Contents) → IsWellFormed m → AreKnown m.bodies
known_well m kept = record { known = kept.alone; younger = kept.younger }

-- the next space is younger than the one in which it lies
pub younger_next : (m : Contents) → IsWellFormed m → (who : Who) (b : bodies_of.Body) → IsSpace m who.space → IsNext (world m).next b →
    (n : ℕ) → stored_birth b ≡ Some n → who.space < n
unfolding world
younger_next m kept who (bodies.Mutex locked) space next n is = absurd (cc)
younger_next m kept who bodies.Cond space next n is = absurd (cc)
younger_next m kept who (bodies.Mapping first count offset write region) space next n is = absurd (cc)
younger_next m kept who (bodies.Region first count write keeper) space next n is = absurd (cc)
younger_next m kept who (bodies.Port set served) space next n is = absurd (cc)
younger_next m kept who bodies.Portset space next n is = absurd (cc)
younger_next m kept who (bodies.Space birth holder) space next n is =
    let low = live-born m kept who.space (IsSpace-live m kept who.space space) in
    let same : birth ≡ n = cc in
    let born = next.0 in
    omega (arith, low, same, born)
younger_next m kept who (bodies.Thread thread) space next n is = absurd (cc)
younger_next m kept who (bodies.Reference to) space next n is = absurd (cc)

-- what isn't held has no holder
unheld-place : (m : Contents) → IsWellFormed m → (who : Who) → is_held_at m.bodies who ≡ false → holder_of ((world m).body (place (path m) who)) ≡ None
unheld-place m kept who off = ap holder_of (body-place m kept who) ∙ by (get m.bodies who) refl
  where
    by : (o : Option bodies_of.Body) → get m.bodies who ≡ o → holder_of (option_map (body_by (path m)) o) ≡ None
    by None e = refl
    by (Some b) e = holder_by (path m) b (sym (ap (holds is_held) e) ∙ off)

module _ (m : Contents) (kept : IsWellFormed m) where
  -- by birth numbers, from a space to the older one in which it lies
  none-from : (fuel n : ℕ) → n < fuel → ((q : Who) → IsAbove m.bodies n q → is_held_at m.bodies q ≡ false) → decider (world m) (path m n) ≡ None
  none-from zero n low off = absurd (omega (arith, low))
  none-from (suc fuel) n low off = by (home m n) refl (λ who older more. none-from fuel who.space (omega (arith, older, low)) more)
    where
      by : (o : Option Who) → home m n ≡ o →
          ((who : Who) → who.space < n → ((q : Who) → IsAbove m.bodies who.space q → is_held_at m.bodies q ≡ false) →
          decider (world m) (path m who.space) ≡ None) →
          decider (world m) (path m n) ≡ None
      by None up above = decider-none m kept n up
      by (Some who) up above =
          decider-home m kept n who up
          ∙ ap (λ o. or_else o (holder_of ((world m).body (place (path m) who))))
          (above who (kept.younger who n (home-found m n who up)) (λ q more. off q (Further n who q up more)))
          ∙ unheld-place m kept who (off who (Home n who up))

  -- who decides over an object in such a space is its own holder
  decider-own : (who : Who) → ((q : Who) → IsAbove m.bodies who.space q → is_held_at m.bodies q ≡ false) →
      decider (world m) (place (path m) who) ≡ holder_of ((world m).body (place (path m) who))
  decider-own who off =
      decider-object m who ∙ ap (λ o. or_else o (holder_of ((world m).body (place (path m) who)))) (none-from (suc who.space) who.space (omega arith) off)

  pub decided_own : (who : Who) → ((q : Who) → IsAbove m.bodies who.space q → is_held_at m.bodies q ≡ false) → (found : Option Who) →
      option_map (λ q. At (place (path m) q)) found ≡ holder_of ((world m).body (place (path m) who)) →
      option_map (λ q. At (place (path m) q)) found ≡ decider (world m) (place (path m) who)
  decided_own who off found is = is ∙ sym (decider-own who off)

  -- a space in which nothing above is held isn't frozen
  pub unfrozen : (n : ℕ) → ((q : Who) → IsAbove m.bodies n q → is_held_at m.bodies q ≡ false) → false ≡ is_frozen (world m) (path m n)
  unfrozen n off = ap is_some (sym (none-from (suc n) n (omega arith) off))
