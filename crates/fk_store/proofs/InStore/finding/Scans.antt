-- Scans: a loop over all objects, from each to the next.
use Rattle.std.proofs.Common.{◌≡◌, ◌*◌, ◌<◌, ◌≤◌, IfSome, Bool, true, false, Option, Some, None, refl, subst, arith}
use Rattle.std.proofs.lemmas.Bool.Decides.{nat_tests}
use Rattle.std.specs.declared.cmp.Ordering.{Ordering}
use Rattle.std.specs.declared.cmp.Ordering.TheVariants.{Less, Equal, Greater}
use Rattle.std.specs.Ordering.{is_lt, is_le}
use Rattle.fk_model.specs.declared.names.Who.{Who}
use Rattle.fk_store.specs.Store.Names.{who_cmp, rank}
use Rattle.fk_store.specs.Store.Orders.{comes_after, IsFirstAfter}
use Rattle.fk_store.specs.Store.Contents.{Contents}
use Rattle.fk_store.specs.Store.World.{world}
use Rattle.fk_store.specs.Store.WellFormed.{is_there, IsWellFormed}
use Rattle.fk_store.proofs.InStore.changing.Makes.{live-born}
use Rattle.fk_store.proofs.InFreezing.NameLaws.{who_exact}

module _ (P : Who → Type 0) (k : Option Who) (who : Who) (first : IsFirstAfter who_cmp P k (Some who)) where
  -- those that don't come after the next one are those that were passed, and the next one
  pub passed-more : (Q : Who → Type 0) → ((other : Who) → P other → comes_after who_cmp k other ≡ false → Q other) →
      Q who → (other : Who) → P other → comes_after who_cmp (Some who) other ≡ false → Q other
  passed-more Q before here other there past = by (comes_after who_cmp k other) refl
    where
      same : (o : Ordering) → who_cmp who other ≡ o → is_le o ≡ true → is_lt o ≡ false → who ≡ other
      same Less e low high = absurd (cc)
      same Equal e low high = who_exact who other e
      same Greater e low high = absurd (cc)

      by : (b : Bool) → comes_after who_cmp k other ≡ b → Q other
      by false e = before other there e
      by true e = subst Q (same (who_cmp who other) refl (first.2 other there e) past) here

-- a scan goes on, and comes to its end
module _ (m : Contents) (kept : IsWellFormed m) (k next : Option Who) (first : IsFirstAfter who_cmp (λ q. is_there m q ≡ true) k next) where
  pub rank-rises : IfSome next (λ q. rank k < rank (Some q))
  rank-rises = by next first
    where
      rises : (q : Who) → q.slot < 256 → (o : Option Who) → comes_after who_cmp o q ≡ true → rank o < rank (Some q)
      rises q small None later = omega arith
      rises q small (Some p) later = grind (arith, nat_tests)

      by : (o : Option Who) → IsFirstAfter who_cmp (λ q. is_there m q ≡ true) k o → IfSome o (λ q. rank k < rank (Some q))
      by None h = tt
      by (Some q) h = rises q (kept.slots q h.0) k h.1

  pub rank-ends : IfSome next (λ q. rank (Some q) ≤ (world m).next * 256)
  unfolding world
  rank-ends = by next first
    where
      by : (o : Option Who) → IsFirstAfter who_cmp (λ q. is_there m q ≡ true) k o → IfSome o (λ q. rank (Some q) ≤ m.next * 256)
      by None h = tt
      by (Some q) h = let low = live-born m kept q.space (kept.housed q h.0) in omega arith
