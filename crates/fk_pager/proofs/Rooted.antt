-- Objects of the root by their names, and a scan that finds nobody who bars a pager.
use Rattle.std.proofs.Common.{◌≡◌, ℕ, Bool, true, false, is_some, IsSome, ◌∷◌, Option, Some, None, option_map, refl, sym, ap, subst, ◌∙◌}
use Rattle.fk_model.specs.declared.names.Who.{Who}
use Rattle.fk_model.specs.Places.{Path, slot_of, parent}
use Rattle.fk_model.specs.Objects.{Body, kind_of}
use Rattle.fk_model.specs.Valid.{kind_there}
use Rattle.fk_store.specs.Store.Contents.{Contents}
use Rattle.fk_store.specs.Store.Paths.{path}
use Rattle.fk_store.specs.Store.World.{world, place_of}
use Rattle.fk_pager.specs.Desks.{root}
use Rattle.fk_pager.specs.Seen.{is_hindrance}
use Rattle.fk_pager.proofs.Searching.{IsAhead, root-place}

-- what stands in a slot of the root
pub at-root : (m : Contents) (slot : ℕ) (who : Who) → who ≡ record { space = 0; slot = slot } → (world m).body (place_of m who) ≡ (world m).body (slot ∷ root)
at-root m slot who is = ap (world m).body (ap (place_of m) is ∙ root-place m slot)

module _ (m : Contents) (space : Path) (port set : ℕ) where
  -- who bars a pager is there
  bars-there : (k : ℕ) (s : Path) → is_hindrance space port set s k ((world m).body (k ∷ s)) ≡ true → IsSome (kind_there (world m) (k ∷ s))
  unfolding kind_there
  bars-there k s = by ((world m).body (k ∷ s))
    where
      by : (o : Option Body) → is_hindrance space port set s k o ≡ true → is_some (option_map kind_of o) ≡ true
      by None bars = cc
      by (Some b) bars = refl

  pub none-bars : ((k : ℕ) (s : Path) → IsSome (kind_there (world m) (k ∷ s)) → (other : Who) × (place_of m other ≡ k ∷ s)) →
      IsAhead m (λ other. is_hindrance space port set (path m other.space) other.slot ((world m).body (place_of m other)) ≡ true) None →
      (k : ℕ) (s : Path) → is_hindrance space port set s k ((world m).body (k ∷ s)) ≡ false
  none-bars named none k s = by (is_hindrance space port set s k ((world m).body (k ∷ s))) refl
    where
      by : (b : Bool) → is_hindrance space port set s k ((world m).body (k ∷ s)) ≡ b → b ≡ false
      by false e = refl
      by true e =
          let there = bars-there k s e in
          let other = named k s there in
          let bars : is_hindrance space port set (parent (place_of m other.0)) (slot_of (place_of m other.0)) ((world m).body (place_of m other.0)) ≡ true =
          subst (λ x. is_hindrance space port set (parent x) (slot_of x) ((world m).body x) ≡ true) (sym other.1) e in
          absurd (none other.0 (rw other.1 there) bars)
