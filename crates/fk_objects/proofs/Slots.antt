-- Slots: the first that answers.
use Rattle.std.proofs.Common.{◌≡◌, ℕ, zero, suc, ◌+◌, ◌<◌, ◌≤◌, false, ◌&&◌, cond, nat_le, ◌∷◌, Option, Some, None, option_map, is_some, IsSome}
use Rattle.std.proofs.Common.{refl, sym, ap, subst, arith}
use Rattle.std.proofs.lemmas.Bool.{lt-leb}
use Rattle.fk_model.specs.ObjectRows.{taken_from}
use Rattle.fk_model.specs.Objects.{kind_of, number_of_kind}
use Rattle.fk_model.specs.Places.{Path}
use Rattle.fk_model.specs.World.{World}
use Rattle.fk_model.specs.Searches.{lowest}
use Rattle.fk_store.proofs.InStore.finding.ReachLaws.{lowest-first, lowest-none, lowest-zero}

pub none_there : {A : Type 0} (o : Option A) → is_some o ≡ false → o ≡ None
none_there None h = refl
none_there (Some a) h = absurd (cc)

-- none of the slots below the first that is sought
pub none_below : (w : World) (s : Path) (last from n : ℕ) → n ≤ from → lowest n (taken_from w s last from) ≡ None
none_below w s last from zero le = lowest-zero (taken_from w s last from)
none_below w s last from (suc n) le =
    let next : n + 1 ≡ suc n = omega arith in
    subst (λ k. lowest k (taken_from w s last from) ≡ None) next
    (lowest-none n (taken_from w s last from) (none_below w s last from n (omega (arith, le)))
    (ap (λ t. cond (t && nat_le n last) (option_map (λ b. (n, number_of_kind (kind_of b))) (w.body (n ∷ s))) None) (lt-leb from n (omega (arith, le)))))

module _ {A : Type 0} (f : ℕ → Option A) (i : ℕ) (before : lowest i f ≡ None) where
  pub first_there : (o : Option A) → o ≡ f i → IsSome o → i < 256 → o ≡ lowest 256 f
  first_there o here some low = sym (lowest-first 256 i f o before (sym here) some low)

  pub none_first : 256 ≤ i → i ≤ 256 → None ≡ lowest 256 f
  none_first past low = let end : i ≡ 256 = omega arith in sym (subst (λ n. lowest n f ≡ None) end before)
