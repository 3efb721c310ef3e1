-- Scans: what holds of the objects that a loop over all of them has passed.
use Rattle.std.proofs.Common.{◌≡◌, ◌⊎◌, ℕ, ◌+◌, ◌-◌, ◌*◌, ◌^◌, IsTrue, Option, Some, None, refl, subst, inl, inr}
use Rattle.std.proofs.lemmas.Map.Lookups.{exact_unsigned}
use Rattle.std.specs.declared.cmp.Ordering.{Ordering}
use Rattle.std.specs.declared.cmp.Ordering.TheVariants.{Less, Equal, Greater}
use Rattle.std.specs.Ordering.{is_le, nat_cmp, ordering_then}
use Rattle.fk_model.specs.declared.names.Who.{Who}
use Rattle.fk_store.specs.Store.Names.{who_cmp}
use Rattle.fk_store.specs.Store.Orders.{IsFirstAfter}

-- one comes at this object or after it
abbrev pub IsFrom : Option Who → Who → Type 0
IsFrom None other = ⊥
IsFrom (Some who) other = IsTrue (is_le (who_cmp who other))

-- of each object that is live the fact holds, or it is yet to come
abbrev pub ArePassed : (Who → Type 0) → (Who → Type 0) → Option Who → Type 0
ArePassed Lives Fact at = (other : Who) → Lives other → Fact other ⊎ IsFrom at other

-- how many names are left to look at
abbrev pub left_from : Option Who → ℕ
left_from None = 0
left_from (Some who) = 2 ^ 40 - (who.space * 256 + who.slot)

who_same : (a b : Who) → who_cmp a b ≡ Equal → a ≡ b
who_same a b = by (nat_cmp a.space b.space) refl
  where
    by : (r : Ordering) → nat_cmp a.space b.space ≡ r → ordering_then r (nat_cmp a.slot b.slot) ≡ Equal → a ≡ b
    by Less e is = absurd (cc)
    by Greater e is = absurd (cc)
    by Equal e is = let spaces = exact_unsigned a.space b.space e in
        let slots = exact_unsigned a.slot b.slot is in λ i. record { space = spaces i; slot = slots i }

pub passed_first : (Lives Fact : Who → Type 0) (at : Option Who) → IsFirstAfter who_cmp Lives None at → ArePassed Lives Fact at
passed_first Lives Fact None first other live = absurd (first other live refl)
passed_first Lives Fact (Some next) first other live = inr (first.2 other live refl)

module _ (Lives Still Fact Other : Who → Type 0) (who : Who) (next : Option Who) where
  pub passed_more : ArePassed Lives Fact (Some who) → ((other : Who) → Still other → Lives other) → ((other : Who) → Fact other → Other other) →
      Other who → IsFirstAfter who_cmp Still (Some who) next → ArePassed Still Other next
  passed_more passed lives keeps here first other still = by (passed other (lives other still))
    where
      later : (at : Option Who) → IsFirstAfter who_cmp Still (Some who) at → who_cmp who other ≡ Less → IsFrom at other
      later None first less = first other still (rw less refl)
      later (Some at) first less = first.2 other still (rw less refl)

      after : (r : Ordering) → who_cmp who other ≡ r → IsTrue (is_le r) → Other other ⊎ IsFrom next other
      after Less e le = inr (later next first e)
      after Equal e le = inl (subst Other (who_same who other e) here)
      after Greater e le = absurd (cc)

      by : Fact other ⊎ IsTrue (is_le (who_cmp who other)) → Other other ⊎ IsFrom next other
      by (inl fact) = inl (keeps other fact)
      by (inr from) = after (who_cmp who other) refl from

pub passed_all : (Lives Fact : Who → Type 0) → ArePassed Lives Fact None → (other : Who) → Lives other → Fact other
passed_all Lives Fact passed other live = by (passed other live)
  where
    by : Fact other ⊎ ⊥ → Fact other
    by (inl fact) = fact
    by (inr never) = absurd never
