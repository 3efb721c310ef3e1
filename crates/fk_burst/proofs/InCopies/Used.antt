-- Used: what a burst has used it has, and had when it began.
use Rattle.std.proofs.Common.{◌≡◌, ℕ, zero, suc, ◌/◌, ◌%◌, ◌==◌, ◌||◌, Bool, true, false, cond, List, Option, Some, None}
use Rattle.std.proofs.Common.{is_some, slice_index, slice_set, refl, sym, ap, subst, eqb-true}
use Rattle.std.proofs.lemmas.Option.{same_Some}
use Rattle.fk_model.specs.declared.instruction.Act.{Act}
use Rattle.fk_model.specs.declared.instruction.Act.TheVariants.{Put, Jump, Load, Store, Halt, Call}
use Rattle.fk_model.specs.Instructions.{act}
use Rattle.fk_model.specs.Objects.{and_then}
use Rattle.laws_bursts.specs.Bursts.{Burst, using, write, load, store, acted, fetched, instructed, made}
use Rattle.laws_bursts.proofs.Moves.{instructed-pages}

abbrev pub HasUsed : Burst → Type 0
HasUsed b = (page : ℕ) → b.used page ≡ true → is_some (b.page page) ≡ true

-- one page more in use, which it has
using-has : (b : Burst) (page : ℕ) → HasUsed b → is_some (b.page page) ≡ true → HasUsed (using page b)
using-has b page has there p is = by (p == page) refl is
  where
    by : (same : Bool) → p == page ≡ same → (same || b.used p) ≡ true → is_some (b.page p) ≡ true
    by true e is = subst (λ (q : ℕ). is_some (b.page q) ≡ true) (sym (eqb-true p page e)) there
    by false e is = has p is

-- a page gets other words
write-has : (b : Burst) (page : ℕ) (words : List ℕ) → HasUsed b → HasUsed (write page words b)
write-has b page words has p is = by (p == page)
  where
    by : (same : Bool) → is_some (cond same (Some words) (b.page p)) ≡ true
    by true = refl
    by false = has p is

acted-has : (a : Act) (d c : Burst) → acted a d ≡ Some c → HasUsed d → HasUsed c
acted-has (Put register value) d c h has = subst HasUsed (same_Some _ _ h) has
acted-has (Jump counter) d c h has = subst HasUsed (same_Some _ _ h) has
acted-has (Halt code) d c h has = absurd (cc)
acted-has Call d c h has = absurd (cc)
acted-has (Load register address) d c h has = by (d.page (address / 64)) refl h
  where
    by : (o : Option (List ℕ)) → d.page (address / 64) ≡ o → and_then (λ words. load register address words (using (address / 64) d)) o ≡ Some c → HasUsed c
    by None there h = absurd (cc)
    by (Some words) there h = subst HasUsed (same_Some _ _ h) (using-has d (address / 64) has (ap is_some there))
acted-has (Store address value) d c h has = by (d.page (address / 64)) refl h
  where
    by : (o : Option (List ℕ)) → d.page (address / 64) ≡ o → and_then (λ words. store address value words (using (address / 64) d)) o ≡ Some c → HasUsed c
    by None there h = absurd (cc)
    by (Some words) there h = subst HasUsed (same_Some _ _ h)
        (write-has (using (address / 64) d) (address / 64) (slice_set words (address % 64) value) (using-has d (address / 64) has (ap is_some there)))

instructed-has : (b c : Burst) → instructed b ≡ Some c → HasUsed b → HasUsed c
instructed-has b c h has = by (b.page (b.counter / 64)) refl h
  where
    by : (o : Option (List ℕ)) → b.page (b.counter / 64) ≡ o → and_then (λ words. fetched b words (using (b.counter / 64) b)) o ≡ Some c → HasUsed c
    by None there h = absurd (cc)
    by (Some words) there h = acted-has (act (slice_index words (b.counter % 64)) b.registers b.counter) (using (b.counter / 64) b) c h
        (using-has b (b.counter / 64) has (ap is_some there))

pub made-has : (n : ℕ) (b c : Burst) → HasUsed b → made n b ≡ Some c → HasUsed c
unfolding made
made-has zero b c has h = subst HasUsed (same_Some _ _ h) has
made-has (suc n) b c has h = by (made n b) refl h (λ d so. made-has n b d has so)
  where
    by : (o : Option Burst) → made n b ≡ o → and_then instructed o ≡ Some c → ((d : Burst) → made n b ≡ Some d → HasUsed d) → HasUsed c
    by None so next rest = absurd (cc)
    by (Some d) so next rest = instructed-has d c next (rest d so)

pub made-pages : (n : ℕ) (b c : Burst) (page : ℕ) → made n b ≡ Some c → is_some (c.page page) ≡ true → is_some (b.page page) ≡ true
unfolding made
made-pages zero b c page h is = subst (λ (e : Burst). is_some (e.page page) ≡ true) (sym (same_Some _ _ h)) is
made-pages (suc n) b c page h is = by (made n b) refl h (λ d so there. made-pages n b d page so there)
  where
    by : (o : Option Burst) → made n b ≡ o → and_then instructed o ≡ Some c →
        ((d : Burst) → made n b ≡ Some d → is_some (d.page page) ≡ true → is_some (b.page page) ≡ true) → is_some (b.page page) ≡ true
    by None so next rest = absurd (cc)
    by (Some d) so next rest = rest d so (instructed-pages d c page next is)
