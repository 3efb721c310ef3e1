-- What is known of a reading that wasn't refused: each of its steps wasn't.
use Rattle.std.proofs.Common.{◌≡◌, ℕ, Bool, true, false, Option, Some, None, Result, Ok, Err, refl}
use Rattle.fk_scenario.specs.Fields.Gives.{◌>>=◌, or_rule, unless, placed}

-- what follows from the first step and from the rest after it
pub after : {A B E C : Type 0} (r : Result A E) (rest : A → Result B E) (y : B) → (r >>= rest) ≡ Ok y → ((x : A) → r ≡ Ok x → rest x ≡ Ok y → C) → C
after (Ok x) rest y h follows = follows x refl h
after (Err e) rest y h follows = absurd (cc)

pub unless-Ok : (rule : ℕ) (holds : Bool) (x : Unit {0}) → unless rule holds ≡ Ok x → holds ≡ true
unless-Ok rule true x h = refl
unless-Ok rule false x h = absurd (cc)

pub or_rule-Ok : {A : Type 0} (rule : ℕ) (o : Option A) (x : A) → or_rule rule o ≡ Ok x → o ≡ Some x
or_rule-Ok rule None x h = absurd (cc)
or_rule-Ok rule (Some y) x h = cc

pub placed-Ok : {A : Type 0} (section index : ℕ) (r : Result A ℕ) (x : A) → placed section index r ≡ Ok x → r ≡ Ok x
placed-Ok section index (Ok y) x h = cc
placed-Ok section index (Err e) x h = absurd (cc)
