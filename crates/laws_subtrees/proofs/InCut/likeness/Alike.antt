-- Answers that are alike, and what is made of them.
use Rattle.std.proofs.Common.{◌≡◌, ℕ, zero, suc, Bool, true, false, cond, Option, Some, None, is_some, Result, Ok, Err, refl}
use Rattle.fk_model.specs.Objects.{and_then, or_else, holds}
use Rattle.fk_model.specs.Searches.{lowest}
use Rattle.fk_model.specs.Outcomes.{or_refuse}
use Rattle.fk_model.specs.Readers.{and_read}
use Rattle.laws_subtrees.specs.Cut.Likeness.{AlikeResults, AlikeOptions}

-- ---- answers, or refusals

pub alike_same : {A : Type 0} (o p : Option A) → o ≡ p → AlikeOptions ◌≡◌ o p
alike_same None None e = tt
alike_same (Some a) (Some b) e = cc
alike_same None (Some b) e = cc
alike_same (Some a) None e = cc

pub alike_or_refuse : {A B : Type 0} (R : A → B → Type 0) (status : ℕ) (a : Option A) (b : Option B) →
    AlikeOptions R a b → AlikeResults R (or_refuse status a) (or_refuse status b)
alike_or_refuse R status None None h = refl
alike_or_refuse R status (Some a) (Some b) h = h
alike_or_refuse R status None (Some b) h = absurd h
alike_or_refuse R status (Some a) None h = absurd h

pub alike_and_read : {A B C D : Type 0} (R : A → B → Type 0) (Q : C → D → Type 0) (a : Result A ℕ) (b : Result B ℕ) (f : A → Result C ℕ) (g : B → Result D ℕ) →
    AlikeResults R a b → ((x : A) (y : B) → R x y → AlikeResults Q (f x) (g y)) → AlikeResults Q (and_read a f) (and_read b g)
alike_and_read R Q (Ok x) (Ok y) f g h go = go x y h
alike_and_read R Q (Err status) (Err refusal) f g h go = h
alike_and_read R Q (Ok x) (Err refusal) f g h go = absurd h
alike_and_read R Q (Err status) (Ok y) f g h go = absurd h

-- both are refused where the test fails
pub alike_if : {A B : Type 0} (R : A → B → Type 0) (test : Bool) (status : ℕ) (a : A) (b : B) →
    (test ≡ true → R a b) → AlikeResults R (cond {A = Result A ℕ} test (Ok a) (Err status)) (cond {A = Result B ℕ} test (Ok b) (Err status))
alike_if R true status a b h = h refl
alike_if R false status a b h = refl

-- ---- answers that may be none

pub alike_and_then : {A B C D : Type 0} (R : A → B → Type 0) (Q : C → D → Type 0) (a : Option A) (b : Option B) (f : A → Option C) (g : B → Option D) →
    AlikeOptions R a b → ((x : A) (y : B) → R x y → AlikeOptions Q (f x) (g y)) → AlikeOptions Q (and_then f a) (and_then g b)
alike_and_then R Q None None f g h go = tt
alike_and_then R Q (Some x) (Some y) f g h go = go x y h
alike_and_then R Q None (Some y) f g h go = absurd h
alike_and_then R Q (Some x) None f g h go = absurd h

pub alike_or_else : {A B : Type 0} (R : A → B → Type 0) (a c : Option A) (b d : Option B) →
    AlikeOptions R a b → AlikeOptions R c d → AlikeOptions R (or_else a c) (or_else b d)
alike_or_else R None c None d h g = g
alike_or_else R (Some x) c (Some y) d h g = h
alike_or_else R None c (Some y) d h g = absurd h
alike_or_else R (Some x) c None d h g = absurd h

pub alike_cond : {A B : Type 0} (R : A → B → Type 0) (test : Bool) (a : A) (b : B) → R a b → AlikeOptions R (cond test (Some a) None) (cond test (Some b) None)
alike_cond R true a b h = h
alike_cond R false a b h = tt

pub alike_lowest : {A B : Type 0} (R : A → B → Type 0) (n : ℕ) (f : ℕ → Option A) (g : ℕ → Option B) →
    ((k : ℕ) → AlikeOptions R (f k) (g k)) → AlikeOptions R (lowest n f) (lowest n g)
unfolding lowest
alike_lowest R zero f g h = tt
alike_lowest R (suc n) f g h = alike_or_else R (lowest n f) (f n) (lowest n g) (g n) (alike_lowest R n f g h) (h n)

pub alike-is_some : {A B : Type 0} (R : A → B → Type 0) (a : Option A) (b : Option B) → AlikeOptions R a b → is_some a ≡ is_some b
alike-is_some R None None h = refl
alike-is_some R (Some a) (Some b) h = refl
alike-is_some R None (Some b) h = absurd h
alike-is_some R (Some a) None h = absurd h

pub alike-holds : {A B : Type 0} (R : A → B → Type 0) (a : Option A) (b : Option B) (f : A → Bool) (g : B → Bool) →
    AlikeOptions R a b → ((x : A) (y : B) → R x y → f x ≡ g y) → holds f a ≡ holds g b
alike-holds R None None f g h same = refl
alike-holds R (Some a) (Some b) f g h same = same a b h
alike-holds R None (Some b) f g h same = absurd h
alike-holds R (Some a) None f g h same = absurd h
