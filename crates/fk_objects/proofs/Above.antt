-- Above: a walk up from a space to an object above it.
use Rattle.std.proofs.Common.{◌≡◌, ◌<◌, ℕ, zero, suc, if◌then◌else◌, Bool, true, false, ◌||◌, [], ◌∷◌, Option, Some, None, IsSome, is_some, option_map, refl, sym, ap, ◌∙◌, arith}
use Rattle.fk_model.specs.Objects.{Body, and_then}
use Rattle.fk_model.specs.Places.{Path, is_within, same_path, strip}
use Rattle.fk_model.specs.Valid.{birth_at, birth_of}
use Rattle.fk_model.specs.World.{World}
use Rattle.fk_store.specs.Store.Contents.{Contents}
use Rattle.fk_store.specs.Store.Paths.{path}
use Rattle.fk_store.proofs.InStore.finding.Walks.{path-root}

pub within_root : (k : ℕ) (s : Path) → is_within (k ∷ s) [] ≡ false
unfolding strip same_path
within_root k s = refl

pub within_step : (root : Path) (k : ℕ) (s : Path) → is_within root (k ∷ s) ≡ (same_path (k ∷ s) root || is_within root s)
unfolding strip
within_step root k s = by (same_path (k ∷ s) root)
  where
    deeper : (o : Option Path) → is_some (option_map (λ q. k ∷ q) o) ≡ is_some o
    deeper None = refl
    deeper (Some q) = refl

    by : (b : Bool) → is_some (if b then Some [] else option_map (λ q. k ∷ q) (strip root s)) ≡ (b || is_some (strip root s))
    by true = refl
    by false = deeper (strip root s)

-- what has a birth number is there
pub born_there : (w : World) (x : Path) (n : ℕ) → birth_at w x ≡ Some n → w.body x ≡ None → ⊥
born_there w x n born none = let no : birth_at w x ≡ None = ap (and_then birth_of) none in absurd (cc)

-- the space without a home is the root
pub root_there : (m : Contents) (n : ℕ) → (0 < n → ⊥) → path m n ≡ []
root_there m zero h = path-root m
root_there m (suc n) h = absurd (h (omega arith))

-- a walk up: at the root, at the object, and beneath it
pub above_none : (k : ℕ) (s at all : Path) → at ≡ [] → is_within (k ∷ s) at ≡ is_within (k ∷ s) all → false ≡ is_within (k ∷ s) all
above_none k s at all e same = sym (ap (is_within (k ∷ s)) e ∙ within_root k s) ∙ same

pub above_some : (root at all : Path) (j : ℕ) (s : Path) →
    at ≡ j ∷ s → same_path (j ∷ s) root ≡ true → is_within root at ≡ is_within root all → true ≡ is_within root all
above_some root at all j s e here same = sym (ap (is_within root) e ∙ within_step root j s ∙ ap (λ b. b || is_within root s) here) ∙ same

pub above_on : (root at all : Path) (j : ℕ) (s : Path) →
    at ≡ j ∷ s → same_path (j ∷ s) root ≡ false → is_within root at ≡ is_within root all → is_within root s ≡ is_within root all
above_on root at all j s e here same = sym (ap (is_within root) e ∙ within_step root j s ∙ ap (λ b. b || is_within root s) here) ∙ same
