-- What entries are asked, and the first rule that one of them breaks.
use Rattle.std.specs.Prelude.{◌≡◌, ℕ, Bool, true, false, List, [], ◌∷◌, ◌++◌, length}

-- all that is asked is kept; each question stands with its rule, and with whether it is kept
abbrev pub AreKept : List (ℕ × Bool) → Type 0
AreKept [] = Unit {0}
AreKept (a ∷ asked) = (a.1 ≡ true) × AreKept asked

-- the first that isn't kept is of this rule
pub data BreaksFirst : List (ℕ × Bool) → ℕ → Type 0 where
  Here : (rule : ℕ) (more : List (ℕ × Bool)) → BreaksFirst ((rule, false) ∷ more) rule
  Later : (kept rule : ℕ) (more : List (ℕ × Bool)) → BreaksFirst more rule → BreaksFirst ((kept, true) ∷ more) rule

-- a section: what an entry is asked after what those before it say, and what it says where it keeps all of that
pub record Section (E X : Type 0) : Type 0 where
  pub asks : List X → E → List (ℕ × Bool)
  pub says : List X → E → X

-- entries after some that say this keep all that they are asked, and this is what all of them say
pub data AllKeep {E X : Type 0} (s : Section E X) : List X → List E → List X → Type 0 where
  NoEntry : (done : List X) → AllKeep s done [] done
  Entry : (done : List X) (entry : E) (more : List E) (all : List X) → AreKept (s.asks done entry) →
      AllKeep s (done ++ s.says done entry ∷ []) more all → AllKeep s done (entry ∷ more) all

-- of entries after some that say this, the one with this index breaks this rule first, and those before it keep all that they are asked
pub data BreaksAt {E X : Type 0} (s : Section E X) : List X → List E → ℕ → ℕ → Type 0 where
  This : (done : List X) (entry : E) (more : List E) (rule : ℕ) → BreaksFirst (s.asks done entry) rule →
      BreaksAt s done (entry ∷ more) (length done) rule
  After : (done : List X) (entry : E) (more : List E) (index rule : ℕ) → AreKept (s.asks done entry) →
      BreaksAt s (done ++ s.says done entry ∷ []) more index rule → BreaksAt s done (entry ∷ more) index rule
