-- Sweeps: whether a death may change all others, by those that have names.
use Rattle.std.proofs.Common.{◌≡◌, ◌≢◌, ◌<◌, ◌+◌, ◌↔◌, ◌⊎◌, inl, inr, IsTrue, ltb, ℕ, Bool, true, false, cond, not, ◌||◌, List, [], ◌∷◌, count_by}
use Rattle.std.proofs.Common.{Option, Some, None, IsSome, refl, sym, ap, subst, ◌∙◌, arith}
use Rattle.std.specs.List.{list_any}
use Rattle.std.proofs.lemmas.Bool.Decides.{nat_tests}
use Rattle.std.proofs.lemmas.List.Sums.{sum_by-cons}
use Rattle.fk_model.specs.declared.names.Who.{Who}
use Rattle.fk_model.specs.Freezing.{is_in_set, is_swept, may_be_swept}
use Rattle.fk_model.specs.Objects.{Body}
use Rattle.fk_model.specs.Objects.Body.{Mutex, Cond, Mapping, Region, Port, Portset, Space, Thread_of, Reference}
use Rattle.fk_model.specs.Places.{Path, Ptr, leads_to, parent}
use Rattle.fk_model.specs.Searches.{pointers, pointers_to}
use Rattle.fk_model.proofs.walks.PlaceLaws.{same_path_eq}
use Rattle.fk_model.specs.Valid.{kind_there}
use Rattle.fk_model.specs.World.{World}
use Rattle.fk_store.specs.Store.Contents.{Contents}
use Rattle.fk_store.specs.Store.Paths.{path, place}
use Rattle.fk_store.specs.Store.World.{world, IsLive}
use Rattle.fk_changes.proofs.InDeaths.Scans.{ArePassed, passed_all}

-- an object may be swept
abbrev pub IsSweepable : Contents → Path → Path → Who → Type 0
IsSweepable m me gone other = may_be_swept (world m) me gone (place (path m) other) ≡ true

root_swept : (m : Contents) (me gone : Path) → may_be_swept (world m) me gone [] ≡ true
unfolding world
root_swept m me gone = refl

pub all_swept : (m : Contents) (me gone : Path) →
    ((k : ℕ) (s : Path) → IsSome (kind_there (world m) (k ∷ s)) → (other : Who) × (place (path m) other ≡ k ∷ s)) →
    ArePassed (IsLive m) (IsSweepable m me gone) None → (q : Path) → may_be_swept (world m) me gone q ≡ true
unfolding kind_there
all_swept m me gone named all [] = root_swept m me gone
all_swept m me gone named all (k ∷ s) = by ((world m).body (k ∷ s)) refl
  where
    by : (b : Option Body) → (world m).body (k ∷ s) ≡ b → may_be_swept (world m) me gone (k ∷ s) ≡ true
    by None e = rw e refl
    by (Some b) e =
        let live : IsSome (kind_there (world m) (k ∷ s)) = rw e refl in
        let other = named k s live in
        subst (λ x. may_be_swept (world m) me gone x ≡ true) other.1
        (passed_all (IsLive m) (IsSweepable m me gone) all other.0 (subst (λ x. IsSome (kind_there (world m) x)) (sym other.1) live))

-- ---- what follows an object, or ends with it, leads there or stands beside it

-- it leads there, and what happens to it isn't allowed
abbrev pub IsBarred : Contents → Path → (Path → Bool) → Path → Type 0
IsBarred m gone may q = (pointers_to gone ((world m).body q) ≢ 0) × (may q ≡ false)

pub not_barred : (m : Contents) (gone : Path) (may : Path → Bool) (q : Path) → may q ≡ true → IsBarred m gone may q → ⊥
not_barred m gone may q on barred = let off = barred.1 in absurd (cc)

-- only what is swept may be barred from it
pub barred_swept : (w : World) (me gone q : Path) → may_be_swept w me gone q ≡ false → is_swept gone q (w.body q) ≡ true
barred_swept w me gone q off = by (is_swept gone q (w.body q)) _ off
  where
    by : (a b : Bool) → (not a || b) ≡ false → a ≡ true
    by true b off = refl
    by false b off = absurd (cc)

root_still : (m : Contents) (gone : Path) → is_swept gone [] ((world m).body []) ≡ false
unfolding world
root_still m gone = refl

some_lead : (x : Path) (ps : List Ptr) → list_any (leads_to x) ps ≡ true → count_by (leads_to x) ps ≢ 0
some_lead x [] any none = absurd (cc)
some_lead x (p ∷ ps) any none =
    by (leads_to x p) any (sym (sum_by-cons (λ p. cond {A = ℕ} (leads_to x p) 1 0) p ps) ∙ none) (some_lead x ps)
  where
    by : (b : Bool) → (b || list_any (leads_to x) ps) ≡ true → cond {A = ℕ} b 1 0 + count_by (leads_to x) ps ≡ 0 →
        (list_any (leads_to x) ps ≡ true → count_by (leads_to x) ps ≢ 0) → ⊥
    by true any none rest = absurd (omega (arith, none))
    by false any none rest = rest any (omega (arith, none))

-- a port in a set stands beside it
beside : (x : Path) (k j : ℕ) (s t : Path) (b : Body) → x ≡ k ∷ t → is_in_set x (j ∷ s) b ≡ true → s ≡ t
beside x k j s t (Port None served) is h = absurd (cc)
beside x k j s t (Port (Some set) served) is h =
    let same : set ∷ s ≡ k ∷ t = same_path_eq (set ∷ s) x h ∙ is in ap parent same
beside x k j s t (Mutex locked) is h = absurd (cc)
beside x k j s t Cond is h = absurd (cc)
beside x k j s t (Mapping window) is h = absurd (cc)
beside x k j s t (Region extent) is h = absurd (cc)
beside x k j s t Portset is h = absurd (cc)
beside x k j s t (Space birth holder) is h = absurd (cc)
beside x k j s t (Thread_of thread) is h = absurd (cc)
beside x k j s t (Reference to) is h = absurd (cc)

module _ (m : Contents) (gone : Who) (may : Path → Bool)
    (bars : (q : Path) → may q ≡ false → is_swept (place (path m) gone) q ((world m).body q) ≡ true)
    (low : (k : ℕ) (s : Path) → IsSome (kind_there (world m) (k ∷ s)) → k < 256)
    (space : (k : ℕ) → k < 256 → may (k ∷ path m gone.space) ≡ true)
    (none : (q : Path) → IsBarred m (place (path m) gone) may q → ⊥) where
  abbrev x : Path
  x = place (path m) gone

  in_space : (j : ℕ) (s : Path) → IsSome (kind_there (world m) (j ∷ s)) → s ≡ path m gone.space → may (j ∷ s) ≡ true
  in_space j s live same = subst (λ t. may (j ∷ t) ≡ true) (sym same) (space j (low j s live))

  still_root : (t : Bool) → may [] ≡ t → t ≡ true
  still_root true f = refl
  still_root false f = let on = bars [] f in let off = root_still m x in absurd (cc)

  pub none_barred : (q : Path) → may q ≡ true
  unfolding kind_there
  none_barred [] = still_root (may []) refl
  none_barred (j ∷ s) = by (may (j ∷ s)) refl ((world m).body (j ∷ s)) refl
    where
      either : (a b : Bool) → (a || b) ≡ true → (a ≡ true) ⊎ (b ≡ true)
      either true b h = inl refl
      either false b h = inr h

      some : (o : Option Body) → (world m).body (j ∷ s) ≡ o → is_swept x (j ∷ s) o ≡ true → may (j ∷ s) ≡ false → ⊥
      some None e swept off = absurd (cc)
      some (Some b) e swept off = elim (either (list_any (leads_to x) (pointers b)) (is_in_set x (j ∷ s) b) swept) [
        | inl leads ↦ none (j ∷ s) ((λ zero. some_lead x (pointers b) leads (sym (ap (pointers_to x) e) ∙ zero)), off)
        | inr member ↦ let on = in_space j s (rw e refl) (beside x gone.slot j s (path m gone.space) b refl member) in absurd (cc)
      ]

      by : (t : Bool) → may (j ∷ s) ≡ t → (o : Option Body) → (world m).body (j ∷ s) ≡ o → t ≡ true
      by true f o e = refl
      by false f o e = absurd (some o e (subst (λ o. is_swept x (j ∷ s) o ≡ true) e (bars (j ∷ s) f)) f)

-- ---- one after another

pub one_more : {P : ℕ → Type 0} (n : ℕ) → ((k : ℕ) → k < n → P k) → P n → (k : ℕ) → k < n + 1 → P k
one_more {P} n below here k low = by (ltb k n) refl
  where
    by : (b : Bool) → ltb k n ≡ b → P k
    by true e = below k (grind (arith, nat_tests))
    by false e = let same : n ≡ k = grind (arith, nat_tests) in subst P same here

-- one of them is forbidden
pub not_all : (f : Path → Bool) (q : Path) → f q ≡ false → IsTrue false ↔ ((q : Path) → f q ≡ true)
not_all f q off = ((λ yes. absurd (cc)), (λ all. let on = all q in absurd (cc)))
