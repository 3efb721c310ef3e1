-- Walks inside go alike in a likeness: what lies in a space, beneath it, and first.
use Rattle.std.proofs.Common.{◌≡◌, ℕ, zero, suc, ◌<◌, Bool, true, false, cond, ◌||◌, List, [], ◌∷◌, ◌++◌, length, map, filter, flat_map, Option, Some, None}
use Rattle.std.proofs.Common.{is_some, option_map, refl, sym, ap, ◌∙◌, arith, append_assoc, length-append}
use Rattle.std.specs.List.{list_any}
use Rattle.std.proofs.lemmas.List.Folds.{list_any-append}
use Rattle.std.proofs.lemmas.List.{map-append}
use Rattle.fk_model.specs.declared.limits.TheConstants.{SLOTS}
use Rattle.fk_model.specs.Places.{Path, same_path, strip, is_within, Ptr}
use Rattle.fk_model.specs.Objects.{Body}
use Rattle.fk_model.specs.Objects.Body.{Thread_of}
use Rattle.fk_model.specs.World.{World}
use Rattle.fk_model.specs.Searches.{lowest, slots, residents, has_residents, depth, beneath_by, beneath, first_resident, leaf_from, leaf_by, leaf}
use Rattle.fk_model.specs.SyncRows.{asleep_on}
use Rattle.fk_model.specs.ObjectRows.{way_down, way_to}
use Rattle.fk_model.specs.Cut.{seen_by, unheld}
use Rattle.laws_subtrees.specs.Cut.Likeness.{seeing, PtrLikeness, IsLikeness, AlikeOptions}
use Rattle.laws_subtrees.specs.Cut.Likeness.PtrLikeness.{Nulls, Deads, Inside, PortAt, PortOut}
use Rattle.laws_subtrees.proofs.InCut.likeness.Alike.{alike_lowest, alike-is_some}
use Rattle.fk_model.proofs.walks.PlaceLaws.{same_path_long, same_path_cancel, strip-append, strip_some}

-- ---- paths

strip_short : (root x : Path) → length x < length root → strip root x ≡ None
unfolding strip
strip_short root [] h = by (same_path [] root) refl
  where
    by : (b : Bool) → same_path [] root ≡ b → cond {A = Option Path} b (Some []) None ≡ None
    by true e = absurd (omega (arith, same_path_long [] root e))
    by false e = refl
strip_short root (k ∷ x) h = by (strip_short root x (omega arith)) (same_path (k ∷ x) root) refl
  where
    by : strip root x ≡ None → (b : Bool) → same_path (k ∷ x) root ≡ b → cond {A = Option Path} b (Some []) (option_map (λ q. k ∷ q) (strip root x)) ≡ None
    by below true e = absurd (omega (arith, same_path_long (k ∷ x) root e))
    by below false e = rw below refl

pub strip_inside : (root x y : Path) → strip (x ++ root) (y ++ root) ≡ strip x y
unfolding strip same_path
strip_inside root [] [] = strip-append root []
strip_inside root (k ∷ x) [] = strip_short (k ∷ (x ++ root)) root (omega (arith, length-append x root))
strip_inside root x (j ∷ y) = rw (same_path_cancel (j ∷ y) x root, strip_inside root x y) refl

pub is_within_inside : (root x y : Path) → is_within (x ++ root) (y ++ root) ≡ is_within x y
is_within_inside root x y = ap is_some (strip_inside root x y)

-- what lies outside lies beneath nothing inside
pub strip_outside : (root x y : Path) → is_within root y ≡ false → strip (x ++ root) y ≡ None
strip_outside root x y apart = by (strip (x ++ root) y) refl
  where
    by : (o : Option Path) → strip (x ++ root) y ≡ o → o ≡ None
    by None e = refl
    by (Some q) e =
        let here = strip_some (x ++ root) y q e in
        let there = strip-append root (q ++ x) in
        let same = append_assoc q x root in
        let none : is_some (strip root ((q ++ x) ++ root)) ≡ false = ap (λ (z : Path). is_some (strip root z)) (same ∙ sym here) ∙ apart in
        let some = ap is_some there in
        cc

-- the way down from a space inside to where a pointer leads
pub way_to-like : (root : Path) (big : World) (space : Path) (p seen : Ptr) → PtrLikeness root big p seen → way_to space seen ≡ way_to (space ++ root) p
way_to-like root big space _ _ Nulls = refl
way_to-like root big space _ _ Deads = refl
way_to-like root big space _ _ (Inside x) = ap (option_map way_down) (sym (strip_inside root space x))
way_to-like root big space _ _ (PortAt x slot apart port) = ap (option_map way_down) (sym (strip_outside root space x apart))
way_to-like root big space _ _ (PortOut old slot) = refl

-- ---- lists

pub map-flat_map : {X A B : Type 0} (f : A → B) (g : X → List A) (xs : List X) → map f (flat_map g xs) ≡ flat_map (λ x. map f (g x)) xs
map-flat_map f g [] = refl
map-flat_map f g (x ∷ xs) = map-append f (g x) (flat_map g xs) ∙ ap (λ (ys : List _). map f (g x) ++ ys) (map-flat_map f g xs)

pub list_any-flat_map : {X A : Type 0} (f : A → Bool) (g : X → List A) (xs : List X) → list_any f (flat_map g xs) ≡ list_any (λ x. list_any f (g x)) xs
list_any-flat_map f g [] = refl
list_any-flat_map f g (x ∷ xs) = list_any-append f (g x) (flat_map g xs) ∙ ap (λ (b : Bool). list_any f (g x) || b) (list_any-flat_map f g xs)

module _ {root : Path} {see : Ptr → Ptr} {small big : World} (like : IsLikeness root see small big) where
  pub is_taken-like : (q : Path) → is_some (small.body q) ≡ is_some (big.body (q ++ root))
  is_taken-like q = rw (like.bodies q) (by (big.body (q ++ root)))
    where
      by : (v : Option Body) → is_some (option_map (λ b. unheld q (seen_by (seeing see) b)) v) ≡ is_some v
      by None = refl
      by (Some b) = refl

  pub residents-like : (q : Path) → residents small q ≡ residents big (q ++ root)
  unfolding residents
  residents-like q = ap (λ (taken : ℕ → Bool). filter taken (slots SLOTS)) (λ i k. is_taken-like (k ∷ q) i)

  resident : (k : ℕ) (q : Path) → option_map (λ b. k) (small.body (k ∷ q)) ≡ option_map (λ b. k) (big.body (k ∷ (q ++ root)))
  resident k q = rw (like.bodies (k ∷ q)) (by (big.body (k ∷ (q ++ root))))
    where
      by : (v : Option Body) → option_map (λ (b : Body). k) (option_map (λ b. unheld (k ∷ q) (seen_by (seeing see) b)) v) ≡ option_map (λ (b : Body). k) v
      by None = refl
      by (Some b) = refl

  pub first_resident-like : (q : Path) → first_resident small q ≡ first_resident big (q ++ root)
  first_resident-like q = ap (lowest SLOTS) (λ i k. resident k q i)

  pub leaf_by-like : (n : ℕ) (q : Path) → leaf_by n big (q ++ root) ≡ leaf_by n small q ++ root
  unfolding leaf_by
  leaf_by-like zero q = refl
  leaf_by-like (suc n) q = rw (first_resident-like q) (by (λ k. leaf_by-like n (k ∷ q)) (first_resident big (q ++ root)))
    where
      by : ((k : ℕ) → leaf_by n big (k ∷ (q ++ root)) ≡ leaf_by n small (k ∷ q) ++ root) →
          (o : Option ℕ) → leaf_from (λ k. leaf_by n big (k ∷ (q ++ root))) (q ++ root) o ≡ leaf_from (λ k. leaf_by n small (k ∷ q)) q o ++ root
      by below None = refl
      by below (Some k) = below k

  pub leaf-like : (q : Path) → leaf big (q ++ root) ≡ leaf small q ++ root
  unfolding leaf
  leaf-like q = leaf_by-like depth q

  taken-alike : (k : ℕ) (q : Path) → AlikeOptions (λ (seen b : Body). Unit {0}) (small.body (k ∷ q)) (big.body (k ∷ (q ++ root)))
  taken-alike k q = rw (like.bodies (k ∷ q)) (by (big.body (k ∷ (q ++ root))))
    where
      by : (v : Option Body) → AlikeOptions (λ (seen b : Body). Unit {0}) (option_map (λ b. unheld (k ∷ q) (seen_by (seeing see) b)) v) v
      by None = tt
      by (Some b) = tt

  pub has_residents-like : (q : Path) → has_residents small q ≡ has_residents big (q ++ root)
  has_residents-like q = alike-is_some (λ (seen b : Body). Unit {0}) (lowest SLOTS (λ k. small.body (k ∷ q)))
      (lowest SLOTS (λ k. big.body (k ∷ (q ++ root)))) (alike_lowest (λ (seen b : Body). Unit {0}) SLOTS _ _ (λ k. taken-alike k q))

  -- ---- all that lies beneath

  abbrev placed : Path → Path
  placed q = q ++ root

  pub beneath_by-like : (n : ℕ) (q : Path) → beneath_by n big (q ++ root) ≡ map placed (beneath_by n small q)
  unfolding beneath_by
  beneath_by-like zero q = refl
  beneath_by-like (suc n) q =
      rw (← residents-like q)
      (ap (λ (go : ℕ → List Path). flat_map (λ k. (k ∷ (q ++ root)) ∷ go k) (residents small q)) (λ i k. beneath_by-like n (k ∷ q) i)
      ∙ sym (map-flat_map placed (λ k. (k ∷ q) ∷ beneath_by n small (k ∷ q)) (residents small q)))

  pub beneath-like : (q : Path) → beneath big (q ++ root) ≡ map placed (beneath small q)
  unfolding beneath
  beneath-like q = beneath_by-like depth q

  -- a test that what lies inside passes alike
  any_beneath_by : (f g : Path → Bool) → ((k : ℕ) (q : Path) → f (k ∷ q) ≡ g (k ∷ (q ++ root))) →
      (n : ℕ) (q : Path) → list_any f (beneath_by n small q) ≡ list_any g (beneath_by n big (q ++ root))
  unfolding beneath_by
  any_beneath_by f g same zero q = refl
  any_beneath_by f g same (suc n) q =
      rw (← residents-like q)
      (list_any-flat_map f (λ k. (k ∷ q) ∷ beneath_by n small (k ∷ q)) (residents small q)
      ∙ ap (λ (test : ℕ → Bool). list_any test (residents small q)) (λ i k. same k q i || any_beneath_by f g same n (k ∷ q) i)
      ∙ sym (list_any-flat_map g (λ k. (k ∷ (q ++ root)) ∷ beneath_by n big (k ∷ (q ++ root))) (residents small q)))

  pub any_beneath-like : (f g : Path → Bool) →
      ((k : ℕ) (q : Path) → f (k ∷ q) ≡ g (k ∷ (q ++ root))) → (q : Path) → list_any f (beneath small q) ≡ list_any g (beneath big (q ++ root))
  unfolding beneath
  any_beneath-like f g same q = any_beneath_by f g same depth q

  -- ---- sleepers

  pub asleep_on-like : (cond_slot k : ℕ) (q : Path) → asleep_on cond_slot (small.body (k ∷ q)) ≡ asleep_on cond_slot (big.body (k ∷ (q ++ root)))
  unfolding seen_by
  asleep_on-like cond_slot k q = rw (like.bodies (k ∷ q)) (by (big.body (k ∷ (q ++ root))))
    where
      by : (v : Option Body) → asleep_on cond_slot (option_map (λ b. unheld (k ∷ q) (seen_by (seeing see) b)) v) ≡ asleep_on cond_slot v
      by (Some (Thread_of t)) = refl
      by (Some b) = refl
      by None = refl

-- a leaf beneath an object is an object in a space
pub leaf_by_below : (n : ℕ) (w : World) (k : ℕ) (q : Path) → (j : ℕ) × (z : Path) × (leaf_by n w (k ∷ q) ≡ j ∷ z)
unfolding leaf_by
leaf_by_below zero w k q = (k, q, refl)
leaf_by_below (suc n) w k q = by (λ j. leaf_by_below n w j (k ∷ q)) (first_resident w (k ∷ q))
  where
    by : ((j : ℕ) → (i : ℕ) × (z : Path) × (leaf_by n w (j ∷ k ∷ q) ≡ i ∷ z)) →
        (o : Option ℕ) → (j : ℕ) × (z : Path) × (leaf_from (λ j. leaf_by n w (j ∷ k ∷ q)) (k ∷ q) o ≡ j ∷ z)
    by below None = (k, q, refl)
    by below (Some j) = below j

pub leaf_below : (w : World) (k : ℕ) (q : Path) → (j : ℕ) × (z : Path) × (leaf w (k ∷ q) ≡ j ∷ z)
unfolding leaf
leaf_below w k q = leaf_by_below depth w k q
