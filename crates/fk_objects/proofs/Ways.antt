-- Ways: from an object up to a space.
use Rattle.std.proofs.Common.{◌≡◌, ℕ, Bool, true, false, cond, eqb, ◌==◌, nat_le, List, [], ◌∷◌, ◌++◌, length, Option, Some, None, option_map, refl, sym, ap, ◌∙◌, eqb-true, eq-eqb, IsSome, ◌<◌, ◌↔◌, arith}
use Rattle.std.proofs.lemmas.List.{append_assoc}
use Rattle.std.proofs.lemmas.Bool.Decides.{nat_tests}
use Rattle.std.proofs.lemmas.Option.{same_Some}
use Rattle.fk_model.specs.declared.limits.TheConstants.{OWN_SPACE}
use Rattle.fk_model.specs.declared.names.Who.{Who}
use Rattle.fk_model.specs.ObjectRows.{outermost, way_to}
use Rattle.fk_model.specs.Places.{Path, same_path, strip}
use Rattle.fk_model.specs.Places.Ptr.{At}
use Rattle.fk_model.specs.Valid.{birth_at}
use Rattle.fk_model.specs.World.{World}
use Rattle.fk_store.specs.Store.Contents.{Contents}
use Rattle.fk_store.specs.Store.Paths.{path, place}
use Rattle.fk_store.specs.Store.World.{world, IsLive, IsSpace}
use Rattle.fk_store.proofs.InStore.finding.Walks.{same_path_refl, same_path_true, path-root}

-- ---- spaces by birth numbers and by paths

pub space_apart : (w : World) (x y : Path) (n : ℕ) → birth_at w y ≡ Some n → (o : Option ℕ) → birth_at w x ≡ o → (o ≡ Some n → ⊥) → same_path x y ≡ false
space_apart w x y n there o here other = by (same_path x y) refl
  where
    by : (b : Bool) → same_path x y ≡ b → b ≡ false
    by false e = refl
    by true e = let same = same_path_true x y e in absurd (other (sym here ∙ ap (birth_at w) same ∙ there))

pub spaces_apart : (m : Contents) (a b : ℕ) → IsSpace m a → IsSpace m b → eqb a b ≡ false → same_path (path m a) (path m b) ≡ false
spaces_apart m a b here there other =
    space_apart (world m) (path m a) (path m b) b there (Some a) here (λ h. let same = eq-eqb a b (same_Some _ _ h) in absurd (cc))

-- nothing that stands in a slot is the root
pub root_apart : (m : Contents) (who : Who) (n : ℕ) → n ≡ 0 → false ≡ same_path (place (path m) who) (path m n)
unfolding same_path
root_apart m who n root = rw (root, path-root m) refl

-- ---- a walk up

abbrev deep_by : List ℕ → ℕ
deep_by [] = 0
deep_by (k ∷ q) = 1

-- the walk from an object has come to this one, and the space is yet above
pub record IsOnWay (m : Contents) (space : ℕ) (object at : Who) (deep : ℕ) : Type 0 where
  pub live : IsLive m at
  pub off : same_path (place (path m) at) (path m space) ≡ false
  pub passed : List ℕ
  pub way : strip (path m space) (place (path m) object) ≡ option_map (λ q. passed ++ q) (strip (path m space) (place (path m) at))
  pub depth : deep ≡ deep_by passed

nothing_passed : (o : Option (List ℕ)) → o ≡ option_map (λ q. q) o
nothing_passed None = refl
nothing_passed (Some q) = refl

pub begins : (m : Contents) (space : ℕ) (object : Who) →
    IsLive m object → same_path (place (path m) object) (path m space) ≡ false → IsOnWay m space object object 0
begins m space object live off = record { live = live; off = off; passed = []; way = nothing_passed _; depth = refl }

-- one slot up
strip_off : (k : ℕ) (s root : Path) → same_path (k ∷ s) root ≡ false → strip root (k ∷ s) ≡ option_map (λ q. k ∷ q) (strip root s)
unfolding strip
strip_off k s root off = rw off refl

strip_itself : (root : Path) → strip root root ≡ Some []
unfolding strip same_path
strip_itself [] = refl
strip_itself (k ∷ x) = rw (same_path_refl (k ∷ x)) refl

ne_zero : (n : ℕ) → (n == 0) ≡ false → 0 < n
ne_zero n e = grind (arith, nat_tests)

strip_root : (root : Path) → same_path [] root ≡ false → strip root [] ≡ None
unfolding strip
strip_root root off = rw off refl

deep_end : (q : List ℕ) (k : ℕ) → 1 ≡ deep_by (q ++ k ∷ [])
deep_end [] k = refl
deep_end (j ∷ q) k = refl

outermost_end : (q : List ℕ) (k : ℕ) → outermost (q ++ k ∷ []) ≡ k
outermost_end [] k = refl
outermost_end (i ∷ []) k = refl
outermost_end (i ∷ j ∷ q) k = outermost_end (j ∷ q) k

deepness : (q : List ℕ) (k : ℕ) → cond (nat_le (length (q ++ k ∷ [])) 1) 0 1 ≡ deep_by q
deepness [] k = refl
deepness (j ∷ []) k = refl
deepness (i ∷ j ∷ q) k = grind (arith, nat_tests)

module _ (m : Contents) (space : ℕ) (object at : Who) (deep : ℕ) (on : IsOnWay m space object at deep) where
  abbrev root : Path
  root = path m space

  up : strip root (place (path m) object) ≡ option_map (λ q. on.passed ++ q) (option_map (λ q. at.slot ∷ q) (strip root (path m at.space)))
  up = on.way ∙ ap (option_map (λ q. on.passed ++ q)) (strip_off at.slot (path m at.space) root on.off)

  pub goes_up : (higher : Who) → IsLive m higher → place (path m) higher ≡ path m at.space →
      IsSpace m at.space → IsSpace m space → eqb at.space space ≡ false → IsOnWay m space object higher 1
  goes_up higher live home here there other = record {
    live = live;
    off = rw home (spaces_apart m at.space space here there other);
    passed = on.passed ++ at.slot ∷ [];
    way = rw home (up ∙ more (strip root (path m at.space)));
    depth = deep_end on.passed at.slot;
  }
    where
      more : (o : Option (List ℕ)) →
          option_map (λ q. on.passed ++ q) (option_map (λ q. at.slot ∷ q) o) ≡ option_map (λ q. (on.passed ++ at.slot ∷ []) ++ q) o
      more None = refl
      more (Some q) = ap Some (sym (append_assoc on.passed (at.slot ∷ []) q))

  pub arrives : at.space ≡ space → Some (at.slot ∷ deep ∷ []) ≡ way_to root (At (place (path m) object))
  arrives here =
      let found : strip root (place (path m) object) ≡ Some (on.passed ++ at.slot ∷ []) =
      up ∙ ap (λ o. option_map (λ q. on.passed ++ q) (option_map (λ q. at.slot ∷ q) o)) (ap (λ n. strip root (path m n)) here ∙ strip_itself root) in
      rw (found, outermost_end on.passed at.slot, deepness on.passed at.slot, on.depth) refl

  pub leaves : at.space ≡ 0 → IsSpace m at.space → IsSpace m space → eqb at.space space ≡ false → None ≡ way_to root (At (place (path m) object))
  leaves zero here there other =
      let apart = spaces_apart m at.space space here there other in
      let none : strip root (path m at.space) ≡ None = rw (zero, path-root m) (strip_root root (rw (zero, path-root m) at apart)) in
      rw (up, none) refl

pub at_space : (k : ℕ) (s root : Path) → same_path (k ∷ s) root ≡ true → Some (OWN_SPACE ∷ 0 ∷ []) ≡ way_to root (At (k ∷ s))
unfolding strip
at_space k s root here = rw here refl

-- a space that nothing stands above is the root
pub is_root : (m : Contents) (n : ℕ) → (IsSome {T = Who} None ↔ ((0 < n) × IsSpace m n)) → IsSpace m n → n ≡ 0
is_root m n some space = by (n == 0) refl
  where
    by : (b : Bool) → (n == 0) ≡ b → n ≡ 0
    by true e = eqb-true n 0 e
    by false e = let no = some.1 (ne_zero n e, space) in absurd (cc)
