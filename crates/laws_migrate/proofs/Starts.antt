-- Between two sound starts a subtree may move in which users alone live.
use Rattle.std.proofs.Common.{◌≡◌, ℕ, Bool, true, false, not, ◌||◌, is_some, List, [], ◌∷◌, ◌++◌, refl, ap, subst, ◌∙◌}
use Rattle.std.proofs.lemmas.Bool.{and_parts}
use Rattle.std.specs.List.{list_any}
use Rattle.fk_model.specs.declared.limits.TheConstants.{LAST_PORTER_SLOT}
use Rattle.fk_model.specs.Objects.{holds, is_served}
use Rattle.fk_model.specs.Places.{Path, same_path, is_within, parent}
use Rattle.fk_model.specs.Sound.{Start, IsSoundStart, has_users_alone}
use Rattle.fk_model.specs.StateRows.{is_native}
use Rattle.fk_model.proofs.walks.PlaceLaws.{same_path_eq, strip-append}
use Rattle.laws_migrate.specs.Migration.{top}
use Rattle.laws_migrate.specs.Starts.{SoundStartsMayMigrate}

not_true : (b : Bool) → not b ≡ true → b ≡ false
not_true true e = cc
not_true false e = refl

right_off : (a b : Bool) → (a || b) ≡ false → b ≡ false
right_off true b e = cc
right_off false b e = e

-- what one test finds nowhere, a narrower one doesn't
not_any : {A : Type 0} (wide narrow : A → Bool) (xs : List A) → ((x : A) → narrow x ≡ true → wide x ≡ true) → list_any wide xs ≡ false
    → list_any narrow xs ≡ false
not_any wide narrow [] within none = refl
not_any {A} wide narrow (x ∷ xs) within none =
    by (narrow x) refl (not_any wide narrow xs within (right_off (wide x) (list_any wide xs) none))
  where
    by : (b : Bool) → narrow x ≡ b → list_any narrow xs ≡ false → (b || list_any narrow xs) ≡ false
    by true here rest = let there : (true || list_any wide xs) ≡ false = subst (λ (c : Bool). (c || list_any wide xs) ≡ false) (within x here) none in cc
    by false here rest = rest

lies_within : (root q : Path) → is_within root (q ++ root) ≡ true
lies_within root q = ap is_some (strip-append root q)

module _ (s : Start) (slot : ℕ) (start : IsSoundStart s) (users : has_users_alone s (slot ∷ top) ≡ true) where
  abbrev root : Path
  root = slot ∷ top

  parts : (not (list_any (is_within root) s.nesters) ≡ true) × (not (list_any (λ port. is_within root (parent port)) s.ports) ≡ true)
  parts = and_parts (not (list_any (is_within root) s.nesters)) (not (list_any (λ port. is_within root (parent port)) s.ports)) users

  same_end : (j k : ℕ) (p n : Path) → same_path (j ∷ p) (k ∷ n) ≡ true → p ≡ n
  same_end j k p n same = let both = same_path_eq (j ∷ p) (k ∷ n) same in cc

  no_porter : (k : ℕ) (q : Path) → holds is_native (s.world.body (k ∷ (q ++ root))) ≡ false
  no_porter k q =
      start.porters (k ∷ (q ++ root))
      ∙ not_any (is_within root) (λ n. same_path (k ∷ (q ++ root)) (LAST_PORTER_SLOT ∷ n)) s.nesters
      (λ n same. subst (λ (x : Path). is_within root x ≡ true) (same_end k LAST_PORTER_SLOT (q ++ root) n same) (lies_within root q))
      (not_true (list_any (is_within root) s.nesters) parts.0)

  unserved : (k : ℕ) (q : Path) → holds is_served (s.world.body (k ∷ (q ++ root))) ≡ false
  unserved k q =
      start.served (k ∷ (q ++ root))
      ∙ not_any (λ port. is_within root (parent port)) (same_path (k ∷ (q ++ root))) s.ports
      (λ port same. subst (λ (x : Path). is_within root (parent x) ≡ true) (same_path_eq (k ∷ (q ++ root)) port same) (lies_within root q))
      (not_true (list_any (λ port. is_within root (parent port)) s.ports) parts.1)

pub sound_starts_may_migrate : SoundStartsMayMigrate
sound_starts_may_migrate s t slot low near far users = record {
  low = low;
  near = record { whole = near.whole; savable = near.savable };
  far = record { whole = far.whole; savable = far.savable };
  near_clean = near.clean;
  far_clean = far.clean;
  near_uncut = near.uncut;
  far_uncut = far.uncut;
  no_porter = no_porter s slot near users;
  unserved = unserved s slot near users;
}
