-- Within: a walk up from a space to one above it.
use Rattle.std.proofs.Common.{◌≡◌, ℕ, Bool, true, false, ◌||◌, ◌==◌, eqb-true, [], ◌∷◌, Option, Some, None, option_map, is_some, cond, refl, sym, ap, ◌∙◌}
use Rattle.fk_model.specs.declared.names.Who.{Who}
use Rattle.fk_model.specs.Places.{Path, same_path, strip, is_within}
use Rattle.fk_model.proofs.walks.PlaceLaws.{strip-append}
use Rattle.fk_store.specs.Store.Contents.{Contents, home, is_live}
use Rattle.fk_store.specs.Store.Names.{same_who}
use Rattle.fk_store.specs.Store.Paths.{path, place}
use Rattle.fk_store.specs.Store.World.{IsLive, IsSpace}
use Rattle.fk_store.specs.Store.WellFormed.{IsWellFormed}
use Rattle.fk_store.proofs.InStore.finding.Homes.{home-found}
use Rattle.fk_store.proofs.InStore.finding.Walks.{eq_back, path-root, path-home, place-apart, same_path_back, same_space, space_at-path, there-birth}
use Rattle.fk_store.proofs.InStore.finding.LookUps.{IsLive-there, IsSpace-live, live-IsSpace}

within_itself : (s : Path) → is_within s s ≡ true
within_itself s = ap is_some (strip-append s [])

pub within_above : (s : Path) (k : ℕ) (x : Path) → is_within s (k ∷ x) ≡ (same_path (k ∷ x) s || is_within s x)
unfolding strip
within_above s k x = by (same_path (k ∷ x) s) (strip s x)
  where
    by : (b : Bool) (o : Option Path) → is_some (cond b (Some []) (option_map (λ q. k ∷ q) o)) ≡ (b || is_some o)
    by true o = refl
    by false None = refl
    by false (Some q) = refl

within_root : (s : Path) → same_path [] s ≡ false → is_within s [] ≡ false
unfolding strip
within_root s off = rw off refl

-- a space from which all that lies above is above the space from which the walk began
pub record IsUp (m : Contents) (base space at : ℕ) : Type 0 where
  pub live : is_live m at ≡ true
  pub within : is_within (path m base) (path m space) ≡ is_within (path m base) (path m at)

module _ (m : Contents) (kept : IsWellFormed m) where
  root_alone : (n : ℕ) → is_live m n ≡ true → home m n ≡ None → n ≡ 0
  root_alone n live none = by (n == 0) refl (home m n) none live
    where
      by : (b : Bool) → (n == 0) ≡ b → (o : Option Who) → o ≡ None → (b || is_some o) ≡ true → n ≡ 0
      by true e o none live = eqb-true n 0 e
      by false e None none live = absurd (cc)
      by false e (Some who) none live = absurd (cc)

  pub space_of : (who : Who) → IsLive m who → IsSpace m who.space
  space_of who live = live-IsSpace m kept who.space (kept.housed who (IsLive-there m kept who live))

  pub root_path : (n : ℕ) → IsSpace m n → home m n ≡ None → path m n ≡ []
  root_path n there none = ap (path m) (root_alone n (IsSpace-live m kept n there) none) ∙ path-root m

  pub same_spaces : (a b : ℕ) → IsSpace m b → same_path (path m a) (path m b) ≡ (a == b)
  same_spaces a b there =
      same_path_back (path m a) (path m b)
      ∙ same_space m kept (path m b) b a (space_at-path m kept b (IsSpace-live m kept b there)) ∙ eq_back b a

  module _ (base : ℕ) (there : IsSpace m base) where
    -- the object that a space is
    pub home_none : (who : Who) → home m base ≡ None → false ≡ same_path (place (path m) who) (path m base)
    unfolding same_path
    home_none who none =
        let top = root_alone base (IsSpace-live m kept base there) none in
        sym (ap (same_path (place (path m) who)) (ap (path m) top ∙ path-root m))

    pub home_some : (who other : Who) → home m base ≡ Some other → same_who who other ≡ same_path (place (path m) who) (path m base)
    home_some who other here =
        let live = kept.housed other (there-birth m kept other base (home-found m base other here)) in
        sym (ap (same_path (place (path m) who)) (path-home m kept base other here) ∙ (place-apart m kept other live who).0)

    module _ (space : ℕ) where
      pub begins : IsSpace m space → IsUp m base space space
      begins here = record { live = IsSpace-live m kept space here; within = refl }

      pub goes_up : (at : ℕ) → IsUp m base space at → (at == base) ≡ false → (who : Who) → home m at ≡ Some who → IsUp m base space who.space
      goes_up at on other who here = record {
        live = kept.housed who (there-birth m kept who at (home-found m at who here));
        within = on.within ∙ ap (is_within (path m base)) (path-home m kept at who here) ∙ within_above (path m base) who.slot (path m who.space)
            ∙ ap (λ b. b || is_within (path m base) (path m who.space)) (off ∙ other);
      }
        where
          off : same_path (place (path m) who) (path m base) ≡ (at == base)
          off = ap (λ x. same_path x (path m base)) (sym (path-home m kept at who here)) ∙ same_spaces at base there

      pub leaves : (at : ℕ) → IsUp m base space at → (at == base) ≡ false → home m at ≡ None → false ≡ is_within (path m base) (path m space)
      leaves at on other none =
          let top : path m at ≡ [] = ap (path m) (root_alone at on.live none) ∙ path-root m in
          let off : same_path [] (path m base) ≡ false = ap (λ x. same_path x (path m base)) (sym top) ∙ same_spaces at base there ∙ other in
          sym (on.within ∙ ap (is_within (path m base)) top ∙ within_root (path m base) off)

      pub arrives : (at : ℕ) → IsUp m base space at → at ≡ base → true ≡ is_within (path m base) (path m space)
      arrives at on same = sym (on.within ∙ ap (λ n. is_within (path m base) (path m n)) same ∙ within_itself (path m base))
