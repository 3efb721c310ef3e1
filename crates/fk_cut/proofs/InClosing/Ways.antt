-- Ways: up from an object to the space in which it stands, and to a subtree's root.
use Rattle.std.proofs.Common.{◌≡◌, ◌↔◌, ◌<◌, ℕ, zero, suc, ◌++◌, Bool, true, false, not, [], ◌∷◌, Option, Some, None, is_some, option_map, IsSome}
use Rattle.std.proofs.Common.{IfSome, IfNone, refl, sym, ap, subst, ◌∙◌, arith}
use Rattle.std.proofs.lemmas.List.{append_assoc, append_cancel_right}
use Rattle.fk_model.specs.declared.names.Who.{Who}
use Rattle.fk_model.specs.Places.{Path, same_path, strip, is_within}
use Rattle.fk_model.specs.Objects.{Body, kind_of, and_then}
use Rattle.fk_model.specs.World.{World}
use Rattle.fk_model.specs.Valid.{kind_there, birth_at, birth_of}
use Rattle.fk_model.proofs.walks.PlaceLaws.{strip-append, same_path_eq}
use Rattle.fk_store.specs.Store.Contents.{Contents}
use Rattle.fk_store.specs.Store.Names.{same_who}
use Rattle.fk_store.specs.Store.Paths.{path, path_by, place, HasOwnPath}
use Rattle.fk_store.specs.Store.World.{world, place_of, IsLive, IsSpace}

born-there : (w : World) (x : Path) (n : ℕ) → birth_at w x ≡ Some n → IsSome (kind_there w x)
unfolding kind_there
born-there w x n born = by (w.body x) born
  where
    by : (b : Option Body) → and_then birth_of b ≡ Some n → is_some (option_map kind_of b) ≡ true
    by None is = absurd (cc)
    by (Some b) is = refl

module _ (m : Contents) where
  -- a space that is live and has no home is the root
  pub root-path : (n : ℕ) (home : Option Who) → IsSome home ↔ ((0 < n) × IsSpace m n) → IsSpace m n → IfNone home (path m n ≡ [])
  unfolding path path_by
  root-path zero None some live = refl
  root-path (suc k) None some live = let there = some.1 (omega arith, live) in absurd (cc)
  root-path n (Some who) some live = tt

  -- its home is live
  pub home-live : (n : ℕ) (home : Option Who) → IsSpace m n → IfSome home (λ who. path m n ≡ place_of m who) → IfSome home (λ who. IsLive m who)
  home-live n None live place = tt
  home-live n (Some who) live place = born-there (world m) (place_of m who) n (subst (λ x. birth_at (world m) x ≡ Some n) place live)

-- ---- within a subtree

pub within_itself : (s : Path) → is_within s s ≡ true
within_itself s = ap is_some (strip-append s [])

pub within_root : (k : ℕ) (s : Path) → is_within (k ∷ s) [] ≡ false
unfolding strip same_path
within_root k s = refl

pub within_above : (s : Path) (k : ℕ) (x : Path) → same_path (k ∷ x) s ≡ false → is_within s (k ∷ x) ≡ is_within s x
unfolding strip
within_above s k x off = rw off (by (strip s x))
  where
    by : (o : Option Path) → is_some (option_map (λ q. k ∷ q) o) ≡ is_some o
    by None = refl
    by (Some q) = refl

pub within_below : (s q : Path) → is_within s (q ++ s) ≡ true
within_below s q = ap is_some (strip-append s q)

-- a step up keeps whether an object lies in a subtree
module _ (m : Contents) (root at : Who) (other : same_path (place_of m at) (place_of m root) ≡ false) where
  pub step_up : (x : Path) → path m at.space ≡ x → is_within (place_of m root) (place_of m at) ≡ is_within (place_of m root) x
  step_up x home = within_above (place_of m root) at.slot (path m at.space) other ∙ ap (is_within (place_of m root)) home

  pub comes_out : path m at.space ≡ [] → is_within (place_of m root) (place_of m at) ≡ false
  comes_out top = step_up [] top ∙ within_root root.slot (path m root.space)

-- the way that was gone, and the path of where it has come to, are the whole path
pub gone_on : (done : Path) (k : ℕ) (s t x : Path) → done ++ k ∷ s ≡ x → s ≡ t → (done ++ k ∷ []) ++ t ≡ x
gone_on done k s t x gone home = append_assoc done (k ∷ []) t ∙ ap (λ u. done ++ k ∷ u) (sym home) ∙ gone

pub whole_path : (q done root x : Path) → done ++ root ≡ x → x ≡ q ++ root → done ≡ q
whole_path q done root x gone is = append_cancel_right done q root (gone ∙ is)

-- ---- whether an object is the root

not_true : (b : Bool) → true ≡ not b → b ≡ false
not_true true h = cc
not_true false h = refl

not_false : (b : Bool) → false ≡ not b → b ≡ true
not_false true h = refl
not_false false h = cc

pub off_root : (p : ℕ → Path) (root at : Who) → HasOwnPath p root → true ≡ not (same_who at root) → same_path (place p at) (place p root) ≡ false
off_root p root at own other = (own at).0 ∙ not_true (same_who at root) other

pub on_root : (p : ℕ → Path) (root at : Who) → HasOwnPath p root → false ≡ not (same_who at root) → place p at ≡ place p root
on_root p root at own same = same_path_eq (place p at) (place p root) ((own at).0 ∙ not_false (same_who at root) same)

-- ---- the loops

module _ (m : Contents) (root who at : Who) (own : HasOwnPath (path m) root) where
  abbrev inside : Who → Bool
  inside x = is_within (place_of m root) (place_of m x)

  pub ends_outside : inside at ≡ inside who → true ≡ not (same_who at root) → path m at.space ≡ [] → false ≡ inside who
  ends_outside same other top = sym (comes_out m root at (off_root (path m) root at own other) top) ∙ same

  pub steps_up : inside at ≡ inside who → true ≡ not (same_who at root) → (space : Who) → path m at.space ≡ place_of m space → inside space ≡ inside who
  steps_up same other space home = sym (step_up m root at (off_root (path m) root at own other) (place_of m space) home) ∙ same

  pub ends_inside : inside at ≡ inside who → false ≡ not (same_who at root) → true ≡ inside who
  ends_inside same there =
      sym (sym same ∙ ap (is_within (place_of m root)) (on_root (path m) root at own there) ∙ within_itself (place_of m root))

  pub never_out : (q : Path) → place_of m who ≡ q ++ place_of m root → inside at ≡ inside who → true ≡ not (same_who at root) → path m at.space ≡ [] → ⊥
  never_out q is same other top =
      let out = ends_outside same other top in
      let in_ : inside who ≡ true = ap (is_within (place_of m root)) is ∙ within_below (place_of m root) q in
      let both : false ≡ true = out ∙ in_ in
      cc
