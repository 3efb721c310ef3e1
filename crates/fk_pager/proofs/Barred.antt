-- What bars a pager, and why there is a desk where nothing does.
use Rattle.std.proofs.Common.{◌≡◌, ℕ, Bool, true, false, not, ◌&&◌, ◌==◌, is_some, ◌∷◌, Option, Some, None, refl, sym, ap, ◌∙◌, eqb-true, eq-eqb}
use Rattle.std.proofs.lemmas.Bool.{and_parts}
use Rattle.fk_model.specs.Places.{Path, same_path, leads_to}
use Rattle.fk_model.specs.Objects.{Body, mapping_of, and_then, holds}
use Rattle.fk_model.specs.Objects.Body.{Mutex, Cond, Mapping, Region, Port, Portset, Space, Thread_of, Reference}
use Rattle.fk_model.specs.World.{World}
use Rattle.fk_model.specs.LinkRows.{is_member}
use Rattle.fk_model.proofs.walks.PlaceLaws.{same_path_eq, same_path_refl}
use Rattle.fk_pager.specs.Desks.{root, keeps_all, first_region, is_kept_by, HasDesk}
use Rattle.fk_pager.specs.Seen.{is_set, leads_some, is_hindrance}

both : (b : Bool) → b ≡ true → b ≡ false → ⊥
both b e f = cc

not-true : (b : Bool) → not b ≡ true → b ≡ false
not-true true e = cc
not-true false e = refl

not-false : (b : Bool) → not b ≡ false → b ≡ true
not-false true e = refl
not-false false e = cc

in-set : (set : ℕ) (its : Option ℕ) → holds (λ k. k == set) its ≡ is_set set its
in-set set None = refl
in-set set (Some k) = refl

module _ (w : World) (slot port set : ℕ) where
  abbrev P : Path
  P = slot ∷ root

  -- ---- where nothing bars it

  module _ (none : (k : ℕ) (s : Path) → is_hindrance P port set s k (w.body (k ∷ s)) ≡ false) where
    pub mapless : (k : ℕ) → and_then mapping_of (w.body (k ∷ P)) ≡ None
    mapless k = by (w.body (k ∷ P)) (none k P)
      where
        by : (o : Option Body) → is_hindrance P port set P k o ≡ false → and_then mapping_of o ≡ None
        by None e = refl
        by (Some (Mapping m)) e = absurd (both (same_path P P) (same_path_refl P) e)
        by (Some b) e = refl

    pub alone : (k : ℕ) → is_member set (w.body (k ∷ root)) ≡ true → k ≡ port
    alone k is = by (w.body (k ∷ root)) is (none k root)
      where
        other : (a b c : Bool) → a ≡ true → b ≡ true → (a && b && not c) ≡ false → c ≡ true
        other true true c d e f = not-false c f
        other true false c d e f = cc
        other false b c d e f = cc

        by : (o : Option Body) → is_member set o ≡ true → is_hindrance P port set root k o ≡ false → k ≡ port
        by (Some (Port its served)) e f = eqb-true k port
            (other (same_path root root) (is_set set its) (k == port) (same_path_refl root) (sym (in-set set its) ∙ e) f)
        by None e f = cc
        by (Some (Mutex locked)) e f = cc
        by (Some Cond) e f = cc
        by (Some (Mapping m)) e f = cc
        by (Some (Region r)) e f = cc
        by (Some Portset) e f = cc
        by (Some (Space birth holder)) e f = cc
        by (Some (Thread_of t)) e f = cc
        by (Some (Reference to)) e f = cc

    pub ours : (k : ℕ) (s : Path) → is_kept_by (port ∷ root) (w.body (k ∷ s)) ≡ true → s ≡ P
    ours k s is = by (w.body (k ∷ s)) is (none k s)
      where
        here : (a b : Bool) → b ≡ true → (not a && b) ≡ false → a ≡ true
        here true b e f = refl
        here false b e f = cc

        by : (o : Option Body) → is_kept_by (port ∷ root) o ≡ true → is_hindrance P port set s k o ≡ false → s ≡ P
        by (Some (Region r)) e f = same_path_eq s P (here (same_path s P) (leads_to (port ∷ root) r.keeper) e f)
        by None e f = cc
        by (Some (Mutex locked)) e f = cc
        by (Some Cond) e f = cc
        by (Some (Mapping m)) e f = cc
        by (Some (Port its served)) e f = cc
        by (Some Portset) e f = cc
        by (Some (Space birth holder)) e f = cc
        by (Some (Thread_of t)) e f = cc
        by (Some (Reference to)) e f = cc

  -- ---- where something does

  pub barred : (k : ℕ) (s : Path) → is_hindrance P port set s k (w.body (k ∷ s)) ≡ true → HasDesk w slot port set → ⊥
  barred k s is desk = by (w.body (k ∷ s)) refl is
    where
      of-mapping : (o : Option Body) → w.body (k ∷ s) ≡ o → s ≡ P → is_some (and_then mapping_of o) ≡ true → ⊥
      of-mapping o e same is = let none = desk.mapless k in
          both (is_some (and_then mapping_of o)) is
          (ap (λ x. is_some (and_then mapping_of x)) (sym e) ∙ ap (λ x. is_some (and_then mapping_of (w.body (k ∷ x)))) same ∙ ap is_some none)

      by : (o : Option Body) → w.body (k ∷ s) ≡ o → is_hindrance P port set s k o ≡ true → ⊥
      by (Some (Mapping m)) e h = of-mapping (Some (Mapping m)) e (same_path_eq s P h) refl
      by (Some (Port its served)) e h =
          let parts = and_parts _ _ h in
          let more = and_parts (same_path s root) (is_set set its) parts.0 in
          let top : s ≡ root = same_path_eq s root more.0 in
          let member : is_member set (w.body (k ∷ root)) ≡ true =
          ap (λ x. is_member set (w.body (k ∷ x))) (sym top) ∙ ap (is_member set) e ∙ in-set set its ∙ more.1 in
          both (k == port) (eq-eqb k port (desk.alone k member)) (not-true (k == port) parts.1)
      by (Some (Region r)) e h =
          let parts = and_parts (not (same_path s P)) _ h in
          let same : s ≡ P = desk.ours k s (ap (is_kept_by (port ∷ root)) e ∙ parts.1) in
          both (same_path s P) (ap (λ x. same_path x P) same ∙ same_path_refl P) (not-true (same_path s P) parts.0)
      by None e h = cc
      by (Some (Mutex locked)) e h = cc
      by (Some Cond) e h = cc
      by (Some Portset) e h = cc
      by (Some (Space birth holder)) e h = cc
      by (Some (Thread_of t)) e h = cc
      by (Some (Reference to)) e h = cc

-- ---- which desk it would be

module _ (w : World) (slot : ℕ) (found : Option Path)
    (keeps : (port : Path) → holds (keeps_all port) (first_region w (slot ∷ root)) ≡ leads_some port found) where
  -- the port that keeps all pages is the one that was found
  pub same-port : (port set : ℕ) → HasDesk w slot port set → found ≡ Some (port ∷ root)
  same-port port set desk = by found (sym (keeps (port ∷ root)) ∙ desk.kept)
    where
      by : (o : Option Path) → leads_some (port ∷ root) o ≡ true → o ≡ Some (port ∷ root)
      by None e = cc
      by (Some x) e = ap Some (same_path_eq x (port ∷ root) e)

-- its set is the one that was found
pub same-set : (w : World) (slot port : ℕ) (found : Option ℕ) → ((set : ℕ) → is_member set (w.body (port ∷ root)) ≡ is_set set found) → (set : ℕ) →
    HasDesk w slot port set → found ≡ Some set
same-set w slot port found members set desk = by found (sym (members set) ∙ desk.member)
  where
    by : (o : Option ℕ) → is_set set o ≡ true → o ≡ Some set
    by None e = cc
    by (Some k) e = ap Some (eqb-true k set e)
