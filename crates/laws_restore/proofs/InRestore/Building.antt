-- Objects are made and get their records, and spaces their pages.
use Rattle.std.proofs.Common.{◌≡◌, ℕ, Bool, true, false, cond, ◌||◌, ◌&&◌, ◌==◌, is_some, List, [], ◌∷◌, map, Option, Some, None, option_map, refl, sym, ap}
use Rattle.std.proofs.Common.{subst, eqb-true, ◌∙◌}
use Rattle.std.proofs.lemmas.Bool.{and_parts}
use Rattle.fk_model.specs.declared.names.Kind.{Kind}
use Rattle.fk_model.specs.declared.names.Kind.TheVariants as kinds
use Rattle.fk_model.specs.Places.{Path, same_path}
use Rattle.fk_model.specs.Places.Ptr.{Null}
use Rattle.fk_model.specs.Objects.{Body, kind_of, and_then}
use Rattle.fk_model.specs.Objects.Body.{Mutex, Cond, Mapping, Region, Port, Portset, Space, Thread_of, Reference}
use Rattle.fk_model.specs.World.{World, Edit, edited, at_path, apply, apply_all}
use Rattle.fk_model.specs.World.Change.{Alter, PutPage}
use Rattle.fk_model.specs.Records.{set, set_edits, edited_by, takes_state}
use Rattle.fk_model.specs.LinkRows.{portset_of}
use Rattle.fk_model.proofs.walks.PlaceLaws.{same_path_eq, same_path_ne, same_path_refl}
use Rattle.laws_jobs.specs.Calls.{fresh}
use Rattle.laws_restore.specs.Restore.Fits.{there, is_referable, IsWay}
use Rattle.laws_restore.specs.Restore.Stages.{blank, recorded, is_among, is_given, built_at, building}
use Rattle.laws_restore.specs.Restore.Roomed.{AreMade}
use Rattle.laws_restore.specs.Sites.Orders.{after_set}

-- ---- kinds

pub kind_blank : (b : Body) → kind_of (blank b) ≡ kind_of b
kind_blank (Mutex locked) = refl
kind_blank Cond = refl
kind_blank (Mapping m) = refl
kind_blank (Region r) = refl
kind_blank (Port set served) = refl
kind_blank Portset = refl
kind_blank (Space birth holder) = refl
kind_blank (Thread_of t) = refl
kind_blank (Reference to) = refl

pub kind_recorded : (b : Body) → kind_of (recorded b) ≡ kind_of b
kind_recorded (Mutex locked) = refl
kind_recorded Cond = refl
kind_recorded (Mapping m) = refl
kind_recorded (Region r) = refl
kind_recorded (Port set served) = refl
kind_recorded Portset = refl
kind_recorded (Space birth holder) = refl
kind_recorded (Thread_of t) = refl
kind_recorded (Reference to) = refl

pub either_kind : (t : Bool) (b : Body) → kind_of (cond t (recorded b) (blank b)) ≡ kind_of b
either_kind true b = kind_recorded b
either_kind false b = kind_blank b

pub under : (f : Body → Body) → ((b : Body) → kind_of (f b) ≡ kind_of b) → (o : Option Body) → option_map kind_of (option_map f o) ≡ option_map kind_of o
under f same None = refl
under f same (Some b) = ap Some (same b)

pub way_same : (f g : Path → Option Kind) (z : Path) → ((y : Path) → f y ≡ g y) → IsWay g z → IsWay f z
way_same f g [] same way = tt
way_same f g (k ∷ q) same way = (ap is_referable (same (k ∷ q)) ∙ way.0, way.1, same q ∙ way.2, way_same f g q same way.3)

module _ (c : World) (root : c.body [] ≡ Some (Space 0 None)) where
  pub among_kind : (made set : List Path) (given : List (Path × ℕ)) (k : ℕ) (q : Path) → is_among (k ∷ q) made ≡ true
      → there (building c made set given) (k ∷ q) ≡ there c (k ∷ q)
  among_kind made set given k q among = rw among (under (λ b. cond (is_among (k ∷ q) set) (recorded b) (blank b)) (λ b. either_kind (is_among (k ∷ q) set) b)
      (c.body (k ∷ q)))

  pub made_there : (made set : List Path) (given : List (Path × ℕ)) (q : Path) → AreMade q made → there (building c made set given) q ≡ there c q
  made_there made set given [] above = rw root refl
  made_there made set given (k ∷ q) above = among_kind made set given k q above.0

  pub made_way : (made set : List Path) (given : List (Path × ℕ)) (q : Path) → AreMade q made → IsWay (there c) q → IsWay (there (building c made set given)) q
  made_way made set given [] above way = tt
  made_way made set given (k ∷ q) above way = (
    ap is_referable (made_there made set given (k ∷ q) above) ∙ way.0,
    way.1,
    made_there made set given q above.1
        ∙ way.2,
    made_way made set given q above.1 way.3,
  )

-- ---- one more is made

module _ (c : World) (made set : List Path) (given : List (Path × ℕ)) (k : ℕ) (q : Path) (b : Body) (is : c.body (k ∷ q) ≡ Some b)
    (unset : is_among (k ∷ q) set ≡ false) where
  abbrev y : Path
  y = k ∷ q

  made_as : (f : Option Body → Option Body) → f ((building c made set given).body y) ≡ Some (blank b)
      → at_path y f (building c made set given) ≡ building c (y ∷ made) set given
  made_as f h = λ i. record { body = λ z. by z i; page = (building c made set given).page; next = 0 }
    where
      inner : (z : Path) (t : Bool) → same_path z y ≡ t → (j : ℕ) (r : Path) → z ≡ j ∷ r
          → cond t (f ((building c made set given).body z)) ((building c made set given).body z) ≡ built_at c (y ∷ made) set z
      inner z true e j r at =
          let here = same_path_eq z y e in
          rw here (subst (λ (t : Bool). f ((building c made set given).body y)
          ≡ cond (t || is_among y made) (option_map (λ b. cond (is_among y set) (recorded b) (blank b)) (c.body y)) None)
          (sym (subst (λ (z : Path). same_path z y ≡ true) here e))
          (h ∙ sym (rw (is, unset) refl)))
      inner z false e j r at = rw at (subst (λ (t : Bool). built_at c made set (j ∷ r)
          ≡ cond (t || is_among (j ∷ r) made) (option_map (λ b. cond (is_among (j ∷ r) set) (recorded b) (blank b)) (c.body (j ∷ r))) None)
          (sym (subst (λ (z : Path). same_path z y ≡ false) at e)) refl)

      by : (z : Path) → cond (same_path z y) (f ((building c made set given).body z)) ((building c made set given).body z) ≡ built_at c (y ∷ made) set z
      by [] = rw (same_path_ne [] y (λ e. cc)) refl
      by (j ∷ r) = inner (j ∷ r) (same_path (j ∷ r) y) refl j r refl

  pub fresh_made : apply (fresh y (kind_of b)) (building c made set given) ≡ building c (y ∷ made) set given
  unfolding apply
  fresh_made = by b is made_as
    where
      by : (b : Body) → c.body y ≡ Some b → ((f : Option Body → Option Body) → f ((building c made set given).body y) ≡ Some (blank b)
          → at_path y f (building c made set given) ≡ building c (y ∷ made) set given) →
          apply (fresh y (kind_of b)) (building c made set given) ≡ building c (y ∷ made) set given
      by (Mutex locked) e made = made (λ there. Some (Mutex false)) refl
      by Cond e made = made (λ there. Some Cond) refl
      by (Mapping m) e made = made (λ there. Some (blank (Mapping m))) refl
      by (Region r) e made = made (λ there. Some (blank (Region r))) refl
      by (Port set served) e made = made (λ there. Some (Port None false)) refl
      by Portset e made = made (λ there. Some Portset) refl
      by (Space birth holder) e made = made (λ there. Some (Space 0 None)) refl
      by (Thread_of t) e made = made (λ there. Some (blank (Thread_of t))) refl
      by (Reference to) e made = made (λ there. Some (Reference Null)) refl

-- ---- one more has its record

alter_all : (x : Path) (es : List Edit) (m : World) → apply_all (map (Alter x) es) m ≡ at_path x (option_map (edited_by es)) m
unfolding apply_all apply
alter_all x [] m = λ i. record { body = λ y. by (same_path y x) (m.body y) i; page = m.page; next = m.next }
  where
    same : (o : Option Body) → o ≡ option_map (edited_by []) o
    same None = refl
    same (Some b) = refl

    by : (t : Bool) (o : Option Body) → o ≡ cond t (option_map (edited_by []) o) o
    by true o = same o
    by false o = refl
alter_all x (e ∷ es) m = alter_all x es (apply (Alter x e) m) ∙ (λ i. record { body = λ y. by (same_path y x) (m.body y) i; page = m.page; next = m.next })
  where
    twice : (o : Option Body) → option_map (edited_by es) (option_map (edited e) o) ≡ option_map (edited_by (e ∷ es)) o
    twice None = refl
    twice (Some b) = refl

    by : (t : Bool) (o : Option Body) → cond t (option_map (edited_by es) (cond t (option_map (edited e) o) o)) (cond t (option_map (edited e) o) o)
        ≡ cond t (option_map (edited_by (e ∷ es)) o) o
    by true o = twice o
    by false o = refl

module _ (c : World) (made done : List Path) (given : List (Path × ℕ)) (k : ℕ) (q : Path) (b : Body) (is : c.body (k ∷ q) ≡ Some b)
    (there : is_among (k ∷ q) made ≡ true) (unset : is_among (k ∷ q) done ≡ false) where
  abbrev x : Path
  x = k ∷ q

  pub blank_there : (building c made done given).body x ≡ Some (blank b)
  blank_there = rw (there, is, unset) refl

  set_as : (f : Option Body → Option Body) → f (Some (blank b)) ≡ Some (recorded b)
      → at_path x f (building c made done given) ≡ building c made (x ∷ done) given
  set_as f h = λ i. record { body = λ z. by z i; page = (building c made done given).page; next = 0 }
    where
      inner : (z : Path) (t : Bool) → same_path z x ≡ t → (j : ℕ) (r : Path) → z ≡ j ∷ r
          → cond t (f ((building c made done given).body z)) ((building c made done given).body z) ≡ built_at c made (x ∷ done) z
      inner z true e j r at =
          let here = same_path_eq z x e in
          rw here (ap f blank_there ∙ h ∙ sym (rw (there, is, same_path_refl x) refl))
      inner z false e j r at = rw at (subst (λ (t : Bool). built_at c made done (j ∷ r)
          ≡ cond (is_among (j ∷ r) made) (option_map (λ b. cond (t || is_among (j ∷ r) done) (recorded b) (blank b)) (c.body (j ∷ r))) None)
          (sym (subst (λ (z : Path). same_path z x ≡ false) at e)) refl)

      by : (z : Path) → cond (same_path z x) (f ((building c made done given).body z)) ((building c made done given).body z) ≡ built_at c made (x ∷ done) z
      by [] = rw (same_path_ne [] x (λ e. cc)) refl
      by (j ∷ r) = inner (j ∷ r) (same_path (j ∷ r) x) refl j r refl

  pub record_made : (words : List ℕ) → set (blank b) words ≡ recorded b
      → after_set x words ((building c made done given).body x) (building c made done given) ≡ building c made (x ∷ done) given
  unfolding set
  record_made words says =
      ap (λ (o : Option Body). after_set x words o (building c made done given)) blank_there
      ∙ alter_all x (set_edits (blank b) words) (building c made done given)
      ∙ set_as (option_map (edited_by (set_edits (blank b) words))) (ap Some says)

-- ---- one more page is given

pub page_made : (c : World) (made done : List Path) (given : List (Path × ℕ)) (q : Path) (n : ℕ) (words : List ℕ) → c.page q n ≡ Some words →
    apply (PutPage q n words) (building c made done given) ≡ building c made done ((q, n) ∷ given)
unfolding apply
page_made c made done given q n words is = λ i. record { body = built_at c made done; page = λ r m. by r m (same_path r q && m == n) refl i; next = 0 }
  where
    by : (r : Path) (m : ℕ) (t : Bool) → (same_path r q && m == n) ≡ t →
        cond t (Some words) (cond (is_given r m given) (c.page r m) None) ≡ cond (t || is_given r m given) (c.page r m) None
    by r m true e =
        let both = and_parts (same_path r q) (m == n) e in
        let here = same_path_eq r q both.0 in
        let number = eqb-true m n both.1 in
        rw (here, number) (sym is)
    by r m false e = refl

-- ---- a record that a new object takes

abbrev is_set_kind : Option Kind → Bool
is_set_kind (Some kinds.Portset) = true
is_set_kind other = false

portset_kind : (o : Option Body) → is_some (and_then portset_of o) ≡ is_set_kind (option_map kind_of o)
portset_kind None = refl
portset_kind (Some (Mutex locked)) = refl
portset_kind (Some Cond) = refl
portset_kind (Some (Mapping m)) = refl
portset_kind (Some (Region r)) = refl
portset_kind (Some (Port set served)) = refl
portset_kind (Some Portset) = refl
portset_kind (Some (Space birth holder)) = refl
portset_kind (Some (Thread_of t)) = refl
portset_kind (Some (Reference to)) = refl

pub takes_same : (w v : World) (q : Path) → ((k : ℕ) → there w (k ∷ q) ≡ there v (k ∷ q)) → (b : Body) (words : List ℕ)
    → takes_state w q b words ≡ takes_state v q b words
unfolding takes_state
takes_same w v q same (Port set served) words = rw (portset_kind (w.body _), portset_kind (v.body _), same _) refl
takes_same w v q same (Mutex locked) words = refl
takes_same w v q same b words = refl
