-- Where the pointers of a picture lead, by path.
use Rattle.std.proofs.Common.{◌≡◌, ℕ, zero, suc, ◌≤◌, Bool, true, false, ◌&&◌, ◌||◌, ◌==◌, List, [], ◌∷◌, drop, Option, Some, None, option_map, is_some, refl}
use Rattle.std.proofs.Common.{sym, ap, subst, ◌∙◌, arith, eqb-true}
use Rattle.std.specs.Prelude.{slice_get}
use Rattle.std.specs.List.{list_any}
use Rattle.fk_model.specs.declared.names.Kind.{Kind}
use Rattle.fk_model.specs.declared.names.Kind.TheVariants as kinds
use Rattle.fk_model.specs.declared.limits.TheConstants.{LAST_USER_SLOT}
use Rattle.fk_model.specs.Objects.{kind_of}
use Rattle.fk_model.specs.StateRows.{is_of_kinds, referable}
use Rattle.fk_model.specs.World.{World}
use Rattle.fk_image.specs.declared.image.image.Rec.{Rec}
use Rattle.fk_image.specs.declared.image.image.Rec.TheVariants.{Mutex, Cond, Portset, Mapping, Region, Port, Thread, Reference}
use Rattle.fk_image.specs.declared.image.image.SpaceRec.{SpaceRec}
use Rattle.fk_image.specs.declared.image.image.Image.{Image}
use Rattle.fk_image.specs.Image.Objects.{kind_of_rec}
use Rattle.fk_image.specs.Image.Links.{kind_in_space, lies_in, has_space_at, is_region_kind, is_port_kind}
use Rattle.fk_image.specs.Image.Links as links
use Rattle.fk_image.specs.Image.Picture.{path_within, space_path, rec_in, pictured_body, picture}
use Rattle.laws_restore.specs.Restore.Fits.{there, is_referable, IsWay}
use Rattle.laws_pictures.specs.Tree.{IsTree, IsFull}
use Rattle.laws_pictures.proofs.Numbers.{Item, item_of, is_there, there_below, behind_first, path_up}
use Rattle.laws_pictures.proofs.Bodies.{kind_by_rec, kind_of_space, rising, ranged, object_at, space_at}

pub kind_pictured : (ss : List SpaceRec) (r : Rec) → kind_of (pictured_body ss r) ≡ kind_of_rec r
kind_pictured ss (Mutex locked) = refl
kind_pictured ss Cond = refl
kind_pictured ss Portset = refl
kind_pictured ss (Mapping first count offset write to) = refl
kind_pictured ss (Region first count write to) = refl
kind_pictured ss (Port set) = refl
kind_pictured ss (Thread t) = refl
kind_pictured ss (Reference to) = refl

-- what a reference's table allows, as the calls' does
pub may_be_referred : (o : Option Kind) → links.is_referable o ≡ true → (is_referable o ≡ true) × (is_of_kinds referable o ≡ true)
may_be_referred None e = absurd cc
may_be_referred (Some kinds.Mutex) e = absurd cc
may_be_referred (Some kinds.Cond) e = absurd cc
may_be_referred (Some kinds.Mapping) e = (refl, refl)
may_be_referred (Some kinds.Region) e = (refl, refl)
may_be_referred (Some kinds.Port) e = (refl, refl)
may_be_referred (Some kinds.Portset) e = absurd cc
may_be_referred (Some kinds.Space) e = absurd cc
may_be_referred (Some kinds.Thread) e = (refl, refl)
may_be_referred (Some kinds.Reference) e = absurd cc

pub is_region : (o : Option Kind) → is_region_kind o ≡ true → (is_referable o ≡ true) × (is_of_kinds (kinds.Region ∷ []) o ≡ true)
is_region None e = absurd cc
is_region (Some kinds.Mutex) e = absurd cc
is_region (Some kinds.Cond) e = absurd cc
is_region (Some kinds.Mapping) e = absurd cc
is_region (Some kinds.Region) e = (refl, refl)
is_region (Some kinds.Port) e = absurd cc
is_region (Some kinds.Portset) e = absurd cc
is_region (Some kinds.Space) e = absurd cc
is_region (Some kinds.Thread) e = absurd cc
is_region (Some kinds.Reference) e = absurd cc

pub is_a_port : (o : Option Kind) → is_port_kind o ≡ true → (is_referable o ≡ true) × (is_of_kinds (kinds.Port ∷ []) o ≡ true)
is_a_port None e = absurd cc
is_a_port (Some kinds.Mutex) e = absurd cc
is_a_port (Some kinds.Cond) e = absurd cc
is_a_port (Some kinds.Mapping) e = absurd cc
is_a_port (Some kinds.Region) e = absurd cc
is_a_port (Some kinds.Port) e = (refl, refl)
is_a_port (Some kinds.Portset) e = absurd cc
is_a_port (Some kinds.Space) e = absurd cc
is_a_port (Some kinds.Thread) e = absurd cc
is_a_port (Some kinds.Reference) e = absurd cc

-- an object where a kind is
pub record Kinded (ss : List SpaceRec) (space slot : ℕ) : Type 0 where
  pub item : SpaceRec
  pub body : Rec
  pub here : slice_get ss space ≡ Some item
  pub at : rec_in item.objects slot ≡ Some body

pub kinded : (ss : List SpaceRec) (space slot : ℕ) → is_some (kind_in_space ss space slot) ≡ true → Kinded ss space slot
kinded ss space slot e = by (slice_get ss space) refl e
  where
    some : (o : Option Rec) → is_some (option_map kind_of_rec o) ≡ true → Item o
    some None e = absurd cc
    some (Some r) e = record { item = r; is = refl }

    by : (o : Option SpaceRec) → slice_get ss space ≡ o → is_some (kind_of_space slot o) ≡ true → Kinded ss space slot
    by None here e = absurd cc
    by (Some s) here e =
        let r = some (rec_in s.objects slot) (sym (ap is_some (kind_by_rec s.objects slot)) ∙ e) in
        record { item = s; body = r.item; here = here; at = r.is }

module _ (i : Image) (tree : IsTree i.spaces) (full : IsFull i.spaces) where
  abbrev ss : List SpaceRec
  ss = i.spaces

  abbrev c : World
  c = picture i

  -- a way down to each space
  pub space_there : (n : ℕ) → is_some (slice_get ss n) ≡ true → there c (space_path ss n) ≡ Some kinds.Space
  unfolding picture path_within
  space_there zero is = refl
  space_there (suc n) is = let s = item_of (slice_get ss (suc n)) is in ap (option_map kind_of) (space_at ss tree full n s.item s.is)

  way_by : (d n : ℕ) → n ≤ d → is_some (slice_get ss n) ≡ true → IsWay (there c) (space_path ss n)
  unfolding path_within
  way_by d zero le is = tt
  way_by zero (suc n) le is = absurd (omega (arith, le))
  way_by (suc d) (suc n) le is =
      let s = item_of (slice_get ss (suc n)) is in
      let low = tree.low n s.item s.is in
      let above = there_below ss s.item.parent (suc n) (omega (arith, low)) is in
      let up = path_up ss tree n s.item s.is in
      let slot = full.slots n s.item s.is in
      subst (λ x. IsWay (there c) x) (sym up) (
        ap is_referable (ap (there c) (sym up) ∙ space_there (suc n) is),
        omega (arith, slot),
        space_there s.item.parent above,
        way_by d s.item.parent (omega (arith, low, le)) above,
      )

  pub way : (n : ℕ) → is_some (slice_get ss n) ≡ true → IsWay (there c) (space_path ss n)
  way n is = way_by n n (omega arith) is

  -- what a pointer inside leads to
  pub record Aim (space slot : ℕ) (kind : Option Kind) : Type 0 where
    pub found : there c (slot ∷ space_path ss space) ≡ kind
    pub low : slot ≤ LAST_USER_SLOT
    pub above : is_some (slice_get ss space) ≡ true

  pub aim_way : (space slot : ℕ) (kind : Option Kind) → Aim space slot kind → is_referable kind ≡ true → IsWay (there c) (slot ∷ space_path ss space)
  aim_way space slot kind aim e = (ap is_referable aim.found ∙ e, aim.low, space_there space aim.above, way space aim.above)

  pub object_aim : (space slot : ℕ) → is_some (kind_in_space ss space slot) ≡ true → Aim space slot (kind_in_space ss space slot)
  unfolding picture
  object_aim space slot e =
      let k = kinded ss space slot e in
      let in_range = ranged 0 k.item.objects slot k.body (rising k.item.objects (full.objects space k.item k.here)) k.at in
      let low = in_range.slot in
      record {
        found = ap (option_map kind_of) (object_at ss tree space slot k.item k.body k.here k.at) ∙ ap (λ (kind : Kind). Some kind) (kind_pictured ss k.body)
            ∙ sym (kind_is k.item k.body k.here k.at);
        low = omega (arith, low);
        above = is_there (slice_get ss space) k.item k.here;
      }
    where
      kind_is : (s : SpaceRec) (r : Rec) → slice_get ss space ≡ Some s → rec_in s.objects slot ≡ Some r → kind_in_space ss space slot ≡ Some (kind_of_rec r)
      kind_is s r here at = ap (kind_of_space slot) here ∙ kind_by_rec s.objects slot ∙ ap (option_map kind_of_rec) at

  space_in : (xs : List SpaceRec) (space slot : ℕ) → list_any (lies_in space slot) xs ≡ true
      → (n : ℕ) × (s : SpaceRec) × (slice_get xs n ≡ Some s) × (s.parent ≡ space) × (s.slot ≡ slot)
  space_in [] space slot e = absurd cc
  space_in (s ∷ xs) space slot e = by (s.parent == space) refl (s.slot == slot) refl (space_in xs space slot) e
    where
      later : ((n : ℕ) × (t : SpaceRec) × (slice_get xs n ≡ Some t) × (t.parent ≡ space) × (t.slot ≡ slot))
          → (n : ℕ) × (t : SpaceRec) × (slice_get (s ∷ xs) n ≡ Some t) × (t.parent ≡ space) × (t.slot ≡ slot)
      later f = (suc f.0, f.1, f.2, f.3, f.4)

      by : (a : Bool) → (s.parent == space) ≡ a → (b : Bool) → (s.slot == slot) ≡ b →
          (list_any (lies_in space slot) xs ≡ true → (n : ℕ) × (t : SpaceRec) × (slice_get xs n ≡ Some t) × (t.parent ≡ space) × (t.slot ≡ slot)) →
          ((a && b) || list_any (lies_in space slot) xs) ≡ true
          → (n : ℕ) × (t : SpaceRec) × (slice_get (s ∷ xs) n ≡ Some t) × (t.parent ≡ space) × (t.slot ≡ slot)
      by true p true q rest e = (0, s, refl, eqb-true s.parent space p, eqb-true s.slot slot q)
      by true p false q rest e = later (rest e)
      by false p b q rest e = later (rest e)

  pub space_aim : (space slot : ℕ) → has_space_at ss space slot ≡ true → Aim space slot (Some kinds.Space)
  unfolding has_space_at
  space_aim space slot e =
      let f = space_in (drop 1 ss) space slot e in
      let here = sym (behind_first ss f.0) ∙ f.2 in
      let is = is_there (slice_get ss (suc f.0)) f.1 here in
      let path : space_path ss (suc f.0) ≡ slot ∷ space_path ss space = path_up ss tree f.0 f.1 here ∙ ap (λ k. k ∷ space_path ss f.1.parent) f.4
      ∙ ap (λ n. slot ∷ space_path ss n) f.3 in
      let at = f.4 in
      let low = full.slots f.0 f.1 here in
      let under = tree.low f.0 f.1 here in
      record {
        found = ap (there c) (sym path) ∙ space_there (suc f.0) is;
        low = omega (arith, at, low);
        above = subst (λ n. is_some (slice_get ss n) ≡ true) f.3 (there_below ss f.1.parent (suc f.0) (omega (arith, under)) is);
      }

  -- no space stands where an object does
  pub not_both : (n k : ℕ) (s : SpaceRec) (r : Rec) (m : ℕ) → slice_get ss n ≡ Some s → rec_in s.objects k ≡ Some r → is_some (slice_get ss (suc m)) ≡ true
      → k ∷ space_path ss n ≡ space_path ss (suc m) → ⊥
  unfolding picture
  not_both n k s r m here at is e = by r (sym (ap (option_map kind_of) (object_at ss tree n k s r here at)) ∙ ap (there c) e ∙ space_there (suc m) is)
    where
      by : (r : Rec) → Some (kind_of (pictured_body ss r)) ≡ Some kinds.Space → ⊥
      by (Mutex locked) e = cc
      by Cond e = cc
      by Portset e = cc
      by (Mapping first count offset write to) e = cc
      by (Region first count write to) e = cc
      by (Port set) e = cc
      by (Thread t) e = cc
      by (Reference to) e = cc
