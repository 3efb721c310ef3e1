-- The passes, one after the other, are the script of the image's rooms.
use Rattle.std.proofs.Common.{◌≡◌, ℕ, zero, suc, ◌+◌, ◌-◌, Bool, true, false, cond, not, ◌||◌, List, [], ◌∷◌, ◌++◌, map, drop, length, Some, is_some}
use Rattle.std.proofs.Common.{refl, sym, ap, subst, ◌∙◌, arith, ne_eqb}
use Rattle.std.specs.Prelude.{slice_get}
use Rattle.std.specs.List.{list_any, flat_map}
use Rattle.std.proofs.lemmas.Bool.{and_parts}
use Rattle.std.proofs.lemmas.List.{append-nil}
use Rattle.std.proofs.lemmas.List.Concat.{flat_map-cons}
use Rattle.fk_model.specs.declared.names.Kind.TheVariants as kinds
use Rattle.fk_model.specs.Places.{Path}
use Rattle.fk_model.specs.Objects.{kind_of}
use Rattle.fk_model.specs.Records.{record_of}
use Rattle.fk_image.specs.declared.image.image.Link.{Link}
use Rattle.fk_image.specs.declared.image.image.Link.TheVariants.{Null, Dead, In, Out, Root, Outside}
use Rattle.fk_image.specs.declared.image.image.ObjectRec.{ObjectRec}
use Rattle.fk_image.specs.declared.image.image.PageRec.{PageRec}
use Rattle.fk_image.specs.declared.image.image.SpaceRec.{SpaceRec}
use Rattle.fk_image.specs.declared.image.image.Image.{Image}
use Rattle.fk_image.specs.Image.Links.{spaces_lead, all_lead}
use Rattle.fk_image.specs.Image.Picture.{path_within, space_path, pictured_holder}
use Rattle.fk_image.specs.Image.Valid.{fits_spaces, is_valid}
use Rattle.laws_restore.specs.Sites.Orders.{Order}
use Rattle.laws_restore.specs.Sites.Orders.Order.{Makes, Sets, Gives, Pins, Takes, Checks, LeadsTop, Holds as HoldsOrder}
use Rattle.laws_restore.specs.Restore.Rooms.{Item, Sheet, Room as RoomOf}
use Rattle.laws_restore.specs.Restore.Script.{P, T, padded, goes_to, leads_to_at, through_rooms, after_rooms, makes_space, makes_spaces, stands_at}
use Rattle.laws_restore.specs.Restore.Script.{after_spaces, fills, points_body, leads_in, leads_out, leads_body_out, leads_out_by, leads_outs, after_outs}
use Rattle.laws_restore.specs.Restore.Script.{ties_body, ties_inside, holds_space, holds_spaces, stands_held, has, each, any_room, opens, closes, script}
use Rattle.laws_pictures.specs.Tree.{IsTree, IsFull}
use Rattle.laws_pictures.proofs.Numbers.{is_there, there_below, path_up}
use Rattle.laws_pictures.proofs.Trees.{valid_is_tree}
use Rattle.laws_restore.specs.Rooms.Rooms.{item_of, sheet_of, room_of, rooms_from}
use Rattle.laws_restore.proofs.InRooms.Beneath.{IsNested, fits_nested}
use Rattle.fk_restore.specs.declared.positions.position.Pass.{Pass, Pass as passes}
use Rattle.fk_restore.specs.Positions.Walks.{walk_rest, goes, leads}
use Rattle.fk_restore.specs.Positions.Passes.{visits, site, leads_within, path_of, items_from, makes_object, sets_object, before, behind, pass_from, pass_end}
use Rattle.fk_restore.specs.Positions.Positions.{from_holds, from_ties, from_outward, from_inward, from_fills, rest, first}
use Rattle.fk_restore.specs.Positions.Laws.{PositionsAreThePlaces, ScriptFromTheFirst}
use Rattle.fk_restore.proofs.InPositions.Walked.{some_of, goes_is, leads_is, root_is}
use Rattle.fk_restore.proofs.InPositions.Parted.{IsLinked}
use Rattle.fk_restore.proofs.InPositions.Linked.{linked_at, holder_at}
use Rattle.fk_restore.proofs.InPositions.Placed.{assoc, position_law}

flat_mapped : {A B : Type 0} (f : B → List Order) (g : A → B) (xs : List A) → flat_map f (map g xs) ≡ flat_map (λ x. f (g x)) xs
flat_mapped f g [] = refl
flat_mapped f g (x ∷ xs) = flat_map-cons f (g x) (map g xs) ∙ ap (λ (os : List Order). f (g x) ++ os) (flat_mapped f g xs)
    ∙ sym (flat_map-cons (λ x. f (g x)) x xs)

module _ (ss : List SpaceRec) (tree : IsTree ss) (nested : IsNested ss)
    (holders : (n : ℕ) (s : SpaceRec) → slice_get ss n ≡ Some s → IsLinked ss s.holder) (slot : ℕ) (bind : ℕ → ℕ) where
  abbrev Is : ℕ → Type 0
  Is n = is_some (slice_get ss n) ≡ true

  abbrev path : ℕ → Path
  path n = space_path ss n

  abbrev Agrees : List SpaceRec → ℕ → Type 0
  Agrees xs n = (j : ℕ) → slice_get xs j ≡ slice_get ss (n + j)

  here_of : (s : SpaceRec) (xs : List SpaceRec) (n : ℕ) → Agrees (s ∷ xs) n → slice_get ss n ≡ Some s
  here_of s xs n agree = let same : n + 0 ≡ n = omega arith in ap (slice_get ss) (sym same) ∙ sym (agree 0)

  rest_of : (s : SpaceRec) (xs : List SpaceRec) (n : ℕ) → Agrees (s ∷ xs) n → Agrees xs (suc n)
  rest_of s xs n agree j = let next : n + suc j ≡ suc n + j = omega arith in agree (suc j) ∙ ap (slice_get ss) next

  -- what a pass gives and where it leaves P
  record Same (pass : Pass) (a n : ℕ) (xs : List SpaceRec) (os : List Order) (end : Path) : Type 0 where
    pub orders : os ≡ pass_from ss slot bind pass a n xs
    pub ends : end ≡ path (pass_end ss pass a n xs)
    pub stands : Is (pass_end ss pass a n xs)

  -- ---- passes that go through rooms

  module _ (pass : Pass) (test : RoomOf → Bool) (orders : RoomOf → List Order) (same_test : (n : ℕ) (s : SpaceRec) → visits ss pass n s ≡ test (room_of ss n s))
      (same_site : (n : ℕ) (s : SpaceRec) → site pass n s ≡ n)
      (same_orders : (n : ℕ) (s : SpaceRec) → orders (room_of ss n s) ≡ items_from ss slot bind n s pass 0) where
    through_same : (xs : List SpaceRec) (a n : ℕ) → Agrees xs n → Is a
        → Same pass a n xs (through_rooms slot test orders (path a) (rooms_from ss n xs)) (after_rooms test (path a) (rooms_from ss n xs))
    unfolding through_rooms
    through_same [] a n agree ia = record { orders = refl; ends = refl; stands = ia }
    through_same (s ∷ xs) a n agree ia =
        let here = here_of s xs n agree in
        let is = is_there (slice_get ss n) s here in
        let next : suc n ≡ n + 1 = omega arith in
        let now : (b : ℕ) → Is b → Same pass b (suc n) xs (through_rooms slot test orders (path b) (rooms_from ss (n + 1) xs))
        (after_rooms test (path b) (rooms_from ss (n + 1) xs)) =
        λ b ib. subst (λ m. Same pass b (suc n) xs (through_rooms slot test orders (path b) (rooms_from ss m xs))
        (after_rooms test (path b) (rooms_from ss m xs))) next (through_same xs b (suc n) (rest_of s xs n agree) ib) in
        by (test (room_of ss n s)) (same_test n s) (now a ia) (now n is) (goes_is ss tree nested slot a n ia is).0
      where
        by : (t : Bool) → visits ss pass n s ≡ t →
            Same pass a (suc n) xs (through_rooms slot test orders (path a) (rooms_from ss (n + 1) xs)) (after_rooms test (path a) (rooms_from ss (n + 1) xs)) →
            Same pass n (suc n) xs (through_rooms slot test orders (path n) (rooms_from ss (n + 1) xs)) (after_rooms test (path n) (rooms_from ss (n + 1) xs)) →
            goes_to slot (path a) (path n) ≡ walk_rest ss (goes ss slot a n) →
            Same pass a n (s ∷ xs)
            (cond t (goes_to slot (path a) (path n) ++ (orders (room_of ss n s) ++ through_rooms slot test orders (path n) (rooms_from ss (n + 1) xs)))
            (through_rooms slot test orders (path a) (rooms_from ss (n + 1) xs)))
            (cond t (after_rooms test (path n) (rooms_from ss (n + 1) xs)) (after_rooms test (path a) (rooms_from ss (n + 1) xs)))
        by true e stay go walk = record {
          orders = (λ i. walk i ++ (same_orders n s i ++ go.orders i))
              ∙ ap (λ m. walk_rest ss (goes ss slot a m) ++ (items_from ss slot bind n s pass 0 ++ pass_from ss slot bind pass m (suc n) xs))
              (sym (same_site n s))
              ∙ ap (λ t. cond t (walk_rest ss (goes ss slot a (site pass n s))
              ++ (items_from ss slot bind n s pass 0 ++ pass_from ss slot bind pass (site pass n s) (suc n) xs))
              (pass_from ss slot bind pass a (suc n) xs)) (sym e);
          ends = go.ends ∙ ap (λ m. path (pass_end ss pass m (suc n) xs)) (sym (same_site n s))
              ∙ ap (λ t. path (cond t (pass_end ss pass (site pass n s) (suc n) xs) (pass_end ss pass a (suc n) xs))) (sym e);
          stands = ap (λ t. is_some (slice_get ss (cond t (pass_end ss pass (site pass n s) (suc n) xs) (pass_end ss pass a (suc n) xs)))) e
              ∙ ap (λ m. is_some (slice_get ss (pass_end ss pass m (suc n) xs))) (same_site n s) ∙ go.stands;
        }
        by false e stay go walk = record {
          orders = stay.orders ∙ ap (λ t. cond t (walk_rest ss (goes ss slot a (site pass n s))
              ++ (items_from ss slot bind n s pass 0 ++ pass_from ss slot bind pass (site pass n s) (suc n) xs)) (pass_from ss slot bind pass a (suc n) xs))
              (sym e);
          ends = stay.ends ∙ ap (λ t. path (cond t (pass_end ss pass (site pass n s) (suc n) xs) (pass_end ss pass a (suc n) xs))) (sym e);
          stands = ap (λ t. is_some (slice_get ss (cond t (pass_end ss pass (site pass n s) (suc n) xs) (pass_end ss pass a (suc n) xs)))) e ∙ stay.stands;
        }

  fills_items : (n : ℕ) (s : SpaceRec) → fills (room_of ss n s) ≡ items_from ss slot bind n s passes.Fills 0
  fills_items n s = (λ i.
      flat_mapped (λ (item : Item). Makes P (path n) item.slot (kind_of item.body) ∷ []) (item_of ss) s.objects i
      ++ (flat_mapped (λ (item : Item). Sets P (path n) item.slot (padded (record_of item.body)) ∷ []) (item_of ss) s.objects i
      ++ flat_mapped (λ (sheet : Sheet). Gives P (path n) sheet.number sheet.words ∷ []) sheet_of s.pages i))
      ∙ from_none (0 - length s.objects) (0 - (length s.objects + length s.objects)) (omega arith) (omega arith)
    where
      from_none : (b c : ℕ) → 0 ≡ b → 0 ≡ c →
          flat_map (λ (o : ObjectRec). makes_object ss slot bind n s o ∷ []) s.objects
          ++ (flat_map (λ (o : ObjectRec). sets_object ss slot bind n s o ∷ []) (drop 0 s.objects)
          ++ flat_map (λ (p : PageRec). Gives P (path n) p.page p.words ∷ []) (drop 0 s.pages))
          ≡ flat_map (λ (o : ObjectRec). makes_object ss slot bind n s o ∷ []) s.objects
          ++ (flat_map (λ (o : ObjectRec). sets_object ss slot bind n s o ∷ []) (drop b s.objects)
          ++ flat_map (λ (p : PageRec). Gives P (path n) p.page p.words ∷ []) (drop c s.pages))
      from_none b c e f = λ i.
          flat_map (λ (o : ObjectRec). makes_object ss slot bind n s o ∷ []) s.objects
          ++ (flat_map (λ (o : ObjectRec). sets_object ss slot bind n s o ∷ []) (drop (e i) s.objects)
          ++ flat_map (λ (p : PageRec). Gives P (path n) p.page p.words ∷ []) (drop (f i) s.pages))

  whole_agrees : Agrees ss 0
  whole_agrees j = let same : j ≡ 0 + j = omega arith in ap (slice_get ss) same

  abbrev rooms : List RoomOf
  rooms = rooms_from ss 0 ss

  fills_same : (a : ℕ) → Is a → Same passes.Fills a 0 ss (through_rooms slot any_room fills (path a) rooms) (after_rooms any_room (path a) rooms)
  fills_same a ia = through_same passes.Fills any_room fills (λ n s. refl) (λ n s. refl) fills_items ss a 0 whole_agrees ia

  inward_same : (a : ℕ) → Is a → Same passes.Inward a 0 ss (through_rooms slot (has leads_in) (each (points_body slot)) (path a) rooms)
      (after_rooms (has leads_in) (path a) rooms)
  inward_same a ia = through_same passes.Inward (has leads_in) (each (points_body slot)) (λ n s. refl) (λ n s. refl) (λ n s. refl) ss a 0 whole_agrees ia

  outward_same : (i a : ℕ) → Is a → Same (passes.Outward i) a 0 ss (through_rooms slot (has (leads_out i)) (each (leads_body_out i bind)) (path a) rooms)
      (after_rooms (has (leads_out i)) (path a) rooms)
  outward_same i a ia = through_same (passes.Outward i) (has (leads_out i)) (each (leads_body_out i bind)) (λ n s. refl) (λ n s. refl)
      (λ n s. refl) ss a 0 whole_agrees ia

  ties_same : (a : ℕ) → Is a → Same passes.Ties a 0 ss (through_rooms slot (has ties_inside) (each (ties_body slot)) (path a) rooms)
      (after_rooms (has ties_inside) (path a) rooms)
  ties_same a ia = through_same passes.Ties (has ties_inside) (each (ties_body slot)) (λ n s. refl) (λ n s. refl) (λ n s. refl) ss a 0 whole_agrees ia

  -- ---- spaces

  spaces_same : (xs : List SpaceRec) (a n : ℕ) → Agrees xs (suc n) → Is a
      → Same passes.Spaces a (suc n) xs (makes_spaces slot (path a) (rooms_from ss (suc n) xs)) (after_spaces (path a) (rooms_from ss (suc n) xs))
  unfolding makes_spaces
  spaces_same [] a n agree ia = record { orders = refl; ends = refl; stands = ia }
  spaces_same (s ∷ xs) a n agree ia =
      let here = here_of s xs (suc n) agree in
      let is = is_there (slice_get ss (suc n)) s here in
      let low = tree.low n s here in
      let above = there_below ss s.parent (suc n) (omega (arith, low)) is in
      let next : suc (suc n) ≡ suc n + 1 = omega arith in
      let r = subst (λ m. Same passes.Spaces s.parent (suc (suc n)) xs (makes_spaces slot (path s.parent) (rooms_from ss m xs))
      (after_spaces (path s.parent) (rooms_from ss m xs))) next (spaces_same xs s.parent (suc n) (rest_of s xs (suc n) agree) above) in
      let up = path_up ss tree n s here in
      let walk = (goes_is ss tree nested slot a s.parent ia above).0 in
      let off = ne_eqb (suc n) 0 (λ e. omega (arith, e)) in
      record {
        orders =
            ap (λ y. makes_space slot (path a) y ++ makes_spaces slot (stands_at (path a) y) (rooms_from ss (suc n + 1) xs)) up
            ∙ (λ i. (walk i ++ Makes P (path s.parent) s.slot kinds.Space ∷ []) ++ r.orders i)
            ∙ assoc (walk_rest ss (goes ss slot a s.parent)) (Makes P (path s.parent) s.slot kinds.Space ∷ [])
            (pass_from ss slot bind passes.Spaces s.parent (suc (suc n)) xs)
            ∙ ap (λ t. cond (not t) (walk_rest ss (goes ss slot a s.parent)
            ++ ((Makes P (path s.parent) s.slot kinds.Space ∷ []) ++ pass_from ss slot bind passes.Spaces s.parent (suc (suc n)) xs))
            (pass_from ss slot bind passes.Spaces a (suc (suc n)) xs)) (sym off);
        ends = ap (λ y. after_spaces (stands_at (path a) y) (rooms_from ss (suc n + 1) xs)) up ∙ r.ends
            ∙ ap (λ t. path (cond (not t) (pass_end ss passes.Spaces s.parent (suc (suc n)) xs) (pass_end ss passes.Spaces a (suc (suc n)) xs))) (sym off);
        stands = ap (λ t. is_some (slice_get ss (cond (not t) (pass_end ss passes.Spaces s.parent (suc (suc n)) xs)
            (pass_end ss passes.Spaces a (suc (suc n)) xs)))) off ∙ r.stands;
      }

  -- ---- holders

  held_is : (n a : ℕ) (s : SpaceRec) (k : ℕ) (q : Path) → Is a → Is s.parent → q ≡ path s.parent → IsLinked ss s.holder → (t : Bool)
      → leads_within s.holder ≡ t →
      (holds_space slot (path a) (k ∷ q) (pictured_holder ss s.holder)
      ≡ cond t (walk_rest ss (goes ss slot a s.parent)
      ++ (walk_rest ss (leads ss slot T s.parent s.holder) ++ HoldsOrder P (path s.parent) k T (path_of ss slot bind n s s.holder) ∷ [])) [])
      × (stands_held (path a) (k ∷ q) (pictured_holder ss s.holder) ≡ path (cond t s.parent a))
  held_is n a s k q ia above same linked t e = by s.holder linked t e
    where
      walk : goes_to slot (path a) (path s.parent) ≡ walk_rest ss (goes ss slot a s.parent)
      walk = (goes_is ss tree nested slot a s.parent ia above).0

      by : (to : Link) → IsLinked ss to → (t : Bool) → leads_within to ≡ t →
          (holds_space slot (path a) (k ∷ q) (pictured_holder ss to)
          ≡ cond t (walk_rest ss (goes ss slot a s.parent)
          ++ (walk_rest ss (leads ss slot T s.parent to) ++ HoldsOrder P (path s.parent) k T (path_of ss slot bind n s to) ∷ [])) [])
          × (stands_held (path a) (k ∷ q) (pictured_holder ss to) ≡ path (cond t s.parent a))
      by (In j m) ib true e = (
        ap (λ y. goes_to slot (path a) y ++ (leads_to_at slot T y (j ∷ path m) ++ HoldsOrder P y k T (j ∷ path m) ∷ [])) same
            ∙ (λ i. walk i ++ ((leads_is ss tree nested slot T s.parent j m above ib).0 i ++ HoldsOrder P (path s.parent) k T (j ∷ path m) ∷ [])),
        same,
      )
      by Root ib true e = (
        ap (λ y. goes_to slot (path a) y ++ (leads_to_at slot T y [] ++ HoldsOrder P y k T [] ∷ [])) same
            ∙ (λ i. walk i ++ (root_is ss tree nested slot T s.parent i ++ HoldsOrder P (path s.parent) k T [] ∷ [])),
        same,
      )
      by Null ib false e = (refl, refl)
      by Dead ib false e = (refl, refl)
      by (Out j) ib false e = (refl, refl)
      by Outside ib false e = (refl, refl)
      by (In j m) ib false e = absurd cc
      by Root ib false e = absurd cc
      by Null ib true e = absurd cc
      by Dead ib true e = absurd cc
      by (Out j) ib true e = absurd cc
      by Outside ib true e = absurd cc

  holds_same : (xs : List SpaceRec) (a n : ℕ) → Agrees xs (suc n) → Is a
      → holds_spaces slot (path a) (rooms_from ss (suc n) xs) ≡ pass_from ss slot bind passes.Holds a (suc n) xs
  unfolding holds_spaces
  holds_same [] a n agree ia = refl
  holds_same (s ∷ xs) a n agree ia =
      let here = here_of s xs (suc n) agree in
      let is = is_there (slice_get ss (suc n)) s here in
      let low = tree.low n s here in
      let above = there_below ss s.parent (suc n) (omega (arith, low)) is in
      let next : suc (suc n) ≡ suc n + 1 = omega arith in
      let off = ne_eqb (suc n) 0 (λ e. omega (arith, e)) in
      let go : (b : ℕ) → Is b → holds_spaces slot (path b) (rooms_from ss (suc n + 1) xs) ≡ pass_from ss slot bind passes.Holds b (suc (suc n)) xs =
      λ b ib. ap (λ m. holds_spaces slot (path b) (rooms_from ss m xs)) (sym next) ∙ holds_same xs b (suc n) (rest_of s xs (suc n) agree) ib in
      let held = held_is (suc n) a s s.slot (path s.parent) ia above refl (holders (suc n) s here) (leads_within s.holder) refl in
      ap (λ y. holds_space slot (path a) y (pictured_holder ss s.holder)
      ++ holds_spaces slot (stands_held (path a) y (pictured_holder ss s.holder)) (rooms_from ss (suc n + 1) xs)) (path_up ss tree n s here)
      ∙ (λ i. held.0 i ++ holds_spaces slot (held.1 i) (rooms_from ss (suc n + 1) xs))
      ∙ by (leads_within s.holder) (go a ia) (go s.parent above)
      ∙ ap (λ t. cond (cond t false (leads_within s.holder)) (walk_rest ss (goes ss slot a s.parent)
      ++ (items_from ss slot bind (suc n) s passes.Holds 0 ++ pass_from ss slot bind passes.Holds s.parent (suc (suc n)) xs))
      (pass_from ss slot bind passes.Holds a (suc (suc n)) xs)) (sym off)
    where
      held_order : Order
      held_order = HoldsOrder P (path s.parent) s.slot T (path_of ss slot bind (suc n) s s.holder)

      by : (t : Bool) → holds_spaces slot (path a) (rooms_from ss (suc n + 1) xs) ≡ pass_from ss slot bind passes.Holds a (suc (suc n)) xs →
          holds_spaces slot (path s.parent) (rooms_from ss (suc n + 1) xs) ≡ pass_from ss slot bind passes.Holds s.parent (suc (suc n)) xs →
          cond t (walk_rest ss (goes ss slot a s.parent) ++ (walk_rest ss (leads ss slot T s.parent s.holder) ++ held_order ∷ [])) []
          ++ holds_spaces slot (path (cond t s.parent a)) (rooms_from ss (suc n + 1) xs)
          ≡ cond t (walk_rest ss (goes ss slot a s.parent)
          ++ (cond t (walk_rest ss (leads ss slot T s.parent s.holder) ++ held_order ∷ []) []
          ++ pass_from ss slot bind passes.Holds s.parent (suc (suc n)) xs)) (pass_from ss slot bind passes.Holds a (suc (suc n)) xs)
      by true stay go =
          assoc (walk_rest ss (goes ss slot a s.parent)) (walk_rest ss (leads ss slot T s.parent s.holder) ++ held_order ∷ [])
          (holds_spaces slot (path s.parent) (rooms_from ss (suc n + 1) xs))
          ∙ ap (λ (os : List Order). walk_rest ss (goes ss slot a s.parent) ++ ((walk_rest ss (leads ss slot T s.parent s.holder) ++ held_order ∷ []) ++ os)) go
      by false stay go = stay

  -- ---- slots of the nester, one after the other

  -- where nothing leads out there, no room is visited
  none_visited : (test : RoomOf → Bool) (orders : RoomOf → List Order) (rs : List RoomOf) (p : Path) → list_any test rs ≡ false
      → (through_rooms slot test orders p rs ≡ []) × (after_rooms test p rs ≡ p)
  unfolding through_rooms
  none_visited test orders [] p e = (refl, refl)
  none_visited test orders (r ∷ rs) p e = by (test r) e (λ h. none_visited test orders rs p h)
    where
      by : (t : Bool) → (t || list_any test rs) ≡ false
          → (list_any test rs ≡ false → (through_rooms slot test orders p rs ≡ []) × (after_rooms test p rs ≡ p)) →
          (cond t (goes_to slot p r.path ++ (orders r ++ through_rooms slot test orders r.path rs)) (through_rooms slot test orders p rs) ≡ [])
          × (cond t (after_rooms test r.path rs) (after_rooms test p rs) ≡ p)
      by true e rest = absurd cc
      by false e rest = rest e

  outward_one : (i a : ℕ) → Is a → (tail : List Order)
      → leads_out_by slot bind rooms (path a) i ++ tail ≡ before ss slot bind (passes.Outward i)
      ++ (pass_from ss slot bind (passes.Outward i) a 0 ss ++ (behind ss (passes.Outward i) ++ tail))
  outward_one i a ia tail = by (list_any (has (leads_out i)) rooms) refl
    where
      through : List Order
      through = through_rooms slot (has (leads_out i)) (each (leads_body_out i bind)) (path a) rooms

      same : through ≡ pass_from ss slot bind (passes.Outward i) a 0 ss
      same = (outward_same i a ia).orders

      opening : List Order
      opening = Pins (bind i) ∷ Takes T ∷ Checks T (bind i) ∷ []

      by : (t : Bool) → list_any (has (leads_out i)) rooms ≡ t →
          cond t (opening ++ (through ++ LeadsTop T ∷ [])) [] ++ tail ≡ cond t opening []
          ++ (pass_from ss slot bind (passes.Outward i) a 0 ss ++ (cond t (LeadsTop T ∷ []) [] ++ tail))
      by true e = ap (λ (os : List Order). opening ++ os) (assoc through (LeadsTop T ∷ []) tail ∙ ap (λ (os : List Order). os ++ (LeadsTop T ∷ tail)) same)
      by false e = ap (λ (os : List Order). os ++ tail) (sym ((none_visited (has (leads_out i)) (each (leads_body_out i bind)) rooms (path a) e).0) ∙ same)

  outs_same : (n i a : ℕ) → Is a → (tail : Path → List Order) → ((b : ℕ) → Is b → tail (path b) ≡ from_ties ss slot bind b) →
      leads_outs slot bind rooms (path a) n i ++ tail (after_outs rooms (path a) n i) ≡ from_outward ss slot bind n i a
  unfolding leads_outs
  outs_same zero i a ia tail same = same a ia
  outs_same (suc n) i a ia tail same =
      let s = outward_same i a ia in
      assoc (leads_out_by slot bind rooms (path a) i) (leads_outs slot bind rooms (after_rooms (has (leads_out i)) (path a) rooms) n (suc i))
      (tail (after_outs rooms (after_rooms (has (leads_out i)) (path a) rooms) n (suc i)))
      ∙ ap (λ y. leads_out_by slot bind rooms (path a) i ++ (leads_outs slot bind rooms y n (suc i) ++ tail (after_outs rooms y n (suc i)))) s.ends
      ∙ ap (λ (os : List Order). leads_out_by slot bind rooms (path a) i ++ os) (outs_same n (suc i) (pass_end ss (passes.Outward i) a 0 ss) s.stands tail same)
      ∙ outward_one i a ia (from_outward ss slot bind n (suc i) (pass_end ss (passes.Outward i) a 0 ss))

  -- ---- the first space is made already, and has no holder

  first_spaces : (xs : List SpaceRec) → ss ≡ xs → Same passes.Spaces 0 0 ss (makes_spaces slot [] (rooms_from ss 0 xs)) (after_spaces [] (rooms_from ss 0 xs))
  unfolding makes_spaces path_within
  first_spaces [] e = record {
    orders = ap (pass_from ss slot bind passes.Spaces 0 0) (sym e);
    ends = ap (λ xs. path (pass_end ss passes.Spaces 0 0 xs)) (sym e);
    stands = ap (λ xs. is_some (slice_get ss (pass_end ss passes.Spaces 0 0 xs))) e
        ∙ tree.top;
  }
  first_spaces (s ∷ xs) e =
      let r = spaces_same xs 0 0 (λ j. shift j ∙ ap (λ ys. slice_get ys (1 + j)) (sym e)) tree.top in
      record {
        orders = r.orders ∙ ap (pass_from ss slot bind passes.Spaces 0 0) (sym e);
        ends = r.ends ∙ ap (λ xs. path (pass_end ss passes.Spaces 0 0 xs)) (sym e);
        stands = ap (λ xs. is_some (slice_get ss (pass_end ss passes.Spaces 0 0 xs))) e ∙ r.stands;
      }
    where
      shift : (j : ℕ) → slice_get xs j ≡ slice_get (s ∷ xs) (1 + j)
      shift j = let next : suc j ≡ 1 + j = omega arith in ap (slice_get (s ∷ xs)) next

  first_holds : (a : ℕ) → Is a → (xs : List SpaceRec) → ss ≡ xs → holds_spaces slot (path a) (rooms_from ss 0 xs) ≡ pass_from ss slot bind passes.Holds a 0 xs
  unfolding holds_spaces path_within
  first_holds a ia [] e = refl
  first_holds a ia (s ∷ xs) e = holds_same xs a 0 (λ j. shift j ∙ ap (λ ys. slice_get ys (1 + j)) (sym e)) ia
    where
      shift : (j : ℕ) → slice_get xs j ≡ slice_get (s ∷ xs) (1 + j)
      shift j = let next : suc j ≡ 1 + j = omega arith in ap (slice_get (s ∷ xs)) next

  -- ---- all of it

  abbrev tail_holds : Path → List Order
  tail_holds p = holds_spaces slot p rooms ++ closes

  abbrev tail_ties : Path → List Order
  tail_ties p = through_rooms slot (has ties_inside) (each (ties_body slot)) p rooms ++ tail_holds (after_rooms (has ties_inside) p rooms)

  abbrev tail_outs : Path → List Order
  tail_outs p = leads_outs slot bind rooms p 240 0 ++ tail_ties (after_outs rooms p 240 0)

  abbrev tail_inward : Path → List Order
  tail_inward p = through_rooms slot (has leads_in) (each (points_body slot)) p rooms ++ tail_outs (after_rooms (has leads_in) p rooms)

  abbrev tail_fills : Path → List Order
  tail_fills p = through_rooms slot any_room fills p rooms ++ tail_inward (after_rooms any_room p rooms)

  holds_are : (a : ℕ) → Is a → tail_holds (path a) ≡ from_holds ss slot bind a
  holds_are a ia = (λ i. first_holds a ia ss refl i ++ append-nil closes i) ∙ refl

  ties_are : (a : ℕ) → Is a → tail_ties (path a) ≡ from_ties ss slot bind a
  ties_are a ia = let s = ties_same a ia in (λ i. s.orders i ++ tail_holds (s.ends i))
      ∙ ap (λ (os : List Order). pass_from ss slot bind passes.Ties a 0 ss ++ os) (holds_are (pass_end ss passes.Ties a 0 ss) s.stands)

  outs_are : (a : ℕ) → Is a → tail_outs (path a) ≡ from_outward ss slot bind 240 0 a
  outs_are a ia = outs_same 240 0 a ia tail_ties ties_are

  inward_are : (a : ℕ) → Is a → tail_inward (path a) ≡ from_inward ss slot bind a
  inward_are a ia = let s = inward_same a ia in (λ i. s.orders i ++ tail_outs (s.ends i))
      ∙ ap (λ (os : List Order). pass_from ss slot bind passes.Inward a 0 ss ++ os) (outs_are (pass_end ss passes.Inward a 0 ss) s.stands)

  fills_are : (a : ℕ) → Is a → tail_fills (path a) ≡ from_fills ss slot bind a
  fills_are a ia = let s = fills_same a ia in (λ i. s.orders i ++ tail_inward (s.ends i))
      ∙ ap (λ (os : List Order). pass_from ss slot bind passes.Fills a 0 ss ++ os) (inward_are (pass_end ss passes.Fills a 0 ss) s.stands)

  pub script_is : rest ss slot bind first ≡ script slot bind rooms
  unfolding script
  script_is =
      let s = first_spaces ss refl in
      sym (ap (λ (os : List Order). opens slot ++ os) ((λ i. s.orders i ++ tail_fills (s.ends i))
      ∙ ap (λ (os : List Order). pass_from ss slot bind passes.Spaces 0 0 ss ++ os) (fills_are (pass_end ss passes.Spaces 0 0 ss) s.stands)))

-- ---- for a valid image

record Parts (i : Image) : Type 0 where
  pub tree : IsTree i.spaces
  pub full : IsFull i.spaces
  pub nested : IsNested i.spaces
  pub lead : spaces_lead i.spaces 0 i.spaces ≡ true

parts_of : (i : Image) → is_valid i ≡ true → Parts i
unfolding is_valid
parts_of i valid =
    let good = valid_is_tree i valid in
    let both = and_parts (fits_spaces i.spaces) (all_lead i.spaces) valid in
    record { tree = good.0; full = good.1; nested = fits_nested i.spaces both.0; lead = (and_parts (spaces_lead i.spaces 0 i.spaces) _ both.1).0 }

pub positions_are_the_places : PositionsAreThePlaces
positions_are_the_places i slot bind p valid good =
    let q = parts_of i valid in
    position_law i.spaces q.tree q.nested (linked_at i q.tree q.full q.lead) (holder_at i q.tree q.full q.lead) slot bind p good

pub script_from_the_first : ScriptFromTheFirst
script_from_the_first i slot bind valid =
    let q = parts_of i valid in (
      script_is i.spaces q.tree q.nested (holder_at i q.tree q.full q.lead) slot bind,
      record { walk = tt; pass = tt; spot = tt; stands = some_of (slice_get i.spaces 0) q.tree.top },
    )
