-- What stands in a subtree that its rooms list: the root, spaces, and items.
use Rattle.std.proofs.Common.{◌≡◌, ℕ, Bool, true, false, cond, ◌||◌, ◌⊎◌, inl, inr, List, [], ◌∷◌, Option, Some, None, option_map, refl, sym, ap, ◌∙◌}
use Rattle.fk_model.specs.Places.{Path, same_path, Ptr}
use Rattle.fk_model.specs.Objects.{Body}
use Rattle.fk_model.specs.Objects.Body.{Space}
use Rattle.fk_model.specs.World.{World}
use Rattle.fk_model.proofs.walks.PlaceLaws.{same_path_eq}
use Rattle.laws_restore.specs.Restore.Rooms.{Item, Room}
use Rattle.laws_restore.specs.Restore.Stages.{Mask, is_among, bound, leading}
use Rattle.laws_restore.specs.Restore.Roomed.{IsAble, AreItems, with_items, AreRooms, all_made, IsNewSpace, with_space, AreSpaces, with_spaces, IsRoomed}

-- an item of some room
pub record IsItem (bind : ℕ → ℕ) (c : World) (y : Path) : Type 0 where
  pub slot : ℕ
  pub space : Path
  pub is : y ≡ slot ∷ space
  pub body : Body
  pub able : IsAble bind c space slot body

either_among : (y x : Path) (xs : List Path) → is_among y (x ∷ xs) ≡ true → (y ≡ x) ⊎ (is_among y xs ≡ true)
either_among y x xs h = by (same_path y x) refl h
  where
    by : (t : Bool) → same_path y x ≡ t → (t || is_among y xs) ≡ true → (y ≡ x) ⊎ (is_among y xs ≡ true)
    by true e h = inl (same_path_eq y x e)
    by false e h = inr h

module _ (bind : ℕ → ℕ) (c : World) where
  items_are : (q : Path) (is : List Item) (made done : List Path) (y : Path) → AreItems bind c q is made → is_among y (with_items q is done) ≡ true
      → (is_among y done ≡ true) ⊎ IsItem bind c y
  items_are q [] made done y its h = inl h
  items_are q (i ∷ is) made done y its h = by (items_are q is ((i.slot ∷ q) ∷ made) ((i.slot ∷ q) ∷ done) y its.2 h)
    where
      here : (y ≡ i.slot ∷ q) ⊎ (is_among y done ≡ true) → (is_among y done ≡ true) ⊎ IsItem bind c y
      here (inl e) = inr (record { slot = i.slot; space = q; is = e; body = i.body; able = its.0 })
      here (inr e) = inl e

      by : (is_among y ((i.slot ∷ q) ∷ done) ≡ true) ⊎ IsItem bind c y → (is_among y done ≡ true) ⊎ IsItem bind c y
      by (inl e) = here (either_among y (i.slot ∷ q) done e)
      by (inr item) = inr item

  pub rooms_are : (rooms : List Room) (made done : List Path) (given : List (Path × ℕ)) (y : Path) → AreRooms bind c rooms made given
      → is_among y (all_made rooms done) ≡ true → (is_among y done ≡ true) ⊎ IsItem bind c y
  rooms_are [] made done given y its h = inl h
  rooms_are (r ∷ rs) made done given y its h = by (rooms_are rs (with_items r.path r.items made) (with_items r.path r.items done) _ y its.1 h)
    where
      by : (is_among y (with_items r.path r.items done) ≡ true) ⊎ IsItem bind c y → (is_among y done ≡ true) ⊎ IsItem bind c y
      by (inl e) = items_are r.path r.items made done y its.0.items e
      by (inr item) = inr item

  -- a space among those that rooms list
  pub record IsSpace (y : Path) : Type 0 where
    pub holder : Option Ptr
    pub is : c.body y ≡ Some (Space 0 holder)

  pub spaces_are : (rooms : List Room) (made : List Path) (y : Path) → AreSpaces c rooms made → is_among y (with_spaces rooms made) ≡ true
      → (is_among y made ≡ true) ⊎ IsSpace y
  spaces_are [] made y its h = inl h
  spaces_are (r ∷ rs) made y its h = by (spaces_are rs (with_space r.path made) y its.1 h)
    where
      here : (path : Path) → IsNewSpace c path r.holder made → is_among y (with_space path made) ≡ true → (is_among y made ≡ true) ⊎ IsSpace y
      here [] new e = inl e
      here (k ∷ q) new e = at (either_among y (k ∷ q) made e)
        where
          at : (y ≡ k ∷ q) ⊎ (is_among y made ≡ true) → (is_among y made ≡ true) ⊎ IsSpace y
          at (inl same) = inr (record { holder = r.holder; is = rw same new.0 })
          at (inr e) = inl e

      by : (is_among y (with_space r.path made) ≡ true) ⊎ IsSpace y → (is_among y made ≡ true) ⊎ IsSpace y
      by (inl e) = here r.path its.0 e
      by (inr space) = inr space

  -- ---- what no room lists as an item is a space

  mono : (rooms : List Room) (small big : List Path) (y : Path) → (is_among y small ≡ true → is_among y big ≡ true) → is_among y (all_made rooms small) ≡ true
      → is_among y (all_made rooms big) ≡ true
  mono [] small big y sub h = sub h
  mono (r ∷ rs) small big y sub h = mono rs (with_items r.path r.items small) (with_items r.path r.items big) y (with_mono r.path r.items small big sub) h
    where
      add : (x : Path) (small big : List Path) → (is_among y small ≡ true → is_among y big ≡ true) → is_among y (x ∷ small) ≡ true → is_among y (x ∷ big) ≡ true
      add x small big sub h = by (same_path y x) h
        where
          by : (t : Bool) → (t || is_among y small) ≡ true → (t || is_among y big) ≡ true
          by true h = refl
          by false h = sub h

      with_mono : (q : Path) (is : List Item) (small big : List Path) → (is_among y small ≡ true → is_among y big ≡ true)
          → is_among y (with_items q is small) ≡ true → is_among y (with_items q is big) ≡ true
      with_mono q [] small big sub = sub
      with_mono q (i ∷ is) small big sub = with_mono q is ((i.slot ∷ q) ∷ small) ((i.slot ∷ q) ∷ big) (add (i.slot ∷ q) small big sub)

  pub others_are_spaces : (rooms : List Room) → IsRoomed bind c rooms → (y : Path) (b : Body) → c.body y ≡ Some b → is_among y (all_made rooms []) ≡ false
      → IsSpace y
  others_are_spaces rooms its [] b e off = record { holder = None; is = its.root }
  others_are_spaces rooms its (k ∷ q) b e off = by (is_among (k ∷ q) (all_made rooms (with_spaces rooms []))) refl
    where
      -- it is among the items, or among the spaces
      either : (rs : List Room) (made : List Path) → is_among (k ∷ q) (all_made rs made) ≡ true
          → (is_among (k ∷ q) (all_made rs []) ≡ true) ⊎ (is_among (k ∷ q) made ≡ true)
      either rs made h = from (is_among (k ∷ q) made) refl
        where
          from : (t : Bool) → is_among (k ∷ q) made ≡ t → (is_among (k ∷ q) (all_made rs []) ≡ true) ⊎ (is_among (k ∷ q) made ≡ true)
          from true f = inr f
          from false f = inl (mono rs made [] (k ∷ q) (λ g. let both = sym f ∙ g in cc) h)

      space : (is_among (k ∷ q) [] ≡ true) ⊎ IsSpace (k ∷ q) → IsSpace (k ∷ q)
      space (inl h) = cc
      space (inr s) = s

      found : (is_among (k ∷ q) (all_made rooms []) ≡ true) ⊎ (is_among (k ∷ q) (with_spaces rooms []) ≡ true) → IsSpace (k ∷ q)
      found (inl h) = let both = sym off ∙ h in cc
      found (inr h) = space (spaces_are rooms [] (k ∷ q) its.spaces h)

      by : (t : Bool) → is_among (k ∷ q) (all_made rooms (with_spaces rooms [])) ≡ t → IsSpace (k ∷ q)
      by true h = found (either rooms (with_spaces rooms []) h)
      by false h = let none = its.whole k q h in let both = sym none ∙ e in cc

  -- ---- a pass is done

  pub pass_done : (rooms : List Room) → IsRoomed bind c rooms → (new old : Mask) → new.holder ≡ old.holder
      → leading bind c new old (all_made rooms []) ≡ leading bind c new new []
  pass_done rooms its new old same = λ i. record { body = λ y. by y (c.body y) refl i; page = c.page; next = 0 }
    where
      space_same : (y : Path) (holder : Option Ptr) → bound bind old y (Space 0 holder) ≡ bound bind new y (Space 0 holder)
      space_same y holder = rw (sym same) refl

      either : (y : Path) (b : Body) → c.body y ≡ Some b → (t : Bool) → is_among y (all_made rooms []) ≡ t
          → cond t (bound bind new y b) (bound bind old y b) ≡ bound bind new y b
      either y b e true h = refl
      either y b e false h =
          let space = others_are_spaces rooms its y b e h in
          let is : b ≡ Space 0 space.holder = let both = sym e ∙ space.is in cc in
          rw is (space_same y space.holder)

      by : (y : Path) (o : Option Body) → c.body y ≡ o
          → option_map (λ b. cond (is_among y (all_made rooms [])) (bound bind new y b) (bound bind old y b)) o ≡ option_map (bound bind new y) o
      by y None e = refl
      by y (Some b) e = ap Some (either y b e (is_among y (all_made rooms [])) refl)
