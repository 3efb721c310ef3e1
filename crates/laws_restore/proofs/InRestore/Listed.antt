-- What stands in a new space where a port was missing, as a list without doubles: what the rooms list, the pin, and the space itself.
use Rattle.std.proofs.Common.{◌≡◌, ℕ, zero, suc, ◌+◌, Bool, true, false, cond, ◌||◌, is_some, List, [], ◌∷◌, ◌++◌, length, Option, Some, None, option_map, ◌⊎◌}
use Rattle.std.proofs.Common.{inl, inr, refl, sym, ap, arith, ◌∙◌}
use Rattle.fk_model.specs.declared.limits.TheConstants.{FIRST_SCRATCH_SLOT}
use Rattle.fk_model.specs.Places.{Path, same_path}
use Rattle.fk_model.specs.Objects.{Body, kind_of}
use Rattle.fk_model.specs.World.{World}
use Rattle.fk_model.specs.Cut.{seen_by, unheld}
use Rattle.fk_model.proofs.walks.PlaceLaws.{same_path_eq, same_path_cancel}
use Rattle.laws_subtrees.specs.Cut.Likeness.{seeing}
use Rattle.laws_restore.specs.Sites.Orders.{Spot, Site, SpotShows, Shows, eye, pin_of}
use Rattle.laws_restore.specs.Sites.Orders.Pin.{NoPin}
use Rattle.laws_restore.proofs.InSites.Others.{holding}
use Rattle.laws_restore.proofs.InSites.Standing.{root_there}
use Rattle.laws_restore.proofs.InSites.Pinned.{pinned}
use Rattle.laws_restore.specs.Restore.Rooms.{Item, Room}
use Rattle.laws_restore.specs.Restore.Fits.{there}
use Rattle.laws_restore.specs.Restore.Stages.{is_among}
use Rattle.laws_restore.specs.Restore.Roomed.{AreItems, with_items, AreRooms, all_made, IsNewSpace, with_space, AreSpaces, with_spaces, IsRoomed}
use Rattle.laws_restore.specs.Restore.Restore.{beneath, objects}
use Rattle.laws_restore.proofs.InRestore.Standing.{IsItem, IsSpace, rooms_are, spaces_are}
use Rattle.laws_restore.proofs.InRestore.Whole.{unscratched}
use Rattle.laws_restore.proofs.InRestore.Emptying.{AreApart, IsEmptied}

-- ---- how many

abbrev items_in : List Room → ℕ
items_in [] = zero
items_in (r ∷ rs) = length r.items + items_in rs

abbrev spaces_in : List Room → ℕ
spaces_in [] = zero
spaces_in (r ∷ rs) = beneath r.path + spaces_in rs

items_length : (q : Path) (is : List Item) (done : List Path) → length (with_items q is done) ≡ length is + length done
items_length q [] done = omega arith
items_length q (i ∷ is) done = let rest = items_length q is ((i.slot ∷ q) ∷ done) in omega (arith, rest)

made_length : (rooms : List Room) (done : List Path) → length (all_made rooms done) ≡ items_in rooms + length done
made_length [] done = omega arith
made_length (r ∷ rs) done = let rest = made_length rs (with_items r.path r.items done) in
    let here = items_length r.path r.items done in omega (arith, rest, here)

space_length : (q : Path) (made : List Path) → length (with_space q made) ≡ beneath q + length made
space_length [] made = omega arith
space_length (k ∷ q) made = omega arith

spaces_length : (rooms : List Room) (made : List Path) → length (with_spaces rooms made) ≡ spaces_in rooms + length made
spaces_length [] made = omega arith
spaces_length (r ∷ rs) made = let rest = spaces_length rs (with_space r.path made) in let here = space_length r.path made in omega (arith, rest, here)

both_in : (rooms : List Room) → objects rooms ≡ spaces_in rooms + items_in rooms
both_in [] = refl
both_in (r ∷ rs) = let rest = both_in rs in omega (arith, rest)

-- ---- none twice, and not the space itself

no_root_items : (q : Path) (is : List Item) (done : List Path) → is_among [] done ≡ false → is_among [] (with_items q is done) ≡ false
unfolding same_path
no_root_items q [] done h = h
no_root_items q (i ∷ is) done h = no_root_items q is ((i.slot ∷ q) ∷ done) h

no_root : (rooms : List Room) (done : List Path) → is_among [] done ≡ false → is_among [] (all_made rooms done) ≡ false
no_root [] done h = h
no_root (r ∷ rs) done h = no_root rs (with_items r.path r.items done) (no_root_items r.path r.items done h)

no_root_space : (q : Path) (made : List Path) → is_among [] made ≡ false → is_among [] (with_space q made) ≡ false
unfolding same_path
no_root_space [] made h = h
no_root_space (k ∷ q) made h = h

no_root_spaces : (rooms : List Room) (made : List Path) → is_among [] made ≡ false → is_among [] (with_spaces rooms made) ≡ false
no_root_spaces [] made h = h
no_root_spaces (r ∷ rs) made h = no_root_spaces rs (with_space r.path made) (no_root_space r.path made h)

module _ (bind : ℕ → ℕ) (c : World) where
  items_apart : (q : Path) (is : List Item) (done : List Path) → AreItems bind c q is done → AreApart done → AreApart (with_items q is done)
  unfolding AreApart
  items_apart q [] done its apart = apart
  items_apart q (i ∷ is) done its apart = items_apart q is ((i.slot ∷ q) ∷ done) its.2 (its.1, apart)

  rooms_apart : (rooms : List Room) (done : List Path) (given : List (Path × ℕ)) → AreRooms bind c rooms done given → AreApart done
      → AreApart (all_made rooms done)
  rooms_apart [] done given its apart = apart
  rooms_apart (r ∷ rs) done given its apart = rooms_apart rs (with_items r.path r.items done) _ its.1 (items_apart r.path r.items done its.0.items apart)

  spaces_apart : (rooms : List Room) (made : List Path) → AreSpaces c rooms made → AreApart made → AreApart (with_spaces rooms made)
  unfolding AreApart
  spaces_apart [] made its apart = apart
  spaces_apart (r ∷ rs) made its apart = spaces_apart rs (with_space r.path made) its.1 (by r.path its.0)
    where
      by : (path : Path) → IsNewSpace c path r.holder made → AreApart (with_space path made)
      by [] new = apart
      by (k ∷ q) new = (new.5, apart)

  module _ (rooms : List Room) (its : IsRoomed bind c rooms) where
    abbrev pub made : List Path
    made = all_made rooms (with_spaces rooms [])

    -- with the pin and the space itself
    abbrev pub all_standing : List Path
    all_standing = (FIRST_SCRATCH_SLOT ∷ []) ∷ ([] ∷ made)

    pub standing_length : length all_standing ≡ suc (suc (objects rooms))
    standing_length =
        let one = made_length rooms (with_spaces rooms []) in
        let two = spaces_length rooms [] in
        let sum = both_in rooms in
        omega (arith, one, two, sum)

    pub made_there : (k : ℕ) (q : Path) → is_some (c.body (k ∷ q)) ≡ is_among (k ∷ q) made
    made_there k q = by (is_among (k ∷ q) made) refl
      where
        space : (is_among (k ∷ q) [] ≡ true) ⊎ IsSpace bind c (k ∷ q) → is_some (c.body (k ∷ q)) ≡ true
        space (inl h) = cc
        space (inr s) = ap is_some s.is

        found : (is_among (k ∷ q) (with_spaces rooms []) ≡ true) ⊎ IsItem bind c (k ∷ q) → is_some (c.body (k ∷ q)) ≡ true
        found (inl h) = space (spaces_are bind c rooms [] (k ∷ q) its.spaces h)
        found (inr item) = ap (λ (y : Path). is_some (c.body y)) item.is ∙ ap is_some item.able.there

        by : (t : Bool) → is_among (k ∷ q) made ≡ t → is_some (c.body (k ∷ q)) ≡ t
        by false h = ap is_some (its.whole k q h)
        by true h = found (rooms_are bind c rooms (with_spaces rooms []) (with_spaces rooms []) [] (k ∷ q) its.filled h)

    pub standing_apart : AreApart all_standing
    unfolding AreApart same_path
    standing_apart = (
      sym (made_there FIRST_SCRATCH_SLOT []) ∙ ap is_some (unscratched bind c rooms its 0 FIRST_SCRATCH_SLOT [] refl),
      (
        no_root rooms (with_spaces rooms []) (no_root_spaces rooms [] refl),
        rooms_apart rooms (with_spaces rooms []) [] its.filled (spaces_apart rooms [] its.spaces tt),
      ),
    )

    -- a site with all of that, a pin and no scratch else
    pub emptied_from : (nester : Path) (slot : ℕ) (g : Site) (v : World) → Shows nester slot g v → ((y : Path) → there g.built y ≡ there c y)
        → (g.pin ≡ NoPin → ⊥) → ((k : ℕ) → g.spot k ≡ None) →
        IsEmptied nester slot v all_standing
    unfolding same_path
    emptied_from nester slot g v shows stands pin spots = record {
      holding = holding nester slot g v shows;
      apart = standing_apart;
      listed = listed;
      scratch = λ k is. none_there k (g.spot k) (spots k) (shows.spots k is);
    }
      where
        none_there : (k : ℕ) (o : Option Spot) → o ≡ None → SpotShows nester slot v g.pin k o → v.body (k ∷ nester) ≡ None
        none_there k None e h = h
        none_there k (Some spot) e h = cc

        by_kinds : (a b : Option Body) → option_map kind_of a ≡ option_map kind_of b → is_some a ≡ is_some b
        by_kinds None None h = refl
        by_kinds (Some a) (Some b) h = refl
        by_kinds None (Some b) h = cc
        by_kinds (Some a) None h = cc

        mapped : (f : Body → Body) (a b : Option Body) → a ≡ option_map f b → is_some b ≡ is_some a
        mapped f a None e = rw e refl
        mapped f a (Some b) e = rw e refl

        inner : (k : ℕ) (q : Path) (t : Bool) → same_path (k ∷ (q ++ slot ∷ nester)) (pin_of (slot ∷ nester)) ≡ t
            → same_path (k ∷ q) (FIRST_SCRATCH_SLOT ∷ []) ≡ t →
            g.built.body (k ∷ q) ≡ option_map (λ b. unheld (k ∷ q) (seen_by (seeing (eye nester slot)) b)) (cond t None (v.body (k ∷ (q ++ slot ∷ nester)))) →
            is_some (v.body (k ∷ (q ++ slot ∷ nester))) ≡ (t || is_among (k ∷ q) made)
        inner k q true e f like =
            let here : k ∷ (q ++ slot ∷ nester) ≡ pin_of (slot ∷ nester) = same_path_eq (k ∷ (q ++ slot ∷ nester)) (pin_of (slot ∷ nester)) e in
            ap (λ (y : Path). is_some (v.body y)) here ∙ ap is_some (pinned nester slot g v shows pin).is
        inner k q false e f like =
            mapped (λ b. unheld (k ∷ q) (seen_by (seeing (eye nester slot)) b)) (g.built.body (k ∷ q)) (v.body (k ∷ (q ++ slot ∷ nester))) like
            ∙ by_kinds (g.built.body (k ∷ q)) (c.body (k ∷ q)) (stands (k ∷ q)) ∙ made_there k q

        listed : (q : Path) → is_some (v.body (q ++ slot ∷ nester)) ≡ is_among q all_standing
        listed [] = ap is_some (root_there nester slot g v shows).is
        listed (k ∷ q) = both (same_path (k ∷ (q ++ slot ∷ nester)) (pin_of (slot ∷ nester))) refl
          where
            whether : same_path (k ∷ (q ++ slot ∷ nester)) (pin_of (slot ∷ nester)) ≡ same_path (k ∷ q) (FIRST_SCRATCH_SLOT ∷ [])
            whether = same_path_cancel (k ∷ q) (FIRST_SCRATCH_SLOT ∷ []) (slot ∷ nester)

            both : (t : Bool) → same_path (k ∷ (q ++ slot ∷ nester)) (pin_of (slot ∷ nester)) ≡ t
                → is_some (v.body (k ∷ (q ++ slot ∷ nester))) ≡ is_among (k ∷ q) all_standing
            both t e =
                let f : same_path (k ∷ q) (FIRST_SCRATCH_SLOT ∷ []) ≡ t = sym whether ∙ e in
                let like = shows.like.bodies (k ∷ q) in
                inner k q t e f (rw (sym e) like) ∙ rw (sym f) refl
