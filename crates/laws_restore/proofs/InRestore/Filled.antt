-- The first passes: every space is made, and then room by room what stands in it.
use Rattle.std.proofs.Common.{◌≡◌, ℕ, Bool, true, false, ◌∷◌, ◌++◌, List, [], Some, None, refl, ap, subst, ◌∙◌}
use Rattle.std.specs.List.{flat_map}
use Rattle.std.proofs.lemmas.Bool.{lt-ltb}
use Rattle.fk_model.specs.declared.limits.TheConstants.{PAGES}
use Rattle.fk_model.specs.declared.names.Kind.TheVariants as kinds
use Rattle.fk_model.specs.Places.{Path}
use Rattle.fk_model.specs.Objects.{kind_of}
use Rattle.fk_model.specs.Objects.Body.{Space}
use Rattle.fk_model.proofs.walks.PlaceLaws.{same_path_refl}
use Rattle.fk_model.specs.World.{World, apply}
use Rattle.fk_model.specs.World.Change.{PutPage}
use Rattle.fk_model.specs.Records.{record_of}
use Rattle.laws_jobs.specs.Calls.{fresh}
use Rattle.laws_restore.specs.Sites.Orders.{Site, Order, after_set}
use Rattle.laws_restore.specs.Sites.Orders.Order.{Makes, Sets, Gives}
use Rattle.laws_restore.specs.Restore.Fits.{there}
use Rattle.laws_restore.specs.Restore.Rooms.{Item, Sheet, Room}
use Rattle.laws_restore.specs.Restore.Script.{P, padded, goes_to, makes_space, makes_spaces, stands_at, after_spaces, through_rooms, after_rooms, fills}
use Rattle.laws_restore.specs.Restore.Stages.{blank, is_among, building}
use Rattle.laws_restore.specs.Restore.Roomed.{AreItems, AreSheets, with_items, with_sheets, AreMade, IsNewSpace, with_space, AreSpaces, with_spaces, IsRoom}
use Rattle.laws_restore.specs.Restore.Roomed.{AreRooms}
use Rattle.laws_restore.specs.Restore.Roomed.{all_made, all_given}
use Rattle.laws_restore.proofs.InRestore.Leaving.{Leaves, leaves_on, leaves_none, leaves_goes, place_of, ordered}
use Rattle.laws_restore.proofs.InRestore.Lists.{IsSub, sub_both, sub_out, sub_with, in_with, still_among, still_made, assoc}
use Rattle.laws_restore.proofs.InRestore.Building.{made_there, made_way, among_kind, fresh_made, blank_there, record_made, page_made, takes_same}

module _ (c : World) (root : c.body [] ≡ Some (Space 0 None)) (slot : ℕ) (Safe : ℕ → Site → Type 0) where
  -- ---- spaces

  space_made : (p : Path) (k : ℕ) (q : Path) (holder : _) (made : List Path) → IsNewSpace c (k ∷ q) holder made →
      Leaves slot Safe (building c made [] []) p None (building c ((k ∷ q) ∷ made) [] []) q None (makes_space slot p (k ∷ q))
  space_made p k q holder made its =
      let here = building c made [] [] in
      let space : there here q ≡ Some kinds.Space = made_there c root made [] [] q its.4 ∙ its.2 in
      let way = made_way c root made [] [] q its.4 its.3 in
      let empty : here.body (k ∷ q) ≡ None = rw its.5 refl in
      leaves_on slot Safe here p None here q None (building c ((k ∷ q) ∷ made) [] []) q None (goes_to slot p q) (Makes P q k kinds.Space ∷ [])
      (leaves_goes slot Safe here p q None way)
      (λ g good. ordered slot Safe here _ q None g (Makes P q k kinds.Space) (apply (fresh (k ∷ q) kinds.Space) g.built) good refl refl
      (ap (apply (fresh (k ∷ q) kinds.Space)) good.built ∙ fresh_made c made [] [] k q (Space 0 holder) its.0 refl)
      (record { place = place_of slot Safe here q None g good space; low = its.1; empty = rw good.built empty }) tt)

  pub spaces_made : (rooms : List Room) (p : Path) (made : List Path) → AreSpaces c rooms made →
      Leaves slot Safe (building c made [] []) p None (building c (with_spaces rooms made) [] []) (after_spaces p rooms) None (makes_spaces slot p rooms)
  unfolding makes_spaces
  spaces_made [] p made its = leaves_none slot Safe _ _ p None refl
  spaces_made (r ∷ rs) p made its =
      leaves_on slot Safe (building c made [] []) p None (building c (with_space r.path made) [] []) (stands_at p r.path) None
      (building c (with_spaces rs (with_space r.path made)) [] []) (after_spaces (stands_at p r.path) rs) None
      (makes_space slot p r.path) (makes_spaces slot (stands_at p r.path) rs) (by r.path its.0)
      (spaces_made rs (stands_at p r.path) (with_space r.path made) its.1)
    where
      by : (path : Path) → IsNewSpace c path r.holder made
          → Leaves slot Safe (building c made [] []) p None (building c (with_space path made) [] []) (stands_at p path) None (makes_space slot p path)
      by [] new = leaves_none slot Safe _ _ p None refl
      by (k ∷ q) new = space_made p k q r.holder made new

  -- ---- the items of a room

  module _ (q : Path) (space : there c q ≡ Some kinds.Space) where
    items_made : (bind : ℕ → ℕ) (is : List Item) (made done : List Path) (given : List (Path × ℕ)) → IsSub done made → AreMade q made
        → AreItems bind c q is made →
        Leaves slot Safe (building c made done given) q None (building c (with_items q is made) done given) q None
        (flat_map (λ (i : Item). Makes P q i.slot (kind_of i.body) ∷ []) is)
    items_made bind [] made done given sub above its = leaves_none slot Safe _ _ q None refl
    items_made bind (i ∷ is) made done given sub above its =
        let here = building c made done given in
        let y = i.slot ∷ q in
        let empty : here.body y ≡ None = rw its.1 refl in
        let there_q : there here q ≡ Some kinds.Space = made_there c root made done given q above ∙ space in
        leaves_on slot Safe here q None (building c (y ∷ made) done given) q None (building c (with_items q is (y ∷ made)) done given) q None
        (Makes P q i.slot (kind_of i.body) ∷ []) _
        (λ g good. ordered slot Safe here _ q None g (Makes P q i.slot (kind_of i.body)) (apply (fresh y (kind_of i.body)) g.built) good refl refl
        (ap (apply (fresh y (kind_of i.body))) good.built ∙ fresh_made c made done given i.slot q i.body its.0.there (sub_out y done made sub its.1))
        (record { place = place_of slot Safe here q None g good there_q; low = its.0.low; empty = rw good.built empty }) tt)
        (items_made bind is (y ∷ made) done given (λ z h. still_among z y made (sub z h)) (still_made q y made above) its.2)

    -- each of them is among what is made, and has no record yet
    abbrev AreReady : List Item → List Path → List Path → Type 0
    AreReady [] made done = Unit {0}
    AreReady (i ∷ is) made done = (is_among (i.slot ∷ q) made ≡ true) × (is_among (i.slot ∷ q) done ≡ false) × AreReady is made ((i.slot ∷ q) ∷ done)

    items_set : (bind : ℕ → ℕ) (is : List Item) (made done start : List Path) (given : List (Path × ℕ))
        → ((k : ℕ) → there (building c made done given) (k ∷ q) ≡ there c (k ∷ q)) →
        ((done : List Path) (k : ℕ) → there (building c made done given) (k ∷ q) ≡ there c (k ∷ q)) →
        AreMade q made → AreItems bind c q is start → AreReady is made done →
        Leaves slot Safe (building c made done given) q None (building c made (with_items q is done) given) q None
        (flat_map (λ (i : Item). Sets P q i.slot (padded (record_of i.body)) ∷ []) is)
    items_set bind [] made done start given same kinds_same above its ready = leaves_none slot Safe _ _ q None refl
    items_set bind (i ∷ is) made done start given same kinds_same above its ready =
        let here = building c made done given in
        let y = i.slot ∷ q in
        let words = padded (record_of i.body) in
        let there_q : there here q ≡ Some kinds.Space = made_there c root made done given q above ∙ space in
        let blank_here = blank_there c made done given i.slot q i.body its.0.there ready.0 ready.1 in
        let takes = takes_same here c q same (blank i.body) words ∙ its.0.takes in
        leaves_on slot Safe here q None (building c made (y ∷ done) given) q None (building c made (with_items q is (y ∷ done)) given) q None
        (Sets P q i.slot words ∷ []) _
        (λ g good. ordered slot Safe here _ q None g (Sets P q i.slot words) _ good refl refl
        (ap (λ (w : World). after_set y words (w.body y) w) good.built
        ∙ record_made c made done given i.slot q i.body its.0.there ready.0 ready.1 words its.0.says)
        (record {
          place = place_of slot Safe here q None g good there_q;
          low = its.0.low;
          object = blank i.body;
          there = rw good.built blank_here;
          takes = rw good.built takes;
        }) its.0.given)
        (items_set bind is made (y ∷ done) (y ∷ start) given (kinds_same (y ∷ done)) kinds_same above its.2 ready.2)

    sheets_given : (ss : List Sheet) (made done : List Path) (given : List (Path × ℕ)) → AreMade q made → AreSheets c q ss given →
        Leaves slot Safe (building c made done given) q None (building c made done (with_sheets q ss given)) q None
        (flat_map (λ (s : Sheet). Gives P q s.number s.words ∷ []) ss)
    sheets_given [] made done given above its = leaves_none slot Safe _ _ q None refl
    sheets_given (s ∷ ss) made done given above its =
        let here = building c made done given in
        let there_q : there here q ≡ Some kinds.Space = made_there c root made done given q above ∙ space in
        let empty : here.page q s.number ≡ None = rw its.0.3 refl in
        leaves_on slot Safe here q None (building c made done ((q, s.number) ∷ given)) q None
        (building c made done (with_sheets q ss ((q, s.number) ∷ given))) q None (Gives P q s.number s.words ∷ []) _
        (λ g good. ordered slot Safe here _ q None g (Gives P q s.number s.words) (apply (PutPage q s.number s.words) g.built) good refl refl
        (ap (apply (PutPage q s.number s.words)) good.built ∙ page_made c made done given q s.number s.words its.0.0)
        (record {
          place = place_of slot Safe here q None g good there_q;
          fits = lt-ltb s.number PAGES its.0.1;
          empty = rw good.built empty;
          full = its.0.2;
        }) its.0.4)
        (sheets_given ss made done ((q, s.number) ∷ given) above its.1)

    ready : (bind : ℕ → ℕ) (is : List Item) (big made done : List Path) → AreItems bind c q is made → IsSub done made → IsSub (with_items q is made) big
        → AreReady is big done
    ready bind [] big made done its sub all = tt
    ready bind (i ∷ is) big made done its sub all =
        let y = i.slot ∷ q in (
          all y (in_with q is y (y ∷ made) (here y made)),
          sub_out y done made sub its.1,
          ready bind is big (y ∷ made) (y ∷ done) its.2 (sub_both y done made sub) all,
        )
      where
        here : (y : Path) (xs : List Path) → is_among y (y ∷ xs) ≡ true
        here y xs = rw (same_path_refl y) refl

  -- ---- a room, and all of them

  made_on : (q : Path) (is : List Item) (x : Path) (made : List Path) → AreMade x made → AreMade x (with_items q is made)
  made_on q [] x made above = above
  made_on q (i ∷ is) x made above = made_on q is x ((i.slot ∷ q) ∷ made) (still_made x (i.slot ∷ q) made above)

  room_filled : (bind : ℕ → ℕ) (r : Room) (p : Path) (made done : List Path) (given : List (Path × ℕ)) → IsSub done made → IsRoom bind c r made given →
      Leaves slot Safe (building c made done given) p None
      (building c (with_items r.path r.items made) (with_items r.path r.items done) (with_sheets r.path r.sheets given)) r.path None
      (goes_to slot p r.path ++ fills r)
  room_filled bind r p made done given sub its =
      let q = r.path in
      let all = with_items q r.items made in
      let above = made_on q r.items q made its.above in
      let same : (done : List Path) (k : ℕ) → there (building c all done given) (k ∷ q) ≡ there c (k ∷ q) = λ done k. kinds_same all done given q k its.whole in
      let a = building c made done given in
      let b = building c all done given in
      let d = building c all (with_items q r.items done) given in
      let e = building c all (with_items q r.items done) (with_sheets q r.sheets given) in
      leaves_on slot Safe a p None a q None e q None (goes_to slot p q) (fills r)
      (leaves_goes slot Safe a p q None (made_way c root made done given q its.above its.way))
      (leaves_on slot Safe a q None b q None e q None _ _ (items_made q its.space bind r.items made done given sub its.above its.items)
      (leaves_on slot Safe b q None d q None e q None _ _
      (items_set q its.space bind r.items all done made given (same done) same above its.items
      (ready q its.space bind r.items all made done its.items sub (λ y h. h)))
      (sheets_given q its.space r.sheets all (with_items q r.items done) given above its.sheets)))
    where
      kinds_same : (all done : List Path) (given : List (Path × ℕ)) (q : Path) (k : ℕ) → ((k : ℕ) → is_among (k ∷ q) all ≡ false → c.body (k ∷ q) ≡ None)
          → there (building c all done given) (k ∷ q) ≡ there c (k ∷ q)
      kinds_same all done given q k whole = by (is_among (k ∷ q) all) refl
        where
          by : (t : Bool) → is_among (k ∷ q) all ≡ t → there (building c all done given) (k ∷ q) ≡ there c (k ∷ q)
          by true h = among_kind c root all done given k q h
          by false h = rw (h, whole k h) refl

  pub rooms_filled : (bind : ℕ → ℕ) (rooms : List Room) (p : Path) (made done : List Path) (given : List (Path × ℕ)) → IsSub done made
      → AreRooms bind c rooms made given →
      Leaves slot Safe (building c made done given) p None (building c (all_made rooms made) (all_made rooms done) (all_given rooms given))
      (after_rooms (λ r. true) p rooms) None (through_rooms slot (λ r. true) fills p rooms)
  unfolding through_rooms
  rooms_filled bind [] p made done given sub its = leaves_none slot Safe _ _ p None refl
  rooms_filled bind (r ∷ rs) p made done given sub its =
      let q = r.path in
      let m = with_items q r.items made in
      let d = with_items q r.items done in
      let n = with_sheets q r.sheets given in
      let rest = through_rooms slot (λ r. true) fills q rs in
      leaves_same (goes_to slot p q) (fills r) rest _ p _ (after_rooms (λ r. true) q rs)
      (leaves_on slot Safe (building c made done given) p None (building c m d n) q None (building c (all_made rs m) (all_made rs d) (all_given rs n))
      (after_rooms (λ r. true) q rs) None
      (goes_to slot p q ++ fills r) rest (room_filled bind r p made done given sub its.0)
      (rooms_filled bind rs q m d n (sub_with q r.items done made sub) its.1))
    where
      leaves_same : (os ps rs : List Order) (c : World) (p : Path) (d : World) (q : Path) → Leaves slot Safe c p None d q None ((os ++ ps) ++ rs)
          → Leaves slot Safe c p None d q None (os ++ (ps ++ rs))
      leaves_same os ps rs c p d q it = subst (λ (all : List Order). Leaves slot Safe c p None d q None all) (assoc os ps rs) it
