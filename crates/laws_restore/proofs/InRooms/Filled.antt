-- What stands in each space of a valid image, and that nothing else does.
use Rattle.std.proofs.Common.{◌≡◌, ℕ, zero, suc, ◌+◌, ◌<◌, ◌≤◌, ◌⊎◌, inl, inr, Bool, true, false, cond, not, ltb, ◌&&◌, ◌||◌, ◌==◌, List, [], ◌∷◌, map, length}
use Rattle.std.proofs.Common.{Option, Some, None, is_some, refl, sym, ap, subst, ◌∙◌, arith, eqb-true, ne_eqb, eq-eqb}
use Rattle.std.specs.Prelude.{slice_get}
use Rattle.std.specs.List.{list_all}
use Rattle.std.proofs.lemmas.Bool.{and_parts, and_from, false_from_ne_true, or_left, or_right, ltb-true, ltb-false}
use Rattle.fk_model.specs.Places.{Path, same_path}
use Rattle.fk_model.specs.Objects.{Body, and_then}
use Rattle.fk_model.specs.World.{World}
use Rattle.fk_model.proofs.walks.PlaceLaws.{same_path_refl, same_path_eq}
use Rattle.fk_image.specs.declared.image.image.Rec.{Rec}
use Rattle.fk_image.specs.declared.image.image.ObjectRec.{ObjectRec}
use Rattle.fk_image.specs.declared.image.image.PageRec.{PageRec}
use Rattle.fk_image.specs.declared.image.image.SpaceRec.{SpaceRec}
use Rattle.fk_image.specs.declared.image.image.Image.{Image}
use Rattle.fk_image.specs.Image.Ranges as ranges
use Rattle.fk_image.specs.Image.Links.{may_hold, body_leads, spaces_lead}
use Rattle.fk_image.specs.Image.Picture.{space_path, rec_in, page_in, pictured_body_at, pictured_page_at, space_number, picture}
use Rattle.fk_image.specs.Image.Valid.{all_from, fits_page, after_page, fits_pages}
use Rattle.laws_restore.specs.Restore.Rooms.{Sheet, Room}
use Rattle.laws_restore.specs.Restore.Stages.{is_among, is_given}
use Rattle.laws_restore.specs.Restore.Roomed.{AreItems, AreSheets, with_items, with_sheets, IsRoom, AreRooms, all_made, all_given}
use Rattle.laws_restore.proofs.InRestore.Lists.{in_with}
use Rattle.laws_pictures.specs.Tree.{IsTree, IsFull}
use Rattle.laws_pictures.proofs.Numbers.{is_there, number_of, path_of, item_of, path_up}
use Rattle.laws_pictures.proofs.Bodies.{Rising, rising, Object, Inner, stands, lead_at, rec_all}
use Rattle.laws_restore.specs.Rooms.Rooms.{IsBinding, item_of as item_for, sheet_of, room_of, rooms_from}
use Rattle.laws_restore.proofs.InRooms.Ways.{space_there, way, not_both}
use Rattle.laws_restore.proofs.InRooms.Aims.{object_able}
use Rattle.laws_restore.proofs.InRooms.Spaces.{among_head, among_tail, among_cases, number_same, above_made}

-- ---- pages by rising number

abbrev Sheets : ℕ → List PageRec → Type 0
Sheets floor [] = Unit {0}
Sheets floor (p ∷ ps) = (floor ≤ p.page) × (p.page < 256) × (ranges.are_words 64 p.words ≡ true) × Sheets (p.page + 1) ps

sheets_from : (floor : ℕ) (ps : List PageRec) → all_from after_page fits_page floor ps ≡ true → Sheets floor ps
sheets_from floor [] e = tt
sheets_from floor (p ∷ ps) e =
    let a = and_parts (fits_page floor p) (all_from after_page fits_page (p.page + 1) ps) e in
    let b = and_parts _ _ a.0 in
    let c = and_parts _ _ b.0 in
    (at_least (ltb p.page floor) refl c.1, ltb-true p.page 256 c.0, b.1, sheets_from (p.page + 1) ps a.1)
  where
    at_least : (b : Bool) → ltb p.page floor ≡ b → not b ≡ true → floor ≤ p.page
    at_least true g e = absurd cc
    at_least false g e = ltb-false p.page floor g

sheets : (ps : List PageRec) → fits_pages ps ≡ true → Sheets 0 ps
sheets ps e = sheets_from 0 ps (and_parts _ (all_from after_page fits_page 0 ps) e).1

given_cases : (q : Path) (n : ℕ) (r : Path) (m : ℕ) (given : List (Path × ℕ)) → is_given q n ((r, m) ∷ given) ≡ true
    → ((q ≡ r) × (n ≡ m)) ⊎ (is_given q n given ≡ true)
given_cases q n r m given e = by (same_path q r) refl (n == m) refl e
  where
    by : (a : Bool) → same_path q r ≡ a → (b : Bool) → (n == m) ≡ b → ((a && b) || is_given q n given) ≡ true
        → ((q ≡ r) × (n ≡ m)) ⊎ (is_given q n given ≡ true)
    by true g true h e = inl (same_path_eq q r g, eqb-true n m h)
    by true g false h e = inr e
    by false g b h e = inr e

given_head : (q : Path) (n : ℕ) (given : List (Path × ℕ)) → is_given q n ((q, n) ∷ given) ≡ true
given_head q n given = or_left (same_path q q && n == n) (is_given q n given) (and_from (same_path q q) (n == n) (same_path_refl q) (eq-eqb n n refl))

kept_given : (q : Path) (n : ℕ) (r : Path) (sheets : List Sheet) (given : List (Path × ℕ)) → is_given q n given ≡ true
    → is_given q n (with_sheets r sheets given) ≡ true
kept_given q n r [] given e = e
kept_given q n r (s ∷ sheets) given e = kept_given q n r sheets ((r, s.number) ∷ given) (or_right (same_path q r && n == s.number) (is_given q n given) e)

module _ (i : Image) (tree : IsTree i.spaces) (full : IsFull i.spaces) (lead : spaces_lead i.spaces 0 i.spaces ≡ true) (bind : ℕ → ℕ)
    (low : IsBinding bind) where
  abbrev ss : List SpaceRec
  ss = i.spaces

  abbrev c : World
  c = picture i

  -- a path that came: of a space, or of an object of an earlier space, or of one in a lower slot of the last
  pub data Came (n floor : ℕ) (y : Path) : Type 0 where
    ASpace : (m : ℕ) → is_some (slice_get ss (suc m)) ≡ true → y ≡ space_path ss (suc m) → Came n floor y
    AnObject : (m k : ℕ) (s : SpaceRec) (r : Rec) → slice_get ss m ≡ Some s → rec_in s.objects k ≡ Some r → y ≡ k ∷ space_path ss m
        → (m < n) ⊎ ((m ≡ n) × (k < floor)) → Came n floor y

  pub record Made (n floor : ℕ) (made : List Path) : Type 0 where
    pub came : (y : Path) → is_among y made ≡ true → Came n floor y
    pub spaces : (m : ℕ) → is_some (slice_get ss (suc m)) ≡ true → is_among (space_path ss (suc m)) made ≡ true

  later : (n floor m high : ℕ) (y : Path) → (n < m) ⊎ ((n ≡ m) × (floor ≤ high)) → Came n floor y → Came m high y
  later n floor m high y how (ASpace j is e) = ASpace j is e
  later n floor m high y how (AnObject j k s r here at e before) = AnObject j k s r here at e (by how before)
    where
      by : (n < m) ⊎ ((n ≡ m) × (floor ≤ high)) → (j < n) ⊎ ((j ≡ n) × (k < floor)) → (j < m) ⊎ ((j ≡ m) × (k < high))
      by (inl h) (inl lt) = inl (omega (arith, h, lt))
      by (inl h) (inr g) = let b = g.0 in inl (omega (arith, h, b))
      by (inr h) (inl lt) = let a = h.0 in inl (omega (arith, lt, a))
      by (inr h) (inr g) = let a = h.0 in let b = g.0 in let l = h.1 in let t = g.1 in inr (omega (arith, a, b), omega (arith, l, t))

  record Given (n floor : ℕ) (given : List (Path × ℕ)) : Type 0 where
    pub came : (q : Path) (p : ℕ) → is_given q p given ≡ true
        → (m : ℕ) × (is_some (slice_get ss m) ≡ true) × (q ≡ space_path ss m) × ((m < n) ⊎ ((m ≡ n) × (p < floor)))

  tails : (j k : ℕ) (x y : Path) → j ∷ x ≡ k ∷ y → (j ≡ k) × (x ≡ y)
  tails j k x y e = (cc, cc)

  object_fresh : (n k floor : ℕ) (s : SpaceRec) (r : Rec) (made : List Path) → Made n floor made → floor ≤ k → slice_get ss n ≡ Some s
      → rec_in s.objects k ≡ Some r → is_among (k ∷ space_path ss n) made ≡ false
  object_fresh n k floor s r made st le here at = false_from_ne_true (is_among (k ∷ space_path ss n) made) (λ e. by (st.came (k ∷ space_path ss n) e))
    where
      by : Came n floor (k ∷ space_path ss n) → ⊥
      by (ASpace m is e) = not_both i tree full n k s r m here at is e
      by (AnObject m j t q there found e before) = other before
        where
          both : (k ≡ j) × (space_path ss n ≡ space_path ss m)
          both = tails k j (space_path ss n) (space_path ss m) e

          same : n ≡ m
          same = number_same i tree full n m (is_there (slice_get ss n) s here) (is_there (slice_get ss m) t there) both.1

          other : (m < n) ⊎ ((m ≡ n) × (j < floor)) → ⊥
          other (inl lt) = omega (arith, same, lt)
          other (inr h) = let low = h.1 in let at = both.0 in omega (arith, low, at, le)

  sheet_fresh : (n p floor : ℕ) (given : List (Path × ℕ)) → is_some (slice_get ss n) ≡ true → Given n floor given → floor ≤ p
      → is_given (space_path ss n) p given ≡ false
  sheet_fresh n p floor given is st le = false_from_ne_true (is_given (space_path ss n) p given) (λ e. by (st.came (space_path ss n) p e))
    where
      by : (m : ℕ) × (is_some (slice_get ss m) ≡ true) × (space_path ss n ≡ space_path ss m) × ((m < n) ⊎ ((m ≡ n) × (p < floor))) → ⊥
      by f = other (number_same i tree full n f.0 is f.1 f.2) f.3
        where
          other : n ≡ f.0 → (f.0 < n) ⊎ ((f.0 ≡ n) × (p < floor)) → ⊥
          other same (inl lt) = omega (arith, same, lt)
          other same (inr h) = let low = h.1 in omega (arith, low, le)

  -- ---- the objects and pages of one space

  module _ (n : ℕ) (s : SpaceRec) (here : slice_get ss n ≡ Some s) where
    abbrev q : Path
    q = space_path ss n

    is : is_some (slice_get ss n) ≡ true
    is = is_there (slice_get ss n) s here

    record Items (os : List ObjectRec) (made : List Path) : Type 0 where
      pub able : AreItems bind c q (map (item_for ss) os) made
      pub after : Made (suc n) 0 (with_items q (map (item_for ss) os) made)

    lead_of : (k : ℕ) (r : Rec) → rec_in s.objects k ≡ Some r → body_leads ss s.objects r ≡ true
    lead_of k r at = let all = and_parts (may_hold ss (0 + n) s.holder) _ (lead_at ss 0 ss n s lead here) in
        rec_all (body_leads ss s.objects) s.objects k r all.1 at

    items_of : (os : List ObjectRec) (floor : ℕ) (made : List Path) → Rising floor os → ((k : ℕ) → floor ≤ k → rec_in s.objects k ≡ rec_in os k)
        → Made n floor made → Items os made
    unfolding rec_in
    items_of [] floor made up agree st = record {
      able = tt;
      after = record { came = λ y e. later n floor (suc n) 0 y (inl (omega arith)) (st.came y e); spaces = st.spaces };
    }
    items_of (o ∷ os) floor made up agree st =
        let first = up.0 in
        let at : rec_in s.objects o.slot ≡ Some o.body = agree o.slot first ∙ ap (λ b. cond b (Some o.body) (rec_in os o.slot)) (eq-eqb o.slot o.slot refl) in
        let r = items_of os (o.slot + 1) ((o.slot ∷ q) ∷ made) up.3
        (λ k h. agree k (omega (arith, first, h)) ∙ ap (λ b. cond b (Some o.body) (rec_in os k)) (ne_eqb o.slot k (λ e. omega (arith, h, e))))
        (record {
          came = λ y e. came at first y (among_cases y (o.slot ∷ q) made e);
          spaces = λ m at2. among_tail (space_path ss (suc m)) (o.slot ∷ q) made (st.spaces m at2);
        }) in
        record {
          able = (
            object_able i tree full bind low n o.slot s o.body here at (lead_of o.slot o.body at),
            object_fresh n o.slot floor s o.body made st first here at,
            r.able,
          );
          after = r.after;
        }
      where
        came : rec_in s.objects o.slot ≡ Some o.body → floor ≤ o.slot → (y : Path) → (y ≡ o.slot ∷ q) ⊎ (is_among y made ≡ true) → Came n (o.slot + 1) y
        came at first y (inl e) = AnObject n o.slot s o.body here at e (inr (refl, omega arith))
        came at first y (inr h) = later n floor n (o.slot + 1) y (inr (refl, omega (arith, first))) (st.came y h)

    object_in : (os : List ObjectRec) (k : ℕ) (r : Rec) (made : List Path) → rec_in os k ≡ Some r
        → is_among (k ∷ q) (with_items q (map (item_for ss) os) made) ≡ true
    unfolding rec_in
    object_in [] k r made e = absurd cc
    object_in (o ∷ os) k r made e = by (o.slot == k) refl e (λ h. object_in os k r ((o.slot ∷ q) ∷ made) h)
      where
        by : (b : Bool) → (o.slot == k) ≡ b → cond b (Some o.body) (rec_in os k) ≡ Some r →
            (rec_in os k ≡ Some r → is_among (k ∷ q) (with_items q (map (item_for ss) os) ((o.slot ∷ q) ∷ made)) ≡ true)
            → is_among (k ∷ q) (with_items q (map (item_for ss) os) ((o.slot ∷ q) ∷ made)) ≡ true
        by true p e rest = in_with q (map (item_for ss) os) (k ∷ q) ((o.slot ∷ q) ∷ made)
            (subst (λ j. is_among (k ∷ q) ((j ∷ q) ∷ made) ≡ true) (sym (eqb-true o.slot k p)) (among_head (k ∷ q) made))
        by false p e rest = rest e

    whole_here : (made : List Path) → ((m : ℕ) → is_some (slice_get ss (suc m)) ≡ true → is_among (space_path ss (suc m)) made ≡ true) →
        (k : ℕ) → is_among (k ∷ q) (with_items q (map (item_for ss) s.objects) made) ≡ false → pictured_body_at ss (k ∷ q) ≡ None
    whole_here made spaces k e = by (pictured_body_at ss (k ∷ q)) refl
      where
        clash : true ≡ false → ⊥
        clash e = cc

        one : {a b : SpaceRec} → Some a ≡ Some b → a ≡ b
        one e = cc

        found : (b : Body) → Object ss k q b ⊎ Inner ss k q b → is_among (k ∷ q) (with_items q (map (item_for ss) s.objects) made) ≡ true
        found b (inl o) =
            let same = number_same i tree full o.number n (is_there (slice_get ss o.number) o.space o.here) is o.path in
            let this : o.space ≡ s = one (sym o.here ∙ ap (slice_get ss) same ∙ here) in
            object_in s.objects k o.body made (ap (λ (u : SpaceRec). rec_in u.objects k) (sym this) ∙ o.there)
        found b (inr t) =
            let path : space_path ss (suc t.before) ≡ k ∷ q = path_up ss tree t.before t.space t.here ∙ ap (λ j. j ∷ space_path ss t.space.parent) t.slot
            ∙ ap (λ x. k ∷ x) t.path in
            in_with q (map (item_for ss) s.objects) (k ∷ q) made (ap (λ x. is_among x made) (sym path)
            ∙ spaces t.before (is_there (slice_get ss (suc t.before)) t.space t.here))

        by : (o : Option Body) → pictured_body_at ss (k ∷ q) ≡ o → o ≡ None
        by None at = refl
        by (Some b) at = absurd (clash (sym (found b (stands ss tree k q b at)) ∙ e))

    -- ---- pages

    page_here : (page : ℕ) → pictured_page_at ss q page ≡ page_in s.pages page
    page_here page = ap (and_then (λ m. and_then (λ (s : SpaceRec). page_in s.pages page) (slice_get ss m))) (number_of ss tree n is)
        ∙ ap (and_then (λ (s : SpaceRec). page_in s.pages page)) here

    record Pages (ps : List PageRec) (given : List (Path × ℕ)) : Type 0 where
      pub able : AreSheets c q (map sheet_of ps) given
      pub after : Given (suc n) 0 (with_sheets q (map sheet_of ps) given)

    pages_of : (ps : List PageRec) (floor : ℕ) (given : List (Path × ℕ)) → Sheets floor ps → ((k : ℕ) → floor ≤ k → page_in s.pages k ≡ page_in ps k)
        → Given n floor given → Pages ps given
    unfolding page_in picture
    pages_of [] floor given up agree st = record { able = tt; after = record { came = λ r p e. moved (st.came r p e) } }
      where
        moved : {r : Path} {p : ℕ} → (m : ℕ) × (is_some (slice_get ss m) ≡ true) × (r ≡ space_path ss m) × ((m < n) ⊎ ((m ≡ n) × (p < floor))) →
            (m : ℕ) × (is_some (slice_get ss m) ≡ true) × (r ≡ space_path ss m) × ((m < suc n) ⊎ ((m ≡ suc n) × (p < 0)))
        moved {r = r} {p = p} f = (f.0, f.1, f.2, inl (by f.3))
          where
            by : (f.0 < n) ⊎ ((f.0 ≡ n) × (p < floor)) → f.0 < suc n
            by (inl lt) = omega (arith, lt)
            by (inr h) = let same = h.0 in omega (arith, same)
    pages_of (p ∷ ps) floor given up agree st =
        let first = up.0 in
        let at : page_in s.pages p.page ≡ Some p.words = agree p.page first ∙ ap (λ b. cond b (Some p.words) (page_in ps p.page)) (eq-eqb p.page p.page refl) in
        let words = and_parts (length p.words == 64) (list_all ranges.is_word p.words) up.2 in
        let r = pages_of ps (p.page + 1) ((q, p.page) ∷ given) up.3
        (λ k h. agree k (omega (arith, first, h)) ∙ ap (λ b. cond b (Some p.words) (page_in ps k)) (ne_eqb p.page k (λ e. omega (arith, h, e))))
        (record { came = λ r m e. came first r m (given_cases r m q p.page given e) }) in
        record {
          able = ((page_here p.page ∙ at, up.1, eqb-true (length p.words) 64 words.0, sheet_fresh n p.page floor given is st first, up.2), r.able);
          after = r.after;
        }
      where
        came : floor ≤ p.page → (r : Path) (k : ℕ) → ((r ≡ q) × (k ≡ p.page)) ⊎ (is_given r k given ≡ true) →
            (m : ℕ) × (is_some (slice_get ss m) ≡ true) × (r ≡ space_path ss m) × ((m < n) ⊎ ((m ≡ n) × (k < p.page + 1)))
        came first r k (inl both) = let same = both.1 in (n, is, both.0, inr (refl, omega (arith, same)))
        came first r k (inr h) = let f = st.came r k h in (f.0, f.1, f.2, by f.3)
          where
            by : {m : ℕ} → (m < n) ⊎ ((m ≡ n) × (k < floor)) → (m < n) ⊎ ((m ≡ n) × (k < p.page + 1))
            by (inl lt) = inl lt
            by (inr g) = let lt = g.1 in inr (g.0, omega (arith, lt, first))

    page_in_given : (ps : List PageRec) (k : ℕ) (words : List ℕ) (given : List (Path × ℕ)) → page_in ps k ≡ Some words
        → is_given q k (with_sheets q (map sheet_of ps) given) ≡ true
    unfolding page_in
    page_in_given [] k words given e = absurd cc
    page_in_given (p ∷ ps) k words given e = by (p.page == k) refl e (λ h. page_in_given ps k words ((q, p.page) ∷ given) h)
      where
        by : (b : Bool) → (p.page == k) ≡ b → cond b (Some p.words) (page_in ps k) ≡ Some words →
            (page_in ps k ≡ Some words → is_given q k (with_sheets q (map sheet_of ps) ((q, p.page) ∷ given)) ≡ true)
            → is_given q k (with_sheets q (map sheet_of ps) ((q, p.page) ∷ given)) ≡ true
        by true g e rest = kept_given q k q (map sheet_of ps) ((q, p.page) ∷ given)
            (subst (λ j. is_given q k ((q, j) ∷ given) ≡ true) (sym (eqb-true p.page k g)) (given_head q k given))
        by false g e rest = rest e

    room_is : (made : List Path) (given : List (Path × ℕ)) → Made n 0 made → Items s.objects made → Pages s.pages given
        → IsRoom bind c (room_of ss n s) made given
    unfolding picture
    room_is made given st os ps = record {
      space = space_there i tree full n is;
      way = way i tree full n is;
      above = above_made i tree full n n made (omega arith) is (λ m lt at. st.spaces m at);
      items = os.able;
      whole = whole_here made st.spaces;
      sheets = ps.able;
    }

  -- ---- one space after the other

  rooms_in : (xs : List SpaceRec) (n : ℕ) (made : List Path) (given : List (Path × ℕ)) → ((j : ℕ) → slice_get xs j ≡ slice_get ss (n + j)) → Made n 0 made
      → Given n 0 given → AreRooms bind c (rooms_from ss n xs) made given
  rooms_in [] n made given agree st pages = tt
  rooms_in (s ∷ xs) n made given agree st pages =
      let same : n + 0 ≡ n = omega arith in
      let here : slice_get ss n ≡ Some s = ap (slice_get ss) (sym same) ∙ sym (agree 0) in
      let os = items_of n s here s.objects 0 made (rising s.objects (full.objects n s here)) (λ k h. refl) st in
      let ps = pages_of n s here s.pages 0 given (sheets s.pages (full.pages n s here)) (λ k h. refl) pages in
      let next : suc n ≡ n + 1 = omega arith in (
        room_is n s here made given st os ps,
        subst (λ k. AreRooms bind c (rooms_from ss k xs) (with_items (space_path ss n) (map (item_for ss) s.objects) made)
            (with_sheets (space_path ss n) (map sheet_of s.pages) given)) next
            (rooms_in xs (suc n) _ _ (λ j. agree (suc j) ∙ ap (slice_get ss) (shift j)) os.after ps.after),
      )
    where
      shift : (j : ℕ) → n + suc j ≡ suc n + j
      shift j = omega arith

  pub all_rooms : (made : List Path) → ((y : Path) → is_among y made ≡ true → (m : ℕ) × (is_some (slice_get ss (suc m)) ≡ true) × (y ≡ space_path ss (suc m))) →
      ((m : ℕ) → is_some (slice_get ss (suc m)) ≡ true → is_among (space_path ss (suc m)) made ≡ true) → AreRooms bind c (rooms_from ss 0 ss) made []
  all_rooms made came all =
      rooms_in ss 0 made [] (λ j. ap (slice_get ss) (zeroth j)) (record { came = λ y e. let m = came y e in ASpace m.0 m.1 m.2; spaces = all })
      (record { came = λ q p e. absurd cc })
    where
      zeroth : (j : ℕ) → j ≡ 0 + j
      zeroth j = omega arith

  -- ---- nothing else

  kept_made : (rs : List Room) (y : Path) (made : List Path) → is_among y made ≡ true → is_among y (all_made rs made) ≡ true
  kept_made [] y made e = e
  kept_made (r ∷ rs) y made e = kept_made rs y (with_items r.path r.items made) (in_with r.path r.items y made e)

  object_made : (xs : List SpaceRec) (n j : ℕ) (s : SpaceRec) (k : ℕ) (r : Rec) (made : List Path) → slice_get xs j ≡ Some s → slice_get ss (n + j) ≡ Some s
      → rec_in s.objects k ≡ Some r →
      is_among (k ∷ space_path ss (n + j)) (all_made (rooms_from ss n xs) made) ≡ true
  object_made [] n j s k r made e here at = absurd cc
  object_made (t ∷ xs) n zero s k r made e here at =
      let same : n + 0 ≡ n = omega arith in
      let this : t ≡ s = cc in
      let here2 : slice_get ss n ≡ Some s = ap (slice_get ss) (sym same) ∙ here in
      kept_made (rooms_from ss (n + 1) xs) (k ∷ space_path ss (n + 0)) (with_items (space_path ss n) (map (item_for ss) t.objects) made)
      (subst (λ (u : SpaceRec). is_among (k ∷ space_path ss (n + 0)) (with_items (space_path ss n) (map (item_for ss) u.objects) made) ≡ true) (sym this)
      (subst (λ m. is_among (k ∷ space_path ss m) (with_items (space_path ss n) (map (item_for ss) s.objects) made) ≡ true) (sym same)
      (object_in n s here2 s.objects k r made at)))
  object_made (t ∷ xs) n (suc j) s k r made e here at =
      let next : n + 1 + j ≡ n + suc j = omega arith in
      subst (λ m. is_among (k ∷ space_path ss m) (all_made (rooms_from ss (n + 1) xs) (with_items (space_path ss n) (map (item_for ss) t.objects) made))
      ≡ true) next
      (object_made xs (n + 1) j s k r (with_items (space_path ss n) (map (item_for ss) t.objects) made) e (ap (slice_get ss) next ∙ here) at)

  pub nothing_else : (made : List Path) → ((m : ℕ) → is_some (slice_get ss (suc m)) ≡ true → is_among (space_path ss (suc m)) made ≡ true) →
      (k : ℕ) (q : Path) → is_among (k ∷ q) (all_made (rooms_from ss 0 ss) made) ≡ false → pictured_body_at ss (k ∷ q) ≡ None
  nothing_else made spaces k q e = by (pictured_body_at ss (k ∷ q)) refl
    where
      clash : true ≡ false → ⊥
      clash e = cc

      found : (b : Body) → Object ss k q b ⊎ Inner ss k q b → is_among (k ∷ q) (all_made (rooms_from ss 0 ss) made) ≡ true
      found b (inl o) =
          let zeroth : 0 + o.number ≡ o.number = omega arith in
          ap (λ x. is_among (k ∷ x) (all_made (rooms_from ss 0 ss) made)) (sym o.path ∙ ap (space_path ss) (sym zeroth))
          ∙ object_made ss 0 o.number o.space k o.body made o.here (ap (slice_get ss) zeroth ∙ o.here) o.there
      found b (inr t) =
          let path : space_path ss (suc t.before) ≡ k ∷ q = path_up ss tree t.before t.space t.here ∙ ap (λ j. j ∷ space_path ss t.space.parent) t.slot
          ∙ ap (λ x. k ∷ x) t.path in
          kept_made (rooms_from ss 0 ss) (k ∷ q) made (ap (λ x. is_among x made) (sym path)
          ∙ spaces t.before (is_there (slice_get ss (suc t.before)) t.space t.here))

      by : (o : Option Body) → pictured_body_at ss (k ∷ q) ≡ o → o ≡ None
      by None at = refl
      by (Some b) at = absurd (clash (sym (found b (stands ss tree k q b at)) ∙ e))

  kept_pages : (rs : List Room) (q : Path) (p : ℕ) (given : List (Path × ℕ)) → is_given q p given ≡ true → is_given q p (all_given rs given) ≡ true
  kept_pages [] q p given e = e
  kept_pages (r ∷ rs) q p given e = kept_pages rs q p (with_sheets r.path r.sheets given) (kept_given q p r.path r.sheets given e)

  page_given : (xs : List SpaceRec) (n j : ℕ) (s : SpaceRec) (p : ℕ) (words : List ℕ) (given : List (Path × ℕ)) → slice_get xs j ≡ Some s
      → slice_get ss (n + j) ≡ Some s → page_in s.pages p ≡ Some words →
      is_given (space_path ss (n + j)) p (all_given (rooms_from ss n xs) given) ≡ true
  page_given [] n j s p words given e here at = absurd cc
  page_given (t ∷ xs) n zero s p words given e here at =
      let same : n + 0 ≡ n = omega arith in
      let this : t ≡ s = cc in
      let here2 : slice_get ss n ≡ Some s = ap (slice_get ss) (sym same) ∙ here in
      kept_pages (rooms_from ss (n + 1) xs) (space_path ss (n + 0)) p (with_sheets (space_path ss n) (map sheet_of t.pages) given)
      (subst (λ (u : SpaceRec). is_given (space_path ss (n + 0)) p (with_sheets (space_path ss n) (map sheet_of u.pages) given) ≡ true) (sym this)
      (subst (λ m. is_given (space_path ss m) p (with_sheets (space_path ss n) (map sheet_of s.pages) given) ≡ true) (sym same)
      (page_in_given n s here2 s.pages p words given at)))
  page_given (t ∷ xs) n (suc j) s p words given e here at =
      let next : n + 1 + j ≡ n + suc j = omega arith in
      subst (λ m. is_given (space_path ss m) p (all_given (rooms_from ss (n + 1) xs) (with_sheets (space_path ss n) (map sheet_of t.pages) given)) ≡ true) next
      (page_given xs (n + 1) j s p words (with_sheets (space_path ss n) (map sheet_of t.pages) given) e (ap (slice_get ss) next ∙ here) at)

  pub no_other_page : (q : Path) (p : ℕ) → is_given q p (all_given (rooms_from ss 0 ss) []) ≡ false → pictured_page_at ss q p ≡ None
  no_other_page q p e = by (space_number ss q) refl
    where
      clash : true ≡ false → ⊥
      clash e = cc

      at : (n : ℕ) → space_path ss n ≡ q → (s : SpaceRec) → slice_get ss n ≡ Some s → (o : Option (List ℕ)) → page_in s.pages p ≡ o → o ≡ None
      at n path s here None is = refl
      at n path s here (Some words) is =
          let zeroth : 0 + n ≡ n = omega arith in
          let found = ap (λ x. is_given x p (all_given (rooms_from ss 0 ss) [])) (sym path ∙ ap (space_path ss) (sym zeroth))
          ∙ page_given ss 0 n s p words [] here (ap (slice_get ss) zeroth ∙ here) is in
          absurd (clash (sym found ∙ e))

      by : (o : Option ℕ) → space_number ss q ≡ o → and_then (λ n. and_then (λ (s : SpaceRec). page_in s.pages p) (slice_get ss n)) o ≡ None
      by None is = refl
      by (Some n) is =
          let known = path_of ss tree q n is in
          let s = item_of (slice_get ss n) known.0 in
          ap (and_then (λ (s : SpaceRec). page_in s.pages p)) s.is ∙ at n known.1 s.item s.is (page_in s.item.pages p) refl
