-- What an image lists, bodies and pages, stands in the subtree that it shows: so it lists no more.
use Rattle.std.proofs.Common.{◌≡◌, ℕ, zero, suc, ◌+◌, ◌<◌, ◌≤◌, Bool, true, false, ◌||◌, ◌&&◌, ◌==◌, IsSome, eq-eqb, ne_eqb, ◌⊎◌, inl, inr}
use Rattle.std.proofs.Common.{List, [], ◌∷◌, ◌++◌, length, slice_get, Option, Some, None, option_map, refl, sym, ap, subst, arith, ◌∙◌}
use Rattle.std.proofs.lemmas.Bool.{cases_lt}
use Rattle.fk_model.specs.declared.limits.TheConstants.{PAGES}
use Rattle.fk_model.specs.declared.names.Kind.TheVariants as kinds
use Rattle.fk_model.specs.Places.{Path, same_path}
use Rattle.fk_model.specs.Objects.{Body, kind_of}
use Rattle.fk_model.specs.World.{World}
use Rattle.fk_model.proofs.walks.Members.{IsIn, in_left, in_right}
use Rattle.fk_model.proofs.walks.PlaceLaws.{same_path_refl}
use Rattle.fk_image.specs.declared.image.image.SpaceRec.{SpaceRec}
use Rattle.fk_image.specs.declared.image.image.Image.{Image}
use Rattle.fk_image.specs.Image.Picture.{path_within, space_path}
use Rattle.laws_checkpoint.specs.Bounded.{sum_of, pages_in}
use Rattle.laws_checkpoint.specs.Contents.{Item, with_item, items_from, content}
use Rattle.laws_restore.specs.Restore.Bounded.{count_of as count_in}
use Rattle.laws_restore.specs.Restore.Fits.{there}
use Rattle.laws_restore.specs.Restore.Restore.{objects, beneath}
use Rattle.laws_restore.specs.Restore.Roomed.{AreSheets, AreRooms, with_items, with_sheets, with_spaces, all_given, IsRoomed}
use Rattle.laws_restore.specs.Restore.Rooms.{Sheet, Room}
use Rattle.laws_restore.specs.Restore.Stages.{is_among, is_given}
use Rattle.laws_restore.proofs.InRestore.Emptying.{AreApart}
use Rattle.laws_restore.proofs.InRestore.Listed.{made, standing_length, standing_apart, made_there}
use Rattle.laws_restore.specs.Rooms.Rooms.{rooms_from, rooms_of}

-- ---- a list without doubles is no longer than one that has all of it

record WithoutOne {A : Type 0} (x : A) (ys : List A) : Type 0 where
  left : List A
  long : length ys ≡ suc (length left)
  others : (z : A) → IsIn z ys → (z ≡ x → ⊥) → IsIn z left

take_out : {A : Type 0} (x : A) (ys : List A) → IsIn x ys → WithoutOne x ys
take_out x [] h = absurd h
take_out {A} x (y ∷ ys) (inl e) = record { left = ys; long = refl; others = λ z is other. by z is other }
  where
    by : (z : A) → IsIn z (y ∷ ys) → (z ≡ x → ⊥) → IsIn z ys
    by z (inl f) other = absurd (other (sym f ∙ e))
    by z (inr h) other = h
take_out {A} x (y ∷ ys) (inr h) =
    let rest = take_out x ys h in
    record { left = y ∷ rest.left; long = ap suc rest.long; others = λ z is other. by rest z is other }
  where
    by : (rest : WithoutOne x ys) (z : A) → IsIn z (y ∷ ys) → (z ≡ x → ⊥) → IsIn z (y ∷ rest.left)
    by rest z (inl f) other = inl f
    by rest z (inr is) other = inr (rest.others z is other)

abbrev IsOnce : {A : Type 0} → List A → Type 0
IsOnce [] = Unit {0}
IsOnce (x ∷ xs) = (IsIn x xs → ⊥) × IsOnce xs

no_longer : {A : Type 0} (xs ys : List A) → IsOnce xs → ((x : A) → IsIn x xs → IsIn x ys) → length xs ≤ length ys
no_longer [] ys once all = omega arith
no_longer {A} (x ∷ xs) ys once all =
    let out = take_out x ys (all x (inl refl)) in
    let few = no_longer xs out.left once.1
    (λ z is. out.others z (all z (inr is)) (λ e. once.0 (subst (λ (y : A). IsIn y xs) e is))) in
    let long = out.long in
    omega (arith, few, long)

or_right : (a b : Bool) → b ≡ true → (a || b) ≡ true
or_right true b h = refl
or_right false b h = h

joined_length : {A : Type 0} (xs ys : List A) → length (xs ++ ys) ≡ length xs + length ys
joined_length [] ys = omega arith
joined_length (x ∷ xs) ys = let rest = joined_length xs ys in omega (arith, rest)

-- ---- bodies

among_in : (q : Path) (xs : List Path) → IsIn q xs → is_among q xs ≡ true
among_in q [] h = absurd h
among_in q (x ∷ xs) (inl e) = subst (λ (y : Path). is_among q (y ∷ xs) ≡ true) (sym e) (rw (same_path_refl q) refl)
among_in q (x ∷ xs) (inr h) = or_right (same_path q x) (is_among q xs) (among_in q xs h)

apart_once : (xs : List Path) → AreApart xs → IsOnce xs
unfolding AreApart
apart_once [] apart = tt
apart_once (x ∷ xs) apart = (λ is. let on = among_in x xs is in let both = sym on ∙ apart.0 in cc, apart_once xs apart.1)

-- ---- pages

abbrev Page : Type 0
Page = Path × ℕ

abbrev sheets_in : List Room → ℕ
sheets_in [] = zero
sheets_in (r ∷ rs) = length r.sheets + sheets_in rs

sheets_length : (q : Path) (ss : List Sheet) (given : List Page) → length (with_sheets q ss given) ≡ length ss + length given
sheets_length q [] given = omega arith
sheets_length q (s ∷ ss) given = let rest = sheets_length q ss ((q, s.number) ∷ given) in omega (arith, rest)

given_length : (rs : List Room) (given : List Page) → length (all_given rs given) ≡ sheets_in rs + length given
given_length [] given = omega arith
given_length (r ∷ rs) given =
    let rest = given_length rs (with_sheets r.path r.sheets given) in
    let here = sheets_length r.path r.sheets given in
    omega (arith, rest, here)

-- a page of a space of a subtree
record IsPage (c : World) (p : Page) : Type 0 where
  space : there c p.0 ≡ Some kinds.Space
  low : p.1 < PAGES
  words : List ℕ
  is : c.page p.0 p.1 ≡ Some words

abbrev ArePages : World → List Page → Type 0
ArePages c ps = (p : Page) → IsIn p ps → IsPage c p

one_more : (c : World) (p : Page) (ps : List Page) → IsPage c p → ArePages c ps → ArePages c (p ∷ ps)
one_more c p ps is all q (inl e) = subst (λ (x : Page). IsPage c x) e is
one_more c p ps is all q (inr h) = all q h

sheets_are : (c : World) (q : Path) (ss : List Sheet) (given : List Page) → AreSheets c q ss given → there c q ≡ Some kinds.Space → ArePages c given
    → ArePages c (with_sheets q ss given)
sheets_are c q [] given its space all = all
sheets_are c q (s ∷ ss) given its space all =
    sheets_are c q ss ((q, s.number) ∷ given) its.1 space
    (one_more c (q, s.number) given (record { space = space; low = its.0.1; words = s.words; is = its.0.0 }) all)

given_are : (bind : ℕ → ℕ) (c : World) (rs : List Room) (done : List Path) (given : List Page) → AreRooms bind c rs done given → ArePages c given
    → ArePages c (all_given rs given)
given_are bind c [] done given its all = all
given_are bind c (r ∷ rs) done given its all =
    given_are bind c rs (with_items r.path r.items done) (with_sheets r.path r.sheets given) its.1
    (sheets_are c r.path r.sheets given its.0.sheets its.0.space all)

in_given : (q : Path) (n : ℕ) (ps : List Page) → IsIn (q, n) ps → is_given q n ps ≡ true
in_given q n [] h = absurd h
in_given q n (p ∷ ps) (inl e) = subst (λ (x : Page). is_given q n (x ∷ ps) ≡ true) (sym e) (rw (same_path_refl q, eq-eqb n n refl) refl)
in_given q n (p ∷ ps) (inr h) = or_right (same_path q p.0 && n == p.1) (is_given q n ps) (in_given q n ps h)

once_sheets : (c : World) (q : Path) (ss : List Sheet) (given : List Page) → AreSheets c q ss given → IsOnce given → IsOnce (with_sheets q ss given)
once_sheets c q [] given its once = once
once_sheets c q (s ∷ ss) given its once =
    once_sheets c q ss ((q, s.number) ∷ given) its.1
    (λ is. let on = in_given q s.number given is in let both = sym on ∙ its.0.3 in cc, once)

once_given : (bind : ℕ → ℕ) (c : World) (rs : List Room) (done : List Path) (given : List Page) → AreRooms bind c rs done given → IsOnce given
    → IsOnce (all_given rs given)
once_given bind c [] done given its once = once
once_given bind c (r ∷ rs) done given its once =
    once_given bind c rs (with_items r.path r.items done) (with_sheets r.path r.sheets given) its.1
    (once_sheets c r.path r.sheets given its.0.sheets once)

-- ---- the pages of a subtree, one by one

abbrev numbered : Path → List Item → List Page
numbered q [] = []
numbered q (i ∷ is) = (q, i.number) ∷ numbered q is

abbrev pages_of : World → List Path → List Page
pages_of c [] = []
pages_of c (q ∷ qs) = numbered q (content c q).pages ++ pages_of c qs

numbered_length : (q : Path) (is : List Item) → length (numbered q is) ≡ length is
numbered_length q [] = refl
numbered_length q (i ∷ is) = ap suc (numbered_length q is)

pages_length : (c : World) (qs : List Path) → length (pages_of c qs) ≡ sum_of (pages_in c) qs
pages_length c [] = refl
pages_length c (q ∷ qs) =
    let both = joined_length (numbered q (content c q).pages) (pages_of c qs) in
    let here = numbered_length q (content c q).pages in
    let rest = pages_length c qs in
    omega (arith, both, here, rest)

in_items : (q : Path) (f : ℕ → Option (List ℕ)) (n k j : ℕ) (words : List ℕ) → f j ≡ Some words → k ≤ j → j < k + n
    → IsIn (q, j) (numbered q (items_from f n k))
unfolding items_from
in_items q f zero k j words e low high = absurd (omega (arith, low, high))
in_items q f (suc n) k j words e low high =
    by (cases_lt k j) (λ lt. in_items q f n (suc k) j words e (omega (arith, lt)) (omega (arith, high)))
  where
    behind : (o : Option (List ℕ)) → IsIn (q, j) (numbered q (items_from f n (suc k))) → IsIn (q, j) (numbered q (with_item k o (items_from f n (suc k))))
    behind None h = h
    behind (Some ws) h = inr h

    here : (o : Option (List ℕ)) → k ≡ j → o ≡ Some words → IsIn (q, j) (numbered q (with_item k o (items_from f n (suc k))))
    here None same is = cc
    here (Some ws) same is = inl (ap (λ (m : ℕ). (q, m)) same)

    by : (k < j) ⊎ (j ≤ k) → (k < j → IsIn (q, j) (numbered q (items_from f n (suc k)))) → IsIn (q, j) (numbered q (with_item k (f k) (items_from f n (suc k))))
    by (inl lt) later = behind (f k) (later lt)
    by (inr le) later = let same : k ≡ j = omega (arith, low, le) in here (f k) same (ap f same ∙ e)

in_pages : (c : World) (qs : List Path) (q : Path) (j : ℕ) (words : List ℕ) → IsIn q qs → c.page q j ≡ Some words → j < PAGES → IsIn (q, j) (pages_of c qs)
in_pages c [] q j words h is low = absurd h
in_pages c (x ∷ qs) q j words (inl e) is low =
    subst (λ (y : Path). IsIn (q, j) (numbered y (content c y).pages ++ pages_of c qs)) (sym e)
    (in_left (q, j) (numbered q (content c q).pages) (pages_of c qs) (in_items q (c.page q) PAGES 0 j words is (omega arith) (omega (arith, low))))
in_pages c (x ∷ qs) q j words (inr h) is low =
    in_right (q, j) (numbered x (content c x).pages) (pages_of c qs) (in_pages c qs q j words h is low)

-- ---- spaces: one alone has no slot of its own

path_there : (spaces : List SpaceRec) (number : ℕ) (s : SpaceRec) → 1 ≤ number → slice_get spaces number ≡ Some s → beneath (space_path spaces number) ≡ 1
unfolding path_within
path_there spaces zero s low e = absurd (omega (arith, low))
path_there spaces (suc m) s low e = rw (ne_eqb (suc m) 0 (λ x. omega (arith, x)), e) refl

later_few : (spaces : List SpaceRec) (number : ℕ) (ss : List SpaceRec) → 1 ≤ number → ((k : ℕ) → slice_get ss k ≡ slice_get spaces (k + number))
    → count_in (rooms_from spaces number ss) ≤ objects (rooms_from spaces number ss) + sheets_in (rooms_from spaces number ss)
later_few spaces number [] low at = omega arith
later_few spaces number (s ∷ ss) low at =
    let rest = later_few spaces (number + 1) ss (omega (arith, low))
    (λ k. at (suc k) ∙ ap (λ (n : ℕ). slice_get spaces n) (let same : suc k + number ≡ k + (number + 1) = omega arith in same)) in
    let first : slice_get spaces number ≡ Some s = sym (at 0 ∙ ap (λ (n : ℕ). slice_get spaces n) (let same : 0 + number ≡ number = omega arith in same)) in
    let here = path_there spaces number s low first in
    omega (arith, rest, here)

first_few : (i : Image) → count_in (rooms_of i) ≤ 1 + objects (rooms_of i) + sheets_in (rooms_of i)
first_few i = by i.spaces refl
  where
    by : (ss : List SpaceRec) → ss ≡ i.spaces
        → count_in (rooms_from i.spaces 0 ss) ≤ 1 + objects (rooms_from i.spaces 0 ss) + sheets_in (rooms_from i.spaces 0 ss)
    by [] e = omega arith
    by (s ∷ ss) e =
        let rest = later_few i.spaces 1 ss (omega arith) (λ k. ap (λ (xs : List SpaceRec). slice_get xs (suc k)) e
        ∙ ap (λ (n : ℕ). slice_get i.spaces n) (let same : suc k ≡ k + 1 = omega arith in same)) in
        omega (arith, rest)

-- ---- both

split : (c : World) (qs : List Path) → sum_of (λ q. 1 + pages_in c q) qs ≡ length qs + sum_of (pages_in c) qs
split c [] = refl
split c (q ∷ qs) = let rest = split c qs in omega (arith, rest)

space_there : (o : Option Body) → option_map kind_of o ≡ Some kinds.Space → IsSome o
space_there None e = cc
space_there (Some b) e = refl

module _ (bind : ℕ → ℕ) (c : World) (image : Image) (its : IsRoomed bind c (rooms_of image)) (qs : List Path) (root : IsIn [] qs)
    (listed : (q : Path) → IsSome (c.body q) → IsIn q qs) where
  -- the stages of destroying are no more than there are bodies
  pub bodies_few : objects (rooms_of image) + 1 ≤ length qs
  unfolding AreApart same_path
  bodies_few =
      let long = standing_length bind c (rooms_of image) its in
      let few = no_longer ([] ∷ made bind c (rooms_of image) its) qs (apart_once ([] ∷ made bind c (rooms_of image) its)
      (standing_apart bind c (rooms_of image) its).1)
      (λ q is. by q (among_in q ([] ∷ made bind c (rooms_of image) its) is)) in
      omega (arith, long, few)
    where
      by : (q : Path) → is_among q ([] ∷ made bind c (rooms_of image) its) ≡ true → IsIn q qs
      by [] is = root
      by (k ∷ p) is = listed (k ∷ p) (made_there bind c (rooms_of image) its k p ∙ is)

  pub sheets_few : sheets_in (rooms_of image) ≤ sum_of (pages_in c) qs
  sheets_few =
      let all = given_are bind c (rooms_of image) (with_spaces (rooms_of image) []) [] its.filled (λ p is. absurd is) in
      let once = once_given bind c (rooms_of image) (with_spaces (rooms_of image) []) [] its.filled tt in
      let few = no_longer (all_given (rooms_of image) []) (pages_of c qs) once
      (λ p is. let page = all p is in in_pages c qs p.0 p.1 page.words (listed p.0 (space_there (c.body p.0) page.space)) page.is page.low) in
      let long = given_length (rooms_of image) [] in
      let wide = pages_length c qs in
      omega (arith, few, long, wide)

  pub count_few : count_in (rooms_of image) ≤ sum_of (λ q. 1 + pages_in c q) qs
  count_few =
      let most = first_few image in
      let bodies = bodies_few in
      let sheets = sheets_few in
      let both = split c qs in
      omega (arith, most, bodies, sheets, both)

  pub stages_few : objects (rooms_of image) + 1 ≤ sum_of (λ q. 1 + pages_in c q) qs
  stages_few =
      let bodies = bodies_few in
      let both = split c qs in
      omega (arith, bodies, both)
