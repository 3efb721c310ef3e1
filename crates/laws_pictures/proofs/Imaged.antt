-- The picture of a subtree's image is the subtree.
use Rattle.std.proofs.Common.{◌≡◌, ℕ, zero, suc, ◌+◌, ◌-◌, ◌<◌, ◌≤◌, ◌⊎◌, inl, inr, Bool, true, false, cond, ◌==◌, List, [], ◌∷◌, ◌++◌, map, Option, Some, None}
use Rattle.std.proofs.Common.{option_map, is_some, refl, sym, ap, subst, ◌∙◌, arith, ne_eqb, eq-eqb, append_assoc}
use Rattle.std.specs.Prelude.{slice_get, IsSome}
use Rattle.std.proofs.lemmas.Bool.{cases_lt}
use Rattle.fk_model.specs.declared.names.Kind.TheVariants as kinds
use Rattle.fk_model.specs.declared.thread.Turn.{Turn}
use Rattle.fk_model.specs.declared.thread.Turn.TheVariants as turns
use Rattle.fk_model.specs.Calls.{words}
use Rattle.fk_model.specs.Places.{Path, same_path, slot_of, Ptr, Ptr as ptrs}
use Rattle.fk_model.specs.Objects.{Mode, Peer, Talk, Fault, Body, Body as bodies, Mode as modes, Peer as peers, and_then, or_else, kind_of, registers_of}
use Rattle.fk_model.specs.Objects.{flag_of}
use Rattle.fk_model.specs.Holds.{is_porter}
use Rattle.fk_model.specs.LinkRows.{turn_number}
use Rattle.fk_model.specs.Records.{mode_number, halt_code, member_word, member_by}
use Rattle.fk_model.specs.Shapes.{IsShapedMode}
use Rattle.fk_model.specs.World.{World}
use Rattle.fk_model.specs.Valid.{kind_there}
use Rattle.fk_model.proofs.walks.PlaceLaws.{same_path_refl, same_path_eq}
use Rattle.fk_model.proofs.calls.CallLaws.{words_read_back_lem}
use Rattle.fk_image.specs.declared.image.image.Rec.{Rec}
use Rattle.fk_image.specs.declared.image.image.SpaceRec.{SpaceRec}
use Rattle.fk_image.specs.Image.Picture.{child, space_number, path_within, space_path, ptr, mode, mode_while_calling, rec_in, page_in, pictured_holder}
use Rattle.fk_image.specs.Image.Picture.{pictured_talk}
use Rattle.fk_image.specs.Image.Picture.{pictured_fault, pictured_body, pictured_body_in, pictured_body_at, pictured_page_at, picture}
use Rattle.laws_pictures.specs.Tree.{IsTree}
use Rattle.laws_pictures.specs.Imaged.{rank, link_of, peer_link, talk_rec, fault_rec, rec_of, with_object, objects_from, with_page, pages_from, rec_at}
use Rattle.laws_pictures.specs.Imaged.{holder_link, parent_number, space_rec, image_of, Follows, AreItsSpaces, IsLed, IsPeerOf, IsLedTalk, IsTakenBy}
use Rattle.laws_pictures.specs.Imaged.{IsLedFault, IsHeldBy, IsLedBody, IsAlone, PictureOfImage}
use Rattle.laws_pictures.proofs.Numbers.{item_of, is_there, there_below, below, child_of, number_of, path_of, path_up}
use Rattle.laws_pictures.proofs.Bodies.{of_space}

-- ---- lists

pub get_map : {A B : Type 0} (f : A → B) (xs : List A) (n : ℕ) → slice_get (map f xs) n ≡ option_map f (slice_get xs n)
get_map f [] n = refl
get_map f (x ∷ xs) zero = refl
get_map f (x ∷ xs) (suc n) = get_map f xs n

pub ranked : (sp : List Path) (n : ℕ) (p : Path) → slice_get sp n ≡ Some p → (slice_get sp (rank sp p) ≡ Some p) × (rank sp p ≤ n)
unfolding rank
ranked [] n p e = absurd cc
ranked (x ∷ sp) n p e = by (same_path x p) refl n e (λ m h. ranked sp m p h)
  where
    by : (b : Bool) → same_path x p ≡ b → (n : ℕ) → slice_get (x ∷ sp) n ≡ Some p
        → ((m : ℕ) → slice_get sp m ≡ Some p → (slice_get sp (rank sp p) ≡ Some p) × (rank sp p ≤ m)) →
        (slice_get (x ∷ sp) (cond b 0 (suc (rank sp p))) ≡ Some p) × (cond b 0 (suc (rank sp p)) ≤ n)
    by true same n e rest = (ap (λ (y : Path). Some y) (same_path_eq x p same), omega arith)
    by false apart zero e rest = let one : x ≡ p = cc in
        let eq : same_path x p ≡ true = subst (λ y. same_path x y ≡ true) one (same_path_refl x) in absurd (clash (sym eq ∙ apart))
      where
        clash : true ≡ false → ⊥
        clash e = cc
    by false apart (suc n) e rest = let h = rest n e in let le = h.1 in (h.0, omega (arith, le))

-- ---- objects and pages by rising number

pub rec_none : (f : ℕ → Option Rec) (n k j : ℕ) → j < k → rec_in (objects_from f n k) j ≡ None
unfolding objects_from rec_in
rec_none f zero k j lt = refl
rec_none f (suc n) k j lt = by (f k) (rec_none f n (suc k) j (omega (arith, lt)))
  where
    by : (o : Option Rec) → rec_in (objects_from f n (suc k)) j ≡ None → rec_in (with_object k o (objects_from f n (suc k))) j ≡ None
    by None rest = rest
    by (Some r) rest = ap (λ b. cond b (Some r) (rec_in (objects_from f n (suc k)) j)) (ne_eqb k j (λ e. omega (arith, e, lt))) ∙ rest

pub rec_found : (f : ℕ → Option Rec) (n k j : ℕ) → k ≤ j → j < k + n → rec_in (objects_from f n k) j ≡ f j
unfolding objects_from rec_in
rec_found f zero k j le lt = absurd (omega (arith, le, lt))
rec_found f (suc n) k j le lt = by (f k) refl (cases_lt k j) (λ h. rec_found f n (suc k) j h (omega (arith, lt)))
  where
    none : j ≤ k → rec_in (objects_from f n (suc k)) j ≡ None
    none ge = rec_none f n (suc k) j (omega (arith, ge))

    by : (o : Option Rec) → f k ≡ o → (k < j) ⊎ (j ≤ k) → (suc k ≤ j → rec_in (objects_from f n (suc k)) j ≡ f j)
        → rec_in (with_object k o (objects_from f n (suc k))) j ≡ f j
    by None e (inl l) rest = rest (omega (arith, l))
    by None e (inr ge) rest = let same : k ≡ j = omega (arith, le, ge) in none ge ∙ sym e ∙ ap f same
    by (Some r) e (inl l) rest = ap (λ b. cond b (Some r) (rec_in (objects_from f n (suc k)) j)) (ne_eqb k j (λ e. omega (arith, e, l)))
        ∙ rest (omega (arith, l))
    by (Some r) e (inr ge) rest = let same : k ≡ j = omega (arith, le, ge) in
        ap (λ b. cond b (Some r) (rec_in (objects_from f n (suc k)) j)) (eq-eqb k j same) ∙ sym e ∙ ap f same

pub rec_past : (f : ℕ → Option Rec) (n k j : ℕ) → k + n ≤ j → rec_in (objects_from f n k) j ≡ None
unfolding objects_from rec_in
rec_past f zero k j le = refl
rec_past f (suc n) k j le = by (f k) (rec_past f n (suc k) j (omega (arith, le)))
  where
    by : (o : Option Rec) → rec_in (objects_from f n (suc k)) j ≡ None → rec_in (with_object k o (objects_from f n (suc k))) j ≡ None
    by None rest = rest
    by (Some r) rest = ap (λ b. cond b (Some r) (rec_in (objects_from f n (suc k)) j)) (ne_eqb k j (λ e. omega (arith, e, le))) ∙ rest

pub page_none : (f : ℕ → Option (List ℕ)) (n k j : ℕ) → j < k → page_in (pages_from f n k) j ≡ None
unfolding pages_from page_in
page_none f zero k j lt = refl
page_none f (suc n) k j lt = by (f k) (page_none f n (suc k) j (omega (arith, lt)))
  where
    by : (o : Option (List ℕ)) → page_in (pages_from f n (suc k)) j ≡ None → page_in (with_page k o (pages_from f n (suc k))) j ≡ None
    by None rest = rest
    by (Some r) rest = ap (λ b. cond b (Some r) (page_in (pages_from f n (suc k)) j)) (ne_eqb k j (λ e. omega (arith, e, lt))) ∙ rest

pub page_found : (f : ℕ → Option (List ℕ)) (n k j : ℕ) → k ≤ j → j < k + n → page_in (pages_from f n k) j ≡ f j
unfolding pages_from page_in
page_found f zero k j le lt = absurd (omega (arith, le, lt))
page_found f (suc n) k j le lt = by (f k) refl (cases_lt k j) (λ h. page_found f n (suc k) j h (omega (arith, lt)))
  where
    none : j ≤ k → page_in (pages_from f n (suc k)) j ≡ None
    none ge = page_none f n (suc k) j (omega (arith, ge))

    by : (o : Option (List ℕ)) → f k ≡ o → (k < j) ⊎ (j ≤ k) → (suc k ≤ j → page_in (pages_from f n (suc k)) j ≡ f j)
        → page_in (with_page k o (pages_from f n (suc k))) j ≡ f j
    by None e (inl l) rest = rest (omega (arith, l))
    by None e (inr ge) rest = let same : k ≡ j = omega (arith, le, ge) in none ge ∙ sym e ∙ ap f same
    by (Some r) e (inl l) rest = ap (λ b. cond b (Some r) (page_in (pages_from f n (suc k)) j)) (ne_eqb k j (λ e. omega (arith, e, l)))
        ∙ rest (omega (arith, l))
    by (Some r) e (inr ge) rest = let same : k ≡ j = omega (arith, le, ge) in ap (λ b. cond b (Some r) (page_in (pages_from f n (suc k)) j)) (eq-eqb k j same)
        ∙ sym e ∙ ap f same

pub page_past : (f : ℕ → Option (List ℕ)) (n k j : ℕ) → k + n ≤ j → page_in (pages_from f n k) j ≡ None
unfolding pages_from page_in
page_past f zero k j le = refl
page_past f (suc n) k j le = by (f k) (page_past f n (suc k) j (omega (arith, le)))
  where
    by : (o : Option (List ℕ)) → page_in (pages_from f n (suc k)) j ≡ None → page_in (with_page k o (pages_from f n (suc k))) j ≡ None
    by None rest = rest
    by (Some r) rest = ap (λ b. cond b (Some r) (page_in (pages_from f n (suc k)) j)) (ne_eqb k j (λ e. omega (arith, e, le))) ∙ rest

-- ---- numbers read back

flag_back : (b : Bool) → (flag_of b == 1) ≡ b
flag_back true = refl
flag_back false = refl

set_back : (set : Option ℕ) → member_by (member_word set) ≡ set
set_back None = refl
set_back (Some k) =
    let less : 1 + k - 1 ≡ k = omega arith in
    ap (λ b. cond b None (Some (1 + k - 1))) (ne_eqb (1 + k) 0 (λ e. omega (arith, e))) ∙ ap (λ (j : ℕ). Some j) less

turn_back : (turn : Turn) → cond (turn_number turn == 1) turns.Client turns.Server ≡ turn
turn_back turns.Client = refl
turn_back turns.Server = refl

mode_back : (m : Mode) → IsShapedMode m → is_porter m ≡ false → mode (registers_of m) (mode_number m) (halt_code m) ≡ m
mode_back (modes.Running g) shaped user = refl
mode_back (modes.Calling todo rest) shaped user =
    let back = words_read_back_lem todo rest shaped.0 shaped.1 in
    ap (mode_while_calling (words todo rest)) back.0 ∙ ap (modes.Calling todo) back.1
mode_back (modes.Halted g code) shaped user = refl
mode_back (modes.Native g) shaped user = absurd cc

-- ---- the tree

pub some_is : {A : Type 0} (o : Option A) (x : A) → o ≡ Some x → IsSome o
some_is o x e = ap is_some e

pub record Before (sp : List Path) (n : ℕ) (q : Path) : Type 0 where
  pub number : ℕ
  pub le : number ≤ n
  pub at : slice_get sp number ≡ Some q

module _ (c : World) (sp : List Path) (alone : IsAlone c) (its : AreItsSpaces c sp) where
  abbrev ss : List SpaceRec
  ss = map (space_rec c sp) sp

  same_some : (x y : Path) (o : Option Path) → o ≡ Some x → o ≡ Some y → x ≡ y
  same_some x y None e f = absurd cc
  same_some x y (Some z) e f = cc

  pub before : (n : ℕ) (z q : Path) → slice_get sp n ≡ Some (z ++ q) → Before sp n q
  before n [] q e = record { number = n; le = omega arith; at = e }
  before zero (j ∷ z) q e = absurd (clash (same_some [] (j ∷ (z ++ q)) (slice_get sp 0) its.first e))
    where
      clash : [] ≡ j ∷ (z ++ q) → ⊥
      clash e = cc
  before (suc n) (j ∷ z) q e =
      let l = item_of (slice_get sp n) (there_below sp n (suc n) (omega arith) (is_there (slice_get sp (suc n)) (j ∷ (z ++ q)) e)) in
      by l.item l.is (its.order n l.item (j ∷ (z ++ q)) l.is e) (λ y h. before n y q h)
    where
      later : Before sp n q → Before sp (suc n) q
      later b = let le = b.le in record { number = b.number; le = omega (arith, le); at = b.at }

      by : (l : Path) → slice_get sp n ≡ Some l → Follows l (j ∷ (z ++ q)) → ((y : Path) → slice_get sp n ≡ Some (y ++ q) → Before sp n q) → Before sp (suc n) q
      by l is (inl same) rest = later (rest z (is ∙ ap (λ (y : Path). Some y) same))
      by l is (inr h) rest = later (rest (h.0 ++ (h.1 ∷ z)) (is ∙ ap (λ (y : Path). Some y) (h.2 ∙ sym (append_assoc h.0 (h.1 ∷ z) q))))

  pub ranked_is : (n : ℕ) (p : Path) → slice_get sp n ≡ Some p → rank sp p ≡ n
  ranked_is n p e = its.once (rank sp p) n p (ranked sp n p e).0 e

  pub record Made (n : ℕ) (s : SpaceRec) : Type 0 where
    pub path : Path
    pub at : slice_get sp n ≡ Some path
    pub is : space_rec c sp path ≡ s

  pub made : (n : ℕ) (s : SpaceRec) → slice_get ss n ≡ Some s → Made n s
  made n s e = by (slice_get sp n) refl (sym (get_map (space_rec c sp) sp n) ∙ e)
    where
      by : (o : Option Path) → slice_get sp n ≡ o → option_map (space_rec c sp) o ≡ Some s → Made n s
      by None is e = absurd cc
      by (Some p) is e = record { path = p; at = is; is = cc }

  pub rec_here : (n : ℕ) (p : Path) → slice_get sp n ≡ Some p → slice_get ss n ≡ Some (space_rec c sp p)
  rec_here n p e = get_map (space_rec c sp) sp n ∙ ap (option_map (space_rec c sp)) e

  -- a later space lies in one that came before
  pub record Under (n : ℕ) (p : Path) : Type 0 where
    pub slot : ℕ
    pub above : Path
    pub is : p ≡ slot ∷ above
    pub number : ℕ
    pub le : number ≤ n
    pub at : slice_get sp number ≡ Some above

  pub under : (n : ℕ) (p : Path) → slice_get sp (suc n) ≡ Some p → Under n p
  under n p e =
      let l = item_of (slice_get sp n) (there_below sp n (suc n) (omega arith) (is_there (slice_get sp (suc n)) p e)) in
      by p e l.item l.is (its.order n l.item p l.is e)
    where
      from : (k : ℕ) (q : Path) → Before sp n q → Under n (k ∷ q)
      from k q b = record { slot = k; above = q; is = refl; number = b.number; le = b.le; at = b.at }

      by : (p : Path) → slice_get sp (suc n) ≡ Some p → (l : Path) → slice_get sp n ≡ Some l → Follows l p → Under n p
      by [] e l is f = absurd f
      by (k ∷ q) e l is (inl same) = from k q (before n [] q (is ∙ ap (λ (y : Path). Some y) same))
      by (k ∷ q) e l is (inr h) = from k q (before n (h.0 ++ (h.1 ∷ [])) q (is ∙ ap (λ (y : Path). Some y) (h.2 ∙ sym (append_assoc h.0 (h.1 ∷ []) q))))

  pub parent_is : (n : ℕ) (p : Path) (u : Under n p) → parent_number sp p ≡ u.number
  parent_is n p u = ap (parent_number sp) u.is ∙ ranked_is u.number u.above u.at

  pub tree : IsTree ss
  tree = record { top = is_there (slice_get ss 0) (space_rec c sp []) (rec_here 0 [] its.first); low = low; apart = apart }
    where
      low : (n : ℕ) (s : SpaceRec) → slice_get ss (suc n) ≡ Some s → s.parent ≤ n
      low n s e =
          let m = made (suc n) s e in
          let u = under n m.path m.at in
          let same = ap (λ (t : SpaceRec). t.parent) (sym m.is) ∙ parent_is n m.path u in
          let le = u.le in
          omega (arith, same, le)

      apart : (m n : ℕ) (s t : SpaceRec) → slice_get ss (suc m) ≡ Some s → slice_get ss (suc n) ≡ Some t → s.parent ≡ t.parent → s.slot ≡ t.slot → m ≡ n
      apart m n s t e f parents places =
          let a = made (suc m) s e in
          let b = made (suc n) t f in
          let u = under m a.path a.at in
          let v = under n b.path b.at in
          let numbers : u.number ≡ v.number = sym (parent_is m a.path u) ∙ ap (λ (r : SpaceRec). r.parent) a.is ∙ parents
          ∙ ap (λ (r : SpaceRec). r.parent) (sym b.is) ∙ parent_is n b.path v in
          let aboves : u.above ≡ v.above = same_some u.above v.above (slice_get sp v.number) (ap (slice_get sp) (sym numbers) ∙ u.at) v.at in
          let at : u.slot ≡ v.slot = sym (ap slot_of u.is) ∙ ap (λ (r : SpaceRec). r.slot) a.is ∙ places ∙ ap (λ (r : SpaceRec). r.slot) (sym b.is)
          ∙ ap slot_of v.is in
          let paths : a.path ≡ b.path = u.is ∙ ap (λ k. k ∷ u.above) at ∙ ap (λ x. v.slot ∷ x) aboves ∙ sym v.is in
          let same = its.once (suc m) (suc n) b.path (a.at ∙ ap (λ (y : Path). Some y) paths) b.at in
          omega (arith, same)

  path_by : (d n : ℕ) (p : Path) → n ≤ d → slice_get sp n ≡ Some p → space_path ss n ≡ p
  unfolding path_within
  path_by d zero p le e = same_some [] p (slice_get sp 0) its.first e
  path_by zero (suc n) p le e = absurd (omega (arith, le))
  path_by (suc d) (suc n) p le e =
      let u = under n p e in
      let lower = u.le in
      path_up ss tree n (space_rec c sp p) (rec_here (suc n) p e)
      ∙ ap (λ k. k ∷ space_path ss (parent_number sp p)) (ap slot_of u.is)
      ∙ ap (λ m. u.slot ∷ space_path ss m) (parent_is n p u)
      ∙ ap (λ x. u.slot ∷ x) (path_by d u.number u.above (omega (arith, le, lower)) u.at)
      ∙ sym u.is

  pub path_is : (n : ℕ) (p : Path) → slice_get sp n ≡ Some p → space_path ss n ≡ p
  path_is n p e = path_by n n p (omega arith) e

  pub number_is : (n : ℕ) (p : Path) → slice_get sp n ≡ Some p → space_number ss p ≡ Some n
  number_is n p e = ap (space_number ss) (sym (path_is n p e)) ∙ number_of ss tree n (is_there (slice_get ss n) (space_rec c sp p) (rec_here n p e))

  pub numbered : (n : ℕ) (p : Path) → space_number ss p ≡ Some n → slice_get sp n ≡ Some p
  numbered n p e =
      let known = path_of ss tree p n e in
      let s = item_of (slice_get ss n) known.0 in
      let m = made n s.item s.is in
      m.at ∙ ap (λ (y : Path). Some y) (sym (path_is n m.path m.at) ∙ known.1)

  -- ---- pointers

  pub path_led : (k : ℕ) (q : Path) → IsSome (c.body (k ∷ q)) → space_path ss (rank sp q) ≡ q
  path_led k q is = path_is (rank sp q) q (its.all q (alone.parents k q is))

  pub link_back : (p : Ptr) → IsLed c p → ptr ss (link_of sp p) ≡ p
  unfolding path_within
  link_back ptrs.Null led = refl
  link_back ptrs.Dead led = refl
  link_back (ptrs.At []) led = refl
  link_back (ptrs.At (k ∷ q)) led = ap (λ x. ptrs.At (k ∷ x)) (path_led k q led)
  link_back (ptrs.Out i) led = refl
  link_back ptrs.Outside led = absurd led
  link_back ptrs.Far led = absurd led

  peer_back : (port : Ptr) (peer : Peer) → IsPeerOf c port peer → peers.Server (ptr ss (peer_link sp peer)) ≡ peer
  peer_back (ptrs.Out i) (peers.Server ptrs.Outside) h = refl
  peer_back (ptrs.Out i) (peers.Server ptrs.Null) h = absurd h
  peer_back (ptrs.Out i) (peers.Server ptrs.Dead) h = absurd h
  peer_back (ptrs.Out i) (peers.Server (ptrs.At y)) h = absurd h
  peer_back (ptrs.Out i) (peers.Server (ptrs.Out j)) h = absurd h
  peer_back (ptrs.Out i) (peers.Server ptrs.Far) h = absurd h
  peer_back (ptrs.Out i) peers.Service h = absurd h
  peer_back (ptrs.Out i) peers.Parked h = absurd h
  peer_back (ptrs.At x) (peers.Server (ptrs.At y)) h = ap (λ p. peers.Server p) (link_back (ptrs.At y) h)
  peer_back (ptrs.At x) (peers.Server ptrs.Outside) h = absurd h
  peer_back (ptrs.At x) (peers.Server ptrs.Null) h = absurd h
  peer_back (ptrs.At x) (peers.Server ptrs.Dead) h = absurd h
  peer_back (ptrs.At x) (peers.Server (ptrs.Out j)) h = absurd h
  peer_back (ptrs.At x) (peers.Server ptrs.Far) h = absurd h
  peer_back (ptrs.At x) peers.Service h = absurd h
  peer_back (ptrs.At x) peers.Parked h = absurd h
  peer_back ptrs.Null peer h = absurd h
  peer_back ptrs.Dead peer h = absurd h
  peer_back ptrs.Outside peer h = absurd h
  peer_back ptrs.Far peer h = absurd h

  talk_back : (t : Option Talk) → IsLedTalk c t → option_map (pictured_talk ss) (option_map (talk_rec sp) t) ≡ t
  talk_back None led = refl
  talk_back (Some t) led = λ i. Some (record {
    port = link_back t.port led.0 i;
    peer = peer_back t.port t.peer led.1 i;
    turn = turn_back t.turn i;
    moved = t.moved;
  })

  taker_back : (port : Ptr) (taker : Option Peer) → IsTakenBy c port taker
      → option_map (λ to. peers.Server (ptr ss to)) (option_map (peer_link sp) taker) ≡ taker
  taker_back port None led = refl
  taker_back port (Some p) led = ap (λ (q : Peer). Some q) (peer_back port p led)

  fault_back : (f : Option Fault) → IsLedFault c f → option_map (pictured_fault ss) (option_map (fault_rec sp) f) ≡ f
  fault_back None led = refl
  fault_back (Some f) led = λ i. Some (record {
    page = f.page;
    write = flag_back f.write i;
    port = link_back f.port led.0 i;
    taker = taker_back f.port f.taker led.1 i;
  })

  holder_back : (holder : Option Ptr) → IsHeldBy c holder → pictured_holder ss (holder_link sp (Some (bodies.Space 0 holder))) ≡ holder
  holder_back None h = refl
  holder_back (Some (ptrs.At [])) h = refl
  holder_back (Some (ptrs.At (k ∷ q))) h = ap (λ (p : Ptr). Some p) (link_back (ptrs.At (k ∷ q)) h)
  holder_back (Some ptrs.Null) h = absurd h
  holder_back (Some ptrs.Dead) h = absurd h
  holder_back (Some (ptrs.Out i)) h = absurd h
  holder_back (Some ptrs.Outside) h = absurd h
  holder_back (Some ptrs.Far) h = absurd h

  -- ---- bodies

  -- what stands in a slot, from its record or, where it is a space, from what lies there
  body_back : (b : Body) → IsLedBody c b → (rest : Option Body) → ((birth : ℕ) (holder : Option Ptr) → b ≡ bodies.Space birth holder → rest ≡ Some b) →
      or_else (option_map (pictured_body ss) (rec_of sp b)) rest ≡ Some b
  body_back (bodies.Mutex locked) led rest inner = ap (λ b. Some (bodies.Mutex b)) (flag_back locked)
  body_back bodies.Cond led rest inner = refl
  body_back (bodies.Mapping m) led rest inner = λ i. Some (bodies.Mapping (record m { write = flag_back m.write i; region = link_back m.region led i }))
  body_back (bodies.Region r) led rest inner = λ i. Some (bodies.Region (record r { write = flag_back r.write i; keeper = link_back r.keeper led i }))
  body_back (bodies.Port set served) led rest inner = λ i. Some (bodies.Port (set_back set i) (sym led i))
  body_back bodies.Portset led rest inner = refl
  body_back (bodies.Space birth holder) led rest inner = inner birth holder refl
  body_back (bodies.Thread_of t) led rest inner = λ i. Some
      (bodies.Thread_of (record t { mode = mode_back t.mode led.0 led.1 i; talk = talk_back t.talk led.2 i; fault = fault_back t.fault led.3 i }))
  body_back (bodies.Reference to) led rest inner = ap (λ p. Some (bodies.Reference p)) (link_back to led)

  pub rec_is : (q : Path) (k : ℕ) → rec_in (objects_from (rec_at c sp q) 240 0) k ≡ rec_at c sp q k
  rec_is q k = by (cases_lt k 240)
    where
      nothing : (o : Option Body) → c.body (k ∷ q) ≡ o → 240 ≤ k → and_then (rec_of sp) o ≡ None
      nothing None e le = refl
      nothing (Some b) e le = let low = alone.slots k q (some_is (c.body (k ∷ q)) b e) in absurd (omega (arith, low, le))

      by : (k < 240) ⊎ (240 ≤ k) → rec_in (objects_from (rec_at c sp q) 240 0) k ≡ rec_at c sp q k
      by (inl lt) = rec_found (rec_at c sp q) 240 0 k (omega arith) (omega (arith, lt))
      by (inr ge) = rec_past (rec_at c sp q) 240 0 k (omega (arith, ge)) ∙ sym (nothing (c.body (k ∷ q)) refl ge)

  child_body : ℕ → ℕ → Option Body
  child_body m k = and_then (λ number. of_space ss (slice_get ss number)) (child ss m k)

  kind_of_body : (p : Path) (b : Body) → c.body p ≡ Some b → kind_there c p ≡ Some (kind_of b)
  unfolding kind_there
  kind_of_body p b e = ap (option_map kind_of) e

  -- a space's record tells its holder
  inner_body : (m k : ℕ) (q : Path) → slice_get sp m ≡ Some q → (birth : ℕ) (holder : Option Ptr) → c.body (k ∷ q) ≡ Some (bodies.Space birth holder)
      → child_body m k ≡ Some (bodies.Space birth holder)
  unfolding child_body
  inner_body m k q at birth holder e =
      let p = k ∷ q in
      let found = its.all p (kind_of_body p (bodies.Space birth holder) e) in
      let led = alone.led p (bodies.Space birth holder) e in
      by (rank sp p) found led (λ n h. rec_here (suc n) p h) (λ n h. child_of ss tree n (space_rec c sp p) h)
    where
      clash : [] ≡ k ∷ q → ⊥
      clash e = cc

      held_back : (birth : ℕ) (holder : Option Ptr) → IsHeldBy c holder → pictured_holder ss (holder_link sp (Some (bodies.Space birth holder))) ≡ holder
      held_back birth None h = holder_back None h
      held_back birth (Some p) h = holder_back (Some p) h

      by : (n : ℕ) → slice_get sp n ≡ Some (k ∷ q) → (birth ≡ 0) × IsHeldBy c holder
          → ((j : ℕ) → slice_get sp (suc j) ≡ Some (k ∷ q) → slice_get ss (suc j) ≡ Some (space_rec c sp (k ∷ q))) →
          ((j : ℕ) → slice_get ss (suc j) ≡ Some (space_rec c sp (k ∷ q)) → child ss (rank sp q) k ≡ Some (suc j))
          → child_body m k ≡ Some (bodies.Space birth holder)
      by zero found led here child_is = absurd (clash (same_some [] (k ∷ q) (slice_get sp 0) its.first found))
      by (suc j) found led here child_is =
          ap (λ n. and_then (λ number. of_space ss (slice_get ss number)) (child ss n k)) (sym (ranked_is m q at))
          ∙ ap (and_then (λ number. of_space ss (slice_get ss number))) (child_is j (here j found))
          ∙ ap (of_space ss) (here j found)
          ∙ ap (λ o. Some (bodies.Space 0 (pictured_holder ss (holder_link sp o)))) e
          ∙ ap (λ h. Some (bodies.Space 0 h)) (held_back birth holder led.1)
          ∙ ap (λ n. Some (bodies.Space n holder)) (sym led.0)

  -- where nothing stands no space lies
  no_child : (m k : ℕ) (q : Path) → slice_get sp m ≡ Some q → c.body (k ∷ q) ≡ None → child_body m k ≡ None
  unfolding child_body kind_there
  no_child m k q at none = by (child ss m k) refl
    where
      by : (o : Option ℕ) → child ss m k ≡ o → and_then (λ number. of_space ss (slice_get ss number)) o ≡ None
      by None e = refl
      by (Some n) e =
          let b = below ss m k n e in
          let a = made (suc b.before) b.child b.here in
          let u = under b.before a.path a.at in
          let number : u.number ≡ m = sym (parent_is b.before a.path u) ∙ ap (λ (r : SpaceRec). r.parent) a.is ∙ b.parent in
          let above : u.above ≡ q = same_some u.above q (slice_get sp m) (ap (slice_get sp) (sym number) ∙ u.at) at in
          let slot : u.slot ≡ k = sym (ap slot_of u.is) ∙ ap (λ (r : SpaceRec). r.slot) a.is ∙ b.place in
          let path : a.path ≡ k ∷ q = u.is ∙ ap (λ j. j ∷ u.above) slot ∙ ap (λ x. k ∷ x) above in
          let kind = its.each (suc b.before) (k ∷ q) (a.at ∙ ap (λ (y : Path). Some y) path) in
          absurd (clash (sym (ap (option_map kind_of) none) ∙ kind))
        where
          clash : None ≡ Some kinds.Space → ⊥
          clash e = cc

  bodies_back : (k : ℕ) (q : Path) → pictured_body_at ss (k ∷ q) ≡ c.body (k ∷ q)
  unfolding child_body
  bodies_back k q = by (space_number ss q) refl
    where
      standing : (m : ℕ) → slice_get sp m ≡ Some q → (o : Option Body) → c.body (k ∷ q) ≡ o
          → or_else (option_map (pictured_body ss) (and_then (rec_of sp) o)) (child_body m k) ≡ o
      standing m at None e = no_child m k q at e
      standing m at (Some b) e = body_back b (alone.led (k ∷ q) b e) (child_body m k)
          (λ birth holder is. inner_body m k q at birth holder (e ∙ ap (λ d. Some d) is) ∙ ap (λ d. Some d) (sym is))

      by : (o : Option ℕ) → space_number ss q ≡ o → and_then (λ m. pictured_body_in ss m k) o ≡ c.body (k ∷ q)
      by None e = nowhere (c.body (k ∷ q)) refl
        where
          clash : (n : ℕ) → None ≡ Some n → ⊥
          clash n e = cc

          nowhere : (o : Option Body) → c.body (k ∷ q) ≡ o → None ≡ o
          nowhere None is = refl
          nowhere (Some b) is =
              let at = its.all q (alone.parents k q (some_is (c.body (k ∷ q)) b is)) in
              absurd (clash (rank sp q) (sym e ∙ number_is (rank sp q) q at))
      by (Some m) e =
          let at = numbered m q e in
          ap (λ o. or_else (and_then (λ (s : SpaceRec). option_map (pictured_body ss) (rec_in s.objects k)) o) (child_body m k)) (rec_here m q at)
          ∙ ap (λ r. or_else (option_map (pictured_body ss) r) (child_body m k)) (rec_is q k)
          ∙ standing m at (c.body (k ∷ q)) refl

  page_is : (q : Path) (page : ℕ) → page_in (pages_from (c.page q) 256 0) page ≡ c.page q page
  page_is q page = by (cases_lt page 256)
    where
      nothing : (o : Option (List ℕ)) → c.page q page ≡ o → 256 ≤ page → o ≡ None
      nothing None e le = refl
      nothing (Some b) e le = let low = (alone.paged q page (some_is (c.page q page) b e)).1 in absurd (omega (arith, low, le))

      by : (page < 256) ⊎ (256 ≤ page) → page_in (pages_from (c.page q) 256 0) page ≡ c.page q page
      by (inl lt) = page_found (c.page q) 256 0 page (omega arith) (omega (arith, lt))
      by (inr ge) = page_past (c.page q) 256 0 page (omega (arith, ge)) ∙ sym (nothing (c.page q page) refl ge)

  pages_back : (q : Path) (page : ℕ) → pictured_page_at ss q page ≡ c.page q page
  pages_back q page = by (space_number ss q) refl
    where
      by : (o : Option ℕ) → space_number ss q ≡ o → and_then (λ n. and_then (λ (s : SpaceRec). page_in s.pages page) (slice_get ss n)) o ≡ c.page q page
      by None e = nowhere (c.page q page) refl
        where
          clash : (n : ℕ) → None ≡ Some n → ⊥
          clash n e = cc

          nowhere : (o : Option (List ℕ)) → c.page q page ≡ o → None ≡ o
          nowhere None is = refl
          nowhere (Some b) is =
              let at = its.all q (alone.paged q page (some_is (c.page q page) b is)).0 in
              absurd (clash (rank sp q) (sym e ∙ number_is (rank sp q) q at))
      by (Some n) e = ap (and_then (λ (s : SpaceRec). page_in s.pages page)) (rec_here n q (numbered n q e)) ∙ page_is q page

  world_back : picture (image_of c sp) ≡ c
  unfolding picture
  world_back = λ i. record { body = λ q. body q i; page = λ q page. pages_back q page i; next = sym alone.unborn i }
    where
      body : (q : Path) → pictured_body_at ss q ≡ c.body q
      body [] = sym alone.root
      body (k ∷ q) = bodies_back k q

pub picture_of_image : PictureOfImage
picture_of_image c sp alone its = world_back c sp alone its
