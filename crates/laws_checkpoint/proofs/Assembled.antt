-- What was read and gathered of spaces, put together, is their part of the image.
use Rattle.std.proofs.Common.{◌≡◌, ◌≤◌, ℕ, zero, suc, ◌+◌, List, [], ◌∷◌, ◌++◌, map, drop, length, Option, Some, None, option_map, refl, sym, ap, subst, ◌∙◌}
use Rattle.std.proofs.Common.{arith, ◌⊎◌, inl, inr, append_assoc}
use Rattle.fk_model.specs.declared.limits.TheConstants.{SLOTS, PAGES}
use Rattle.fk_model.specs.declared.names.Kind.TheVariants as kinds
use Rattle.fk_model.specs.Places.{Path, slot_of, Ptr}
use Rattle.fk_model.specs.Objects.{and_then, thread_of, Thread, Body, kind_of}
use Rattle.fk_model.specs.Objects.Body.{Mutex, Cond, Mapping, Region, Port, Portset, Space, Thread_of, Reference}
use Rattle.fk_model.specs.World.{World, Sweep}
use Rattle.fk_model.specs.Records.{record_of, word}
use Rattle.fk_model.specs.Shapes.{IsShapedMode}
use Rattle.fk_model.specs.Valid.{kind_there}
use Rattle.fk_model.specs.Cut.{ports_of, cut_ptr, cutting, seen_by, unheld, cut}
use Rattle.fk_model.proofs.walks.Members.{IsIn}
use Rattle.fk_image.specs.declared.image.image.Rec.{Rec}
use Rattle.fk_image.specs.declared.image.image.PageRec.{PageRec}
use Rattle.fk_image.specs.declared.image.image.SpaceRec.{SpaceRec}
use Rattle.laws_pictures.specs.Imaged.{link_of, rec_of, with_object, objects_from, with_page, pages_from, rec_at, holder_link, parent_number, space_rec}
use Rattle.laws_pictures.specs.Imaged.{image_of}
use Rattle.laws_checkpoint.specs.Foreign.{Task}
use Rattle.laws_checkpoint.specs.Contents.{Item, with_item, items_from, record_in, record_at, content}
use Rattle.laws_checkpoint.specs.Gather.{pointer_fields, body_as, shown_at, pointers_of, all_pointers}
use Rattle.laws_checkpoint.specs.Assembly.{pointers_by, item_task, holder_task, content_tasks, gathered_tasks, rec_from, asked_of, asked_of_all, objects_with}
use Rattle.laws_checkpoint.specs.Assembly.{page_rec, holder_from, behind_holder, space_with, spaces_with, paths_read, assembled}
use Rattle.laws_checkpoint.proofs.Tasks.{pointers_are}
use Rattle.laws_checkpoint.proofs.Recorded.{rec_is}

drop_length : {A : Type 0} (xs ys : List A) → drop (length xs) (xs ++ ys) ≡ ys
drop_length [] ys = refl
drop_length (x ∷ xs) ys = drop_length xs ys

length_map : {A B : Type 0} (f : A → B) (xs : List A) → length (map f xs) ≡ length xs
length_map f [] = refl
length_map f (x ∷ xs) = ap suc (length_map f xs)

zero_plus : (n : ℕ) → zero + n ≡ n
zero_plus n = omega arith

suc_plus : (m n : ℕ) → suc m + n ≡ suc (m + n)
suc_plus m n = omega arith

drop_more : {A : Type 0} (m n : ℕ) (xs : List A) → drop (m + n) xs ≡ drop n (drop m xs)
drop_more zero n xs = ap (λ (k : ℕ). drop k xs) (zero_plus n)
drop_more (suc m) zero [] = ap (λ (k : ℕ). drop k []) (suc_plus m zero)
drop_more (suc m) (suc n) [] = ap (λ (k : ℕ). drop k []) (suc_plus m (suc n))
drop_more (suc m) n (x ∷ xs) = ap (λ (k : ℕ). drop k (x ∷ xs)) (suc_plus m n) ∙ drop_more m n xs

all_append : (show : Path → ℕ → Ptr) (ts us : List Task) → all_pointers show (ts ++ us) ≡ all_pointers show ts ++ all_pointers show us
all_append show [] us = refl
all_append show (t ∷ ts) us =
    ap (λ (ps : List Ptr). pointers_of show t t.fields ++ ps) (all_append show ts us)
    ∙ sym (append_assoc (pointers_of show t t.fields) (all_pointers show ts) (all_pointers show us))

module _ (w : World) (nester : Path) (slot : ℕ) (sp : List Path)
    (shaped : (q : Path) (t : Thread) → and_then thread_of (w.body (q ++ slot ∷ nester)) ≡ Some t → IsShapedMode t.mode) where
  abbrev root : Path
  root = slot ∷ nester

  abbrev c : World
  c = cut w nester slot

  abbrev see : Ptr → Ptr
  see = cut_ptr (ports_of w nester slot) nester slot

  abbrev f : Sweep
  f = cutting (ports_of w nester slot) nester slot

  abbrev show : Path → ℕ → Ptr
  show = shown_at w nester slot

  show_is : (q : Path) (n : ℕ) → show q n ≡ body_as see n (w.body (q ++ root))
  unfolding shown_at
  show_is q n = refl

  body_is : (q : Path) → c.body q ≡ option_map (λ (b : Body). unheld q (seen_by f b)) (w.body (q ++ root))
  unfolding cut
  body_is q = refl

  shows_body : (q : Path) (b : Body) (ns : List ℕ) → w.body (q ++ root) ≡ Some b → map (show q) ns ≡ map (λ (n : ℕ). body_as see n (Some b)) ns
  shows_body q b [] e = refl
  shows_body q b (n ∷ ns) e = λ i. (show_is q n ∙ ap (body_as see n) e) i ∷ shows_body q b ns e i

  -- a slot is empty, or holds a space; or its record and its pointers make its record in the image
  record Recorded (q : Path) (k : ℕ) : Type 0 where
    words : List ℕ
    made : Rec
    has : record_at c q k ≡ Some words
    is : rec_at c sp q k ≡ Some made
    makes : (more : List Ptr) → rec_from sp words (map (show (k ∷ q)) (pointers_by (word words 0)) ++ more) ≡ made

  abbrev Passed : Path → ℕ → Type 0
  Passed q k = (record_at c q k ≡ None) × (rec_at c sp q k ≡ None)

  abbrev has_record : Body → Type 0
  has_record b = (words : List ℕ) × (made : Rec) × (record_in (Some b) ≡ Some words) × (words ≡ record_of b) × (rec_of sp b ≡ Some made)

  each_body : (b : Body) → ((record_in (Some (seen_by f b)) ≡ None) × (rec_of sp (seen_by f b) ≡ None)) ⊎ has_record (seen_by f b)
  unfolding seen_by
  each_body (Mutex locked) = inr (_, _, refl, refl, refl)
  each_body Cond = inr (_, _, refl, refl, refl)
  each_body (Mapping m) = inr (_, _, refl, refl, refl)
  each_body (Region r) = inr (_, _, refl, refl, refl)
  each_body (Port set served) = inr (_, _, refl, refl, refl)
  each_body Portset = inr (_, _, refl, refl, refl)
  each_body (Space birth holder) = inl (refl, refl)
  each_body (Thread_of t) = inr (_, _, refl, refl, refl)
  each_body (Reference to) = inr (_, _, refl, refl, refl)

  each_slot : (q : Path) (k : ℕ) → Passed q k ⊎ Recorded q k
  each_slot q k = by (w.body ((k ∷ q) ++ root)) refl
    where
      by : (o : Option Body) → w.body ((k ∷ q) ++ root) ≡ o → Passed q k ⊎ Recorded q k
      by None e =
          let there : c.body (k ∷ q) ≡ None = body_is (k ∷ q) ∙ ap (option_map (λ (b : Body). seen_by f b)) e in
          inl (ap record_in there, ap (and_then (rec_of sp)) there)
      by (Some b) e = each (each_body b)
        where
          there : c.body (k ∷ q) ≡ Some (seen_by f b)
          there = body_is (k ∷ q) ∙ ap (option_map (λ (b : Body). seen_by f b)) e

          is_thread : (t : Thread) → b ≡ Thread_of t → IsShapedMode t.mode
          is_thread t is = shaped (k ∷ q) t (ap (and_then thread_of) (e ∙ ap (λ (b : Body). Some b) is))

          each : ((record_in (Some (seen_by f b)) ≡ None) × (rec_of sp (seen_by f b) ≡ None)) ⊎ has_record (seen_by f b) → Passed q k ⊎ Recorded q k
          each (inl none) = inl (ap record_in there ∙ none.0, ap (and_then (rec_of sp)) there ∙ none.1)
          each (inr its) = inr (record {
            words = its.0;
            made = its.1;
            has = ap record_in there ∙ its.2;
            is = ap (and_then (rec_of sp)) there ∙ its.4;
            makes = λ more.
                ap (λ (ns : List ℕ). rec_from sp its.0 (map (show (k ∷ q)) ns ++ more)) (pointers_are (Some (seen_by f b)) its.0 its.2) ∙
                ap (λ (ps : List Ptr). rec_from sp its.0 (ps ++ more)) (shows_body (k ∷ q) b (pointer_fields (Some (seen_by f b))) e) ∙
                ap (λ (ws : List ℕ). rec_from sp ws (map (λ (n : ℕ). body_as see n (Some b)) (pointer_fields (Some (seen_by f b))) ++ more)) its.3 ∙
                rec_is w nester slot sp b more its.1 is_thread its.4;
          })

  -- ---- the objects of a space

  abbrev items_pointers : Path → List Item → List Ptr
  items_pointers q is = all_pointers show (map (item_task q) is)

  objects_are : (q : Path) (n k : ℕ) (more : List Ptr) →
      objects_with sp (items_from (record_at c q) n k) (items_pointers q (items_from (record_at c q) n k) ++ more) ≡ objects_from (rec_at c sp q) n k
  unfolding items_from objects_from objects_with
  objects_are q zero k more = refl
  objects_are q (suc n) k more = by (each_slot q k) (objects_are q n (suc k))
    where
      rest : List Item
      rest = items_from (record_at c q) n (suc k)

      by : Passed q k ⊎ Recorded q k → ((more : List Ptr) → objects_with sp rest (items_pointers q rest ++ more) ≡ objects_from (rec_at c sp q) n (suc k)) →
          objects_with sp (with_item k (record_at c q k) rest) (items_pointers q (with_item k (record_at c q k) rest) ++ more) ≡
          with_object k (rec_at c sp q k) (objects_from (rec_at c sp q) n (suc k))
      by (inl none) later = rw (none.0, none.1) (later more)
      by (inr its) later = rw (its.has, its.is) (joined ∙ (λ i. record { slot = k; body = its.makes (items_pointers q rest ++ more) i } ∷ shifted i))
        where
          mine : List Ptr
          mine = map (show (k ∷ q)) (pointers_by (word its.words 0))

          one : Item
          one = record { number = k; words = its.words }

          joined : objects_with sp (one ∷ rest) ((mine ++ items_pointers q rest) ++ more)
              ≡ objects_with sp (one ∷ rest) (mine ++ (items_pointers q rest ++ more))
          joined = ap (objects_with sp (one ∷ rest)) (append_assoc mine (items_pointers q rest) more)

          shifted : objects_with sp rest (drop (asked_of one) (mine ++ (items_pointers q rest ++ more))) ≡ objects_from (rec_at c sp q) n (suc k)
          shifted =
              ap (λ (n : ℕ). objects_with sp rest (drop n (mine ++ (items_pointers q rest ++ more))))
              (sym (length_map (show (k ∷ q)) (pointers_by (word its.words 0)))) ∙
              ap (objects_with sp rest) (drop_length mine (items_pointers q rest ++ more)) ∙ later more

  behind : (q : Path) (is : List Item) (more : List Ptr) → drop (asked_of_all is) (items_pointers q is ++ more) ≡ more
  unfolding asked_of_all
  behind q [] more = refl
  behind q (i ∷ is) more =
      let mine = map (show (i.number ∷ q)) (pointers_by (word i.words 0)) in
      drop_more (asked_of i) (asked_of_all is) ((mine ++ items_pointers q is) ++ more) ∙
      ap (λ (ps : List Ptr). drop (asked_of_all is) (drop (asked_of i) ps)) (append_assoc mine (items_pointers q is) more) ∙
      ap (λ (n : ℕ). drop (asked_of_all is) (drop n (mine ++ (items_pointers q is ++ more))))
      (sym (length_map (show (i.number ∷ q)) (pointers_by (word i.words 0)))) ∙
      ap (drop (asked_of_all is)) (drop_length mine (items_pointers q is ++ more)) ∙ behind q is more

  pages_are : (pages : ℕ → Option (List ℕ)) (n k : ℕ) → map page_rec (items_from pages n k) ≡ pages_from pages n k
  unfolding items_from pages_from
  pages_are pages zero k = refl
  pages_are pages (suc n) k = by (pages k) (pages_are pages n (suc k))
    where
      by : (o : Option (List ℕ)) → map page_rec (items_from pages n (suc k)) ≡ pages_from pages n (suc k) →
          map page_rec (with_item k o (items_from pages n (suc k))) ≡ with_page k o (pages_from pages n (suc k))
      by None e = e
      by (Some words) e = ap (λ (ps : List PageRec). record { page = k; words = words } ∷ ps) e

  -- above users' slots there is nothing
  none_from : (g : ℕ → Option Rec) (n k : ℕ) → ((j : ℕ) → g (k + j) ≡ None) → objects_from g n k ≡ []
  unfolding objects_from
  none_from g zero k none = refl
  none_from g (suc n) k none =
      let here : g k ≡ None = subst (λ (m : ℕ). g m ≡ None) (let e : k + 0 ≡ k = omega arith in e) (none 0) in
      rw here (none_from g n (suc k) (λ j. subst (λ (m : ℕ). g m ≡ None) (let e : k + suc j ≡ suc k + j = omega arith in e) (none (suc j))))

  fewer : (g : ℕ → Option Rec) (m n k : ℕ) → ((j : ℕ) → g (n + k + j) ≡ None) → objects_from g (n + m) k ≡ objects_from g n k
  unfolding objects_from
  fewer g m zero k none =
      ap (λ (i : ℕ). objects_from g i k) (zero_plus m)
      ∙ none_from g m k (λ j. subst (λ (i : ℕ). g i ≡ None) (let e : zero + k + j ≡ k + j = omega arith in e) (none j))
  fewer g m (suc n) k none =
      ap (λ (i : ℕ). objects_from g i k) (suc_plus n m) ∙
      ap (with_object k (g k)) (fewer g m n (suc k) (λ j. subst (λ (i : ℕ). g i ≡ None) (let e : suc n + k + j ≡ n + suc k + j = omega arith in e) (none j)))

  -- ---- a space, and then the others

  abbrev NoneHigh : Path → Type 0
  NoneHigh q = (j : ℕ) → rec_at c sp q (240 + 0 + j) ≡ None

  all_objects : (q : Path) → NoneHigh q → (more : List Ptr) →
      objects_with sp (content c q).objects (items_pointers q (content c q).objects ++ more) ≡ objects_from (rec_at c sp q) 240 0
  all_objects q none more = objects_are q SLOTS 0 more ∙ fewer (rec_at c sp q) 16 240 0 none

  abbrev mine_of : Path → List Ptr
  mine_of q = all_pointers show (content_tasks (content c q))

  -- of the root no holder is asked for, and none is shown
  holder_is : (q : Path) (more : List Ptr) → kind_there c q ≡ Some kinds.Space →
      (holder_from sp q (all_pointers show (holder_task q) ++ more) ≡ holder_link sp (c.body q))
      × (behind_holder q (all_pointers show (holder_task q) ++ more) ≡ more)
  unfolding kind_there seen_by
  holder_is q more space = by q (w.body (q ++ root)) refl (ap (option_map kind_of) (sym (body_is q)) ∙ space)
    where
      by : (q : Path) (o : Option Body) → w.body (q ++ root) ≡ o → option_map kind_of (option_map (λ (b : Body). unheld q (seen_by f b)) o) ≡ Some kinds.Space →
          (holder_from sp q (all_pointers show (holder_task q) ++ more) ≡ holder_link sp (c.body q))
          × (behind_holder q (all_pointers show (holder_task q) ++ more) ≡ more)
      by [] (Some (Space birth holder)) e is = (sym (ap (holder_link sp) (body_is [] ∙ ap (option_map (λ (b : Body). unheld [] (seen_by f b))) e)), refl)
      by (k ∷ q) (Some (Space birth None)) e is = (
        ap (link_of sp) (show_is (k ∷ q) 0 ∙ ap (body_as see 0) e)
            ∙ sym (ap (holder_link sp) (body_is (k ∷ q) ∙ ap (option_map (λ (b : Body). seen_by f b)) e)),
        refl,
      )
      by (k ∷ q) (Some (Space birth (Some p))) e is = (
        ap (link_of sp) (show_is (k ∷ q) 0 ∙ ap (body_as see 0) e)
            ∙ sym (ap (holder_link sp) (body_is (k ∷ q) ∙ ap (option_map (λ (b : Body). seen_by f b)) e)),
        refl,
      )
      by [] None e is = cc
      by [] (Some (Mutex locked)) e is = cc
      by [] (Some Cond) e is = cc
      by [] (Some (Mapping m)) e is = cc
      by [] (Some (Region r)) e is = cc
      by [] (Some (Port set served)) e is = cc
      by [] (Some Portset) e is = cc
      by [] (Some (Thread_of t)) e is = cc
      by [] (Some (Reference to)) e is = cc
      by (k ∷ q) None e is = cc
      by (k ∷ q) (Some (Mutex locked)) e is = cc
      by (k ∷ q) (Some Cond) e is = cc
      by (k ∷ q) (Some (Mapping m)) e is = cc
      by (k ∷ q) (Some (Region r)) e is = cc
      by (k ∷ q) (Some (Port set served)) e is = cc
      by (k ∷ q) (Some Portset) e is = cc
      by (k ∷ q) (Some (Thread_of t)) e is = cc
      by (k ∷ q) (Some (Reference to)) e is = cc

  split : (q : Path) (more : List Ptr) → mine_of q ++ more ≡ all_pointers show (holder_task q) ++ (items_pointers q (content c q).objects ++ more)
  split q more =
      ap (λ (ps : List Ptr). ps ++ more) (all_append show (holder_task q) (map (item_task q) (content c q).objects)) ∙
      append_assoc (all_pointers show (holder_task q)) (items_pointers q (content c q).objects) more

  space_is : (q : Path) (more : List Ptr) → kind_there c q ≡ Some kinds.Space → NoneHigh q → space_with sp (content c q) (mine_of q ++ more) ≡ space_rec c sp q
  space_is q more space none =
      let after = items_pointers q (content c q).objects ++ more in
      let its = holder_is q after space in
      ap (space_with sp (content c q)) (split q more) ∙
      (λ i. record {
        parent = parent_number sp q;
        slot = slot_of q;
        holder = its.0 i;
        objects = (ap (objects_with sp (content c q).objects) its.1 ∙ all_objects q none more) i;
        pages = pages_are (c.page q) PAGES 0 i;
      })

  behind_space : (q : Path) (more : List Ptr) → kind_there c q ≡ Some kinds.Space →
      drop (asked_of_all (content c q).objects) (behind_holder q (mine_of q ++ more)) ≡ more
  behind_space q more space =
      let after = items_pointers q (content c q).objects ++ more in
      ap (λ (ps : List Ptr). drop (asked_of_all (content c q).objects) (behind_holder q ps)) (split q more) ∙
      ap (drop (asked_of_all (content c q).objects)) (holder_is q after space).1 ∙ behind q (content c q).objects more

  spaces_are : (qs : List Path) → ((q : Path) → IsIn q qs → (kind_there c q ≡ Some kinds.Space) × NoneHigh q) →
      spaces_with sp (map (content c) qs) (all_pointers show (gathered_tasks (map (content c) qs))) ≡ map (space_rec c sp) qs
  unfolding spaces_with
  spaces_are [] h = refl
  spaces_are (q ∷ qs) h =
      let its = h q (inl refl) in
      let more = all_pointers show (gathered_tasks (map (content c) qs)) in
      let apart : all_pointers show (gathered_tasks (map (content c) (q ∷ qs))) ≡ mine_of q
      ++ more = all_append show (content_tasks (content c q)) (gathered_tasks (map (content c) qs)) in
      ap (spaces_with sp (map (content c) (q ∷ qs))) apart ∙
      (λ i. space_is q more its.0 its.1 i ∷
      (ap (spaces_with sp (map (content c) qs)) (behind_space q more its.0) ∙ spaces_are qs (λ x is. h x (inr is))) i)

paths_are : (c : World) (qs : List Path) → paths_read (map (content c) qs) ≡ qs
paths_are c [] = refl
paths_are c (q ∷ qs) = ap (λ (xs : List Path). q ∷ xs) (paths_are c qs)

-- all of them are the image
pub assembled_is : (w : World) (nester : Path) (slot : ℕ) (sp : List Path) →
    ((q : Path) (t : Thread) → and_then thread_of (w.body (q ++ slot ∷ nester)) ≡ Some t → IsShapedMode t.mode) →
    ((q : Path) → IsIn q sp → kind_there (cut w nester slot) q ≡ Some kinds.Space) →
    ((q : Path) (k : ℕ) → 240 ≤ k → (cut w nester slot).body (k ∷ q) ≡ None) →
    assembled (map (content (cut w nester slot)) sp) (all_pointers (shown_at w nester slot) (gathered_tasks (map (content (cut w nester slot)) sp)))
    ≡ image_of (cut w nester slot) sp
assembled_is w nester slot sp shaped spaces none =
    ap (λ (xs : List Path). record {
      spaces = spaces_with xs (map (content (cut w nester slot)) sp)
          (all_pointers (shown_at w nester slot) (gathered_tasks (map (content (cut w nester slot)) sp)));
    })
    (paths_are (cut w nester slot) sp) ∙
    ap (λ (ss : List SpaceRec). record { spaces = ss })
    (spaces_are w nester slot sp shaped sp
    (λ q is. (spaces q is, λ j. ap (and_then (rec_of sp)) (none q (240 + 0 + j) (let e : 240 ≤ 240 + 0 + j = omega arith in e)))))
