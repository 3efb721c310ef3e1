-- What is behind the first items of a list.
use Rattle.std.proofs.Common.{◌≡◌, ℕ, zero, suc, ◌+◌, ◌-◌, ◌<◌, List, [], ◌∷◌, ◌++◌, map, length, take}
use Rattle.std.proofs.Common.{drop, ◌≤◌, min, replicate, refl, sym, ap, subst, ◌∙◌, arith, append_assoc, Bool, true, false}
use Rattle.std.specs.Prelude.{nat_lt, slice_get, slice_index_or}
use Rattle.std.proofs.lemmas.List.{drop_all, take_all, take_min as take-min, length-take, drop-replicate, append-nil}
use Rattle.std.proofs.Math.Nat.{min_comm}
use Rattle.fk_model.specs.Records.{padded}
use Rattle.fk_model.specs.Places.{Path, Ptr}
use Rattle.fk_image.specs.Image.Objects.{next_slot}
use Rattle.fk_image.proofs.InImage.Rising.{next_slot-more}
use Rattle.fk_checkpoint.specs.Seeking.Seeking.{up}
use Rattle.fk_checkpoint.proofs.InSeeking.Ways.{no_more}
use Rattle.laws_checkpoint.specs.Contents.{Item, Content}
use Rattle.fk_checkpoint.specs.Assembly.Assembling.{pointer_in, kept_of, floor_after}
use Rattle.fk_image.specs.declared.image.image.ObjectRec.{ObjectRec}
use Rattle.fk_image.specs.declared.image.image.SpaceRec.{SpaceRec}
use Rattle.fk_image.specs.declared.image.image.Image.{Image}
use Rattle.laws_checkpoint.specs.Assembly.{pointer_at, asked_of, asked_of_all, objects_with, behind_holder, space_with, spaces_with}
use Rattle.laws_checkpoint.specs.Narrow.{narrow_space, rising}
use Rattle.fk_checkpoint.specs.declared.gathering.content.Lead.{Lead}
use Rattle.fk_checkpoint.specs.declared.gathering.content.Item.{Item as CodeItem}
use Rattle.fk_checkpoint.specs.declared.gathering.content.Content.{Content as CodeContent}
use Rattle.fk_checkpoint.specs.Gathering.Gathering.{item_of, items_of, content_of, contents_of, leads_of}

pub drop_map : (count : ℕ) (leads : List Lead) → leads_of (drop count leads) ≡ drop count (leads_of leads)
drop_map zero leads = refl
drop_map (suc count) [] = refl
drop_map (suc count) (l ∷ leads) = drop_map count leads

pub drop_more : (a b : ℕ) (xs : List Ptr) → drop b (drop a xs) ≡ drop (a + b) xs
drop_more zero b xs = ap (λ n. drop n xs) (none b)
  where
    none : (n : ℕ) → n ≡ 0 + n
    none n = omega arith
drop_more (suc a) b [] = ends (suc a) b
  where
    nothing : List Ptr
    nothing = []

    ends : (k n : ℕ) → drop n (drop k nothing) ≡ drop (k + n) nothing
    ends k n = ap (λ xs. drop n xs) (drop_all k nothing (omega arith)) ∙ drop_all n nothing (omega arith) ∙ sym (drop_all (k + n) nothing (omega arith))
drop_more (suc a) b (x ∷ xs) = drop_more a b xs ∙ ap (λ n. drop n (x ∷ xs)) (shift a b)
  where
    shift : (m n : ℕ) → suc (m + n) ≡ suc m + n
    shift m n = omega arith

pub pointer_get : (leads : List Lead) (at : ℕ) → pointer_at (leads_of leads) at ≡ pointer_in (slice_get leads at)
pointer_get [] zero = refl
pointer_get [] (suc at) = refl
pointer_get (l ∷ leads) zero = refl
pointer_get (l ∷ leads) (suc at) = pointer_get leads at

next_item : {X : Type 0} (xs : List X) (n : ℕ) (d : X) → n < length xs → drop n xs ≡ slice_index_or xs n d ∷ drop (n + 1) xs
next_item xs n d less = here xs n d less ∙ ap (λ k. slice_index_or xs n d ∷ drop k xs) (one_more n)
  where
    one_more : (n : ℕ) → suc n ≡ n + 1
    one_more n = omega arith

    here : {X : Type 0} (xs : List X) (n : ℕ) (d : X) → n < length xs → drop n xs ≡ slice_index_or xs n d ∷ drop (suc n) xs
    here [] n d less = absurd (omega (arith, less))
    here (x ∷ xs) zero d less = refl
    here (x ∷ xs) (suc n) d less = here xs n d (omega (arith, less))

-- ---- the pointers behind objects

asked_one : (i : Item) (is : List Item) (ps : List Ptr) → drop (asked_of_all is) (drop (asked_of i) ps) ≡ drop (asked_of_all (i ∷ is)) ps
unfolding asked_of_all
asked_one i is ps = drop_more (asked_of i) (asked_of_all is) ps

behind_is : (left behind : List Lead) (count : ℕ) (i : Item) → count ≡ asked_of i → behind ≡ drop count left
    → leads_of behind ≡ drop (asked_of i) (leads_of left)
behind_is left behind count i asked is = ap leads_of is ∙ drop_map count left ∙ ap (λ k. drop k (leads_of left)) asked

pub asked_step : (items : List CodeItem) (n count : ℕ) (d : CodeItem) (left behind : List Lead) (all : List Ptr) → n < length items →
    count ≡ asked_of (item_of (slice_index_or items n d)) → behind ≡ drop count left →
    drop (asked_of_all (items_of (drop n items))) (leads_of left) ≡ all → drop (asked_of_all (items_of (drop (n + 1) items))) (leads_of behind) ≡ all
asked_step items n count d left behind all less asked is whole =
    ap (λ ps. drop (asked_of_all (items_of (drop (n + 1) items))) ps) (behind_is left behind count (item_of (slice_index_or items n d)) asked is)
    ∙ asked_one (item_of (slice_index_or items n d)) (items_of (drop (n + 1) items)) (leads_of left)
    ∙ ap (λ is. drop (asked_of_all (items_of is)) (leads_of left)) (sym (next_item items n d less)) ∙ whole

pub asked_end : (items : List CodeItem) (n : ℕ) (left : List Lead) (all : List Ptr) → length items ≤ n →
    drop (asked_of_all (items_of (drop n items))) (leads_of left) ≡ all → leads_of left ≡ all
unfolding asked_of_all
asked_end items n left all past whole = sym (ap (λ is. drop (asked_of_all (items_of is)) (leads_of left))
    (no_more items n (λ less. omega (arith, less, past)))) ∙ whole

-- ---- objects by rising slot

pub next_after : (os : List ObjectRec) (o : ObjectRec) → next_slot (os ++ o ∷ []) ≡ o.slot + 1
next_after os o = next_slot-more os o

rising_one : (sp : List Path) (floor : ℕ) (i : Item) (is : List Item) (ps : List Ptr) (b : Bool) → nat_lt i.number floor ≡ b →
    rising floor (objects_with sp (i ∷ is) ps) ≡ kept_of sp floor i ps ++ rising (floor_after floor i.number) (objects_with sp is (drop (asked_of i) ps))
unfolding rising objects_with
rising_one sp floor i is ps true e = rw e refl
rising_one sp floor i is ps false e = rw e refl

pub object_step : (sp : List Path) (items : List CodeItem) (n floor count next : ℕ) (d : CodeItem) (left behind : List Lead)
    (objects more all : List ObjectRec) → n < length items →
    count ≡ asked_of (item_of (slice_index_or items n d)) → behind ≡ drop count left →
    more ≡ objects ++ kept_of sp floor (item_of (slice_index_or items n d)) (leads_of left) → next ≡ floor_after floor (slice_index_or items n d).number →
    objects ++ rising floor (objects_with sp (items_of (drop n items)) (leads_of left)) ≡ all →
    more ++ rising next (objects_with sp (items_of (drop (n + 1) items)) (leads_of behind)) ≡ all
object_step sp items n floor count next d left behind objects more all less asked is kept after whole =
    let item = slice_index_or items n d in
    let is_left = items_of (drop (n + 1) items) in
    ap (λ os. os ++ rising next (objects_with sp is_left (leads_of behind))) kept
    ∙ append_assoc objects (kept_of sp floor (item_of item) (leads_of left)) (rising next (objects_with sp is_left (leads_of behind)))
    ∙ ap (λ k. objects ++ (kept_of sp floor (item_of item) (leads_of left) ++ rising k (objects_with sp is_left (leads_of behind)))) after
    ∙ ap (λ ps. objects ++ (kept_of sp floor (item_of item) (leads_of left) ++ rising (floor_after floor item.number) (objects_with sp is_left ps)))
    (behind_is left behind count (item_of item) asked is)
    ∙ ap (λ os. objects ++ os) (sym (rising_one sp floor (item_of item) is_left (leads_of left) (nat_lt item.number floor) refl))
    ∙ ap (λ is. objects ++ rising floor (objects_with sp (items_of is) (leads_of left))) (sym (next_item items n d less)) ∙ whole

pub object_end : (sp : List Path) (items : List CodeItem) (n floor : ℕ) (left : List Lead) (objects all : List ObjectRec) → length items ≤ n →
    objects ++ rising floor (objects_with sp (items_of (drop n items)) (leads_of left)) ≡ all → objects ≡ all
unfolding rising objects_with
object_end sp items n floor left objects all past whole =
    sym (append-nil objects) ∙ sym (ap (λ is. objects ++ rising floor (objects_with sp (items_of is) (leads_of left)))
    (no_more items n (λ less. omega (arith, less, past)))) ∙ whole

-- ---- spaces

space_one : (sp : List Path) (c : Content) (cs : List Content) (ps : List Ptr) →
    map narrow_space (spaces_with sp (c ∷ cs) ps) ≡ narrow_space (space_with sp c ps)
    ∷ map narrow_space (spaces_with sp cs (drop (asked_of_all c.objects) (behind_holder c.path ps)))
unfolding spaces_with
space_one sp c cs ps = refl

pub space_step : (sp : List Path) (contents : List CodeContent) (n : ℕ) (content : CodeContent) (left behind : List Lead) (spaces more : List SpaceRec)
    (space : SpaceRec)
    (all : List SpaceRec) → n < length contents → content ≡ slice_index_or contents n content → more ≡ spaces ++ space ∷ [] →
    space ≡ narrow_space (space_with sp (content_of content) (leads_of left)) →
    leads_of behind ≡ drop (asked_of_all (items_of content.objects)) (behind_holder (up content.path) (leads_of left)) →
    spaces ++ map narrow_space (spaces_with sp (contents_of (drop n contents)) (leads_of left)) ≡ all →
    more ++ map narrow_space (spaces_with sp (contents_of (drop (n + 1) contents)) (leads_of behind)) ≡ all
space_step sp contents n content left behind spaces more space all less there pushed is passed whole =
    let cs = contents_of (drop (n + 1) contents) in
    let next : drop n contents ≡ content ∷ drop (n + 1) contents = next_item contents n content less ∙ ap (λ c. c ∷ drop (n + 1) contents) (sym there) in
    ap (λ ss. ss ++ map narrow_space (spaces_with sp cs (leads_of behind))) pushed
    ∙ append_assoc spaces (space ∷ []) (map narrow_space (spaces_with sp cs (leads_of behind)))
    ∙ ap (λ s. spaces ++ s ∷ map narrow_space (spaces_with sp cs (leads_of behind))) is
    ∙ ap (λ ps. spaces ++ narrow_space (space_with sp (content_of content) (leads_of left)) ∷ map narrow_space (spaces_with sp cs ps)) passed
    ∙ ap (λ ss. spaces ++ ss) (sym (space_one sp (content_of content) cs (leads_of left)))
    ∙ ap (λ cs. spaces ++ map narrow_space (spaces_with sp (contents_of cs) (leads_of left))) (sym next) ∙ whole

pub space_end : (sp : List Path) (contents : List CodeContent) (n : ℕ) (left : List Lead) (spaces all : List SpaceRec) → length contents ≤ n →
    spaces ++ map narrow_space (spaces_with sp (contents_of (drop n contents)) (leads_of left)) ≡ all → spaces ≡ all
unfolding spaces_with
space_end sp contents n left spaces all past whole =
    sym (append-nil spaces) ∙ sym (ap (λ cs. spaces ++ map narrow_space (spaces_with sp (contents_of cs) (leads_of left)))
    (no_more contents n (λ less. omega (arith, less, past)))) ∙ whole

pub image_of : (spaces more : List SpaceRec) → spaces ≡ more → ◌≡◌ {A = Image} (record { spaces = spaces }) (record { spaces = more })
image_of spaces more e = subst (λ ss. ◌≡◌ {A = Image} (record { spaces = spaces }) (record { spaces = ss })) e refl

-- ---- words

pub all_taken : (words : List ℕ) → length words ≤ 64 → take 64 words ≡ words
all_taken words few = take_all 64 words few

-- a whole page is as it was read
pub whole_page : (words : List ℕ) (len : ℕ) → length words ≡ 64 → len ≡ 64 → words ≡ padded 64 (take len words)
whole_page words len long whole =
    let all : take len words ≡ words = take_all len words (omega (arith, long, whole)) in
    let none : 64 - length (take len words) ≡ 0 = ap (λ ws. 64 - length ws) all ∙ omega (arith, long) in
    sym (ap (λ n. take len words ++ replicate n 0) none ∙ append-nil (take len words) ∙ all)

-- words that are laid over the front of 64 zeros
pub filled : (words put : List ℕ) (count : ℕ) → count ≡ min (length words) 64 → put ≡ take count words →
    put ++ drop count (replicate 64 0) ≡ padded 64 (take 64 words)
filled words put count is puts =
    let front : put ≡ take 64 words = puts ∙ (ap (λ n. take n words) (is ∙ min_comm (length words) 64) ∙ take-min 64 words) in
    let size : count ≡ length (take 64 words) = is ∙ (min_comm (length words) 64 ∙ sym (length-take 64 words)) in
    let zeros : drop count (replicate 64 0) ≡ replicate (64 - length (take 64 words)) 0 = drop-replicate count 64 0 ∙ ap (λ n. replicate (64 - n) 0) size in
    ap (λ a. a ++ drop count (replicate 64 0)) front ∙ ap (λ b. take 64 words ++ b) zeros
