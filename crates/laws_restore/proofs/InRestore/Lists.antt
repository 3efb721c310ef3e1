-- Lists of paths: who is among them, and one that has all of another.
use Rattle.std.proofs.Common.{◌≡◌, Bool, true, false, ◌||◌, List, [], ◌∷◌, ◌++◌, refl, sym, ap, ◌∙◌}
use Rattle.fk_model.specs.Places.{Path, same_path}
use Rattle.laws_restore.specs.Sites.Orders.{Order}
use Rattle.laws_restore.specs.Restore.Rooms.{Item}
use Rattle.laws_restore.specs.Restore.Stages.{is_among}
use Rattle.laws_restore.specs.Restore.Roomed.{with_items, AreMade}

pub or_true : (a : Bool) → (a || true) ≡ true
or_true true = refl
or_true false = refl

pub still_among : (y x : Path) (xs : List Path) → is_among y xs ≡ true → is_among y (x ∷ xs) ≡ true
still_among y x xs h = rw h (or_true (same_path y x))

pub still_made : (q x : Path) (made : List Path) → AreMade q made → AreMade q (x ∷ made)
still_made [] x made above = tt
still_made (k ∷ q) x made above = (still_among (k ∷ q) x made above.0, still_made q x made above.1)

abbrev pub IsSub : List Path → List Path → Type 0
IsSub small big = (y : Path) → is_among y small ≡ true → is_among y big ≡ true

pub sub_both : (x : Path) (small big : List Path) → IsSub small big → IsSub (x ∷ small) (x ∷ big)
sub_both x small big sub y h = by (same_path y x) h
  where
    by : (t : Bool) → (t || is_among y small) ≡ true → (t || is_among y big) ≡ true
    by true h = refl
    by false h = sub y h

pub sub_out : (y : Path) (small big : List Path) → IsSub small big → is_among y big ≡ false → is_among y small ≡ false
sub_out y small big sub off = by (is_among y small) refl
  where
    by : (t : Bool) → is_among y small ≡ t → t ≡ false
    by true h = let both = sym (sub y h) ∙ off in cc
    by false h = refl

pub in_with : (q : Path) (is : List Item) (y : Path) (xs : List Path) → is_among y xs ≡ true → is_among y (with_items q is xs) ≡ true
in_with q [] y xs h = h
in_with q (i ∷ is) y xs h = in_with q is y ((i.slot ∷ q) ∷ xs) (still_among y (i.slot ∷ q) xs h)

pub sub_with : (q : Path) (is : List Item) (small big : List Path) → IsSub small big → IsSub (with_items q is small) (with_items q is big)
sub_with q [] small big sub = sub
sub_with q (i ∷ is) small big sub = sub_with q is ((i.slot ∷ q) ∷ small) ((i.slot ∷ q) ∷ big) (sub_both (i.slot ∷ q) small big sub)

pub assoc : (os ps rs : List Order) → (os ++ ps) ++ rs ≡ os ++ (ps ++ rs)
assoc [] ps rs = refl
assoc (o ∷ os) ps rs = ap (λ (all : List Order). o ∷ all) (assoc os ps rs)
