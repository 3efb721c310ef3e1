-- What equal lists of objects and of pages say of two worlds.
use Rattle.std.proofs.Common.{◌≡◌, ℕ, zero, suc, ◌<◌, ◌≤◌, List, [], ◌∷◌, ◌++◌, map, reverse, Option, Some, None, ◌⊎◌, inl, inr, refl, sym, ap, subst}
use Rattle.std.proofs.Common.{◌∙◌, arith}
use Rattle.std.specs.List.{flat_map}
use Rattle.std.proofs.lemmas.Bool.{cases_lt}
use Rattle.std.proofs.lemmas.List.{reverse-reverse}
use Rattle.fk_model.specs.declared.limits.TheConstants.{PAGES}
use Rattle.fk_model.specs.Places.{Path}
use Rattle.fk_model.specs.World.{World}
use Rattle.fk_model.specs.Searches.{slots}
use Rattle.fk_model.proofs.walks.Members.{IsIn, in_left, in_right, in_flat_map, of_flat_map}
use Rattle.fk_cut.specs.declared.cuts.cutting.CutObject.{CutObject}
use Rattle.fk_cut.specs.declared.cuts.cutting.CutPage.{CutPage}
use Rattle.fk_cut.specs.Cuts.Shown.{object_there, page_shown, pages_there}

-- ---- objects

pub same-paths : (c d : World) (xs ys : List Path) → map (object_there c) xs ≡ map (object_there d) ys → xs ≡ ys
same-paths c d [] [] h = refl
same-paths c d [] (y ∷ ys) h = cc
same-paths c d (x ∷ xs) [] h = cc
same-paths c d (x ∷ xs) (y ∷ ys) h =
    let first : object_there c x ≡ object_there d y = cc in
    let rest : map (object_there c) xs ≡ map (object_there d) ys = cc in
    let path : x ≡ y = sym (reverse-reverse x) ∙ ap (λ (o : CutObject). reverse o.path) first ∙ reverse-reverse y in
    rw (path, same-paths c d xs ys rest) refl

pub same-objects : (c d : World) (xs : List Path) → map (object_there c) xs ≡ map (object_there d) xs → (q : Path) → IsIn q xs →
    object_there c q ≡ object_there d q
same-objects c d [] h q is = absurd is
same-objects c d (x ∷ xs) h q (inl e) = let first : object_there c x ≡ object_there d x = cc in rw e at first
same-objects c d (x ∷ xs) h q (inr is) = let rest : map (object_there c) xs ≡ map (object_there d) xs = cc in same-objects c d xs rest q is

-- ---- pages

in_slots : (n k : ℕ) → k < n → IsIn k (slots n)
unfolding slots
in_slots zero k h = absurd (omega (arith, h))
in_slots (suc n) k h = by (cases_lt k n) (in_slots n k)
  where
    by : (k < n) ⊎ (n ≤ k) → (k < n → IsIn k (slots n)) → IsIn k (slots n ++ n ∷ [])
    by (inl g) rest = in_left k (slots n) (n ∷ []) (rest g)
    by (inr g) rest = in_right k (slots n) (n ∷ []) (inl (omega (arith, g, h)))

abbrev shown_page : Path → ℕ → List ℕ → CutPage
shown_page q page words = record { path = reverse q; page = page; words = words }

-- a page that is there is listed
pub page-in : (c : World) (xs : List Path) (q : Path) (page : ℕ) (words : List ℕ) → IsIn q xs → page < PAGES → c.page q page ≡ Some words →
    IsIn (shown_page q page words) (flat_map (pages_there c) xs)
page-in c xs q page words is low there =
    in_flat_map (pages_there c) q (shown_page q page words) xs is
    (in_flat_map (λ page. page_shown q page (c.page q page)) page (shown_page q page words) (slots PAGES) (in_slots PAGES page low) (rw there (inl refl)))

shown-is : (c : World) (q : Path) (page : ℕ) (p : CutPage) (o : Option (List ℕ)) → c.page q page ≡ o → IsIn p (page_shown q page o) →
    c.page (reverse p.path) p.page ≡ Some p.words
shown-is c q page p None there is = absurd is
shown-is c q page p (Some words) there (inl e) = rw (← e, reverse-reverse q) there
shown-is c q page p (Some words) there (inr is) = absurd is

-- and what is listed is there
listed-is : (c : World) (xs : List Path) (p : CutPage) → IsIn p (flat_map (pages_there c) xs) → c.page (reverse p.path) p.page ≡ Some p.words
listed-is c xs p is =
    let space = of_flat_map (pages_there c) p xs is in
    let page = of_flat_map (λ page. page_shown space.0 page (c.page space.0 page)) p (slots PAGES) space.2 in
    shown-is c space.0 page.0 p (c.page space.0 page.0) refl page.2

pub page-of : (c : World) (xs : List Path) (q : Path) (page : ℕ) (words : List ℕ) → IsIn (shown_page q page words) (flat_map (pages_there c) xs) →
    c.page q page ≡ Some words
page-of c xs q page words is = subst (λ r. c.page r page ≡ Some words) (reverse-reverse q) (listed-is c xs (shown_page q page words) is)
