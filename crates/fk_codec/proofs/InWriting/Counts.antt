-- The counts of a valid image fit their fields.
use Rattle.std.proofs.Common.{◌≡◌, ℕ, ◌^◌, ◌<◌, ◌&&◌, Bool, true, false, ltb, List, [], ◌∷◌, length, All, refl}
use Rattle.std.specs.List.{AllByRecursion}
use Rattle.std.proofs.lemmas.Bool.{ltb-true}
use Rattle.std.proofs.lemmas.List.Elements.{All-from_recursion}
use Rattle.fk_image.specs.declared.image.image.SpaceRec.{SpaceRec}
use Rattle.fk_image.specs.declared.image.image.Image.{Image}
use Rattle.fk_image.specs.declared.image.open.Open.{Open}
use Rattle.fk_image.specs.Image.Ranges.{is_half}
use Rattle.fk_image.specs.Image.Preorder.{root_path, after_space}
use Rattle.fk_image.specs.Image.Links.{all_lead}
use Rattle.fk_image.specs.Image.Valid.{all_from, after_object, after_page, fits_object, fits_page, fits_objects, fits_pages, stands_in_order, fits_space, fits_spaces, is_valid}

first : (a b : Bool) → (a && b) ≡ true → a ≡ true
first true b e = refl
first false b e = absurd cc

second : (a b : Bool) → (a && b) ≡ true → b ≡ true
second true b e = e
second false b e = absurd cc

each : (before : List SpaceRec × List Open) (spaces : List SpaceRec) →
    all_from after_space fits_space before spaces ≡ true → AllByRecursion (λ s. (length s.objects < 2 ^ 16) × (length s.pages < 2 ^ 16)) spaces
each before [] fits = tt
each before (s ∷ ss) fits =
    let one = first (fits_space before s) (all_from after_space fits_space (after_space before s) ss) fits in
    let others = second (fits_space before s) (all_from after_space fits_space (after_space before s) ss) fits in
    let placed = first (stands_in_order before.0 before.1 s && fits_objects s.objects) (fits_pages s.pages) one in
    let pages = second (stands_in_order before.0 before.1 s && fits_objects s.objects) (fits_pages s.pages) one in
    let objects = second (stands_in_order before.0 before.1 s) (fits_objects s.objects) placed in
    let few_objects = first (is_half (length s.objects)) (all_from after_object fits_object 0 s.objects) objects in
    let few_pages = first (is_half (length s.pages)) (all_from after_page fits_page 0 s.pages) pages in
    ((ltb-true _ _ few_objects, ltb-true _ _ few_pages), each (after_space before s) ss others)

parts : (spaces : List SpaceRec) → fits_spaces spaces ≡ true → (length spaces < 2 ^ 32) × (all_from after_space fits_space ([], root_path) spaces ≡ true)
parts spaces fits =
    let some = first (ltb 0 (length spaces) && ltb (length spaces) (2 ^ 32)) (all_from after_space fits_space ([], root_path) spaces) fits in (
      ltb-true _ _ (second (ltb 0 (length spaces)) (ltb (length spaces) (2 ^ 32)) some),
      second (ltb 0 (length spaces) && ltb (length spaces) (2 ^ 32)) (all_from after_space fits_space ([], root_path) spaces) fits,
    )

pub count_fits : (i : Image) → is_valid i ≡ true → length i.spaces < 2 ^ 32
unfolding is_valid
count_fits i valid = (parts i.spaces (first (fits_spaces i.spaces) (all_lead i.spaces) valid)).0

pub counts_fit : (i : Image) → is_valid i ≡ true → All (λ (s : SpaceRec). (length s.objects < 2 ^ 16) × (length s.pages < 2 ^ 16)) i.spaces
unfolding is_valid
counts_fit i valid = All-from_recursion _ i.spaces (each ([], root_path) i.spaces (parts i.spaces (first (fits_spaces i.spaces) (all_lead i.spaces) valid)).1)
