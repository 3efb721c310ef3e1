-- The form of an image, read off its records: each number is in its range, objects and pages rise, the spaces stand in order, and no
-- pointer is wrong.
use Rattle.std.specs.Prelude.{◌≡◌, ◌<◌, ℕ, suc, ◌^◌, true, List, length, Some, slice_get}
use Rattle.fk_image.specs.declared.image.image.Link.TheVariants.{Null}
use Rattle.fk_image.specs.declared.image.image.ObjectRec.{ObjectRec}
use Rattle.fk_image.specs.declared.image.image.PageRec.{PageRec}
use Rattle.fk_image.specs.declared.image.image.SpaceRec.{SpaceRec}
use Rattle.fk_image.specs.declared.image.image.Image.{Image}
use Rattle.fk_image.specs.Image.Ranges.{are_words, fits_link, fits_body}
use Rattle.fk_image.specs.Form.Order.{AreInOrder}
use Rattle.fk_image.specs.Form.Standing.{AllRight}

abbrev pub Each : {X : Type 0} → (X → Type 0) → List X → Type 0
Each {X = X} P xs = (n : ℕ) (x : X) → slice_get xs n ≡ Some x → P x

-- each number is above the one before it
abbrev pub Rises : {X : Type 0} → (X → ℕ) → List X → Type 0
Rises {X = X} number xs = (n : ℕ) (x y : X) → slice_get xs n ≡ Some x → slice_get xs (suc n) ≡ Some y → number x < number y

pub record IsObject (o : ObjectRec) : Type 0 where
  pub slot : o.slot < 240
  pub body : fits_body o.body ≡ true

pub record IsPage (p : PageRec) : Type 0 where
  pub page : p.page < 256
  pub words : are_words 64 p.words ≡ true

pub record IsSpace (s : SpaceRec) : Type 0 where
  pub parent : s.parent < 2 ^ 32
  pub slot : s.slot < 240
  pub holder : fits_link s.holder ≡ true
  pub few_objects : length s.objects < 2 ^ 16
  pub objects : Each IsObject s.objects
  pub slots : Rises (λ (o : ObjectRec). o.slot) s.objects
  pub few_pages : length s.pages < 2 ^ 16
  pub pages : Each IsPage s.pages
  pub numbers : Rises (λ (p : PageRec). p.page) s.pages

-- the subtree's root
pub record IsRoot (s : SpaceRec) : Type 0 where
  pub parent : s.parent ≡ 4294967295
  pub slot : s.slot ≡ 0
  pub holder : s.holder ≡ Null

-- all but where pointers lead
pub record AreSpaces (spaces : List SpaceRec) : Type 0 where
  pub some : 0 < length spaces
  pub few : length spaces < 2 ^ 32
  pub root : (s : SpaceRec) → slice_get spaces 0 ≡ Some s → IsRoot s
  pub each : Each IsSpace spaces
  pub order : AreInOrder spaces

-- the records have the form of an image: the spaces by themselves, and each pointer among them
pub record IsFormed (i : Image) : Type 0 where
  pub spaces : AreSpaces i.spaces
  pub pointers : AllRight i.spaces
