-- Pointers that are found wrong, and words.
use Rattle.std.proofs.Common.{◌≡◌, ℕ, ◌<◌, ◌^◌, Bool, true, false, ◌&&◌, eqb, List, [], ◌∷◌, length, get_or, zero, suc, Option, Some, None, refl, sym, ◌∙◌}
use Rattle.std.specs.List.{list_all}
use Rattle.std.proofs.lemmas.Bool.{lt-ltb}
use Rattle.fk_image.specs.declared.image.image.SpaceRec.{SpaceRec}
use Rattle.fk_image.specs.Image.Links.{all_lead}
use Rattle.fk_image.specs.Image.Ranges.{is_word}
use Rattle.fk_image.specs.Format.Offsets.{wrong_in}
use Rattle.fk_image.proofs.InFormat.Leads.{leads_right}

pub not_led : (spaces : List SpaceRec) (at : ℕ) → wrong_in spaces ≡ Some at → false ≡ all_lead spaces
not_led spaces at wrong = by (all_lead spaces) refl
  where
    by : (b : Bool) → all_lead spaces ≡ b → false ≡ b
    by true right = let none = leads_right spaces right in absurd cc
    by false right = refl

pub each_word : (words : List ℕ) → ((i : ℕ) → get_or words i 0 < 2 ^ 64) → list_all is_word words ≡ true
each_word [] fits = refl
each_word (w ∷ ws) fits = rw (lt-ltb w (2 ^ 64) (fits 0), each_word ws (λ i. fits (suc i))) refl
