-- What is read is spelled so, and what is spelled is read.
use Rattle.std.proofs.Common.{◌≡◌, ℕ, ◌&&◌, Bool, true, false, not, cond, List, Option, Some, None, Result, Ok, Err, refl, ap, ◌∙◌}
use Rattle.fk_image.specs.declared.image.image.Image.{Image}
use Rattle.fk_image.specs.Image.Links.{all_lead}
use Rattle.fk_image.specs.Image.Valid.{fits_spaces, is_valid}
use Rattle.fk_image.specs.declared.format.stop.Stop.{Stop}
use Rattle.fk_image.specs.Format.Offsets.{wrong_in, wrong_link}
use Rattle.fk_image.specs.Format.Reading.{read_image, linked, finished, image_reading}
use Rattle.fk_image.specs.Format.Spells.{SpellsImage}
use Rattle.fk_image.proofs.InFormat.Basics.{both, and2, IsBytes}
use Rattle.fk_image.specs.Format.Spelling.{spelling_in}
use Rattle.fk_image.specs.Format.Versions.{image_shows, allows}
use Rattle.fk_image.proofs.InFormat.Taken.{image_takes}
use Rattle.fk_image.proofs.InFormat.Again.{image_again}
use Rattle.fk_image.proofs.InFormat.Leads.{none_wrong, leads_right}

abbrev read : Bool × Image → Result (Bool × Image) Stop
read x = Ok x

-- the version is the one that the image needs
same_version : (new shows : Bool) → allows new shows ≡ true → (new && not shows) ≡ false → new ≡ shows
same_version true true may need = refl
same_version true false may need = absurd (cc)
same_version false true may need = absurd (cc)
same_version false false may need = refl

finished_ok : (bytes : List ℕ) (r : Result (Bool × Image) Stop) (i : Image) → finished bytes r ≡ Ok i →
    (new : Bool) × (r ≡ Ok (new, i)) × (wrong_link i ≡ None) × ((new && not (image_shows i)) ≡ false)
finished_ok bytes (Err stop) i e = absurd cc
finished_ok bytes (Ok (new, j)) i e = by (wrong_link j) refl e
  where
    needs : (b : Bool) → (new && not (image_shows j)) ≡ b → wrong_link j ≡ None → cond {A = Result Image (ℕ × ℕ)} b (Err (8, 8)) (Ok j) ≡ Ok i →
        (n : Bool) × (read (new, j) ≡ read (n, i)) × (wrong_link i ≡ None) × ((n && not (image_shows i)) ≡ false)
    needs true is none e = absurd cc
    needs false is none e = let same : j ≡ i = cc in (new, ap (λ (k : Image). read (new, k)) same, rw (← same) none, rw (← same) is)

    by : (o : Option ℕ) → wrong_link j ≡ o → linked new j o ≡ Ok i →
        (n : Bool) × (read (new, j) ≡ read (n, i)) × (wrong_link i ≡ None) × ((n && not (image_shows i)) ≡ false)
    by None none e = needs (new && not (image_shows j)) refl none e
    by (Some at) some e = absurd cc

pub reading_takes : (bytes : List ℕ) (i : Image) → IsBytes bytes → image_reading bytes ≡ Ok i → SpellsImage bytes i
unfolding image_reading is_valid
reading_takes bytes i fits e =
    let f = finished_ok bytes (read_image bytes) i e in
    let t = image_takes bytes (f.0, i) fits f.1 in
    let version = same_version f.0 (image_shows i) t.1 f.3 in
    record {
      valid = both (fits_spaces i.spaces) (all_lead i.spaces) t.0 (none_wrong i.spaces f.2);
      spelled = t.2 ∙ ap (λ (new : Bool). spelling_in new i) version;
    }

not_needless : (shows : Bool) → (shows && not shows) ≡ false
not_needless true = refl
not_needless false = refl

pub reading_again : (bytes : List ℕ) (i : Image) → SpellsImage bytes i → image_reading bytes ≡ Ok i
unfolding image_reading is_valid
reading_again bytes i s =
    let f = and2 (fits_spaces i.spaces) (all_lead i.spaces) s.valid in
    let so : read_image bytes ≡ Ok (image_shows i, i) = ap read_image s.spelled ∙ image_again i f.0 in
    ap (finished bytes) so ∙ ap (linked (image_shows i) i) (leads_right i.spaces f.1) ∙ rw (not_needless (image_shows i)) refl

pub one_image : (bytes : List ℕ) (i j : Image) → SpellsImage bytes i → SpellsImage bytes j → i ≡ j
one_image bytes i j a b = let p = reading_again bytes i a in let q = reading_again bytes j b in cc
