-- Laws: a fault that is told is the first, and what breaks the form is told.
use Rattle.std.proofs.Common.{◌≡◌, ℕ, ◌-◌, ◌==◌, ◌&&◌, Bool, true, false, not, if◌then◌else◌, List, [], ◌∷◌, ◌++◌, length, Option, Some, None, Result, Ok, Err}
use Rattle.std.proofs.Common.{refl, sym, ap, subst, ◌∙◌, arith}
use Rattle.std.proofs.lemmas.Bool.{ne_eqb}
use Rattle.std.proofs.lemmas.List.{length-append, append-nil}
use Rattle.fk_image.specs.declared.image.image.Image.{Image}
use Rattle.fk_image.specs.declared.format.reasons.reason.TheConstants as reasons
use Rattle.fk_image.specs.declared.format.stop.Stop.{Stop}
use Rattle.fk_image.specs.Format.Fields.{◌>>=◌}
use Rattle.fk_image.specs.Format.Offsets.{wrong_link}
use Rattle.fk_image.specs.Format.Versions.{image_shows}
use Rattle.fk_image.specs.Format.Reading.{linked, finished, image_reading}
use Rattle.laws_image_faults.specs.Forms.{Holds, Breaks}
use Rattle.laws_image_faults.specs.Forms.Form.{Whole}
use Rattle.laws_image_faults.specs.Images.{image}
use Rattle.fk_image.specs.Form.Order.{AreInOrder}
use Rattle.fk_image.specs.Form.Standing.{AllRight}
use Rattle.laws_image_faults.specs.Faults.{Says, FaultsAreFirst, BreaksAreTold, FirstsAreTold}
use Rattle.laws_image_faults.specs.Faults.Says.{OfField, OfPointer, OfVersion, OfRest}
use Rattle.laws_image_faults.proofs.Runs.{run}
use Rattle.laws_image_faults.proofs.Breaks.{run-broken, run-held, broken-run, held-run}
use Rattle.laws_image_faults.proofs.Opened.{image-ordered}
use Rattle.laws_image_faults.proofs.Formed.{wrong-first}
use Rattle.laws_image_faults.proofs.Wholes.{spaces_read, ended, image_is, same-image}

-- ---- what an error is

offset_or : Result Image (ℕ × ℕ) → ℕ
offset_or (Ok i) = 0
offset_or (Err e) = e.0

reason_or : Result Image (ℕ × ℕ) → ℕ
reason_or (Ok i) = 0
reason_or (Err e) = e.1

same_offset : (a b c d : ℕ) → ◌≡◌ {A = Result Image (ℕ × ℕ)} (Err (a, b)) (Err (c, d)) → a ≡ c
unfolding offset_or
same_offset a b c d is = ap offset_or is

same_reason : (a b c d : ℕ) → ◌≡◌ {A = Result Image (ℕ × ℕ)} (Err (a, b)) (Err (c, d)) → b ≡ d
unfolding reason_or
same_reason a b c d is = ap reason_or is

-- where bytes have been read as far as this, that is the offset
offset_is : (bytes before after : List ℕ) (left : ℕ) → bytes ≡ before ++ after → length after ≡ left → length before ≡ length bytes - left
offset_is bytes before after left spelled many = let all = ap length spelled ∙ length-append before after in omega (arith, all, many)

module _ (bytes : List ℕ) where
  of_field : (stop : Stop) (offset reason : ℕ) → run image bytes ≡ Err stop →
      ◌≡◌ {A = Result Image (ℕ × ℕ)} (Err (length bytes - stop.left, stop.reason)) (Err (offset, reason)) → Says bytes offset reason
  of_field stop offset reason breaks is =
      let broken = run-broken image bytes stop breaks in
      OfField offset reason (record {
        before = broken.before;
        after = broken.after;
        next = broken.next;
        spelled = broken.spelled;
        at = offset_is bytes broken.before broken.after stop.left broken.spelled broken.many ∙ same_offset _ _ _ _ is;
        held = broken.held;
        broken = subst (Breaks broken.next broken.after) (same_reason _ _ _ _ is) broken.broken;
      })

  all_held : (x : Bool × Image) → run image bytes ≡ Ok (x, []) → Holds image bytes (Whole x)
  all_held x whole =
      let held = run-held image bytes [] x whole in
      let all : bytes ≡ held.before = held.spelled ∙ append-nil held.before in
      subst (λ b. Holds image b (Whole x)) (sym all) held.held

  of_version : (new : Bool) (i : Image) (shows : Bool) (offset reason : ℕ) → run image bytes ≡ Ok ((new, i), []) → AllRight i.spaces →
      image_shows i ≡ shows → if◌then◌else◌ {A = Result Image (ℕ × ℕ)} (new && not shows) (Err (8, reasons.NEWER)) (Ok i) ≡ Err (offset, reason)
      → Says bytes offset reason
  of_version true i false offset reason whole right is told =
      subst (λ at. Says bytes at reason) (same_offset 8 reasons.NEWER offset reason told)
      (subst (Says bytes 8) (same_reason 8 reasons.NEWER offset reason told) (OfVersion i (all_held (true, i) whole) right is))
  of_version true i true offset reason whole right is told = absurd (cc)
  of_version false i true offset reason whole right is told = absurd (cc)
  of_version false i false offset reason whole right is told = absurd (cc)

  of_pointer : (new : Bool) (i : Image) (o : Option ℕ) (offset reason : ℕ) → run image bytes ≡ Ok ((new, i), []) → wrong_link i ≡ o →
      linked new i o ≡ Err (offset, reason) → Says bytes offset reason
  of_pointer new i None offset reason whole is told =
      let order = image-ordered bytes ((new, i), []) whole in
      of_version new i (image_shows i) offset reason whole ((wrong-first i.spaces order).1.0 is) refl told
  of_pointer new i (Some at) offset reason whole is told =
      let order = image-ordered bytes ((new, i), []) whole in
      subst (Says bytes offset) (same_reason at reasons.POINTER offset reason told)
      (OfPointer offset new i (all_held (new, i) whole)
      (((wrong-first i.spaces order).0 offset).0 (is ∙ ap Some (same_offset at reasons.POINTER offset reason told))))

  of_rest : (i : Bool × Image) (rest : List ℕ) (offset reason : ℕ) → run image bytes ≡ Ok (i, rest) → (rest ≡ [] → ⊥) →
      ◌≡◌ {A = Result Image (ℕ × ℕ)} (Err (length bytes - length rest, reasons.LEFT_OVER)) (Err (offset, reason)) → Says bytes offset reason
  of_rest i rest offset reason whole some is =
      let held = run-held image bytes rest i whole in
      subst (Says bytes offset) (same_reason _ _ _ _ is) (OfRest offset (record {
        before = held.before;
        after = rest;
        said = i;
        spelled = held.spelled;
        at = offset_is bytes held.before rest (length rest) held.spelled refl ∙ same_offset _ _ _ _ is;
        held = held.held;
        goes_on = some;
      }))

  left_over : (i : Bool × Image) (b : ℕ) (more : List ℕ) → finished bytes (ended (i, b ∷ more)) ≡ Err (length bytes - length (b ∷ more), reasons.LEFT_OVER)
  left_over i b more = let some : (length (b ∷ more) == 0) ≡ false = ne_eqb (length (b ∷ more)) 0 (λ none. absurd (omega (arith, none))) in rw some refl

  first_by : (r : Result ((Bool × Image) × List ℕ) Stop) (offset reason : ℕ) → r ≡ run image bytes → finished bytes (r >>= ended) ≡ Err (offset, reason) →
      Says bytes offset reason
  first_by (Err stop) offset reason same told = of_field stop offset reason (sym same) told
  first_by (Ok x) offset reason same told = by x.1 refl told
    where
      by : (rest : List ℕ) → x.1 ≡ rest → finished bytes (ended (x.0, rest)) ≡ Err (offset, reason) → Says bytes offset reason
      by [] none told = of_pointer x.0.0 x.0.1 (wrong_link x.0.1) offset reason (sym same ∙ ap (λ rest. Ok (x.0, rest)) none) refl told
      by (b ∷ more) some told =
          of_rest x.0 (b ∷ more) offset reason (sym same ∙ ap (λ rest. Ok (x.0, rest)) some) (λ none. absurd (cc)) (sym (left_over x.0 b more) ∙ told)

pub faults_first : FaultsAreFirst
unfolding image_reading
faults_first bytes offset reason told = first_by bytes (spaces_read bytes) offset reason (same-image bytes) (ap (finished bytes) (sym (image_is bytes)) ∙ told)

pub breaks_told : BreaksAreTold
unfolding image_reading
breaks_told bytes offset reason breaks =
    let here = ap (run image) breaks.spelled ∙ broken-run image breaks.before breaks.after breaks.next reason breaks.held breaks.broken in
    let told = ap (λ (r : Result ((Bool × Image) × List ℕ) Stop). finished bytes (r >>= ended)) (same-image bytes ∙ here) in
    let at = sym (offset_is bytes breaks.before breaks.after (length breaks.after) breaks.spelled refl) ∙ breaks.at in
    ap (finished bytes) (image_is bytes) ∙ told ∙ ap (λ o. Err (o, reason)) at

-- ---- the other way round

-- what is told of bytes that begin with the whole form
whole_told : (before after : List ℕ) (i : Bool × Image) → Holds image before (Whole i)
    → (image_reading (before ++ after) ≡ finished (before ++ after) (ended (i, after))) × AreInOrder i.1.spaces
unfolding image_reading
whole_told before after i held =
    let bytes = before ++ after in
    let whole : run image bytes ≡ Ok (i, after) = held-run image before after (Whole i) i held refl in (
      ap (finished bytes) (image_is bytes ∙ ap (λ (r : Result ((Bool × Image) × List ℕ) Stop). r >>= ended) (same-image bytes ∙ whole)),
      image-ordered bytes (i, after) whole,
    )

-- the whole form, and nothing behind it
linked_told : (bytes : List ℕ) (i : Bool × Image) → Holds image bytes (Whole i)
    → (image_reading bytes ≡ linked i.0 i.1 (wrong_link i.1)) × AreInOrder i.1.spaces
linked_told bytes i held =
    subst (λ (b : List ℕ). (image_reading b ≡ linked i.0 i.1 (wrong_link i.1)) × AreInOrder i.1.spaces) (append-nil bytes) (whole_told bytes [] i held)

rest_told : (bytes before after : List ℕ) (i : Bool × Image) (offset : ℕ) → bytes ≡ before ++ after → length before ≡ offset → Holds image before (Whole i)
    → (after ≡ [] → ⊥) → image_reading bytes ≡ Err (offset, reasons.LEFT_OVER)
rest_told bytes before [] i offset spelled at held some = absurd (some refl)
rest_told bytes before (b ∷ more) i offset spelled at held some =
    let all = before ++ (b ∷ more) in
    ap image_reading spelled ∙ (whole_told before (b ∷ more) i held).0 ∙ left_over all i b more
    ∙ ap (λ o. Err (o, reasons.LEFT_OVER)) (sym (offset_is all before (b ∷ more) (length (b ∷ more)) refl refl) ∙ at)

pub firsts_told : FirstsAreTold
firsts_told bytes _ _ (OfField offset reason breaks) = breaks_told bytes offset reason breaks
firsts_told bytes _ _ (OfPointer offset new i held first) =
    let told = linked_told bytes (new, i) held in
    told.0 ∙ ap (linked new i) (((wrong-first i.spaces told.1).0 offset).1 first)
firsts_told bytes _ _ (OfVersion i held right shows) =
    let told = linked_told bytes (true, i) held in
    told.0 ∙ ap (linked true i) ((wrong-first i.spaces told.1).1.1 right) ∙ rw shows refl
firsts_told bytes _ _ (OfRest offset goes) =
    rest_told bytes goes.before goes.after goes.said offset goes.spelled goes.at goes.held goes.goes_on
