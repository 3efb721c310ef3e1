-- Reading one item after the other, as a loop does.
use Rattle.std.proofs.Common.{◌≡◌, ℕ, Bool, suc, ◌-◌, ◌+◌, ◌≤◌, ◌<◌, List, [], ◌∷◌, ◌++◌, length, take, set, take_all, Result, Ok, Err, refl, sym, ap, ◌∙◌, arith}
use Rattle.std.specs.Int.{w64}
use Rattle.std.proofs.lemmas.List.{take_more_set}
use Rattle.fk_image.specs.declared.image.image.ObjectRec.{ObjectRec}
use Rattle.fk_image.specs.declared.image.image.PageRec.{PageRec}
use Rattle.fk_image.specs.Image.Objects.{next_slot}
use Rattle.fk_image.specs.Image.Valid.{after_object, after_page}
use Rattle.fk_image.proofs.InImage.Rising.{next_slot-more}
use Rattle.fk_image.specs.declared.format.stop.Stop.{Stop}
use Rattle.fk_image.specs.Format.Fields.{read_many, read_number}
use Rattle.fk_image.specs.Format.Reading.{read_object, read_page, read_word, same_state}
use Rattle.fk_codec.specs.declared.reading.fail.Fail.{Fail}
use Rattle.fk_codec.specs.declared.reading.fail.Fail.TheVariants as fails
use Rattle.fk_codec.specs.Reading.Given.{Fails}
use Rattle.fk_codec.specs.Reading.Adding.{with_object}

module _ {S X : Type 0} (item : S → List ℕ → Result (X × List ℕ) Stop) (next : S → X → S) where
  pub goes_on : (count i : ℕ) (s : S) (done : List X) (bytes : List ℕ) (x : X) (after : List ℕ) → i < count → item s bytes ≡ Ok (x, after)
      → read_many item next (count - i) s done bytes ≡ read_many item next (count - (i + 1)) (next s x) (done ++ x ∷ []) after
  unfolding read_many
  goes_on count i s done bytes x after lt h =
      let k : count - i ≡ suc (count - (i + 1)) = omega arith in
      rw (k, h) refl

  pub fails_there : (e : Fail) (count i : ℕ) (s : S) (done : List X) (bytes : List ℕ) (total : Result (List X × List ℕ) Stop) →
      i < count → Fails e (item s bytes)
      → read_many item next (count - i) s done bytes ≡ total → Fails e total
  unfolding read_many
  fails_there fails.NoMemory count i s done bytes total lt h so_far = tt
  fails_there (fails.At stop) count i s done bytes total lt h so_far =
      let k : count - i ≡ suc (count - (i + 1)) = omega arith in
      let one : read_many item next (count - i) s done bytes ≡ Err stop = rw (k, h) refl in
      sym so_far ∙ one

  pub is_done : (count i : ℕ) (s : S) (done : List X) (bytes : List ℕ) → count ≤ i → read_many item next (count - i) s done bytes ≡ Ok (done, bytes)
  unfolding read_many
  is_done count i s done bytes le =
      let k : count - i ≡ 0 = omega arith in
      rw k refl

pub last_slot : (os : List ObjectRec) (o : ObjectRec) → next_slot (os ++ o ∷ []) ≡ o.slot + 1
last_slot = next_slot-more

pub objects_go : (new : Bool) (count i : ℕ) (floor : ℕ) (done : List ObjectRec) (bytes : List ℕ) (more : List ObjectRec) (after : List ℕ) →
    i < count → with_object done (read_object new floor bytes) ≡ Ok (more, after)
    → read_many (read_object new) after_object (count - i) floor done bytes ≡ read_many (read_object new) after_object (count - (i + 1)) (next_slot more) more after
objects_go new count i floor done bytes more after lt h = by (read_object new floor bytes) refl h
  where
    by : (r : Result (ObjectRec × List ℕ) Stop) → read_object new floor bytes ≡ r → with_object done r ≡ Ok (more, after)
        → read_many (read_object new) after_object (count - i) floor done bytes ≡ read_many (read_object new) after_object (count - (i + 1)) (next_slot more) more after
    by (Ok x) e h =
        let pair : (done ++ x.0 ∷ [], x.1) ≡ (more, after) = cc in
        let list : done ++ x.0 ∷ [] ≡ more = ap (λ (p : List ObjectRec × List ℕ). p.0) pair in
        let rest : x.1 ≡ after = ap (λ (p : List ObjectRec × List ℕ). p.1) pair in
        rw (← list, ← rest, next_slot-more done x.0) (goes_on (read_object new) after_object count i floor done bytes x.0 x.1 lt e)
    by (Err stop) e h = absurd (cc)

pub objects_fail : (new : Bool) (e : Fail) (count i : ℕ) (floor : ℕ) (done : List ObjectRec) (bytes : List ℕ) (total : Result (List ObjectRec × List ℕ) Stop) →
    i < count → Fails e (with_object done (read_object new floor bytes))
    → read_many (read_object new) after_object (count - i) floor done bytes ≡ total → Fails e total
objects_fail new fails.NoMemory count i floor done bytes total lt h so_far = tt
objects_fail new (fails.At stop) count i floor done bytes total lt h so_far =
    fails_there (read_object new) after_object (fails.At stop) count i floor done bytes total lt (by (read_object new floor bytes) h) so_far
  where
    by : (r : Result (ObjectRec × List ℕ) Stop) → with_object done r ≡ Err stop → r ≡ Err stop
    by (Ok x) h = absurd (cc)
    by (Err e) h = let same : e ≡ stop = cc in ap (λ (s : Stop). Err s) same

pub objects_end : (new : Bool) (count i : ℕ) (floor : ℕ) (done : List ObjectRec) (bytes : List ℕ) →
    count ≤ i → read_many (read_object new) after_object (count - i) floor done bytes ≡ Ok (done, bytes)
objects_end new = is_done (read_object new) after_object

pub ruleset objects = (objects_go, objects_fail, objects_end)

pub pages_go : (count i : ℕ) (floor : ℕ) (done : List PageRec) (bytes : List ℕ) (x : PageRec) (after : List ℕ) →
    i < count → read_page floor bytes ≡ Ok (x, after)
    → read_many read_page after_page (count - i) floor done bytes ≡ read_many read_page after_page (count - (i + 1)) (x.page + 1) (done ++ x ∷ []) after
pages_go = goes_on read_page after_page

pub pages_fail : (e : Fail) (count i : ℕ) (floor : ℕ) (done : List PageRec) (bytes : List ℕ) (total : Result (List PageRec × List ℕ) Stop) →
    i < count → Fails e (read_page floor bytes)
    → read_many read_page after_page (count - i) floor done bytes ≡ total → Fails e total
pages_fail = fails_there read_page after_page

pub pages_end : (count i : ℕ) (floor : ℕ) (done : List PageRec) (bytes : List ℕ) →
    count ≤ i → read_many read_page after_page (count - i) floor done bytes ≡ Ok (done, bytes)
pages_end = is_done read_page after_page

pub ruleset pages = (pages_go, pages_fail, pages_end)

pub words_go : (count i : ℕ) (page bytes : List ℕ) (w : ℕ) (after : List ℕ) → i < count → length page ≡ count → read_number w64 bytes ≡ Ok (w, after)
    → read_many read_word same_state (count - i) 0 (take i page) bytes ≡ read_many read_word same_state (count - (i + 1)) 0 (take (i + 1) (set page i w)) after
words_go count i page bytes w after lt len h =
    rw (take_more_set page i w (omega arith)) (goes_on read_word same_state count i 0 (take i page) bytes w after lt h)

pub words_fail : (e : Fail) (count i : ℕ) (done bytes : List ℕ) (total : Result (List ℕ × List ℕ) Stop) → i < count → Fails e (read_number w64 bytes)
    → read_many read_word same_state (count - i) 0 done bytes ≡ total → Fails e total
words_fail e count i done bytes total = fails_there read_word same_state e count i 0 done bytes total

pub words_end : (count i : ℕ) (page bytes : List ℕ) →
    count ≤ i → length page ≡ count → read_many read_word same_state (count - i) 0 (take i page) bytes ≡ Ok (page, bytes)
words_end count i page bytes le len = rw (take_all i page (omega arith)) (is_done read_word same_state count i 0 page bytes le)

pub ruleset words = (words_go, words_fail, words_end)
