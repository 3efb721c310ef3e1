-- Wholes: what is read of spaces and of an image is what their forms say, and it stops where they break.
use Rattle.std.proofs.Common.{◌≡◌, ℕ, Bool, true, false, not, ◌&&◌, ◌||◌, ◌==◌, nat_lt, nat_eq, List, [], ◌∷◌, length, take, drop, Option, Some, None, is_some}
use Rattle.std.proofs.Common.{Result, Ok, Err, if◌then◌else◌, refl, sym, subst, ◌∙◌}
use Rattle.std.specs.Cmp.Lexicographic.{pointwise}
use Rattle.std.specs.Int.{w16, w32, byte_len, from_le_bytes}
use Rattle.std.proofs.lemmas.Bool.{eqb-true}
use Rattle.fk_image.specs.declared.image.image.SpaceRec.{SpaceRec}
use Rattle.fk_image.specs.declared.image.image.Image.{Image}
use Rattle.fk_image.specs.declared.image.open.Open.{Open}
use Rattle.fk_image.specs.Image.Preorder.{has_room, room_under, root_path, after_space}
use Rattle.fk_image.specs.Image.Links.{kind_in_space}
use Rattle.fk_image.specs.Format.Spelling.{magic}
use Rattle.fk_image.specs.declared.format.reasons.reason.TheConstants as reasons
use Rattle.fk_image.specs.declared.format.stop.Stop.{Stop}
use Rattle.fk_image.specs.Format.Fields.{◌>>=◌, refuse_field, expect, read_byte, read_number, read_below, read_many}
use Rattle.fk_image.specs.Format.Reading.{read_link, read_objects, read_pages, read_first, or_refuse_field, read_room, read_next, read_placed, read_space}
use Rattle.fk_image.specs.Format.Reading.{read_version, read_head, read_image}
use Rattle.laws_image_faults.specs.Forms.{Form}
use Rattle.laws_image_faults.specs.Forms.Form.{Whole}
use Rattle.laws_image_faults.specs.Images as forms
use Rattle.laws_image_faults.specs.Images.{◌>>=◌ as ◌>>>◌, byte, number, number_for, is, byte_in}
use Rattle.laws_image_faults.proofs.Runs.{run, field_at, tested, together, go, go-byte, go-number, same-many, number_read, one_byte}
use Rattle.laws_image_faults.proofs.Opened as opened
use Rattle.laws_image_faults.proofs.Opened.{same-spaces}
use Rattle.laws_image_faults.proofs.Parts.{same-link, same-objects, same-pages}

-- ---- the root

-- a number or a byte that is just one
expected-byte : {Y : Type 0} (m : ℕ) (bytes : List ℕ) (k : ℕ → List ℕ → Result (Y × List ℕ) Stop) (g : ℕ → Form Y) →
    ((b : ℕ) (rest : List ℕ) → k b rest ≡ run (g b) rest) →
    (read_byte bytes >>= λ b. expect (b.0 == m) bytes reasons.RANGE >>= λ _. k b.0 b.1) ≡ run (byte (is m) >>> g) bytes
expected-byte {Y = Y} m bytes k g later = go-byte (is m) (λ b. expect (b.0 == m) bytes reasons.RANGE >>= λ _. k b.0 b.1) g (λ b. reasons.RANGE) bytes fits off
  where
    fits : (b : ℕ) (rest : List ℕ) → (b == m) ≡ true → (expect (b == m) bytes reasons.RANGE >>= λ _. k b rest) ≡ run (g b) rest
    fits b rest is = rw is (later b rest)

    off : (b : ℕ) (rest : List ℕ) → (b == m) ≡ false → (expect (b == m) bytes reasons.RANGE >>= λ _. k b rest) ≡ refuse_field bytes reasons.RANGE
    off b rest is = rw is refl

expected-number : {Y : Type 0} (may : ℕ → Bool) (reason : ℕ) (w : _) (bytes : List ℕ) (k : ℕ → List ℕ → Result (Y × List ℕ) Stop) (g : ℕ → Form Y) →
    ((n : ℕ) (rest : List ℕ) → k n rest ≡ run (g n) rest) →
    (read_number w bytes >>= λ n. expect (may n.0) bytes reason >>= λ _. k n.0 n.1) ≡ run (number_for reason w may >>> g) bytes
expected-number {Y = Y} may reason w bytes k g later = go-number may (λ n. expect (may n.0) bytes reason >>= λ _. k n.0 n.1) g reason w bytes fits off
  where
    fits : (n : ℕ) (rest : List ℕ) → may n ≡ true → (expect (may n) bytes reason >>= λ _. k n rest) ≡ run (g n) rest
    fits n rest is = rw is (later n rest)

    off : (n : ℕ) (rest : List ℕ) → may n ≡ false → (expect (may n) bytes reason >>= λ _. k n rest) ≡ refuse_field bytes reason
    off n rest is = rw is refl

pub same-root : (new : Bool) (bytes : List ℕ) → read_first new bytes ≡ run (forms.root new) bytes
unfolding read_first forms.root run
same-root new bytes = expected-number (is 4294967295) reasons.RANGE w32 bytes _ _
    (λ parent behind. expected-byte 0 behind _ _
    (λ slot behind_slot. expected-byte 0 behind_slot _ _
    (λ tag rest. go (read_objects new rest) _ (forms.objects new) _ rest (same-objects new rest)
    (λ objects. go (read_pages objects.1) _ forms.pages _ objects.1 (same-pages objects.1) (λ pages. refl)))))

-- ---- a space behind others

module _ (new : Bool) (done : List SpaceRec) (path : List Open) where
  abbrev space_of : ℕ × ℕ → Form SpaceRec
  space_of place = forms.link >>> λ holder. forms.objects new >>> λ objects. forms.pages >>> λ pages.
      Whole (record { parent = place.0; slot = place.1; holder = holder; objects = objects; pages = pages })

  -- what follows a parent and a slot
  abbrev space_rest : ℕ → ℕ → List ℕ → Result (SpaceRec × List ℕ) Stop
  space_rest parent slot rest = read_link rest >>= λ holder. read_objects new holder.1 >>= λ objects. read_pages objects.1 >>= λ pages.
      Ok (record { parent = parent; slot = slot; holder = holder.0; objects = objects.0; pages = pages.0 }, pages.1)

  same-rest : (parent slot : ℕ) (rest : List ℕ) → space_rest parent slot rest ≡ run (space_of (parent, slot)) rest
  unfolding run
  same-rest parent slot rest = go (read_link rest) _ forms.link _ rest (same-link rest)
      (λ holder. go (read_objects new holder.1) _ (forms.objects new) _ holder.1 (same-objects new holder.1)
      (λ objects. go (read_pages objects.1) _ forms.pages _ objects.1 (same-pages objects.1) (λ pages. refl)))

  -- a slot under a parent that has room from a lowest one on
  abbrev space_behind : List ℕ → ℕ → ℕ → ℕ × List ℕ → Result (SpaceRec × List ℕ) Stop
  space_behind bytes parent floor slot = expect (not (nat_lt slot.0 floor)) bytes reasons.ORDER >>= λ _.
      expect (not (is_some (kind_in_space done parent slot.0))) bytes reasons.ORDER >>= λ _. space_rest parent slot.0 slot.1

  ends : (bytes : List ℕ) (parent slot : ℕ) (rest : List ℕ) (u v : Bool) →
      (expect (not u) bytes reasons.ORDER >>= λ _. expect (not v) bytes reasons.ORDER >>= λ _. space_rest parent slot rest)
      ≡ together (not u && not v) reasons.ORDER bytes (run (space_of (parent, slot)) rest)
  ends bytes parent slot rest true v = refl
  ends bytes parent slot rest false true = refl
  ends bytes parent slot rest false false = same-rest parent slot rest

  -- a parent whose room is known, and what follows
  slot_here : (bytes : List ℕ) (parent floor : ℕ) (rest : List ℕ) → (read_below 240 rest >>= space_behind bytes parent floor)
      ≡ (field_at forms.slot_there rest
      >>= λ y. together (has_room (Some floor) (byte_in y.0) && not (is_some (kind_in_space done parent (byte_in y.0)))) reasons.ORDER
      bytes (run (space_of (parent, byte_in y.0)) y.1))
  unfolding read_below field_at
  slot_here bytes parent floor [] = refl
  slot_here bytes parent floor (b ∷ after) = rw (one_byte b after) (by (nat_lt b 240))
    where
      by : (t : Bool) → ((if t then Ok (b, after) else refuse_field (b ∷ after) reasons.RANGE) >>= space_behind bytes parent floor)
          ≡ (tested t reasons.RANGE (b ∷ []) after (b ∷ after)
          >>= λ y. together (has_room (Some floor) (byte_in y.0) && not (is_some (kind_in_space done parent (byte_in y.0)))) reasons.ORDER bytes
          (run (space_of (parent, byte_in y.0)) y.1))
      by true = ends bytes parent b after (nat_lt b floor) (is_some (kind_in_space done parent b))
      by false = refl

  abbrev Room : List ℕ → List ℕ → List ℕ → Option ℕ → Type 0
  Room bytes field rest o =
      (or_refuse_field o bytes reasons.ORDER >>= λ floor. read_below 240 rest >>= space_behind bytes (from_le_bytes w32 field) floor)
      ≡ (tested (is_some o) reasons.ORDER field rest bytes >>= λ x. field_at forms.slot_there x.1
      >>= λ y. together (opened.is_place done path (from_le_bytes w32 x.0) (byte_in y.0)) reasons.ORDER bytes
      (run (space_of (from_le_bytes w32 x.0, byte_in y.0)) y.1))

  room_then : (bytes field rest : List ℕ) (o : Option ℕ) → room_under path (from_le_bytes w32 field) ≡ o → Room bytes field rest o
  room_then bytes field rest None e = refl
  room_then bytes field rest (Some floor) e =
      subst (λ o. (read_below 240 rest >>= space_behind bytes (from_le_bytes w32 field) floor)
      ≡ (field_at forms.slot_there rest
      >>= λ y. together (has_room o (byte_in y.0) && not (is_some (kind_in_space done (from_le_bytes w32 field) (byte_in y.0)))) reasons.ORDER bytes
      (run (space_of (from_le_bytes w32 field, byte_in y.0)) y.1)))
      (sym e) (slot_here bytes (from_le_bytes w32 field) floor rest)

  abbrev parent_tested : List ℕ → Bool → Result (List ℕ × List ℕ) Stop
  parent_tested bytes t = if t then refuse_field bytes reasons.CUT
      else tested (is_some (room_under path (from_le_bytes w32 (take (byte_len w32) bytes)))) reasons.ORDER (take (byte_len w32) bytes)
      (drop (byte_len w32) bytes) bytes

  same-next : (bytes : List ℕ) → read_next new done path bytes ≡ run (opened.inner new done path) bytes
  unfolding read_next read_room opened.inner run ◌>>>◌ field_at
  same-next bytes = by (nat_lt (length bytes) (byte_len w32))
    where
      by : (t : Bool) → (number_read w32 bytes t >>= λ parent. or_refuse_field (room_under path parent.0) bytes reasons.ORDER
          >>= λ floor. read_below 240 parent.1 >>= space_behind bytes parent.0 floor)
          ≡ (parent_tested bytes t >>= λ x. field_at forms.slot_there x.1
          >>= λ y. together (opened.is_place done path (from_le_bytes w32 x.0) (byte_in y.0)) reasons.ORDER bytes
          (run (space_of (from_le_bytes w32 x.0, byte_in y.0)) y.1))
      by true = refl
      by false = room_then bytes (take (byte_len w32) bytes) (drop (byte_len w32) bytes) (room_under path (from_le_bytes w32 (take (byte_len w32) bytes))) refl

same-space : (new : Bool) (before : List SpaceRec × List Open) (bytes : List ℕ) → read_space new before bytes ≡ run (opened.space new before) bytes
unfolding read_space
same-space new before bytes = by before.0
  where
    by : (done : List SpaceRec) → read_placed new done before.1 bytes ≡ run (opened.space_behind new done before.1) bytes
    by [] = same-root new bytes
    by (d ∷ done) = same-next new (d ∷ done) before.1 bytes

-- ---- an image

abbrev magic_tested : List ℕ → Bool → Bool → Result (List ℕ × List ℕ) Stop
magic_tested bytes t u = if t then refuse_field bytes reasons.CUT else tested u reasons.MAGIC (take 8 bytes) (drop 8 bytes) bytes

abbrev count_read : Bool × List ℕ → Result ((Bool × ℕ) × List ℕ) Stop
count_read new = read_number w32 new.1 >>= λ count. expect (not (count.0 == 0)) new.1 reasons.RANGE >>= λ _. Ok ((new.0, count.0), count.1)

same-count : (new : Bool) (bytes : List ℕ) → count_read (new, bytes) ≡ run (forms.count_of new) bytes
unfolding run
same-count new bytes = expected-number forms.is_some_number reasons.RANGE w32 bytes (λ count rest. Ok ((new, count), rest)) (λ count. Whole (new, count))
    (λ count rest. refl)

abbrev picked : List ℕ → ℕ × List ℕ → Result (Bool × List ℕ) Stop
picked bytes version = if version.0 == 1 then Ok (false, version.1) else if version.0 == 2 then Ok (true, version.1) else refuse_field bytes reasons.VERSION

version_then : (bytes : List ℕ) → (read_version bytes >>= count_read) ≡ (read_number w16 bytes >>= λ version. picked bytes version >>= count_read)
unfolding read_version
version_then bytes = by (read_number w16 bytes)
  where
    by : (r : Result (ℕ × List ℕ) Stop) → ((r >>= picked bytes) >>= count_read) ≡ (r >>= λ version. picked bytes version >>= count_read)
    by (Ok x) = refl
    by (Err e) = refl

same-version : (bytes : List ℕ) →
    (read_version bytes >>= count_read) ≡ run (number_for reasons.VERSION w16 forms.is_version >>> λ version. forms.count_of (version == 2)) bytes
same-version bytes = version_then bytes ∙ go-number forms.is_version (λ version. picked bytes version >>= count_read) (λ version. forms.count_of (version == 2))
    reasons.VERSION w16 bytes fits off
  where
    other : (n : ℕ) → (n == 1) ≡ true → (n == 2) ≡ false
    other n one = rw (eqb-true n 1 one) refl

    fits : (n : ℕ) (rest : List ℕ) → forms.is_version n ≡ true → (picked bytes (n, rest) >>= count_read) ≡ run (forms.count_of (n == 2)) rest
    fits n rest is = by (n == 1) refl (n == 2) refl is
      where
        by : (one : Bool) → (n == 1) ≡ one → (two : Bool) → (n == 2) ≡ two → (one || two) ≡ true →
            ((if one then Ok (false, rest) else if two then Ok (true, rest) else refuse_field bytes reasons.VERSION) >>= count_read) ≡ run
            (forms.count_of two) rest
        by true first true second is = let no = other n first in absurd (cc)
        by true first false second is = same-count false rest
        by false first true second is = same-count true rest
        by false first false second is = absurd (cc)

    off : (n : ℕ) (rest : List ℕ) → forms.is_version n ≡ false → (picked bytes (n, rest) >>= count_read) ≡ refuse_field bytes reasons.VERSION
    off n rest is = by (n == 1) (n == 2) is
      where
        by : (one two : Bool) → (one || two) ≡ false →
            ((if one then Ok (false, rest) else if two then Ok (true, rest) else refuse_field bytes reasons.VERSION) >>= count_read)
            ≡ refuse_field bytes reasons.VERSION
        by true two is = absurd (cc)
        by false true is = absurd (cc)
        by false false is = refl

same-head : (bytes : List ℕ) → read_head bytes ≡ run forms.header bytes
unfolding read_head forms.header run ◌>>>◌ field_at
same-head bytes = by (nat_lt (length bytes) 8) (pointwise nat_eq (take 8 bytes) magic)
  where
    by : (t u : Bool) → (expect (not t) bytes reasons.CUT >>= λ _. expect u bytes reasons.MAGIC >>= λ _. read_version (drop 8 bytes) >>= count_read)
        ≡ (magic_tested bytes t u >>= λ x. run (number_for reasons.VERSION w16 forms.is_version >>> λ version. forms.count_of (version == 2)) x.1)
    by true u = refl
    by false false = refl
    by false true = same-version (drop 8 bytes)

-- the image that is read, with whether its version is the new one, and the bytes behind it
abbrev pub spaces_read : List ℕ → Result ((Bool × Image) × List ℕ) Stop
spaces_read bytes = read_head bytes >>= λ head. read_many (read_space head.0.0) after_space head.0.1 ([], root_path) [] head.1 >>= λ spaces.
    Ok ((head.0.0, record { spaces = spaces.0 }), spaces.1)

abbrev pub ended : (Bool × Image) × List ℕ → Result (Bool × Image) Stop
ended i = expect (length i.1 == 0) i.1 reasons.LEFT_OVER >>= λ _. Ok i.0

pub image_is : (bytes : List ℕ) → read_image bytes ≡ (spaces_read bytes >>= ended)
unfolding read_image
image_is bytes = by (read_head bytes)
  where
    spaces : (new : Bool) (r : Result (List SpaceRec × List ℕ) Stop) →
        (r >>= λ spaces. expect (length spaces.1 == 0) spaces.1 reasons.LEFT_OVER >>= λ _. Ok (new, record { spaces = spaces.0 }))
        ≡ ((r >>= λ spaces. Ok ((new, record { spaces = spaces.0 }), spaces.1)) >>= ended)
    spaces new (Ok x) = refl
    spaces new (Err e) = refl

    by : (r : Result ((Bool × ℕ) × List ℕ) Stop) →
        (r >>= λ head. read_many (read_space head.0.0) after_space head.0.1 ([], root_path) [] head.1 >>= λ spaces.
        expect (length spaces.1 == 0) spaces.1 reasons.LEFT_OVER >>= λ _. Ok (head.0.0, record { spaces = spaces.0 }))
        ≡ ((r >>= λ head. read_many (read_space head.0.0) after_space head.0.1 ([], root_path) [] head.1 >>= λ spaces.
        Ok ((head.0.0, record { spaces = spaces.0 }), spaces.1)) >>= ended)
    by (Ok head) = spaces head.0.0 (read_many (read_space head.0.0) after_space head.0.1 ([], root_path) [] head.1)
    by (Err e) = refl

pub same-image : (bytes : List ℕ) → spaces_read bytes ≡ run forms.image bytes
unfolding forms.image run
same-image bytes = go (read_head bytes) _ forms.header _ bytes (same-head bytes)
    (λ head. go (read_many (read_space head.0.0) after_space head.0.1 ([], root_path) [] head.1) _
    (forms.many (forms.space head.0.0) forms.with_space head.0.1 [] []) _ head.1
    (same-many (read_space head.0.0) (opened.space head.0.0) after_space (same-space head.0.0) head.0.1 ([], root_path) [] head.1
    ∙ same-spaces head.0.0 head.0.1 head.1) (λ spaces. refl))
