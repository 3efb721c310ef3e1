-- Opened: the form of a space by the open path, which is that by the spaces so far where these stand in order.
use Rattle.std.proofs.Common.{◌≡◌, ℕ, zero, suc, Bool, true, false, not, ◌&&◌, List, [], ◌∷◌, ◌++◌, length, take, drop, nat_lt, is_some, Result, Ok, Err}
use Rattle.std.proofs.Common.{if◌then◌else◌, refl, sym, ap, subst, ◌∙◌}
use Rattle.std.specs.Int.{w32, byte_len, from_le_bytes}
use Rattle.fk_image.specs.declared.image.image.SpaceRec.{SpaceRec}
use Rattle.fk_image.specs.declared.image.image.Image.{Image}
use Rattle.fk_image.specs.declared.image.open.Open.{Open}
use Rattle.fk_image.specs.Image.Preorder.{has_room, room_under, root_path, path_after, after_space}
use Rattle.fk_image.specs.Image.Links.{kind_in_space}
use Rattle.fk_image.specs.declared.format.reasons.reason.TheConstants as reasons
use Rattle.fk_image.specs.declared.format.stop.Stop.{Stop}
use Rattle.fk_image.specs.Format.Fields.{◌>>=◌, refuse_field}
use Rattle.fk_image.specs.Form.Order.{Follows, AreInOrder}
use Rattle.fk_image.proofs.InFormat.Basics.{and2, not_true}
use Rattle.laws_image_faults.specs.Forms.{Shape, Form}
use Rattle.laws_image_faults.specs.Forms.Form.{Whole, Pair}
use Rattle.laws_image_faults.specs.Images as forms
use Rattle.laws_image_faults.specs.Images.{◌>>=◌ as ◌>>>◌, byte_in, many, with_space}
use Rattle.laws_image_faults.proofs.Runs.{run, run-bind, field_at, tested, together}
use Rattle.laws_image_faults.proofs.Breaks.{field-stands, same_said}
use Rattle.laws_image_faults.proofs.Paths.{Good, room-some, room-slot, may-follow, good-more, good-first, none-some}

-- ---- by the open path

abbrev pub is_place : List SpaceRec → List Open → ℕ → ℕ → Bool
is_place done path parent slot = has_room (room_under path parent) slot && not (is_some (kind_in_space done parent slot))

abbrev pub parent_of : List Open → Shape
parent_of path = record { size = byte_len w32; may = λ field. is_some (room_under path (from_le_bytes w32 field)); why = λ field. reasons.ORDER }

abbrev pub space_of : Bool → ℕ × ℕ → Form SpaceRec
space_of new place = forms.link >>> λ holder. forms.objects new >>> λ objects. forms.pages >>> λ pages.
    Whole (record { parent = place.0; slot = place.1; holder = holder; objects = objects; pages = pages })

abbrev pub place : List SpaceRec → List Open → Form (ℕ × ℕ)
place done path = Pair (parent_of path) forms.slot_there (λ parent slot. is_place done path (from_le_bytes w32 parent) (byte_in slot)) reasons.ORDER
    (λ parent slot. Whole (from_le_bytes w32 parent, byte_in slot))

unfoldable pub inner : Bool → List SpaceRec → List Open → Form SpaceRec
inner new done path = place done path >>> space_of new

abbrev pub space_behind : Bool → List SpaceRec → List Open → Form SpaceRec
space_behind new [] path = forms.root new
space_behind new (d ∷ done) path = inner new (d ∷ done) path

abbrev pub space : Bool → List SpaceRec × List Open → Form SpaceRec
space new before = space_behind new before.0 before.1

-- ---- one space

abbrev placed : Bool → List ℕ → List ℕ → List ℕ → Bool → List ℕ → Result (SpaceRec × List ℕ) Stop
placed new bytes parent slot t rest = together t reasons.ORDER bytes (run (space_of new (from_le_bytes w32 parent, byte_in slot)) rest)

-- what is read by two forms, one behind the other
pub run-parts : {X Y : Type 0} (f : Form X) (g : X → Form Y) (bytes : List ℕ) (y : Y × List ℕ) → run (f >>> g) bytes ≡ Ok y
    → (x : X × List ℕ) × (run f bytes ≡ Ok x) × (run (g x.0) x.1 ≡ Ok y)
run-parts {X = X} f g bytes y is = by (run f bytes) refl (sym (run-bind g f bytes) ∙ is)
  where
    by : (r : Result (X × List ℕ) Stop) → run f bytes ≡ r → (r >>= λ x. run (g x.0) x.1) ≡ Ok y
        → (x : X × List ℕ) × (run f bytes ≡ Ok x) × (run (g x.0) x.1 ≡ Ok y)
    by (Ok x) first e = (x, first, e)
    by (Err e) first none = absurd cc

-- a space has the parent and the slot that were read first
rest-place : (new : Bool) (place : ℕ × ℕ) (bytes : List ℕ) (s : SpaceRec × List ℕ) → run (space_of new place) bytes ≡ Ok s
    → (place.0 ≡ s.0.parent) × (place.1 ≡ s.0.slot)
unfolding run
rest-place new place bytes s is =
    let holder = run-parts forms.link _ bytes s is in
    let objects = run-parts (forms.objects new) _ holder.0.1 s holder.2 in
    let pages = run-parts forms.pages _ objects.0.1 s objects.2 in
    let same = same_said _ _ _ _ pages.2 in
    (ap (λ (s : SpaceRec). s.parent) same, ap (λ (s : SpaceRec). s.slot) same)

module _ (new : Bool) (done : List SpaceRec) (path : List Open) (good : Good done path) where
  parents : (bytes : List ℕ) → field_at (parent_of path) bytes ≡ field_at (forms.parent_of done) bytes
  unfolding field_at
  parents bytes = ap (λ t. if nat_lt (length bytes) (byte_len w32) then refuse_field bytes reasons.CUT
      else tested t reasons.ORDER (take (byte_len w32) bytes) (drop (byte_len w32) bytes) bytes)
      (room-some done path good (from_le_bytes w32 (take (byte_len w32) bytes)))

  pub same-inner : (bytes : List ℕ) → run (inner new done path) bytes ≡ run (forms.inner new done) bytes
  unfolding inner forms.inner run ◌>>>◌
  same-inner bytes = by (field_at (parent_of path) bytes) refl
      ∙ ap (λ r. r >>= λ x. field_at forms.slot_there x.1
      >>= λ y. placed new bytes x.0 y.0 (forms.is_place done (from_le_bytes w32 x.0) (byte_in y.0)) y.1) (parents bytes)
    where
      slots : (parent : List ℕ) → is_some (room_under path (from_le_bytes w32 parent)) ≡ true → (r : Result (List ℕ × List ℕ) Stop) →
          (r >>= λ y. placed new bytes parent y.0 (is_place done path (from_le_bytes w32 parent) (byte_in y.0)) y.1)
          ≡ (r >>= λ y. placed new bytes parent y.0 (forms.is_place done (from_le_bytes w32 parent) (byte_in y.0)) y.1)
      slots parent some (Err e) = refl
      slots parent some (Ok y) =
          ap (λ t. placed new bytes parent y.0 (t && not (is_some (kind_in_space done (from_le_bytes w32 parent) (byte_in y.0)))) y.1)
          (room-slot done path good (from_le_bytes w32 parent) (byte_in y.0) some)

      by : (r : Result (List ℕ × List ℕ) Stop) → field_at (parent_of path) bytes ≡ r →
          (r >>= λ x. field_at forms.slot_there x.1 >>= λ y. placed new bytes x.0 y.0 (is_place done path (from_le_bytes w32 x.0) (byte_in y.0)) y.1)
          ≡ (r >>= λ x. field_at forms.slot_there x.1 >>= λ y. placed new bytes x.0 y.0 (forms.is_place done (from_le_bytes w32 x.0) (byte_in y.0)) y.1)
      by (Err e) is = refl
      by (Ok x) is = slots x.0 (field-stands (parent_of path) bytes x.0 x.1 is).1.fits (field_at forms.slot_there x.1)

  -- a space that is read may follow
  pub inner-follows : (bytes : List ℕ) (s : SpaceRec × List ℕ) → run (forms.inner new done) bytes ≡ Ok s → Follows done s.0
  unfolding forms.inner run ◌>>>◌
  inner-follows bytes s is = by (field_at (forms.parent_of done) bytes) refl is
    where
      may : (parent slot : ℕ) → forms.ends_within done parent ≡ true → forms.is_place done parent slot ≡ true → parent ≡ s.0.parent → slot ≡ s.0.slot
          → Follows done s.0
      may parent slot ends is up at =
          let both = and2 (forms.is_above_brothers done parent slot) (not (is_some (kind_in_space done parent slot))) is in
          may-follow done path good s.0 (ap (forms.ends_within done) (sym up) ∙ ends)
          (rw (sym up, sym at) both.0) (rw (sym up, sym at) (none-some (kind_in_space done parent slot) (not_true _ both.1)))

      fitting : (parent slot rest : List ℕ) (t : Bool) → forms.ends_within done (from_le_bytes w32 parent) ≡ true
          → forms.is_place done (from_le_bytes w32 parent) (byte_in slot) ≡ t → placed new bytes parent slot t rest ≡ Ok s → Follows done s.0
      fitting parent slot rest false ends place is = absurd cc
      fitting parent slot rest true ends place is =
          let same = rest-place new (from_le_bytes w32 parent, byte_in slot) rest s is in
          may (from_le_bytes w32 parent) (byte_in slot) ends place same.0 same.1

      slots : (parent : List ℕ) → forms.ends_within done (from_le_bytes w32 parent) ≡ true → (r : Result (List ℕ × List ℕ) Stop) →
          (r >>= λ y. placed new bytes parent y.0 (forms.is_place done (from_le_bytes w32 parent) (byte_in y.0)) y.1) ≡ Ok s → Follows done s.0
      slots parent ends (Err e) is = absurd cc
      slots parent ends (Ok y) is = fitting parent y.0 y.1 (forms.is_place done (from_le_bytes w32 parent) (byte_in y.0)) ends refl is

      by : (r : Result (List ℕ × List ℕ) Stop) → field_at (forms.parent_of done) bytes ≡ r →
          (r >>= λ x. field_at forms.slot_there x.1 >>= λ y. placed new bytes x.0 y.0 (forms.is_place done (from_le_bytes w32 x.0) (byte_in y.0)) y.1) ≡ Ok s
          → Follows done s.0
      by (Err e) there is = absurd cc
      by (Ok x) there is = slots x.0 (field-stands (forms.parent_of done) bytes x.0 x.1 there).1.fits (field_at forms.slot_there x.1) is

-- ---- several

module _ (new : Bool) where
  same-behind : (n : ℕ) (d : SpaceRec) (ds : List SpaceRec) (path : List Open) → Good (d ∷ ds) path → (bytes : List ℕ) →
      run (many (space new) after_space n (d ∷ ds, path) (d ∷ ds)) bytes ≡ run (many (forms.space new) with_space n (d ∷ ds) (d ∷ ds)) bytes
  unfolding many
  same-behind zero d ds path good bytes = refl
  same-behind (suc n) d ds path good bytes =
      run-bind (λ x. many (space new) after_space n (after_space (d ∷ ds, path) x) (d ∷ (ds ++ x ∷ []))) (inner new (d ∷ ds) path) bytes
      ∙ ap (λ r. r >>= λ x. run (many (space new) after_space n (after_space (d ∷ ds, path) x.0) (d ∷ (ds ++ x.0 ∷ []))) x.1)
      (same-inner new (d ∷ ds) path good bytes)
      ∙ by (λ x f after. same-behind n d (ds ++ x ∷ []) (path_after (d ∷ ds) x path) (good-more d ds path x good f) after)
      (run (forms.inner new (d ∷ ds)) bytes) refl
      ∙ sym (run-bind (λ x. many (forms.space new) with_space n (d ∷ (ds ++ x ∷ [])) (d ∷ (ds ++ x ∷ []))) (forms.inner new (d ∷ ds)) bytes)
    where
      by : ((x : SpaceRec) → Follows (d ∷ ds) x → (after : List ℕ) →
          run (many (space new) after_space n (after_space (d ∷ ds, path) x) (d ∷ (ds ++ x ∷ []))) after
          ≡ run (many (forms.space new) with_space n (d ∷ (ds ++ x ∷ [])) (d ∷ (ds ++ x ∷ []))) after) →
          (r : Result (SpaceRec × List ℕ) Stop) → run (forms.inner new (d ∷ ds)) bytes ≡ r →
          (r >>= λ x. run (many (space new) after_space n (after_space (d ∷ ds, path) x.0) (d ∷ (ds ++ x.0 ∷ []))) x.1)
          ≡ (r >>= λ x. run (many (forms.space new) with_space n (d ∷ (ds ++ x.0 ∷ [])) (d ∷ (ds ++ x.0 ∷ []))) x.1)
      by each (Err e) is = refl
      by each (Ok x) is = each x.0 (inner-follows new (d ∷ ds) path good bytes x is) x.1

  pub same-spaces : (n : ℕ) (bytes : List ℕ) →
      run (many (space new) after_space n ([], root_path) []) bytes ≡ run (many (forms.space new) with_space n [] []) bytes
  unfolding many
  same-spaces zero bytes = refl
  same-spaces (suc n) bytes =
      run-bind (λ x. many (space new) after_space n (after_space ([], root_path) x) (x ∷ [])) (forms.root new) bytes
      ∙ by (run (forms.root new) bytes)
      ∙ sym (run-bind (λ x. many (forms.space new) with_space n (x ∷ []) (x ∷ [])) (forms.root new) bytes)
    where
      by : (r : Result (SpaceRec × List ℕ) Stop) →
          (r >>= λ x. run (many (space new) after_space n (after_space ([], root_path) x.0) (x.0 ∷ [])) x.1)
          ≡ (r >>= λ x. run (many (forms.space new) with_space n (x.0 ∷ []) (x.0 ∷ [])) x.1)
      by (Err e) = refl
      by (Ok x) = same-behind n x.0 [] root_path (good-first x.0) x.1

  -- spaces that are read stand in order
  ordered-behind : (n : ℕ) (d : SpaceRec) (ds : List SpaceRec) (path : List Open) → Good (d ∷ ds) path → (bytes : List ℕ) (x : List SpaceRec × List ℕ) →
      run (many (forms.space new) with_space n (d ∷ ds) (d ∷ ds)) bytes ≡ Ok x → AreInOrder x.0
  unfolding many run
  ordered-behind zero d ds path good bytes x is = subst (λ ss. AreInOrder ss) (same_said _ _ _ _ is) good.order
  ordered-behind (suc n) d ds path good bytes x is =
      by (λ s f after. ordered-behind n d (ds ++ s ∷ []) (path_after (d ∷ ds) s path) (good-more d ds path s good f) after x)
      (run (forms.inner new (d ∷ ds)) bytes) refl
      (sym (run-bind (λ s. many (forms.space new) with_space n (d ∷ (ds ++ s ∷ [])) (d ∷ (ds ++ s ∷ []))) (forms.inner new (d ∷ ds)) bytes) ∙ is)
    where
      by : ((s : SpaceRec) → Follows (d ∷ ds) s → (after : List ℕ) →
          run (many (forms.space new) with_space n (d ∷ (ds ++ s ∷ [])) (d ∷ (ds ++ s ∷ []))) after ≡ Ok x → AreInOrder x.0) →
          (r : Result (SpaceRec × List ℕ) Stop) → run (forms.inner new (d ∷ ds)) bytes ≡ r →
          (r >>= λ s. run (many (forms.space new) with_space n (d ∷ (ds ++ s.0 ∷ [])) (d ∷ (ds ++ s.0 ∷ []))) s.1) ≡ Ok x → AreInOrder x.0
      by each (Err e) is none = absurd cc
      by each (Ok s) is whole = each s.0 (inner-follows new (d ∷ ds) path good bytes s is) s.1 whole

  pub spaces-ordered : (n : ℕ) (bytes : List ℕ) (x : List SpaceRec × List ℕ) → run (many (forms.space new) with_space n [] []) bytes ≡ Ok x → AreInOrder x.0
  unfolding many run
  spaces-ordered zero bytes x is = subst (λ ss. AreInOrder ss) (same_said _ _ _ _ is) (λ m s e. absurd cc)
  spaces-ordered (suc n) bytes x is =
      by (run (forms.root new) bytes) (sym (run-bind (λ s. many (forms.space new) with_space n (s ∷ []) (s ∷ [])) (forms.root new) bytes) ∙ is)
    where
      by : (r : Result (SpaceRec × List ℕ) Stop) → (r >>= λ s. run (many (forms.space new) with_space n (s.0 ∷ []) (s.0 ∷ [])) s.1) ≡ Ok x → AreInOrder x.0
      by (Err e) none = absurd cc
      by (Ok s) whole = ordered-behind n s.0 [] root_path (good-first s.0) s.1 x whole

-- an image that is read has its spaces in order
pub image-ordered : (bytes : List ℕ) (x : (Bool × Image) × List ℕ) → run forms.image bytes ≡ Ok x → AreInOrder x.0.1.spaces
unfolding forms.image run
image-ordered bytes x is =
    let head = run-parts forms.header _ bytes x is in
    let spaces = run-parts (many (forms.space head.0.0.0) with_space head.0.0.1 [] []) _ head.0.1 x head.2 in
    subst (λ (i : Bool × Image). AreInOrder i.1.spaces) (same_said _ _ _ _ spaces.2) (spaces-ordered head.0.0.0 head.0.0.1 head.0.1 spaces.0 spaces.1)
