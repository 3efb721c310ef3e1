-- Runs: what bytes say that are read by a form, or how many are left where they break it, and for what reason.
use Rattle.std.proofs.Common.{◌≡◌, ℕ, zero, suc, Bool, true, false, List, [], ◌∷◌, ◌++◌, length, take, drop, nat_lt, Result, Ok, Err, if◌then◌else◌, refl, sym}
use Rattle.std.proofs.Common.{ap, ◌∙◌, arith}
use Rattle.std.proofs.lemmas.Bool.{le-ltb}
use Rattle.std.specs.Int.{Width, byte_len, from_le_bytes}
use Rattle.fk_image.specs.declared.format.reasons.reason.TheConstants as reasons
use Rattle.fk_image.specs.declared.format.stop.Stop.{Stop}
use Rattle.fk_image.specs.Format.Fields.{◌>>=◌, refuse_field, read_byte, read_number, read_many}
use Rattle.laws_image_faults.specs.Forms.{Shape, Form}
use Rattle.laws_image_faults.specs.Forms.Form.{Whole, Field, Pair}
use Rattle.laws_image_faults.specs.Images.{◌>>=◌ as ◌>>>◌, byte, number, byte_for, number_for, any, many, byte_in}

abbrev pub tested : Bool → ℕ → List ℕ → List ℕ → List ℕ → Result (List ℕ × List ℕ) Stop
tested true reason field rest bytes = Ok (field, rest)
tested false reason field rest bytes = refuse_field bytes reason

unfoldable pub field_at : Shape → List ℕ → Result (List ℕ × List ℕ) Stop
field_at f bytes = if nat_lt (length bytes) f.size then refuse_field bytes reasons.CUT
    else tested (f.may (take f.size bytes)) (f.why (take f.size bytes)) (take f.size bytes) (drop f.size bytes) bytes

abbrev pub together : Bool → ℕ → List ℕ → {A : Type 0} → Result A Stop → Result A Stop
together true reason bytes r = r
together false reason bytes r = refuse_field bytes reason

unfoldable pub run : {X : Type 0} → Form X → List ℕ → Result (X × List ℕ) Stop
run (Whole x) bytes = Ok (x, bytes)
run (Field f rest) bytes = field_at f bytes >>= λ x. run (rest x.0) x.1
run (Pair f h both apart rest) bytes =
    field_at f bytes >>= λ x. field_at h x.1 >>= λ y. together (both x.0 y.0) apart bytes (run (rest x.0 y.0) y.1)

module _ {X Y : Type 0} (g : X → Form Y) where
  pub run-bind : (f : Form X) (bytes : List ℕ) → run (f >>> g) bytes ≡ (run f bytes >>= λ x. run (g x.0) x.1)
  unfolding run ◌>>>◌
  run-bind (Whole x) bytes = refl
  run-bind (Field f rest) bytes = by (λ field. run-bind (rest field)) (field_at f bytes)
    where
      by : ((field after : List ℕ) → run (rest field >>> g) after ≡ (run (rest field) after >>= λ x. run (g x.0) x.1)) →
          (r : Result (List ℕ × List ℕ) Stop) → (r >>= λ x. run (rest x.0 >>> g) x.1) ≡ ((r >>= λ x. run (rest x.0) x.1) >>= λ x. run (g x.0) x.1)
      by each (Ok x) = each x.0 x.1
      by each (Err e) = refl
  run-bind (Pair f h both apart rest) bytes = by (λ first second. run-bind (rest first second)) (field_at f bytes)
    where
      joined : ((first second after : List ℕ) → run (rest first second >>> g) after ≡ (run (rest first second) after >>= λ x. run (g x.0) x.1)) →
          (first second after : List ℕ) (t : Bool) → together t apart bytes (run (rest first second >>> g) after)
          ≡ (together t apart bytes (run (rest first second) after) >>= λ x. run (g x.0) x.1)
      joined each first second after true = each first second after
      joined each first second after false = refl

      second_by : ((first second after : List ℕ) → run (rest first second >>> g) after ≡ (run (rest first second) after >>= λ x. run (g x.0) x.1)) →
          (first : List ℕ) (r : Result (List ℕ × List ℕ) Stop) → (r >>= λ y. together (both first y.0) apart bytes (run (rest first y.0 >>> g) y.1))
          ≡ ((r >>= λ y. together (both first y.0) apart bytes (run (rest first y.0) y.1)) >>= λ x. run (g x.0) x.1)
      second_by each first (Ok y) = joined each first y.0 y.1 (both first y.0)
      second_by each first (Err e) = refl

      by : ((first second after : List ℕ) → run (rest first second >>> g) after ≡ (run (rest first second) after >>= λ x. run (g x.0) x.1)) →
          (r : Result (List ℕ × List ℕ) Stop) →
          (r >>= λ x. field_at h x.1 >>= λ y. together (both x.0 y.0) apart bytes (run (rest x.0 y.0 >>> g) y.1))
          ≡ ((r >>= λ x. field_at h x.1 >>= λ y. together (both x.0 y.0) apart bytes (run (rest x.0 y.0) y.1)) >>= λ x. run (g x.0) x.1)
      by each (Ok x) = second_by each x.0 (field_at h x.1)
      by each (Err e) = refl

-- a reading goes on as a form does
pub go : {X Y : Type 0} (r : Result (X × List ℕ) Stop) (k : X × List ℕ → Result (Y × List ℕ) Stop) (f : Form X) (g : X → Form Y) (bytes : List ℕ) →
    r ≡ run f bytes → ((x : X × List ℕ) → (k x) ≡ run (g x.0) x.1) → (r >>= k) ≡ run (f >>> g) bytes
go (Ok x) k f g bytes first later = later x ∙ ap (λ r. r >>= λ x. run (g x.0) x.1) first ∙ sym (run-bind g f bytes)
go (Err e) k f g bytes first later = ap (λ r. r >>= λ x. run (g x.0) x.1) first ∙ sym (run-bind g f bytes)

-- ---- a byte and a number, of which what follows may refuse some

pub one_byte : (b : ℕ) (rest : List ℕ) → nat_lt (length (b ∷ rest)) 1 ≡ false
one_byte b rest = le-ltb (length (b ∷ rest)) 1 (omega arith)

abbrev pub number_read : Width → List ℕ → Bool → Result (ℕ × List ℕ) Stop
number_read w bytes t = if t then refuse_field bytes reasons.CUT else Ok (from_le_bytes w (take (byte_len w) bytes), drop (byte_len w) bytes)

abbrev pub number_tested : Width → (ℕ → Bool) → ℕ → List ℕ → Bool → Result (List ℕ × List ℕ) Stop
number_tested w may reason bytes t = if t then refuse_field bytes reasons.CUT
    else tested (may (from_le_bytes w (take (byte_len w) bytes))) reason (take (byte_len w) bytes) (drop (byte_len w) bytes) bytes

module _ {Y : Type 0} (may : ℕ → Bool) (k : ℕ × List ℕ → Result (Y × List ℕ) Stop) (g : ℕ → Form Y) where
  pub go-byte : (why : ℕ → ℕ) (bytes : List ℕ) → ((b : ℕ) (rest : List ℕ) → may b ≡ true → k (b, rest) ≡ run (g b) rest) →
      ((b : ℕ) (rest : List ℕ) → may b ≡ false → k (b, rest) ≡ refuse_field bytes (why b)) →
      (read_byte bytes >>= k) ≡ run (byte_for why may >>> g) bytes
  unfolding run ◌>>>◌ field_at
  go-byte why [] fits off = refl
  go-byte why (b ∷ rest) fits off = rw (one_byte b rest) (by (may b) refl)
    where
      by : (t : Bool) → may b ≡ t → k (b, rest) ≡ (tested t (why b) (b ∷ []) rest (b ∷ rest) >>= λ x. run (g (byte_in x.0)) x.1)
      by true is = fits b rest is
      by false is = off b rest is

  pub go-number : (reason : ℕ) (w : Width) (bytes : List ℕ) → ((n : ℕ) (rest : List ℕ) → may n ≡ true → k (n, rest) ≡ run (g n) rest) →
      ((n : ℕ) (rest : List ℕ) → may n ≡ false → k (n, rest) ≡ refuse_field bytes reason) →
      (read_number w bytes >>= k) ≡ run (number_for reason w may >>> g) bytes
  unfolding run ◌>>>◌ field_at
  go-number reason w bytes fits off = by (nat_lt (length bytes) (byte_len w))
    where
      going : (t : Bool) → may (from_le_bytes w (take (byte_len w) bytes)) ≡ t →
          k (from_le_bytes w (take (byte_len w) bytes), drop (byte_len w) bytes)
          ≡ (tested t reason (take (byte_len w) bytes) (drop (byte_len w) bytes) bytes >>= λ x. run (g (from_le_bytes w x.0)) x.1)
      going true is = fits _ _ is
      going false is = off _ _ is

      by : (t : Bool) → (number_read w bytes t >>= k) ≡ (number_tested w may reason bytes t >>= λ x. run (g (from_le_bytes w x.0)) x.1)
      by true = refl
      by false = going (may (from_le_bytes w (take (byte_len w) bytes))) refl

-- each alone
pub tested-byte : (may : ℕ → Bool) (reason : ℕ) (bytes : List ℕ) →
    (read_byte bytes >>= λ b. if may b.0 then Ok b else refuse_field bytes reason) ≡ run (byte_for (λ b. reason) may) bytes
unfolding run ◌>>>◌
tested-byte may reason bytes =
    go-byte may (λ b. if may b.0 then Ok b else refuse_field bytes reason) Whole (λ b. reason) bytes (λ b rest is. rw is refl) (λ b rest is. rw is refl)

pub any-byte : (bytes : List ℕ) → read_byte bytes ≡ run (byte any) bytes
unfolding run field_at
any-byte [] = refl
any-byte (b ∷ rest) = rw (one_byte b rest) refl

pub any-number : (w : Width) (bytes : List ℕ) → read_number w bytes ≡ run (number w any) bytes
unfolding run field_at
any-number w bytes = by (nat_lt (length bytes) (byte_len w))
  where
    by : (t : Bool) → number_read w bytes t ≡ (number_tested w any reasons.RANGE bytes t >>= λ x. Ok (from_le_bytes w x.0, x.1))
    by true = refl
    by false = refl

-- ---- several

module _ {S X : Type 0} (item : S → List ℕ → Result (X × List ℕ) Stop) (part : S → Form X) (next : S → X → S)
    (same : (s : S) (bytes : List ℕ) → (item s bytes) ≡ run (part s) bytes) where
  pub same-many : (n : ℕ) (s : S) (done : List X) (bytes : List ℕ) → (read_many item next n s done bytes) ≡ run (many part next n s done) bytes
  unfolding run read_many many
  same-many zero s done bytes = refl
  same-many (suc n) s done bytes = go (item s bytes) (λ x. read_many item next n (next s x.0) (done ++ x.0 ∷ []) x.1)
      (part s) (λ x. many part next n (next s x) (done ++ x ∷ [])) bytes (same s bytes) (λ x. same-many n (next s x.0) (done ++ x.0 ∷ []) x.1)
