-- Bytes, steps that did not fail, and numbers as bytes.
use Rattle.std.proofs.Common.{◌≡◌, ℕ, suc, ◌+◌, ◌^◌, ◌<◌, ◌≤◌, Bool, true, false, cond, ltb, not, ◌&&◌, List, [], ◌∷◌, ◌++◌, length, get_or, take, drop, Result}
use Rattle.std.proofs.Common.{Ok, Err, refl, sym, ap, subst, ◌∙◌, append_assoc, arith, inl, inr}
use Rattle.std.specs.Int.{Width, w16, w32, w64, byte_len, from_le_bytes, to_le_bytes}
use Rattle.std.proofs.lemmas.Bool.{cases_lt, ltb-false, ltb-true, lt-ltb, le-ltb}
use Rattle.std.proofs.lemmas.List.{take_at, drop_at, take-append-drop, length-append, length-take, get_or-drop, get_or-take, get_or_past}
use Rattle.std.proofs.lemmas.Nat.{le_bytes_2, le_bytes_4, le_bytes_8, from_le_bytes-to_le_bytes_2, from_le_bytes-to_le_bytes_4, from_le_bytes-to_le_bytes_8}
use Rattle.fk_image.specs.declared.format.stop.Stop.{Stop}
use Rattle.fk_image.specs.Format.Fields.{◌>>=◌, refuse_field, expect, read_byte, read_number, read_below}

-- ---- tests

pub both : (a b : Bool) → a ≡ true → b ≡ true → (a && b) ≡ true
both a b p q = rw (p, q) refl

pub first : (a b : Bool) → (a && b) ≡ true → a ≡ true
first true b e = refl
first false b e = absurd cc

pub second : (a b : Bool) → (a && b) ≡ true → b ≡ true
second true b e = e
second false b e = absurd cc

pub and2 : (a b : Bool) → (a && b) ≡ true → (a ≡ true) × (b ≡ true)
and2 a b e = (first a b e, second a b e)

pub and3 : (a b c : Bool) → (a && b && c) ≡ true → (a ≡ true) × (b ≡ true) × (c ≡ true)
and3 a b c e = let p = and2 a b (first (a && b) c e) in (p.0, p.1, second (a && b) c e)

pub and4 : (a b c d : Bool) → (a && b && c && d) ≡ true → (a ≡ true) × (b ≡ true) × (c ≡ true) × (d ≡ true)
and4 a b c d e = let p = and3 a b c (first (a && b && c) d e) in (p.0, p.1, p.2, second (a && b && c) d e)

pub and5 : (a b c d f : Bool) → (a && b && c && d && f) ≡ true → (a ≡ true) × (b ≡ true) × (c ≡ true) × (d ≡ true) × (f ≡ true)
and5 a b c d f e = let p = and4 a b c d (first (a && b && c && d) f e) in (p.0, p.1, p.2, p.3, second (a && b && c && d) f e)

pub and6 : (a b c d f g : Bool) → (a && b && c && d && f && g) ≡ true → (a ≡ true) × (b ≡ true) × (c ≡ true) × (d ≡ true) × (f ≡ true) × (g ≡ true)
and6 a b c d f g e = let p = and5 a b c d f (first (a && b && c && d && f) g e) in (p.0, p.1, p.2, p.3, p.4, second (a && b && c && d && f) g e)

pub all3 : {a b c : Bool} → a ≡ true → b ≡ true → c ≡ true → (a && b && c) ≡ true
all3 {a} {b} {c} p q r = both (a && b) c (both a b p q) r

pub all4 : {a b c d : Bool} → a ≡ true → b ≡ true → c ≡ true → d ≡ true → (a && b && c && d) ≡ true
all4 {a} {b} {c} {d} p q r s = both (a && b && c) d (all3 p q r) s

pub all5 : {a b c d f : Bool} → a ≡ true → b ≡ true → c ≡ true → d ≡ true → f ≡ true → (a && b && c && d && f) ≡ true
all5 {a} {b} {c} {d} {f} p q r s t = both (a && b && c && d) f (all4 p q r s) t

pub all6 : {a b c d f g : Bool} → a ≡ true → b ≡ true → c ≡ true → d ≡ true → f ≡ true → g ≡ true → (a && b && c && d && f && g) ≡ true
all6 {a} {b} {c} {d} {f} {g} p q r s t u = both (a && b && c && d && f) g (all5 p q r s t) u

pub not_true : (b : Bool) → not b ≡ true → b ≡ false
not_true true e = absurd cc
not_true false e = refl

pub not_false : (b : Bool) → b ≡ false → not b ≡ true
not_false b e = rw e refl

-- ---- bytes

abbrev pub IsBytes : List ℕ → Type 0
IsBytes bytes = (i : ℕ) → get_or bytes i 0 < 256

pub IsBytes-drop : (n : ℕ) (bytes : List ℕ) → IsBytes bytes → IsBytes (drop n bytes)
IsBytes-drop n bytes h i = rw get_or-drop (h (n + i))

IsBytes-take : (n : ℕ) (bytes : List ℕ) → IsBytes bytes → IsBytes (take n bytes)
IsBytes-take n bytes h i =
    elim (cases_lt i n) [
      | inl lt ↦ rw (get_or-take n bytes i 0 lt) (h i)
      | inr le ↦ rw (get_or_past (take n bytes) i 0 (omega (arith, length-take n bytes))) (omega arith)
    ]

-- ---- steps

-- the value of a step that did not fail
pub bind_ok : {A B : Type 0} (r : Result A Stop) (f : A → Result B Stop) (y : B) → (r >>= f) ≡ Ok y → (x : A) × (r ≡ Ok x) × (f x ≡ Ok y)
bind_ok (Ok x) f y e = (x, refl, e)
bind_ok (Err d) f y e = absurd cc

-- a test that did not fail
pub expect_ok : {B : Type 0} (b : Bool) (bytes : List ℕ) (reason : ℕ) (f : Unit {0} → Result B Stop) (y : B) →
    (expect b bytes reason >>= f) ≡ Ok y → (b ≡ true) × (f tt ≡ Ok y)
expect_ok true bytes reason f y e = (refl, e)
expect_ok false bytes reason f y e = absurd cc

pub chosen : {A : Type 0} (b : Bool) (x : A) (bytes : List ℕ) (reason : ℕ) (y : A) →
    cond {A = Result A Stop} b (Ok x) (refuse_field bytes reason) ≡ Ok y → (b ≡ true) × (x ≡ y)
chosen true x bytes reason y e = (refl, cc)
chosen false x bytes reason y e = absurd cc

pub never : {A : Type 0} (bytes : List ℕ) (reason : ℕ) (y : A) → refuse_field {A = A} bytes reason ≡ Ok y → ⊥
never bytes reason y e = cc

abbrev done : {A : Type 0} → A → Result A Stop
done x = Ok x

pub ok_is : {A : Type 0} (x y : A) → done x ≡ done y → x ≡ y
ok_is x y e = cc

-- ---- what readers take

-- what a reader took from the front
pub record Takes (bytes text rest : List ℕ) : Type 0 where
  pub parts : bytes ≡ text ++ rest
  pub rest_fits : IsBytes rest

pub Takes-then : (a x b y c : List ℕ) → Takes a x b → Takes b y c → Takes a (x ++ y) c
Takes-then a x b y c p q = record { parts = p.parts ∙ ap (λ (t : List ℕ). x ++ t) q.parts ∙ sym (append_assoc x y c); rest_fits = q.rest_fits }

-- A reader takes from the front what spell makes of the value, which fits.
abbrev pub Took : {X : Type 0} → (X → List ℕ) → (X → Bool) → List ℕ → X × List ℕ → Type 0
Took spell fits bytes x = Takes bytes (spell x.0) x.1 × (fits x.0 ≡ true)

pub made : {X : Type 0} (spell : X → List ℕ) (fits : X → Bool) (bytes : List ℕ) (x y : X × List ℕ) →
    done x ≡ done y → Took spell fits bytes x → Took spell fits bytes y
made spell fits bytes x y e t = subst (λ z. Took spell fits bytes z) (ok_is x y e) t

-- ---- bytes and numbers

abbrev pub one : ℕ → List ℕ
one b = b ∷ []

pub byte_takes : (bytes : List ℕ) (x : ℕ × List ℕ) → IsBytes bytes → read_byte bytes ≡ Ok x → Took one (λ b. ltb b 256) bytes x
byte_takes [] x fits e = absurd cc
byte_takes (b ∷ rest) x fits e =
    made one (λ b. ltb b 256) (b ∷ rest) (b, rest) x e (record { parts = refl; rest_fits = λ i. fits (suc i) }, lt-ltb b 256 (fits 0))

pub below_takes : (limit : ℕ) (bytes : List ℕ) (x : ℕ × List ℕ) → IsBytes bytes → read_below limit bytes ≡ Ok x → Took one (λ b. ltb b limit) bytes x
unfolding read_below
below_takes limit bytes x fits e =
    let a = bind_ok (read_byte bytes) _ x e in
    let g = chosen _ _ _ _ _ a.2 in
    let t = byte_takes bytes a.0 fits a.1 in
    made one (λ b. ltb b limit) bytes a.0 x (ap Ok g.1) (t.0, g.0)

pub below_again : (limit b : ℕ) (rest : List ℕ) → ltb b limit ≡ true → read_below limit (b ∷ rest) ≡ Ok (b, rest)
unfolding read_below
below_again limit b rest lt = rw lt refl

pub record IsWide (w : Width) (limit : ℕ) : Type 0 where
  pub len : (n : ℕ) → length (to_le_bytes w n) ≡ byte_len w
  pub back : (bytes : List ℕ) → length bytes ≡ byte_len w → IsBytes bytes → to_le_bytes w (from_le_bytes w bytes) ≡ bytes
  pub again : (n : ℕ) → n < limit → from_le_bytes w (to_le_bytes w n) ≡ n
  pub below : (bytes : List ℕ) → IsBytes bytes → from_le_bytes w bytes < limit

pub wide16 : IsWide w16 (2 ^ 16)
wide16 = record {
  len = λ n. refl;
  back = λ bytes len fits. le_bytes_2 bytes _ len fits refl;
  again = λ n lt. from_le_bytes-to_le_bytes_2 n lt;
  below = λ bytes fits. omega (arith, fits 0, fits 1);
}

pub wide32 : IsWide w32 (2 ^ 32)
wide32 = record {
  len = λ n. refl;
  back = λ bytes len fits. le_bytes_4 bytes _ len fits refl;
  again = λ n lt. from_le_bytes-to_le_bytes_4 n lt;
  below = λ bytes fits. omega (arith, fits 0, fits 1, fits 2, fits 3);
}

pub wide64 : IsWide w64 (2 ^ 64)
wide64 = record {
  len = λ n. refl;
  back = λ bytes len fits. le_bytes_8 bytes _ len fits refl;
  again = λ n lt. from_le_bytes-to_le_bytes_8 n lt;
  below = λ bytes fits. omega (arith, fits 0, fits 1, fits 2, fits 3, fits 4, fits 5, fits 6, fits 7);
}

short_not : {A : Type 0} (b : Bool) (bytes : List ℕ) (x y : A) → cond {A = Result A Stop} b (refuse_field bytes 3) (Ok x) ≡ Ok y → (b ≡ false) × (x ≡ y)
short_not true bytes x y e = absurd cc
short_not false bytes x y e = (refl, cc)

pub number_takes : (w : Width) (limit : ℕ) (wide : IsWide w limit) (bytes : List ℕ) (x : ℕ × List ℕ) →
    IsBytes bytes → read_number w bytes ≡ Ok x → Took (to_le_bytes w) (λ n. ltb n limit) bytes x
number_takes w limit wide bytes x fits e =
    let front = take (byte_len w) bytes in
    let g = short_not (ltb (length bytes) (byte_len w)) bytes (from_le_bytes w front, drop (byte_len w) bytes) x e in
    let long : byte_len w ≤ length bytes = ltb-false _ _ g.0 in
    let is_front : to_le_bytes
    w (from_le_bytes w front) ≡ front = wide.back front (omega (arith, length-take (byte_len w) bytes)) (IsBytes-take (byte_len w) bytes fits) in
    made (to_le_bytes w) (λ n. ltb n limit) bytes (from_le_bytes w front, drop (byte_len w) bytes) x (ap Ok g.1) (
      record { parts = rw is_front (sym (take-append-drop (byte_len w) bytes)); rest_fits = IsBytes-drop (byte_len w) bytes fits },
      lt-ltb _ _ (wide.below front (IsBytes-take (byte_len w) bytes fits)),
    )

pub number_again : (w : Width) (limit : ℕ) (wide : IsWide w limit) (n : ℕ) (rest : List ℕ) →
    ltb n limit ≡ true → read_number w (to_le_bytes w n ++ rest) ≡ Ok (n, rest)
number_again w limit wide n rest lt =
    let len = wide.len n in
    let long : ltb (length (to_le_bytes w n ++ rest)) (byte_len w) ≡ false = le-ltb _ _ (omega (arith, length-append (to_le_bytes w n) rest)) in
    rw (long, take_at (to_le_bytes w n) rest (byte_len w) len, drop_at (to_le_bytes w n) rest (byte_len w) len, wide.again n (ltb-true n limit lt)) refl
