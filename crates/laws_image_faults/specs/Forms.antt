-- Forms: fields one behind the other, how far bytes hold them, and for what reason no further.
--
-- How long a field is, what it may hold and what comes behind it may hang on what the fields before it hold.
use Rattle.std.specs.Prelude.{◌≡◌, ◌⊎◌, ℕ, ◌<◌, Bool, true, false, List, [], ◌++◌, length}
use Rattle.fk_image.specs.declared.format.reasons.reason.TheConstants as reasons

-- of a field: how many bytes it has, what it may hold, and for what reason it is refused that holds something else
pub record Shape : Type 0 where
  pub size : ℕ
  pub may : List ℕ → Bool
  pub why : List ℕ → ℕ

-- what is still to come, of a form that says an X
pub data Form (X : Type 0) : Type 0 where
  -- nothing: this is said
  Whole : (x : X) → Form X
  -- a field, and what comes behind it
  Field : (f : Shape) (rest : List ℕ → Form X) → Form X
  -- two fields, and whether they go together: where they don't, it is at the first of them that the form is broken, for this reason
  Pair : (f g : Shape) (both : List ℕ → List ℕ → Bool) (apart : ℕ) (rest : List ℕ → List ℕ → Form X) → Form X

-- a field of so many bytes that holds what it may
pub record IsField (f : Shape) (field : List ℕ) : Type 0 where
  pub long : length field ≡ f.size
  pub fits : f.may field ≡ true

-- bytes are whole fields of a form, each of which holds what it may, and this is still to come
pub data Holds {X : Type 0} : Form X → List ℕ → Form X → Type 0 where
  Nothing : (f : Form X) → Holds f [] f
  One : (f : Shape) (rest : List ℕ → Form X) (field bytes : List ℕ) (next : Form X) →
      IsField f field → Holds (rest field) bytes next → Holds (Field f rest) (field ++ bytes) next
  Two : (f g : Shape) (both : List ℕ → List ℕ → Bool) (apart : ℕ) (rest : List ℕ → List ℕ → Form X)
      (first second bytes : List ℕ) (next : Form X) → IsField f first → IsField g second → both first second ≡ true →
      Holds (rest first second) bytes next → Holds (Pair f g both apart rest) (first ++ (second ++ bytes)) next
  -- the first of two, where the second is still to come
  Half : (f g : Shape) (both : List ℕ → List ℕ → Bool) (apart : ℕ) (rest : List ℕ → List ℕ → Form X)
      (first : List ℕ) → IsField f first → Holds (Pair f g both apart rest) first (Field g (rest first))

-- bytes don't begin with such a field: there are too few of them, or those that stand there are none that it may hold
pub data Lacks (f : Shape) (bytes : List ℕ) : ℕ → Type 0 where
  Cut : length bytes < f.size → Lacks f bytes reasons.CUT
  Wrong : (field after : List ℕ) → bytes ≡ field ++ after → length field ≡ f.size → f.may field ≡ false → Lacks f bytes (f.why field)

-- bytes begin with two fields that don't go together
pub record BeginsApart (f g : Shape) (both : List ℕ → List ℕ → Bool) (bytes : List ℕ) : Type 0 where
  pub first : List ℕ
  pub second : List ℕ
  pub after : List ℕ
  pub spelled : bytes ≡ first ++ (second ++ after)
  pub fits : IsField f first
  pub fits2 : IsField g second
  pub apart : both first second ≡ false

-- what is to come isn't what bytes begin with, for this reason
abbrev pub Breaks : {X : Type 0} → Form X → List ℕ → ℕ → Type 0
Breaks (Whole x) bytes reason = ⊥
Breaks (Field f rest) bytes reason = Lacks f bytes reason
Breaks (Pair f g both apart rest) bytes reason = Lacks f bytes reason ⊎ (BeginsApart f g both bytes × (reason ≡ apart))

-- the bytes before this offset are whole fields, each of which holds what it may, and at it stands none that comes next, for this reason
pub record BreaksAt {X : Type 0} (form : Form X) (bytes : List ℕ) (offset reason : ℕ) : Type 0 where
  pub before : List ℕ
  pub after : List ℕ
  pub next : Form X
  pub spelled : bytes ≡ before ++ after
  pub at : length before ≡ offset
  pub held : Holds form before next
  pub broken : Breaks next after reason

-- the bytes are the whole form, which says this, and others follow from this offset on
pub record GoesOnAt {X : Type 0} (form : Form X) (bytes : List ℕ) (offset : ℕ) : Type 0 where
  pub before : List ℕ
  pub after : List ℕ
  pub said : X
  pub spelled : bytes ≡ before ++ after
  pub at : length before ≡ offset
  pub held : Holds form before (Whole said)
  pub goes_on : after ≡ [] → ⊥
