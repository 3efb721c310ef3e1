-- What a handover comes to, over every list of events.
use Rattle.std.specs.Prelude.{◌≡◌, ℕ, ◌<◌, Bool, true, false, ◌⊎◌, List, [], ◌∷◌, ◌++◌, length, Option, Some, None}
use Rattle.laws_handover.specs.Packets.{Codec}
use Rattle.laws_handover.specs.NearSide as near
use Rattle.laws_handover.specs.NearSide.{Near, Saved}
use Rattle.laws_handover.specs.FarSide as far
use Rattle.laws_handover.specs.FarSide.{Far}
use Rattle.laws_handover.specs.Sent.{sent_near, sent_far}
use Rattle.laws_handover.specs.Handover.{Kernels, Pair, Event, next, run, first}
use Rattle.laws_handover.specs.Handover.Event.{GiveUp}

abbrev pub IsIn : {A : Type 0} → A → List A → Type 0
IsIn x [] = ⊥
IsIn x (y ∷ ys) = (y ≡ x) ⊎ IsIn x ys

-- pieces of an image, in whatever order and however often they came, are read as that image and as no other, and as soon as all are there
pub record IsExact {I P : Type 0} (codec : Codec I P) (i : I) : Type 0 where
  pub same : (got : List P) (j : I) → ((p : P) → IsIn p got → IsIn p (codec.pieces i)) → codec.reads got ≡ Some j → j ≡ i
  pub whole : (got : List P) → ((p : P) → IsIn p got → IsIn p (codec.pieces i)) → ((p : P) → IsIn p (codec.pieces i) → IsIn p got) → codec.reads got ≡ Some i

-- each image that is gathered, in this list of events, is read so
abbrev pub GatherExactly : {W E S V F T I P Y : Type 0} → Kernels W E S V F T I P Y → Pair W S V T I P Y → List (Event E F) → Type 0
GatherExactly k p [] = Unit {0}
GatherExactly {I = I} k p (e ∷ es) = ((i : I) → (next k p e).near ≡ near.Waits i → IsExact k.codec i) × GatherExactly k (next k p e) es

-- ---- never both

-- the copy is let go, or about to be
abbrev pub is_let_go : {T I P Y : Type 0} → Far T I P Y → Option I
is_let_go (far.Releases i) = Some i
is_let_go (far.Moved i) = Some i
is_let_go (far.Listens got) = None
is_let_go (far.Makes i t) = None
is_let_go (far.Built i) = None
is_let_go (far.Refuses i why) = None
is_let_go (far.Undoes i t) = None
is_let_go (far.Clears i more ready) = None
is_let_go (far.Ended image ready) = None

-- the copy is let go only where nothing is left of the near one, and it is made of the image that was gathered there
abbrev pub NeverBoth : (W E S V F T I P Y : Type 0) → Type 0
NeverBoth W E S V F T I P Y = (k : Kernels W E S V F T I P Y) → k.codec.reads [] ≡ None → (w : W) (v : V) (es : List (Event E F)) (i : I) →
    GatherExactly k (first k w v) es →
    is_let_go (run k (first k w v) es).far ≡ Some i → (run k (first k w v) es).near ≡ near.Cleared i

-- ---- packets keep their numbers

abbrev pub Extends : {A : Type 0} → List A → List A → Type 0
Extends {A} xs ys = (more : List A) × (ys ≡ xs ++ more)

-- a packet keeps its number
abbrev pub SentStays : (W E S V F T I P Y : Type 0) → Type 0
SentStays W E S V F T I P Y = (k : Kernels W E S V F T I P Y) (w : W) (v : V) (es : List (Event E F)) (e : Event E F) →
    Extends (sent_near k.codec (run k (first k w v) es).near) (sent_near k.codec (run k (first k w v) (es ++ e ∷ [])).near) ×
    Extends (sent_far (run k (first k w v) es).far) (sent_far (run k (first k w v) (es ++ e ∷ [])).far)

-- ---- it goes on

abbrev pub near_asks : {S I Y : Type 0} → Near S I Y → Bool
near_asks (near.Saves s) = true
near_asks (near.Clears i more) = true
near_asks (near.Cancels i why) = true
near_asks (near.Waits i) = false
near_asks (near.Cleared i) = false
near_asks (near.Cancelled i why) = false
near_asks (near.Failed why) = false

abbrev pub far_asks : {T I P Y : Type 0} → Far T I P Y → Bool
far_asks (far.Makes i t) = true
far_asks (far.Releases i) = true
far_asks (far.Undoes i t) = true
far_asks (far.Clears i more ready) = true
far_asks (far.Listens got) = false
far_asks (far.Built i) = false
far_asks (far.Moved i) = false
far_asks (far.Refuses i why) = false
far_asks (far.Ended image ready) = false

-- the near one is kept and let go, or the copy is let go
abbrev pub is_over : {S T I P Y : Type 0} → Near S I Y → Far T I P Y → Bool
is_over (near.Failed why) f = true
is_over (near.Cancelled i why) f = true
is_over n (far.Moved i) = true
is_over n f = false

-- every packet that was sent has been delivered
pub record AllCame {W E S V F T I P Y : Type 0} (k : Kernels W E S V F T I P Y) (p : Pair W S V T I P Y) : Type 0 where
  pub near : (number : ℕ) → number < length (sent_far p.far) → IsIn number p.told_near
  pub far : (number : ℕ) → number < length (sent_near k.codec p.near) → IsIn number p.told_far

-- then a porter has a call to make
abbrev pub GoesOn : (W E S V F T I P Y : Type 0) → Type 0
GoesOn W E S V F T I P Y = (k : Kernels W E S V F T I P Y) → k.codec.reads [] ≡ None → (w : W) (v : V) (es : List (Event E F)) →
    GatherExactly k (first k w v) es →
    AllCame k (run k (first k w v) es) → is_over (run k (first k w v) es).near (run k (first k w v) es).far ≡ false →
    (near_asks (run k (first k w v) es).near ≡ true) ⊎ (far_asks (run k (first k w v) es).far ≡ true)

-- ---- what is kept stays kept

-- the near side has decided to keep its own
abbrev pub is_kept : {S I Y : Type 0} → Near S I Y → Bool
is_kept (near.Cancels i why) = true
is_kept (near.Cancelled i why) = true
is_kept (near.Failed why) = true
is_kept (near.Saves s) = false
is_kept (near.Waits i) = false
is_kept (near.Clears i more) = false
is_kept (near.Cleared i) = false

-- then no copy is ever let go, whatever comes after it
abbrev pub KeptForEver : (W E S V F T I P Y : Type 0) → Type 0
KeptForEver W E S V F T I P Y = (k : Kernels W E S V F T I P Y) → k.codec.reads [] ≡ None → (w : W) (v : V) (es more : List (Event E F)) →
    GatherExactly k (first k w v) (es ++ more) → is_kept (run k (first k w v) es).near ≡ true → is_let_go (run k (first k w v) (es ++ more)).far ≡ None

-- ---- why the near one is kept

-- the reason of one that was cancelled
abbrev pub why_cancelled : {S I Y : Type 0} → Near S I Y → Option Y
why_cancelled (near.Cancels i why) = Some why
why_cancelled (near.Cancelled i why) = Some why
why_cancelled (near.Saves s) = None
why_cancelled (near.Waits i) = None
why_cancelled (near.Clears i more) = None
why_cancelled (near.Cleared i) = None
why_cancelled (near.Failed why) = None

-- it was given up, or the far restore has ended without a copy, for that reason
abbrev pub CancelSaysWhy : (W E S V F T I P Y : Type 0) → Type 0
CancelSaysWhy W E S V F T I P Y = (k : Kernels W E S V F T I P Y) (w : W) (v : V) (es : List (Event E F)) (why : Y) →
    why_cancelled (run k (first k w v) es).near ≡ Some why →
    ((why ≡ k.gave_up) × IsIn GiveUp es) ⊎ ((i : I) × ((run k (first k w v) es).far ≡ far.Refuses i why))

-- ---- one image

-- the image that the near side has gathered
abbrev pub near_image : {S I Y : Type 0} → Near S I Y → Option I
near_image (near.Waits i) = Some i
near_image (near.Clears i more) = Some i
near_image (near.Cleared i) = Some i
near_image (near.Cancels i why) = Some i
near_image (near.Cancelled i why) = Some i
near_image (near.Saves s) = None
near_image (near.Failed why) = None

-- the image that the far side has read
abbrev pub far_image : {T I P Y : Type 0} → Far T I P Y → Option I
far_image (far.Makes i t) = Some i
far_image (far.Built i) = Some i
far_image (far.Releases i) = Some i
far_image (far.Moved i) = Some i
far_image (far.Refuses i why) = Some i
far_image (far.Undoes i t) = Some i
far_image (far.Clears i more ready) = Some i
far_image (far.Ended image ready) = image
far_image (far.Listens got) = None

-- what is read is what was gathered
abbrev pub SameImage : (W E S V F T I P Y : Type 0) → Type 0
SameImage W E S V F T I P Y = (k : Kernels W E S V F T I P Y) → k.codec.reads [] ≡ None → (w : W) (v : V) (es : List (Event E F)) (i : I) →
    GatherExactly k (first k w v) es →
    far_image (run k (first k w v) es).far ≡ Some i → near_image (run k (first k w v) es).near ≡ Some i
