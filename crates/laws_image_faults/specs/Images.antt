-- The form of an image: its fields from left to right, each with what it may hold and the reason where it holds something else. Where
-- pointers lead isn't asked, nor whether a count can be filled.
use Rattle.std.specs.Prelude.{ℕ, zero, suc, Bool, true, not, ◌&&◌, ◌||◌, ◌-◌, ◌==◌, nat_lt, nat_eq, List, [], ◌∷◌, ◌++◌, length, drop, Option, Some, None}
use Rattle.std.specs.Prelude.{is_some, if◌then◌else◌}
use Rattle.std.specs.Prelude.{slice_index}
use Rattle.std.specs.List.{list_all}
use Rattle.std.specs.Cmp.Lexicographic.{pointwise}
use Rattle.std.specs.Int.{Width, w16, w32, w64, byte_len, from_le_bytes}
use Rattle.fk_image.specs.declared.image.image.Link.{Link}
use Rattle.fk_image.specs.declared.image.image.Link.TheVariants.{Null, Dead, In, Out, Root, Outside}
use Rattle.fk_image.specs.declared.image.image.TalkRec.{TalkRec}
use Rattle.fk_image.specs.declared.image.image.FaultRec.{FaultRec}
use Rattle.fk_image.specs.declared.image.image.Rec.{Rec}
use Rattle.fk_image.specs.declared.image.image.Rec.TheVariants.{Mutex, Cond, Portset, Mapping, Region, Port, Thread, Reference}
use Rattle.fk_image.specs.declared.image.image.ObjectRec.{ObjectRec}
use Rattle.fk_image.specs.declared.image.image.PageRec.{PageRec}
use Rattle.fk_image.specs.declared.image.image.SpaceRec.{SpaceRec}
use Rattle.fk_image.specs.declared.image.image.Image.{Image}
use Rattle.fk_image.specs.Image.Ranges.{is_extent, is_set_word, is_mode_byte, is_code}
use Rattle.fk_image.specs.Image.Links.{kind_in_space, is_space_within}
use Rattle.fk_image.specs.Image.Valid.{after_object, after_page}
use Rattle.fk_image.specs.Format.Spelling.{magic}
use Rattle.fk_image.specs.Format.Versions.{shows_new, allows}
use Rattle.fk_image.specs.declared.format.reasons.reason.TheConstants as reasons
use Rattle.laws_image_faults.specs.Forms.{Shape, Form}
use Rattle.laws_image_faults.specs.Forms.Form.{Whole, Field, Pair}

-- ---- fields

-- one form and then another, which hangs on what the first one says
infixl 10 ◌>>=◌
unfoldable pub ◌>>=◌ : {X Y : Type 0} → Form X → (X → Form Y) → Form Y
(Whole x) >>= g = g x
(Field f rest) >>= g = Field f (λ field. rest field >>= g)
(Pair f h both apart rest) >>= g = Pair f h both apart (λ first second. rest first second >>= g)

abbrev pub byte_in : List ℕ → ℕ
byte_in field = slice_index field 0

-- a byte, and a number of more bytes, the lowest first, with the reason why another one is refused
abbrev pub byte_for : (ℕ → ℕ) → (ℕ → Bool) → Form ℕ
byte_for why may =
    Field (record { size = 1; may = λ field. may (byte_in field); why = λ field. why (byte_in field) }) (λ field. Whole (byte_in field))

abbrev pub number_for : ℕ → Width → (ℕ → Bool) → Form ℕ
number_for reason w may =
    Field (record { size = byte_len w; may = λ field. may (from_le_bytes w field); why = λ field. reason }) (λ field. Whole (from_le_bytes w field))

-- one that is refused where it is out of its range
abbrev pub byte : (ℕ → Bool) → Form ℕ
byte may = byte_for (λ b. reasons.RANGE) may

abbrev pub number : Width → (ℕ → Bool) → Form ℕ
number w may = number_for reasons.RANGE w may

abbrev pub any : ℕ → Bool
any n = true

abbrev pub below : ℕ → ℕ → Bool
below limit n = nat_lt n limit

abbrev pub is : ℕ → ℕ → Bool
is m n = n == m

-- n parts, each in the light of what those before it left
unfoldable pub many : {S X : Type 0} → (S → Form X) → (S → X → S) → ℕ → S → List X → Form (List X)
many part next zero s done = Whole done
many part next (suc n) s done = part s >>= λ x. many part next n (next s x) (done ++ x ∷ [])

-- ---- pointers

abbrev pub is_tag : ℕ → Bool
is_tag tag = tag == 0 || (tag == 1 || (tag == 2 || (tag == 3 || (tag == 4 || tag == 5))))

abbrev pub link_in : Form Link
link_in = do
  space ← number w32 any
  slot ← byte (below 240)
  Whole (In slot space)

abbrev pub link_out : Form Link
link_out = byte (below 240) >>= λ slot. Whole (Out slot)

abbrev pub link_of : ℕ → Form Link
link_of tag = if tag == 0 then Whole Null
    else if tag == 1 then Whole Dead
    else if tag == 2 then link_in
    else if tag == 3 then link_out
    else if tag == 4 then Whole Root
    else Whole Outside

unfoldable pub link : Form Link
link = byte is_tag >>= link_of

-- ---- threads

abbrev pub words : ℕ → Form (List ℕ)
words count = many {S = ℕ} (λ s. number w64 any) (λ s x. s) count 0 []

abbrev pub talk_of : ℕ → Form (Option TalkRec)
talk_of turn = if turn == 0 then Whole None else (do
  moved ← number w16 any
  port ← link
  server ← link
  Whole (Some (record { turn = turn; moved = moved; port = port; server = server })))

unfoldable pub talk : Form (Option TalkRec)
talk = byte (below 3) >>= talk_of

abbrev pub taker_of : ℕ → Form (Option Link)
taker_of state = if state == 1 then Whole None else (link >>= λ taker. Whole (Some taker))

abbrev pub fault_of : ℕ → Form (Option FaultRec)
fault_of state = if state == 0 then Whole None else (do
  page ← byte any
  write ← byte (below 2)
  port ← link
  taker ← taker_of state
  Whole (Some (record { page = page; write = write; port = port; taker = taker })))

unfoldable pub fault : Form (Option FaultRec)
fault = byte (below 3) >>= fault_of

-- a mode that a thread with these registers can have in an image of the new version, or of the first
abbrev pub mode_in : Bool → List ℕ → ℕ → Bool
mode_in new regs mode = is_mode_byte regs mode && allows new (shows_new regs mode)

unfoldable pub thread : Bool → Form Rec
thread new = do
  regs ← words 16
  pc ← number w64 any
  mode ← byte (mode_in new regs)
  code ← byte (is_code mode)
  stops ← number w16 any
  talk ← talk
  fault ← fault
  Whole (Thread (record { regs = regs; pc = pc; mode = mode; code = code; stops = stops; talk = talk; fault = fault }))

-- ---- objects and pages

-- a first page, and how many there are from it on
unfoldable pub extent : Form (ℕ × ℕ)
extent = do
  first ← byte any
  count ← number w16 (is_extent first)
  Whole (first, count)

unfoldable pub mapping : Form Rec
mapping = do
  pages ← extent
  offset ← byte any
  write ← byte (below 2)
  region ← link
  Whole (Mapping pages.0 pages.1 offset write region)

unfoldable pub region : Form Rec
region = do
  pages ← extent
  write ← byte (below 2)
  keeper ← link
  Whole (Region pages.0 pages.1 write keeper)

abbrev pub is_kind : ℕ → Bool
is_kind kind = kind == 1 || (kind == 2 || (kind == 3 || (kind == 4 || (kind == 5 || (kind == 6 || (kind == 8 || kind == 9))))))

abbrev pub body_of : Bool → ℕ → Form Rec
body_of new kind = if kind == 1 then (byte (below 2) >>= λ locked. Whole (Mutex locked))
    else if kind == 2 then Whole Cond
    else if kind == 3 then mapping
    else if kind == 4 then region
    else if kind == 5 then (number w16 is_set_word >>= λ set. Whole (Port set))
    else if kind == 6 then Whole Portset
    else if kind == 8 then thread new
    else (link >>= λ to. Whole (Reference to))

unfoldable pub body : Bool → Form Rec
body new = byte is_kind >>= body_of new

-- a slot that users may name, from a lowest one on
abbrev pub is_slot_from : ℕ → ℕ → Bool
is_slot_from floor slot = nat_lt slot 240 && not (nat_lt slot floor)

-- one that users may name, but below the lowest, is out of order
abbrev pub slot_reason : ℕ → ℕ
slot_reason slot = if nat_lt slot 240 then reasons.ORDER else reasons.RANGE

unfoldable pub object : Bool → ℕ → Form ObjectRec
object new floor = do
  slot ← byte_for slot_reason (is_slot_from floor)
  body ← body new
  Whole (record { slot = slot; body = body })

abbrev pub is_page_from : ℕ → ℕ → Bool
is_page_from floor page = not (nat_lt page floor)

unfoldable pub page : ℕ → Form PageRec
page floor = do
  page ← byte_for (λ b. reasons.ORDER) (is_page_from floor)
  words ← words 64
  Whole (record { page = page; words = words })

unfoldable pub objects : Bool → Form (List ObjectRec)
objects new = number w16 any >>= λ count. many (object new) after_object count 0 []

unfoldable pub pages : Form (List PageRec)
pages = number w16 any >>= λ count. many page after_page count 0 []

-- ---- spaces

-- the subtree's root, which lies in no space of the image and is held by nobody
unfoldable pub root : Bool → Form SpaceRec
root new = do
  parent ← number w32 (is 4294967295)
  slot ← byte (is 0)
  tag ← byte (is 0)
  objects ← objects new
  pages ← pages
  Whole (record { parent = parent; slot = slot; holder = Null; objects = objects; pages = pages })

-- the last of the spaces so far is this one, or lies beneath it
abbrev pub ends_within : List SpaceRec → ℕ → Bool
ends_within done parent = is_space_within done parent (length done - 1)

-- no space so far lies in this one, but the first lies in none, with that slot or a higher one
abbrev pub is_above_brothers : List SpaceRec → ℕ → ℕ → Bool
is_above_brothers done parent slot = list_all (λ (s : SpaceRec). not (s.parent == parent) || nat_lt s.slot slot) (drop 1 done)

-- a slot of a space behind the spaces so far: it is above those of its brothers, and nothing else stands in it
abbrev pub is_place : List SpaceRec → ℕ → ℕ → Bool
is_place done parent slot = is_above_brothers done parent slot && not (is_some (kind_in_space done parent slot))

-- a parent and a slot, which are out of order where the space can't follow there
abbrev pub parent_of : List SpaceRec → Shape
parent_of done = record { size = byte_len w32; may = λ field. ends_within done (from_le_bytes w32 field); why = λ field. reasons.ORDER }

abbrev pub slot_there : Shape
slot_there = record { size = 1; may = λ field. below 240 (byte_in field); why = λ field. reasons.RANGE }

abbrev pub place : List SpaceRec → Form (ℕ × ℕ)
place done = Pair (parent_of done) slot_there (λ parent slot. is_place done (from_le_bytes w32 parent) (byte_in slot)) reasons.ORDER
    (λ parent slot. Whole (from_le_bytes w32 parent, byte_in slot))

unfoldable pub inner : Bool → List SpaceRec → Form SpaceRec
inner new done = do
  place ← place done
  holder ← link
  objects ← objects new
  pages ← pages
  Whole (record { parent = place.0; slot = place.1; holder = holder; objects = objects; pages = pages })

-- a space behind those so far
abbrev pub space : Bool → List SpaceRec → Form SpaceRec
space new [] = root new
space new (d ∷ done) = inner new (d ∷ done)

-- the spaces so far with one more
abbrev pub with_space : List SpaceRec → SpaceRec → List SpaceRec
with_space done s = done ++ s ∷ []

-- ---- images

abbrev pub is_some_number : ℕ → Bool
is_some_number n = not (n == 0)

abbrev pub begins : Form (List ℕ)
begins = Field (record { size = 8; may = λ field. pointwise nat_eq field magic; why = λ field. reasons.MAGIC }) Whole

-- the versions are 1 and 2
abbrev pub is_version : ℕ → Bool
is_version n = n == 1 || n == 2

abbrev pub count_of : Bool → Form (Bool × ℕ)
count_of new = number w32 is_some_number >>= λ count. Whole (new, count)

-- whether it is the new version, and how many spaces there are
unfoldable pub header : Form (Bool × ℕ)
header = do
  _ ← begins
  version ← number_for reasons.VERSION w16 is_version
  count_of (version == 2)

unfoldable pub image : Form (Bool × Image)
image = do
  head ← header
  spaces ← many (space head.0) with_space head.1 [] []
  Whole (head.0, record { spaces = spaces })
