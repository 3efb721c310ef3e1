-- What stands in each space of a held subtree: the records of its objects and its pages, by a porter's calls.
use Rattle.std.specs.Prelude.{◌≡◌, ℕ, zero, suc, ◌+◌, ◌&&◌, ◌==◌, nat_le, nat_lt, List, [], ◌∷◌, ◌++◌, map, Option, Some, None, if◌then◌else◌}
use Rattle.fk_model.specs.declared.limits.TheConstants.{OWN_SPACE, SLOTS, PAGES}
use Rattle.fk_model.specs.declared.names.Kind.TheVariants as kinds
use Rattle.fk_model.specs.declared.stage.Stage.TheVariants.{Search, Point, GetState, PageNext, PageRead}
use Rattle.fk_model.specs.declared.statuses.status.TheConstants.{OK}
use Rattle.fk_model.specs.Places.{Path}
use Rattle.fk_model.specs.Objects.{Body, number_of_kind}
use Rattle.fk_model.specs.Objects.Body.{Space}
use Rattle.fk_model.specs.World.{World}
use Rattle.fk_model.specs.Records.{record_of}
use Rattle.fk_model.specs.Runs.{Event}
use Rattle.fk_model.specs.Valid.{kind_there}
use Rattle.fk_model.specs.Cut.{cut}
use Rattle.fk_model.proofs.walks.Members.{IsIn}
use Rattle.laws_moves.specs.Frozen.Holding.{IsHolding}
use Rattle.laws_moves.specs.Savable.Savable.{IsSound}
use Rattle.laws_jobs.specs.Machines.{no_words, Head, Machine, Interleaved}
use Rattle.laws_jobs.specs.Machines.Head.{Stops, Asks}
use Rattle.laws_checkpoint.specs.Foreign.{PLACES, way_from, IsScratched}
use Rattle.laws_checkpoint.specs.Walk.{space_at}

-- the record of the object in a slot, or the words of the page with a number
pub record Item : Type 0 where
  pub number : ℕ
  pub words : List ℕ

-- a space, with its objects but spaces, and its pages, rising
pub record Content : Type 0 where
  pub path : Path
  pub objects : List Item
  pub pages : List Item

abbrev pub with_item : ℕ → Option (List ℕ) → List Item → List Item
with_item k None items = items
with_item k (Some words) items = record { number = k; words = words } ∷ items

-- what f has at so many numbers from one on
unfoldable pub items_from : (ℕ → Option (List ℕ)) → ℕ → ℕ → List Item
items_from f zero k = []
items_from f (suc n) k = with_item k (f k) (items_from f n (suc k))

-- a space has no record
abbrev pub record_in : Option Body → Option (List ℕ)
record_in None = None
record_in (Some (Space birth holder)) = None
record_in (Some other) = Some (record_of other)

abbrev pub record_at : World → Path → ℕ → Option (List ℕ)
record_at c q k = record_in (c.body (k ∷ q))

abbrev pub content : World → Path → Content
content c q = record { path = q; objects = items_from (record_at c q) SLOTS 0; pages = items_from (c.page q) PAGES 0 }

-- ---- the machine: the spaces that are left, and what is gathered so far

pub data State : Type 0 where
  Down : (from : ℕ) (ways : List ℕ) (q : Path) (qs : List Path) (got : List Content) → State
  Searches : (k : ℕ) (objects : List Item) (q : Path) (qs : List Path) (got : List Content) → State
  Reads : (j : ℕ) (objects : List Item) (q : Path) (qs : List Path) (got : List Content) → State
  Looks : (from : ℕ) (objects pages : List Item) (q : Path) (qs : List Path) (got : List Content) → State
  Copies : (page : ℕ) (objects pages : List Item) (q : Path) (qs : List Path) (got : List Content) → State
  Over : (got : List Content) → State

abbrev pub begin_at : ℕ → Path → List Path → List Content → State
begin_at slot [] qs got = Searches 0 [] [] qs got
begin_at slot (j ∷ q) qs got = Down OWN_SPACE (slot ∷ way_from [] (j ∷ q)) (j ∷ q) qs got

-- what is in these spaces is yet to be gathered
abbrev pub begin : ℕ → List Path → List Content → State
begin slot [] got = Over got
begin slot (q ∷ qs) got = begin_at slot q qs got

abbrev pub arrive : List ℕ → Path → List Path → List Content → State
arrive [] q qs got = Searches 0 [] q qs got
arrive (way ∷ ways) q qs got = Down PLACES (way ∷ ways) q qs got

-- what it asks for, or what it has gathered
abbrev pub head : ℕ → State → Head (List Content)
head slot (Down from [] q qs got) = Stops got
head slot (Down from (way ∷ ways) q qs got) = Asks (Point OWN_SPACE PLACES from way) no_words
head slot (Searches k objects q qs got) = Asks (Search (space_at slot q) k) no_words
head slot (Reads j objects q qs got) = Asks (GetState (space_at slot q) j 0) no_words
head slot (Looks from objects pages q qs got) = Asks (PageNext (space_at slot q) from) no_words
head slot (Copies page objects pages q qs got) = Asks (PageRead (space_at slot q) page 0) no_words
head slot (Over got) = Stops got

-- a space is passed by, any other object is read; and behind the last one come the pages
abbrev pub searched : ℕ → List Item → Path → List Path → List Content → ℕ → List ℕ → State
searched k objects q qs got status (j ∷ kind ∷ rest) =
    if status == OK && (nat_le k j && nat_lt j SLOTS) then (if kind
    == number_of_kind kinds.Space then Searches (j + 1) objects q qs got else Reads j objects q qs got)
    else Looks 0 objects [] q qs got
searched k objects q qs got status other = Looks 0 objects [] q qs got

abbrev pub looked : ℕ → ℕ → List Item → List Item → Path → List Path → List Content → ℕ → List ℕ → State
looked slot from objects pages q qs got status (page ∷ rest) =
    if status == OK && (nat_le from page && nat_lt page PAGES) then Copies page objects pages q qs got
    else begin slot qs (got ++ record { path = q; objects = objects; pages = pages } ∷ [])
looked slot from objects pages q qs got status other = begin slot qs (got ++ record { path = q; objects = objects; pages = pages } ∷ [])

-- what becomes of it by an answer
abbrev pub next : ℕ → State → ℕ → List ℕ → State
next slot (Down from [] q qs got) status words = Over got
next slot (Down from (way ∷ ways) q qs got) status words = arrive ways q qs got
next slot (Searches k objects q qs got) status words = searched k objects q qs got status words
next slot (Reads j objects q qs got) status words = Searches (j + 1) (objects ++ record { number = j; words = words } ∷ []) q qs got
next slot (Looks from objects pages q qs got) status words = looked slot from objects pages q qs got status words
next slot (Copies page objects pages q qs got) status words = Looks (page + 1) objects (pages ++ record { number = page; words = words } ∷ []) q qs got
next slot (Over got) status words = Over got

abbrev pub reader : ℕ → Machine State (List Content)
reader slot = record { head = head slot; next = next slot }

-- over every interleaving: of any spaces inside it is what stands in them, as it was when it began
abbrev pub SpacesAreRead : Type 0
SpacesAreRead = (nester : Path) (slot : ℕ) (w v : World) (t : State) (es : List Event) (got : List Content) (qs : List Path) → IsHolding nester slot w
    → IsSound w →
    IsScratched nester w → ((q : Path) → IsIn q qs → kind_there (cut w nester slot) q ≡ Some kinds.Space)
    → Interleaved (reader slot) nester w (begin slot qs []) es v t →
    head slot t ≡ Stops got → got ≡ map (content (cut w nester slot)) qs
