-- What the code's reader and gatherer stand for.
use Rattle.std.specs.Prelude.{ℕ, ◌<◌, List, ◌∷◌, map, take, drop, reverse, vec_len, vec_capacity, Bool, true, false}
use Rattle.fk_model.specs.Places.{Path, Ptr}
use Rattle.fk_model.specs.Places.{Ptr as ptrs}
use Rattle.laws_checkpoint.specs.Contents as reads
use Rattle.laws_checkpoint.specs.Contents.{Item, Content}
use Rattle.fk_checkpoint.specs.Seeking.Seeking.{up, way_at, from_at}
use Rattle.fk_checkpoint.specs.declared.gathering.content.Item.{Item as CodeItem}
use Rattle.fk_checkpoint.specs.declared.gathering.content.Content.{Content as CodeContent}
use Rattle.fk_checkpoint.specs.declared.gathering.content.Lead.{Lead}
use Rattle.fk_checkpoint.specs.declared.gathering.content.Lead.TheVariants as leads
use Rattle.fk_checkpoint.specs.declared.gathering.read.Read.{Read}
use Rattle.fk_checkpoint.specs.declared.gathering.read.Reading.{Reading}
use Rattle.fk_checkpoint.specs.declared.gathering.read.Reading.TheVariants as steps

-- ---- what was gathered

-- an object with its record
abbrev pub item_of : CodeItem → Item
item_of i = record { number = i.number; words = take i.len i.words }

abbrev pub items_of : List CodeItem → List Item
items_of items = map item_of items

abbrev pub content_of : CodeContent → Content
content_of c = record { path = up c.path; objects = items_of c.objects; pages = items_of c.pages }

-- the contents of spaces
abbrev pub contents_of : List CodeContent → List Content
contents_of contents = map content_of contents

abbrev pub lead_of : Lead → Ptr
lead_of leads.Null = ptrs.Null
lead_of leads.Dead = ptrs.Dead
lead_of (leads.At path) = ptrs.At (up path)
lead_of (leads.Out slot) = ptrs.Out slot
lead_of leads.Far = ptrs.Far

-- pointers that were read
abbrev pub leads_of : List Lead → List Ptr
leads_of leads = map lead_of leads

-- ---- the reader

-- the spaces that are left, by paths
abbrev pub paths_left : List (List ℕ) → List Path
paths_left left = map up (reverse left)

abbrev pub reading_of : ℕ → Read → Reading → reads.State
reading_of slot r (steps.Down gone) =
    reads.Down (from_at gone) (way_at slot r.path gone ∷ drop gone r.path) (up r.path) (paths_left r.left.items) (contents_of r.contents.items)
reading_of slot r (steps.Searches from) = reads.Searches from (items_of r.objects.items) (up r.path) (paths_left r.left.items) (contents_of r.contents.items)
reading_of slot r (steps.Record j) = reads.Reads j (items_of r.objects.items) (up r.path) (paths_left r.left.items) (contents_of r.contents.items)
reading_of slot r (steps.Looks from) =
    reads.Looks from (items_of r.objects.items) (items_of r.pages.items) (up r.path) (paths_left r.left.items) (contents_of r.contents.items)
reading_of slot r (steps.Copies page) =
    reads.Copies page (items_of r.objects.items) (items_of r.pages.items) (up r.path) (paths_left r.left.items) (contents_of r.contents.items)

-- what has been gathered of contents so far
abbrev pub read_of : ℕ → Read → reads.State
read_of slot r = reading_of slot r r.step

-- it goes on, or is over
abbrev pub was_read : Bool → ℕ → Read → reads.State
was_read true slot r = reads.Over (contents_of r.contents.items)
was_read false slot r = read_of slot r

abbrev pub HasRoomForContent : Read → Type 0
HasRoomForContent r = vec_len r.contents < vec_capacity r.contents

abbrev pub HasRoomFor : Reading → Read → Type 0
HasRoomFor (steps.Down gone) r = Unit {0}
HasRoomFor (steps.Searches from) r = Unit {0}
HasRoomFor (steps.Record slot) r = vec_len r.objects < vec_capacity r.objects
HasRoomFor (steps.Looks from) r = HasRoomForContent r
HasRoomFor (steps.Copies page) r = vec_len r.pages < vec_capacity r.pages

-- there is room for what one answer brings
abbrev pub HasRoom : Read → Type 0
HasRoom r = HasRoomFor r.step r
